use Rattle.std.proofs.Common.{◌≡◌, map}
use Rattle.std.specs.List.{range_with_len}
use Rattle.lzk_goldilocks.specs.Elements.{of_number}
use Rattle.lzk_sha_path.specs.Levels.{block_number}
use Rattle.lzk_sha_path.proofs.inputs.first_inputs.Given as goal

abbrev pub invariant-loop-j : goal.invariant-loop-j
invariant-loop-j l = l.given.items ≡ map (λ j. of_number (block_number l.block j)) (range_with_len 0 l.j)
