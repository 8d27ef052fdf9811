use Rattle.std.proofs.Common.{◌≡◌, map, take}
use Rattle.lzk_goldilocks.specs.Elements.{of_number}
use Rattle.lzk_sha_path.proofs.inputs.with_root.Given as goal

abbrev pub invariant-loop-word : goal.invariant-loop-word
invariant-loop-word l = l.words.items ≡ map of_number (take l.word-index l.fn.leaf)
