use Rattle.std.proofs.Common.{◌≡◌, ◌++◌, ◌∷◌, ◌∙◌, [], map, ap, arith}
use Rattle.std.specs.List.{range_with_len}
use Rattle.lzk_goldilocks.specs.Elements.{of_number}
use Rattle.lzk_sha_circuit.proofs.Written.{entry_more}
use Rattle.lzk_sha_path.specs.Levels.{block_number}
use Rattle.lzk_sha_path.proofs.inputs.first_inputs.Goals as goal

pub loop-j-preserved : goal.loop-j-preserved
loop-j-preserved c =
    entry_more (λ j. of_number (block_number c.args.block.now j)) [] c.loop-j.given.items c.push.new.self.items c.block_bit.result c.loop-j.j c.loop-j.invariant c.in_ok-push.ensures.items c.block_bit.ensures

pub returns : goal.returns
returns c =
    let e : c.loop-j.j ≡ 512 = omega arith in
    c.in_ok-push-2.ensures.items
    ∙ (λ i. (c.loop-j.invariant ∙ ap (λ n. map (λ j. of_number (block_number c.args.block.now j)) (range_with_len 0 n)) e) i ++ c.point.ensures i ∷ [])
