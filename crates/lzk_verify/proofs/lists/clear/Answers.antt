use Rattle.std.proofs.Common.{◌<◌, sym, ◌∙◌, length, arith}
use Rattle.std.specs.Prelude.{replicate}
use Rattle.std.proofs.lemmas.List.{same_lists, get_or_default, get_or-replicate, length-replicate}
use Rattle.lzk_sumcheck.proofs.Filled.{filled_more}
use Rattle.lzk_verify.proofs.lists.clear.Goals as goal

pub loop-s-preserved : goal.loop-s-preserved
loop-s-preserved g c =
    let within : c.loop-s.s < length c.loop-s.list = omega arith in
    filled_more g.F.Field.ops.zero (λ k. g.F.Field.ops.zero) c.loop-s.s c.loop-s.list c.zero.result within c.zero.ensures c.loop-s.invariant

pub returns-clause-zeros : goal.returns-clause-zeros
returns-clause-zeros g c =
    let z = g.F.Field.ops.zero in
    let n = length c.args.list.now in
    same_lists c.loop-s.list (replicate n z) (omega (arith, length-replicate n z))
    (λ k d h. get_or_default c.loop-s.list k d z h ∙ c.loop-s.invariant k (omega arith) ∙ sym (get_or-replicate n k z d (omega arith)))
