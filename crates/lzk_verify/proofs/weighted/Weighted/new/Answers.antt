use Rattle.std.proofs.Common.{length, ap, ◌∙◌}
use Rattle.std.proofs.lemmas.List.{length-replicate}
use Rattle.lzk_verify.proofs.weighted.Weighted.new.Goals as goal

pub returns : goal.returns
returns g c =
    let p = c.args.plan.now.params in
    let zero = g.F.Field.ops.zero in
    record {
      ldt = ap length c.in-Ok.ensures ∙ length-replicate p.block zero;
      dot = ap length c.in-Ok-zeros.ensures ∙ length-replicate p.dblock zero;
      quadratic = ap length c.in-Ok-zeros-2.ensures ∙ length-replicate p.dblock zero;
    }
