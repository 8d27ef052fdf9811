use Rattle.std.proofs.Common.{◌≡◌, ◌∙◌, None, arith, ap, sym, subst, length}
use Rattle.lzk_circuit_reduce.specs.Marks.{is_marked}
use Rattle.lzk_circuit_reduce.specs.Renumbering.{AreOver}
use Rattle.lzk_circuit_reduce.specs.Targets.{AreBelow}
use Rattle.lzk_circuit_reduce.proofs.AllUsedLaws.{used-of-marks}
use Rattle.lzk_circuit_reduce.proofs.RenumberLaws.{terms-over}
use Rattle.lzk_circuit_reduce.proofs.prune.is_used.Goals as goal

pub mark_named-requires-after_bounds : goal.mark_named-requires-after_bounds
mark_named-requires-after_bounds g c κs within =
    let above = c.args.above.now in
    let layer = c.args.layer.now in
    let over = terms-over g.F.Field.ops above.wires layer.wires None above.terms c.requires.terms in
    let count : length c.as_mut_slice-marks.result.now ≡ layer.wires = ap length c.as_mut_slice-marks.ensures.value ∙ c.in-Ok.ensures.count in
    subst (λ ts. AreOver (length c.as_mut_slice-marks.result.now) ts) (sym c.as_slice.ensures) (subst (λ n. AreOver n above.terms) (sym count) over)

pub mark_each-requires : goal.mark_each-requires
mark_each-requires g c =
    let count : length c.mark_named.new.marks ≡ c.args.layer.now.wires = omega (arith, c.mark_named.auto.marks, ap length c.as_mut_slice-marks.ensures.value, c.in-Ok.ensures.count) in
    subst (λ n. AreBelow n c.args.own.now) (sym count) c.requires.targets

pub returns : goal.returns
returns g c all =
    let more = c.mark_each.new.marks in
    let first = c.as_mut_slice-marks.result.now in
    let is = c.as_mut_slice-marks.ensures.value in
    let count : length more ≡ c.args.layer.now.wires = omega (arith, c.mark_each.auto.marks, c.mark_named.auto.marks, ap length is, c.in-Ok.ensures.count) in
    used-of-marks c.args.above.now c.args.layer.now c.args.own.now c.as_slice.result.now first c.mark_named.new.marks more c.as_slice.ensures
    count (λ k l. ap (λ ms. is_marked ms k) is ∙ c.in-Ok.ensures.marks k l) c.mark_named.ensures c.mark_each.ensures (c.are_marked.ensures all)
