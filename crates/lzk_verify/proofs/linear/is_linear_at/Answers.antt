use Rattle.std.proofs.Common.{◌≡◌, ◌+◌, ◌-◌, ap, ◌∙◌, subst, arith}
use Rattle.std.specs.Prelude.{◌↔◌, IsTrue}
use Rattle.std.proofs.lemmas.List.{get_or_default}
use Rattle.lzk_field.specs.Sums.{sum_below, entry}
use Rattle.lzk_poly.specs.Extension.{extension}
use Rattle.lzk_verify.proofs.linear.is_linear_at.Goals as goal

pub returns : goal.returns
returns g c = λ point values lists is row_extends extends are.
    let f = g.F.Field in
    let o = f.ops in
    let p = c.args.check.now.column.now.plan.now.params in
    let column = c.args.check.now.column.now.elements.now in
    let first : c.index-elements-1.result ≡ entry o column 1 =
    c.index-elements-1.is ∙ get_or_default column 1 c.index-elements-1.result o.zero (omega (arith, c.args.check.now.column.now.whole, c.args.check.now.column.now.plan.now.bounded.rows)) in
    let side : c.add-wanted.result ≡ o.plus (entry o column 1) (sum_below o (p.nrow - 3) (λ i. o.times (extension o f.coding.element (lists (3 + i)) point) (entry o column (3 + i)))) =
    c.add-wanted.ensures ∙ ap (λ w. o.plus w c.linear_sum.result) first ∙ ap (o.plus (entry o column 1)) (c.linear_sum.ensures point lists row_extends are) in
    subst (λ (z : g.row.F.Denot). IsTrue c.extend_to.result ↔ extension o f.coding.element values point ≡ z) side (c.extend_to.ensures point values is extends)
