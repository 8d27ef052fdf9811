use Rattle.std.proofs.Common.{◌≡◌, ◌-◌, List, take, drop, ap, ◌∙◌, length, arith, refl}
use Rattle.std.proofs.lemmas.List.{get_or_default, take_all, length-drop}
use Rattle.lzk_field.specs.Sums.{dot_product, entry}
use Rattle.lzk_verify.proofs.ColumnLaws.{dot_behind}
use Rattle.lzk_verify.proofs.low_degree.low_degree_sum.Goals as goal

pub returns : goal.returns
returns g c =
    let o = g.F.Field.ops in
    let column = c.args.column.now.elements.now in
    let first : c.index-elements-0.result ≡ entry o column 0 =
    c.index-elements-0.is ∙ get_or_default column 0 c.index-elements-0.result o.zero (omega (arith, c.args.column.now.whole, c.args.column.now.plan.now.bounded.rows)) in
    let u = c.args.column.now.challenges.now.u in
    let behind : List g.row.F.Denot = take (length column - 3) (drop 3 column) in
    c.add.ensures ∙ ap (λ w. o.plus w c.dot.result) first
    ∙ ap (o.plus (entry o column 0)) (c.dot.ensures ∙ ap (λ us. dot_product o us behind) c.as_slice-u.ensures ∙ ap (dot_product o u) (take_all (length column - 3) (drop 3 column) (omega (arith, length-drop 3 column))) ∙ dot_behind o g.F.Field.laws.ring u column 3 _ (entry o column) c.args.column.now.shape.u (λ i h. refl))
