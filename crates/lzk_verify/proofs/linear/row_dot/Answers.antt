use Rattle.std.proofs.Common.{◌≡◌, ◌+◌, ◌-◌, ◌*◌, List, take, drop, length, arith, ◌∙◌}
use Rattle.std.proofs.lemmas.List.{length-take-le, length-drop}
use Rattle.lzk_verify.proofs.ColumnLaws.{part_entry, dot_part}
use Rattle.lzk_verify.proofs.linear.row_dot.Goals as goal

pub returns : goal.returns
returns g c =
    let o = g.F.Field.ops in
    let table = c.args.table.now in
    let factors = c.args.factors.now in
    let i = c.args.i in
    let w = length factors in
    let size : i * w + w - i * w ≡ w = omega arith in
    let next : (i + 1) * w ≡ i * w + w = omega arith in
    let part : List g.row.F.Denot = take (i * w + w - i * w) (drop (i * w) table) in
    c.dot.ensures
    ∙ dot_part o g.F.Field.laws.ring table factors part w (i * w) (length-take-le (i * w + w - i * w) (drop (i * w) table) (omega (arith, length-drop (i * w) table, c.requires.inside, next)) ∙ size)
    (λ k h. part_entry o table (i * w + w - i * w) (i * w) k (omega (arith, size, next, c.requires.inside, h)))
