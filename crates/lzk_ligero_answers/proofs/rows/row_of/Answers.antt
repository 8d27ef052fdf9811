use Rattle.std.proofs.Common.{◌+◌, ◌-◌, ◌*◌, drop, ◌∙◌, arith}
use Rattle.std.proofs.lemmas.List.{length-take-le, length-drop, get_or-take, get_or-drop}
use Rattle.lzk_ligero_answers.proofs.rows.row_of.Goals as goal

pub returns-clause-size : goal.returns-clause-size
returns-clause-size g c =
    let start = c.args.i * c.args.width in
    let xs = c.args.table.now in
    length-take-le (start + c.args.size - start) (drop start xs) (omega (arith, length-drop start xs, c.requires.inside, c.requires.short)) ∙ omega arith

pub returns-clause-values : goal.returns-clause-values
returns-clause-values g c = λ i h.
    let start = c.args.i * c.args.width in
    let xs = c.args.table.now in
    let o = g.F.Field.ops in
    get_or-take (start + c.args.size - start) (drop start xs) i o.zero (omega (arith, h)) ∙ get_or-drop start xs i o.zero
