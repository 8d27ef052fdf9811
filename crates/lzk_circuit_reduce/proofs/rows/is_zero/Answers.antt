use Rattle.std.proofs.Common.{◌∙◌, sym, ap}
use Rattle.std.proofs.lemmas.Bool.{eqb-true, eqb-false}
use Rattle.lzk_field.proofs.Numbering.{zero_by_number}
use Rattle.lzk_circuit_reduce.proofs.rows.is_zero.Goals as goal

pub returns-clause-yes : goal.returns-clause-yes
returns-clause-yes g c h =
    let f = g.F.Field in
    zero_by_number f.laws.numbers c.args.x (sym c.number.ensures ∙ eqb-true c.number.result 0 h)

pub returns-clause-no : goal.returns-clause-no
returns-clause-no g c h e =
    let f = g.F.Field in
    eqb-false c.number.result 0 h (c.number.ensures ∙ ap f.coding.number e ∙ f.laws.numbers.zero_number)
