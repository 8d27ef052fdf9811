use Rattle.std.proofs.Common.{sym, ◌∙◌}
use Rattle.lzk_circuit.proofs.AssertLaws.{weighed-zero, weighed-other}
use Rattle.lzk_circuit.proofs.layer.weight_of.Goals as goal

pub returns-then-number-eq0 : goal.returns-then-number-eq0
returns-then-number-eq0 g c = let m = g.F.Field in sym (weighed-zero m.ops m.coding.size m.coding.number m.coding.element m.coding.bytes m.laws c.args.beta c.args.coef (sym c.number.ensures ∙ c.if-number-eq0.true))

pub returns : goal.returns
returns g c = let m = g.F.Field in sym (weighed-other m.ops m.coding.size m.coding.number m.coding.element m.coding.bytes m.laws c.args.beta c.args.coef (λ z. c.if-number-eq0.false (c.number.ensures ∙ z)))
