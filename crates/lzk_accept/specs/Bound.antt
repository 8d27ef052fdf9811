-- What a term counts in the sum of a layer's coefficients at its challenges.
use Rattle.std.specs.Prelude.{List}
use Rattle.lzk_field.specs.Ring.{Ops}
use Rattle.lzk_mle.specs.Multilinear.{eq}
use Rattle.lzk_circuit.specs.declared.layer.Term.{Term}
use Rattle.lzk_circuit.specs.Wires.{weighed_term}

-- its coefficient, or beta for an assertion term, times the weight of its wire, which has claims at two points, and how
-- its two wires below agree with the challenges
abbrev pub counts_at : {A : Type 0} → Ops A → A → A → List A → List A → List A → List A → Term A → A
counts_at o alpha beta first second ra rb t =
    o.times (weighed_term o beta t).coef
    (o.times (o.times (o.plus (eq o t.g first) (o.times alpha (eq o t.g second))) (eq o t.a ra)) (eq o t.b rb))
