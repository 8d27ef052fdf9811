-- A claim that goes through rounds, for any sent elements and pads, and sums over terms.
use Rattle.std.specs.Prelude.{ℕ, ◌+◌, ◌*◌, ◌/◌, ◌%◌, ◌==◌, cond, List}
use Rattle.std.proofs.Common.{zero, suc}
use Rattle.lzk_field.specs.Ring.{Ops}
use Rattle.lzk_field.specs.Sums.{entry}
use Rattle.lzk_sumcheck.specs.declared.script.LayerScript.{LayerScript}
use Rattle.lzk_circuit.specs.declared.layer.Term.{Term}
use Rattle.lzk_circuit.specs.Wires.{weighed_term}
use Rattle.lzk_accept.specs.declared.terms.Walk.{Walk}
use Rattle.lzk_accept.specs.Residuals.{next_claim}

-- the claim after n rounds: round k has the sent elements and pads 2k and 2k + 1, and its challenge
abbrev pub through_rounds : {A : Type 0} → Ops A → (ℕ → A) → (ℕ → A) → (ℕ → A) → (ℕ → A) → A → ℕ → A
through_rounds o point challenge sent pad claim zero = claim
through_rounds o point challenge sent pad claim (suc n) =
    next_claim o point (through_rounds o point challenge sent pad claim n) (o.plus (sent (2 * n)) (pad (2 * n)))
    (o.plus (sent (2 * n + 1)) (pad (2 * n + 1))) (challenge n)

-- the challenge of round n of a layer: the rounds are for bit 0 of a, bit 0 of b, bit 1 of a and so on
abbrev pub challenge_of : {A : Type 0} → Ops A → LayerScript A → ℕ → A
challenge_of o layer n = cond (n % 2 == 0) (entry o layer.ra (n / 2)) (entry o layer.rb (n / 2))

-- what a term counts by three tables: its coefficient, or beta for an assertion term, times the weight of its wire, and
-- the entries of its two wires below
abbrev pub counted : {A : Type 0} → Ops A → A → List A → List A → List A → Term A → A
counted o beta weights first second t =
    o.times (weighed_term o beta t).coef
    (o.times (entry o weights t.g) (o.times (entry o first t.a) (entry o second t.b)))

-- what a walk over terms has summed: the total, and what waits for its wire's weight. The entry of wire 0 is z
abbrev pub counted_so_far : {A : Type 0} → Ops A → List A → A → Walk A → A
counted_so_far o weights z walk =
    o.plus walk.total (o.times (entry o weights walk.wire) (o.plus walk.inner (o.times z walk.linear)))
