use Rattle.std.proofs.Common.{◌≡◌, ◌∙◌, ℕ, ◌+◌, ◌<◌, List, length, get_or, ap, subst, sym, arith}
use native.Mathlib.Decide.{dec_lt}
use Rattle.std.proofs.lemmas.List.{get_or_default}
use Rattle.lzk_circuit.proofs.ValidLaws.{zero-only}
use Rattle.lzk_circuit.proofs.values.find_nonzero.Goals as goal

-- what stands at a place, whatever stands past the end
read_at : {A : Type 0} (xs : List A) (i : ℕ) (v z : A) → i < length xs → v ≡ get_or xs i v → get_or xs i z ≡ v
read_at xs i v z lt is = get_or_default xs i z v lt ∙ sym is

-- one zero more
zeros_go_on : {A : Type 0} (xs : List A) (i : ℕ) (v z : A) → i < length xs → v ≡ get_or xs i v → v ≡ z → ((k : ℕ) → k < i → get_or xs k z ≡ z) → (k : ℕ) → k < i + 1 → get_or xs k z ≡ z
zeros_go_on xs i v z lt is e before k less =
    elim (dec_lt k i) [
      | yes h ↦ before k h
      | no h ↦ let same : i ≡ k = omega arith in subst (λ (j : ℕ). get_or xs j z ≡ z) same (read_at xs i v z lt is ∙ e)
    ]

pub loop-g-init : goal.loop-g-init
loop-g-init g c = λ k lt. absurd (omega (arith, lt))

pub bounds-checks-g : goal.bounds-checks-g
bounds-checks-g g c = c.loop-g-test.true

pub offset_bounds-checks-g : goal.offset_bounds-checks-g
offset_bounds-checks-g g c = omega (arith, c.loop-g-test.true)

pub overflow_cast-result : goal.overflow_cast-result
overflow_cast-result g c = omega (arith, c.loop-g-test.true, c.requires)

pub returns-then-number-ne0 : goal.returns-then-number-ne0
returns-then-number-ne0 g c =
    (c.loop-g-test.true, read_at c.args.checks.now c.loop-g.g c.index-checks-g.result g.F.Field.ops.zero c.loop-g-test.true c.index-checks-g.is, λ z. c.if-number-ne0.true (c.number.ensures ∙ ap g.F.Field.coding.number z ∙ g.F.Field.laws.numbers.zero_number), c.loop-g.invariant)

pub loop-g-preserved : goal.loop-g-preserved
loop-g-preserved g c =
    let m = g.F.Field in
    zeros_go_on c.args.checks.now c.loop-g.g c.index-checks-g.result g.F.Field.ops.zero c.loop-g-test.true c.index-checks-g.is (zero-only m.ops m.coding.size m.coding.number m.coding.element m.coding.bytes m.laws.numbers c.index-checks-g.result (sym c.number.ensures ∙ c.if-number-ne0.false)) c.loop-g.invariant

pub returns : goal.returns
returns g c = λ k lt. c.loop-g.invariant k (omega (arith, lt, c.loop-g-test.false))
