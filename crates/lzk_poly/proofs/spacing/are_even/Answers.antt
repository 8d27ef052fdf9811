use Rattle.std.proofs.Common.{◌≡◌, ℕ, ◌+◌, ◌-◌, ◌<◌, ◌≤◌, true, false, sym, ap, ◌∙◌, arith}
use native.Mathlib.Decide.{dec_lt}
use Rattle.lzk_field.specs.Ring.{Ops}
use Rattle.lzk_poly.proofs.Inverses.{even_from_ones, even_goes_up, same_by_number}
use Rattle.lzk_poly.proofs.spacing.are_even.Goals as goal

no_truth : false ≡ true → ⊥
no_truth e = cc

pub loop-k-init : goal.loop-k-init
loop-k-init g c = λ i h. absurd (omega (arith, h))

pub overflow_sub-k : goal.overflow_sub-k
overflow_sub-k g c = c.loop-k.auto.k

pub point-requires : goal.point-requires
point-requires g c = omega (arith, c.loop-k-test.true, c.requires)

pub point-requires-in-loop-k : goal.point-requires-in-loop-k
point-requires-in-loop-k g c = omega (arith, c.loop-k-test.true, c.requires)

-- one point more that is one more than the one before
one_higher : {A : Type 0} (o : Ops A) (element : ℕ → A) (k : ℕ) → 1 ≤ k → ((i : ℕ) → i + 1 < k → element (i + 1) ≡ o.plus (element i) o.one) → element k ≡ o.plus (element (k - 1)) o.one
    → (i : ℕ) → i + 1 < k + 1 → element (i + 1) ≡ o.plus (element i) o.one
one_higher o element k some below here i h = elim (dec_lt (i + 1) k) [
  | yes l ↦ below i l
  | no l ↦
      let same : i + 1 ≡ k = omega (arith, h, l) in
      let before : k - 1 ≡ i = omega (arith, same) in
      ap element same ∙ here ∙ ap (λ n. o.plus (element n) o.one) before
]

pub loop-k-preserved : goal.loop-k-preserved
loop-k-preserved g c =
    let m = g.F.Field in
    let o = m.ops in
    let k = c.loop-k.k in
    let next : c.point-in-loop-k.result ≡ c.add-next.result = same_by_number m.laws c.point-in-loop-k.result c.add-next.result (sym c.number.ensures ∙ c.if-number.false ∙ c.number-in-loop-k.ensures) in
    one_higher o m.coding.element k c.loop-k.auto.k c.loop-k.invariant
    (sym c.point-in-loop-k.ensures ∙ next ∙ c.add-next.ensures ∙ ap (λ w. o.plus w c.one.result) c.point.ensures ∙ ap (o.plus (m.coding.element (k - 1))) c.one.ensures)

pub returns-clause-even : goal.returns-clause-even
returns-clause-even g c = λ yes. even_from_ones g.F.Field.laws c.args.upto (λ i h. c.loop-k.invariant i (omega (arith, h, c.loop-k-test.false)))

pub returns-then-number-clause-even : goal.returns-then-number-clause-even
returns-then-number-clause-even g c = λ yes. absurd (no_truth yes)

pub returns-then-number-clause-all : goal.returns-then-number-clause-all
returns-then-number-clause-all g c =
    let m = g.F.Field in
    let o = m.ops in
    let k = c.loop-k.k in
    λ even.
    let next : c.point-in-loop-k.result ≡ c.add-next.result =
    c.point-in-loop-k.ensures ∙ even_goes_up m.laws c.args.upto k even c.loop-k.auto.k c.loop-k-test.true ∙ ap (λ w. o.plus w o.one) (sym c.point.ensures) ∙ ap (o.plus c.point.result) (sym c.one.ensures) ∙ sym c.add-next.ensures in
    absurd (c.if-number.true (c.number.ensures ∙ ap m.coding.number next ∙ sym c.number-in-loop-k.ensures))
