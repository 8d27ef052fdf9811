-- Terms that stay in order under other numbers of the wires below.
use Rattle.std.specs.Prelude.{◌≡◌, ◌≢◌, ℕ, ◌-◌, ◌<◌, ◌≤◌, min, max, Option, Some, None, List, [], ◌∷◌, ◌++◌, length, map, slice_get}
use Rattle.std.proofs.Common.{refl, sym, ap, ◌∙◌, arith, subst, inl, inr, zero, suc, get_or}
use Rattle.std.proofs.lemmas.Bool.{cases_lt}
use Rattle.lzk_field.specs.Ring.{Ops, RingLaws, FieldLaws}
use Rattle.lzk_field.specs.Sums.{entry}
use Rattle.lzk_circuit.specs.declared.layer.Term.{Term}
use Rattle.lzk_circuit.specs.Valid.{AreTerms, IsTerm}
use Rattle.lzk_circuit_reduce.specs.Renumbering.{at, AreOver, AreCopies, IsOne}
use Rattle.lzk_circuit_reduce.specs.InOrder.{over_numbers}
use Rattle.lzk_circuit_reduce.specs.Rows.{IsRow, row_value, term_value, ordered, Less}
use Rattle.lzk_circuit_reduce.proofs.RowLaws.{less-precedes}
use Rattle.lzk_circuit_reduce.proofs.RenumberLaws.{copied-value, one-count, one-renumbered}

module _ {A : Type 0} where
  pub over-at : (width i : ℕ) (ts : List (Term A)) (d : Term A) → i < length ts → AreOver width ts → ((get_or ts i d).a < width) × ((get_or ts i d).b < width)
  over-at width i [] d l h = absurd (omega (arith, l))
  over-at width zero (t ∷ ts) d l h = (h.0, h.1)
  over-at width (suc i) (t ∷ ts) d l h = over-at width i ts d (omega (arith, l)) h.2

  pub over-of-index : (width i : ℕ) (ts : List (Term A)) (t : Term A) → i < length ts → t ≡ get_or ts i t → AreOver width ts → (t.a < width) × (t.b < width)
  over-of-index width i ts t l e h = subst (λ (u : Term A). (u.a < width) × (u.b < width)) (sym e) (over-at width i ts t l h)

module _ {A : Type 0} (o : Ops A) where
  -- a term behind the last one, which it comes after
  behind : (width : ℕ) (before : Option (Term A)) (ts : List (Term A)) (i : ℕ) (last t : Term A) → suc i ≡ length ts → Some last ≡ slice_get ts i → AreTerms o 1 width before ts
      → IsTerm o 1 width t → Less last t → AreTerms o 1 width before (ts ++ t ∷ [])
  behind width before [] i last t n e h k l = absurd (omega (arith, n))
  behind width before (u ∷ []) zero last t n e h k l =
      let same : last ≡ u = cc in
      let one = h.0 in
      (h.0, h.1, (k, less-precedes u t (omega (arith, one.g, k.g)) (subst (λ s. Less s t) same l), tt))
  behind width before (u ∷ []) (suc i) last t n e h k l = absurd (omega (arith, n))
  behind width before (u ∷ v ∷ ts) zero last t n e h k l = absurd (omega (arith, n))
  behind width before (u ∷ v ∷ ts) (suc i) last t n e h k l = (h.0, h.1, behind width (Some u) (v ∷ ts) i last t (omega (arith, n)) e h.2 k l)

  pub row-behind : (width : ℕ) (row : List (Term A)) (last t : Term A) → Some last ≡ slice_get row (length row - 1) → IsRow o width row
      → t.g ≡ 0 → t.a ≤ t.b → t.b < width → t.coef ≢ o.zero → Less last t → IsRow o width (row ++ t ∷ [])
  row-behind width [] last t e h z ab b nz l = absurd cc
  row-behind width (u ∷ ts) last t e h z ab b nz l =
      let n : length (u ∷ ts) - 1 ≡ length ts = omega arith in
      behind width None (u ∷ ts) (length ts) last t refl (e ∙ ap (slice_get (u ∷ ts)) n) h (record { g = omega (arith, z); a = ab; b = b; coef = nz }) l

module _ {A : Type 0} (o : Ops A) (r : RingLaws o) where
  -- the order of the two wires is nothing to the value
  ordered-value : (below : List A) (c : A) (a b : ℕ) → term_value o below (ordered c a b) ≡ o.times c (o.times (entry o below a) (entry o below b))
  ordered-value below c a b = elim (cases_lt b a) [
    | inl l ↦
        let lesser : min a b ≡ b = omega (arith, l) in
        let greater : max a b ≡ a = omega (arith, l) in
        ap (λ i. o.times c (o.times (entry o below i) (entry o below (max a b)))) lesser ∙ ap (λ i. o.times c (o.times (entry o below b) (entry o below i))) greater ∙ ap (o.times c) (r.times_comm (entry o below b) (entry o below a))
    | inr l ↦
        let lesser : min a b ≡ a = omega (arith, l) in
        let greater : max a b ≡ b = omega (arith, l) in
        ap (λ i. o.times c (o.times (entry o below i) (entry o below (max a b)))) lesser ∙ ap (λ i. o.times c (o.times (entry o below a) (entry o below i))) greater
  ]

  pub numbers-value : (numbers : List ℕ) (old new : List A) (ts : List (Term A)) → AreCopies o numbers old new → AreOver (length numbers) ts
      → row_value o new (map (over_numbers numbers) ts) ≡ row_value o old ts
  numbers-value numbers old new [] h k = refl
  numbers-value numbers old new (t ∷ ts) h k =
      ap (λ x. o.plus x (row_value o new (map (over_numbers numbers) ts))) (ordered-value new t.coef (at numbers t.a) (at numbers t.b) ∙ copied-value o r numbers old new t h k.0 k.1)
      ∙ ap (o.plus (term_value o old t)) (numbers-value numbers old new ts h k.2)

-- wire 0 times itself is that again where wire 0 has number 0
pub one-over : {A : Type 0} (o : Ops A) → FieldLaws o → (numbers : List ℕ) (ts : List (Term A)) → IsOne o ts → at numbers 0 ≡ 0 → IsOne o (map (over_numbers numbers) ts)
one-over o f numbers [] h z = absurd (omega (arith, one-count o [] h))
one-over o f numbers (t ∷ []) h z = (one-renumbered o f numbers (t ∷ []) t refl h z).1
one-over o f numbers (t ∷ u ∷ us) h z = absurd (omega (arith, one-count o (t ∷ u ∷ us) h))
