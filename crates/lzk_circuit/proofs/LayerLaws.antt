-- What the walk over a layer's terms keeps.
use Rattle.std.specs.Prelude.{◌≡◌, ℕ, ◌<◌, ◌≤◌, ◌+◌, cond, List, ◌∷◌, length, map, drop, slice_set}
use Rattle.std.proofs.Common.{inl, inr, sym, ap, ◌∙◌, arith, set, get_or, below_more}
use Rattle.std.specs.List.{range_with_len}
use Rattle.std.proofs.lemmas.List.{get_or-set_same, get_or-set_other, drop_more, drop_all, ext_get_or}
use Rattle.std.proofs.lemmas.List.FromFn.{length-map-range_with_len, get_or-map-range_with_len}
use Rattle.std.proofs.lemmas.Bool.{cases_eq, eq-eqb, ne_eqb}
use Rattle.lzk_field.specs.Ring.{Ops, RingLaws}
use Rattle.lzk_field.specs.Sums.{entry}
use Rattle.lzk_field.proofs.RingBasics.{zero_plus, times_zero}
use Rattle.lzk_circuit.specs.declared.layer.Term.{Term}
use Rattle.lzk_circuit.specs.Wires.{coef, wire, AreDistinct}
use Rattle.lzk_circuit.specs.Sums.{sum_list}
use Rattle.lzk_circuit.proofs.TermSums.{share, wire-terms}

module _ {A : Type 0} (o : Ops A) (r : RingLaws o) where
  open o use {plus, times}

  -- from zero, the shares of all terms make the wire
  pub walk-starts : (ts : List (Term A)) (below out : List A) (k : ℕ) → k < length out → AreDistinct o (length out) (length below) ts → entry o out k ≡ o.zero
      → plus (entry o out k) (sum_list o ts (share o r below k)) ≡ wire o (coef o ts) below k
  walk-starts ts below out k l h z = ap (λ x. plus x (sum_list o ts (share o r below k))) z ∙ zero_plus o r _ ∙ sym (wire-terms o r (length out) ts below k l h)

  -- wire k after a term
  added : (below old new : List A) (k : ℕ) (t : Term A) → t.g < length old → new ≡ slice_set old t.g (plus (entry o old t.g) (times (times t.coef (entry o below t.a)) (entry o below t.b)))
      → entry o new k ≡ plus (entry o old k) (share o r below k t)
  added below old new k t l e =
      let v = times (entry o below t.a) (entry o below t.b) in
      let after = plus (entry o old t.g) (times (times t.coef (entry o below t.a)) (entry o below t.b)) in
      elim (cases_eq t.g k) [
        | inl same ↦
            ap (λ xs. entry o xs k) e ∙ ap (entry o (slice_set old t.g after)) (sym same) ∙ get_or-set_same old t.g after o.zero l
            ∙ ap (λ x. plus (entry o old x) (times (times t.coef (entry o below t.a)) (entry o below t.b))) same
            ∙ ap (plus (entry o old k)) (r.times_assoc t.coef (entry o below t.a) (entry o below t.b) ∙ sym (ap (λ p. times t.coef (cond p v o.zero)) (eq-eqb t.g k same)))
        | inr other ↦
            ap (λ xs. entry o xs k) e ∙ get_or-set_other old t.g k after o.zero (λ same. other (sym same))
            ∙ sym (r.plus_zero (entry o old k)) ∙ ap (plus (entry o old k)) (sym (ap (λ p. times t.coef (cond p v o.zero)) (ne_eqb t.g k other) ∙ times_zero o r t.coef))
      ]

  pub walk-step : (ts : List (Term A)) (below old new : List A) (i k : ℕ) (t : Term A) (all : A) → i < length ts → t ≡ get_or ts i t → t.g < length old
      → new ≡ slice_set old t.g (plus (entry o old t.g) (times (times t.coef (entry o below t.a)) (entry o below t.b)))
      → plus (entry o old k) (sum_list o (drop i ts) (share o r below k)) ≡ all → plus (entry o new k) (sum_list o (drop (i + 1) ts) (share o r below k)) ≡ all
  walk-step ts below old new i k t all li is l e h =
      let f = share o r below k in
      let front : drop i ts ≡ t ∷ drop (i + 1) ts = drop_more ts i t li ∙ ap (λ x. x ∷ drop (i + 1) ts) (sym is) in
      ap (λ x. plus x (sum_list o (drop (i + 1) ts) f)) (added below old new k t l e) ∙ r.plus_assoc (entry o old k) (f t) (sum_list o (drop (i + 1) ts) f)
      ∙ sym (ap (λ xs. plus (entry o old k) (sum_list o xs f)) front) ∙ h

  pub walk-ends : (ts : List (Term A)) (below out : List A) (i n : ℕ) → length ts ≤ i → length out ≡ n
      → ((k : ℕ) → k < length out → plus (entry o out k) (sum_list o (drop i ts) (share o r below k)) ≡ wire o (coef o ts) below k) → out ≡ map (wire o (coef o ts) below) (range_with_len 0 n)
  walk-ends ts below out i n li e h =
      let f = wire o (coef o ts) below in
      ext_get_or o.zero out (map f (range_with_len 0 n)) (e ∙ sym (length-map-range_with_len f 0 n))
      (λ k l. sym (r.plus_zero (entry o out k)) ∙ sym (ap (λ xs. plus (entry o out k) (sum_list o xs (share o r below k))) (drop_all i ts li)) ∙ h k l
      ∙ sym (get_or-map-range_with_len f 0 n k k o.zero (omega arith) (omega arith)))

-- one more wire is cleared
pub clear-more : {X : Type 0} (zero : X) (i : ℕ) (x : X) (out : List X) → i < length out → x ≡ zero → ((k : ℕ) → k < i → get_or out k zero ≡ zero) → (k : ℕ) → k < i + 1 → get_or (set out i x) k zero ≡ zero
clear-more zero i x out within is below =
    below_more (λ k. get_or (set out i x) k zero ≡ zero) i
    (λ k lt. get_or-set_other out i k x zero (omega (arith, lt)) ∙ below k lt) (get_or-set_same out i x zero within ∙ is)
