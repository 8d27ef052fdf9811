-- In version 1 assertion terms count nothing: there are none.
use Rattle.std.specs.Prelude.{◌≡◌, ℕ, ◌+◌, Bool, true, false, cond, Option, Some, None, List, [], ◌∷◌, length, map, slice_index_or}
use Rattle.std.proofs.Common.{zero, suc, refl, ap, ◌∙◌, arith}
use Rattle.std.proofs.lemmas.List.FromFn.{length-map-range_with_len, get_or-map-range_with_len}
use Rattle.lzk_field.specs.Ring.{Ops, RingLaws, FieldLaws}
use Rattle.lzk_field.specs.Sums.{sum_below, entry, minus}
use Rattle.lzk_field.proofs.RingBasics.{times_zero, zero_times}
use Rattle.lzk_field.proofs.SumLaws.{sum-ext, sum-zero}
use Rattle.lzk_mle.specs.Multilinear.{eq, tilde}
use Rattle.lzk_circuit.specs.declared.layer.Term.{Term}
use Rattle.lzk_circuit.specs.declared.layer.Layer.{Layer}
use Rattle.lzk_circuit.specs.Checks.{asserted}
use Rattle.lzk_circuit.specs.Valid.{Wiring, input_width, MayEachStand, AreLayersOf, IsValid}
use Rattle.lzk_circuit.specs.Wires.{zero_of, zero_at, wire, is_at}
use Rattle.lzk_layout.specs.Places.{width_at}
use Rattle.lzk_sumcheck.specs.Coefficients.{terms_at}
use Rattle.lzk_soundness.specs.Sumchecks.Claims.{values_at, asserted_at}

module _ {A : Type 0} (o : Ops A) (r : RingLaws o) (f : FieldLaws o) where
  no_term : (ts : List (Term A)) (before : Option (Term A)) (version g a b : ℕ) → version ≡ 1 → MayEachStand o version before ts → zero_at o ts g a b ≡ o.zero
  no_term [] before version g a b one stand = refl
  no_term (t ∷ ts) before version g a b one stand = go (is_at t g a b) (no_term ts (Some t) version g a b one stand.1)
    where
      none : zero_of o t.coef ≡ o.zero
      none = let first = stand.0 in ap (minus o o.one) (f.times_inverse t.coef (first.nonzero one)) ∙ r.plus_neg o.one

      go : (b' : Bool) → zero_at o ts g a b ≡ o.zero → cond b' (zero_of o t.coef) (zero_at o ts g a b) ≡ o.zero
      go true rest = none
      go false rest = rest

  terms_stand : (version n : ℕ) (layers : List (Layer A)) (l : ℕ) → AreLayersOf o version n layers → MayEachStand o version None (slice_index_or (map (λ layer. layer.terms) layers) l [])
  terms_stand version n [] l h = tt
  terms_stand version n (layer ∷ layers) zero h = let one = h.0 in one.coefs
  terms_stand version n (layer ∷ layers) (suc l) h = terms_stand version n layers l h.1

  module _ (c : Wiring A) (public w : List A) (valid : IsValid o c) (one : c.version ≡ 1) (l : ℕ) where
    asserted_none : (below : List A) (g : ℕ) → asserted o (terms_at c l) below g ≡ o.zero
    unfolding wire
    asserted_none below g =
        let n = length below in
        let v : ℕ → A = λ i. slice_index_or below i o.zero in
        let q : ℕ → ℕ → A = λ a b. o.times (o.times (zero_at o (terms_at c l) g a b) (v a)) (v b) in
        sum-ext o r n (λ a. sum_below o n (q a)) (λ a. o.zero)
        (λ a i. sum-ext o r n (q a) (λ b. o.zero)
        (λ b j.
        ap (λ x. o.times (o.times x (v a)) (v b)) (no_term (terms_at c l) None c.version g a b one (terms_stand c.version (input_width c) c.layers l valid.layers))
        ∙ ap (λ x. o.times x (v b)) (zero_times o r (v a)) ∙ zero_times o r (v b)) ∙ sum-zero o r n) ∙ sum-zero o r n

    pub tilde_none : (xs : List A) → tilde o (asserted_at o c public w l) xs ≡ o.zero
    tilde_none xs =
        let zs = asserted_at o c public w l in
        let f : ℕ → A = asserted o (terms_at c l) (values_at o c public w (l + 1)) in
        sum-ext o r (length zs) (λ i. o.times (eq o i xs) (entry o zs i)) (λ i. o.zero)
        (λ i h. ap (o.times (eq o i xs)) (get_or-map-range_with_len f 0 (width_at c l) i i o.zero (omega (arith, h, length-map-range_with_len f 0 (width_at c l))) (omega arith) ∙ asserted_none (values_at o c public w (l + 1)) i) ∙ times_zero o r _)
        ∙ sum-zero o r (length zs)
