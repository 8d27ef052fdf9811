-- Entries that are read and written in turn.
use Rattle.std.specs.Prelude.{◌≡◌, ℕ, ◌<◌, ◌≤◌, ◌+◌, ◌*◌, List, [], ◌∷◌, length}
use Rattle.std.proofs.Common.{suc, refl, sym, ap, ◌∙◌, arith, subst, get_or, slice_set, get_or-set_other, get_or-set_same, below_more}
use Rattle.std.proofs.lemmas.List.{get_or_default}
use native.Mathlib.Decide.{dec_lt}
use Rattle.lzk_field.specs.Ring.{Ops}
use Rattle.lzk_field.specs.Sums.{entry}

-- an operation on two values that are others
pub both : {A : Type 0} (f : A → A → A) (a b x y : A) → a ≡ x → b ≡ y → f a b ≡ f x y
both f a b x y p q = ap (λ u. f u b) p ∙ ap (f x) q

module _ {A : Type 0} (o : Ops A) where
  -- what is read at a place is its entry
  pub read_at : (xs : List A) (i : ℕ) (x : A) → i < length xs → x ≡ get_or xs i x → x ≡ entry o xs i
  read_at xs i x h e = e ∙ get_or_default xs i x o.zero h

  -- what holds of the entries before a place, and of what is written there
  pub written_more : (P : ℕ → A → Type 0) (xs : List A) (i : ℕ) (y : A) → i < length xs → ((k : ℕ) → k < i → P k (entry o xs k)) → P i y → (k : ℕ) → k < i + 1 → P k (entry o (slice_set xs i y) k)
  written_more P xs i y h old new =
      below_more (λ k. P k (entry o (slice_set xs i y) k)) i (λ k l. subst (P k) (sym (get_or-set_other xs i k y o.zero (omega (arith, l)))) (old k l))
      (subst (P i) (sym (get_or-set_same xs i y o.zero h)) new)

  -- the entries behind stay
  pub written_rest : (ys xs : List A) (i : ℕ) (y : A) → ((k : ℕ) → i ≤ k → entry o xs k ≡ entry o ys k) → (k : ℕ) → i + 1 ≤ k → entry o (slice_set xs i y) k ≡ entry o ys k
  written_rest ys xs i y same k h = get_or-set_other xs i k y o.zero (omega (arith, h)) ∙ same k (omega (arith, h))

  -- places behind a half
  pub written_top : (P : ℕ → A → Type 0) (half : ℕ) (xs : List A) (i : ℕ) (y : A) → half + i < length xs → ((k : ℕ) → k < i → P k (entry o xs (half + k))) → P i y → (k : ℕ) → k < i + 1 → P k (entry o (slice_set xs (half + i) y) (half + k))
  written_top P half xs i y h old new =
      below_more (λ k. P k (entry o (slice_set xs (half + i) y) (half + k))) i
      (λ k l. subst (P k) (sym (get_or-set_other xs (half + i) (half + k) y o.zero (omega (arith, l)))) (old k l))
      (subst (P i) (sym (get_or-set_same xs (half + i) y o.zero h)) new)

  -- each place from one on has the entry at twice the place, and so one place before
  pub written_double : (half i : ℕ) (xs : List A) (y : A) → length xs ≡ half + half → 1 ≤ i → i < half → y ≡ entry o xs (2 * i)
      → ((k : ℕ) → i + 1 ≤ k → k < half → entry o xs k ≡ entry o xs (2 * k)) → (k : ℕ) → i ≤ k → k < half → entry o (slice_set xs i y) k ≡ entry o (slice_set xs i y) (2 * k)
  written_double half i xs y size some low is old k p q =
      let far : entry o (slice_set xs i y) (2 * k) ≡ entry o xs (2 * k) = get_or-set_other xs i (2 * k) y o.zero (omega (arith, some, p)) in
      elim (dec_lt i k) [
        | yes l ↦ get_or-set_other xs i k y o.zero (omega (arith, l)) ∙ old k (omega (arith, l)) q ∙ sym far
        | no l ↦ let same : i ≡ k = omega (arith, l, p) in
            ap (entry o (slice_set xs i y)) (sym same) ∙ get_or-set_same xs i y o.zero (omega (arith, size, low)) ∙ is ∙ ap (λ n. entry o xs (2 * n)) same ∙ sym far
      ]

-- two entries written one after the other
pub written_two : {A : Type 0} (xs : List A) (a b : A) → length xs ≡ 2 → slice_set (slice_set xs 0 a) 1 b ≡ a ∷ b ∷ []
written_two (x ∷ y ∷ []) a b e = refl
written_two [] a b e = absurd (omega (arith, e))
written_two (x ∷ []) a b e = absurd (omega (arith, e))
written_two (x ∷ y ∷ z ∷ zs) a b e = absurd (omega (arith, e))

-- four entries written one after the other
pub written_four : {A : Type 0} (xs : List A) (a b c d : A) → length xs ≡ 4 → slice_set (slice_set (slice_set (slice_set xs 0 a) 1 b) 2 c) 3 d ≡ a ∷ b ∷ c ∷ d ∷ []
written_four (x ∷ y ∷ z ∷ w ∷ []) a b c d e = refl
written_four [] a b c d e = absurd (omega (arith, e))
written_four (x ∷ []) a b c d e = absurd (omega (arith, e))
written_four (x ∷ y ∷ []) a b c d e = absurd (omega (arith, e))
written_four (x ∷ y ∷ z ∷ []) a b c d e = absurd (omega (arith, e))
written_four (x ∷ y ∷ z ∷ w ∷ v ∷ vs) a b c d e = absurd (omega (arith, e))
