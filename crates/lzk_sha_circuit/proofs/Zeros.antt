-- Lists whose entries are all 0.
use Rattle.std.specs.Prelude.{◌≡◌, ℕ, ◌+◌, ◌<◌, ◌≤◌, List, [], ◌∷◌, ◌++◌, length, map, slice_index_or, None}
use Rattle.std.specs.List.{range_with_len, flat_map}
use Rattle.std.proofs.Common.{refl, ap, ◌∙◌, arith, zero, suc, inl, inr}
use Rattle.std.proofs.lemmas.Bool.{cases_lt}
use Rattle.lzk_field.specs.Ring.{Ops}
use Rattle.lzk_circuit.specs.Wires.{IsFirstNonzero}

abbrev pub AreZero : {A : Type 0} → Ops A → List A → Type 0
AreZero o [] = Unit {0}
AreZero o (x ∷ xs) = (x ≡ o.zero) × AreZero o xs

module _ {A : Type 0} (o : Ops A) where
  pub zeros_from : (xs : List A) → IsFirstNonzero o xs None → AreZero o xs
  zeros_from [] h = tt
  zeros_from (x ∷ xs) h = (h 0 (omega arith), zeros_from xs (λ g lt. h (suc g) (omega arith)))

  pub zeros_to : (xs : List A) → AreZero o xs → IsFirstNonzero o xs None
  zeros_to [] h g lt = refl
  zeros_to (x ∷ xs) h zero lt = h.0
  zeros_to (x ∷ xs) h (suc g) lt = zeros_to xs h.1 g (omega arith)

  pub zeros_append : (xs ys : List A) → AreZero o xs → AreZero o ys → AreZero o (xs ++ ys)
  zeros_append [] ys hx hy = hy
  zeros_append (x ∷ xs) ys hx hy = (hx.0, zeros_append xs ys hx.1 hy)

  pub zeros_split : (xs ys : List A) → AreZero o (xs ++ ys) → AreZero o xs × AreZero o ys
  zeros_split [] ys h = (tt, h)
  zeros_split (x ∷ xs) ys h = let rest = zeros_split xs ys h.1 in ((h.0, rest.0), rest.1)

  pub zeros_each : {X : Type 0} (f : X → A) (xs : List X) (d : X) → AreZero o (map f xs) → (k : ℕ) → k < length xs → f (slice_index_or xs k d) ≡ o.zero
  zeros_each f [] d h k lt = absurd (omega arith)
  zeros_each f (x ∷ xs) d h zero lt = h.0
  zeros_each f (x ∷ xs) d h (suc k) lt = zeros_each f xs d h.1 k (omega arith)

  pub zeros_map : {X : Type 0} (f : X → A) (xs : List X) (d : X) → ((k : ℕ) → k < length xs → f (slice_index_or xs k d) ≡ o.zero) → AreZero o (map f xs)
  zeros_map f [] d h = tt
  zeros_map f (x ∷ xs) d h = (h 0 (omega arith), zeros_map f xs d (λ k lt. h (suc k) (omega arith)))

  pub zeros_range_each : (f : ℕ → A) (n a : ℕ) → AreZero o (map f (range_with_len a n)) → (t : ℕ) → a ≤ t → t < a + n → f t ≡ o.zero
  zeros_range_each f zero a h t le lt = absurd (omega arith)
  zeros_range_each f (suc n) a h t le lt = elim (cases_lt a t) [
    | inl less ↦ zeros_range_each f n (a + 1) h.1 t (omega arith) (omega arith)
    | inr more ↦ let e : t ≡ a = omega arith in ap f e ∙ h.0
  ]

  pub zeros_range : (f : ℕ → A) (n a : ℕ) → ((t : ℕ) → a ≤ t → t < a + n → f t ≡ o.zero) → AreZero o (map f (range_with_len a n))
  zeros_range f zero a h = tt
  zeros_range f (suc n) a h = (h a (omega arith) (omega arith), zeros_range f n (a + 1) (λ t le lt. h t (omega arith) (omega arith)))

  pub zeros_pairs_each : (f g : ℕ → A) (n a : ℕ) → AreZero o (flat_map (λ t. f t ∷ g t ∷ []) (range_with_len a n)) → (t : ℕ) → a ≤ t → t < a + n → (f t ≡ o.zero) × (g t ≡ o.zero)
  zeros_pairs_each f g zero a h t le lt = absurd (omega arith)
  zeros_pairs_each f g (suc n) a h t le lt = elim (cases_lt a t) [
    | inl less ↦ zeros_pairs_each f g n (a + 1) h.1.1 t (omega arith) (omega arith)
    | inr more ↦ let e : t ≡ a = omega arith in (ap f e ∙ h.0, ap g e ∙ h.1.0)
  ]

  pub zeros_pairs : (f g : ℕ → A) (n a : ℕ) → ((t : ℕ) → a ≤ t → t < a + n → (f t ≡ o.zero) × (g t ≡ o.zero)) → AreZero o (flat_map (λ t. f t ∷ g t ∷ []) (range_with_len a n))
  zeros_pairs f g zero a h = tt
  zeros_pairs f g (suc n) a h =
      let first = h a (omega arith) (omega arith) in
      (first.0, (first.1, zeros_pairs f g n (a + 1) (λ t le lt. h t (omega arith) (omega arith))))
