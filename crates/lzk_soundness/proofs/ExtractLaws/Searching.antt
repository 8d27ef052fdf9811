-- Whoever tries all lists of elements finds the one that is looked for.
use Rattle.std.specs.Prelude.{◌≡◌, ◌⊎◌, ℕ, ◌+◌, ◌<◌, ◌≤◌, Bool, true, false, cond, List, [], ◌∷◌, ◌++◌, length, map, flat_map}
use Rattle.std.specs.List.{AllByRecursion, range_with_len}
use Rattle.std.proofs.Common.{zero, suc, inl, inr, refl, sym, ap, ◌∙◌, arith, subst}
use Rattle.std.proofs.lemmas.Bool.{false≢true}
use native.Mathlib.Decide.{dec_lt}
use Rattle.lzk_field.specs.Coding.{Coding}
use Rattle.lzk_field.specs.Ring.{Ops, NumberLaws}
use Rattle.lzk_soundness.specs.Chance.Draws.{draws_from}
use Rattle.lzk_soundness.specs.Chance.Few.{IsIn, HasAll}
use Rattle.lzk_soundness.specs.Extract.Extraction.{first_or, all_elements}

module _ {X : Type 0} where
  -- the one entry that passes
  pub first_is : (test : X → Bool) (P : X → Type 0) (x y : X) (ys : List X) → AllByRecursion P ys → IsIn y ys → test y ≡ true → ((z : X) → P z → test z ≡ true → z ≡ y) → first_or test x ys ≡ y
  first_is test P x y [] all is won only = absurd is
  first_is test P x y (z ∷ zs) all is won only = go (test z) refl is (λ there. first_is test P x y zs all.1 there won only)
    where
      go : (b : Bool) → test z ≡ b → (z ≡ y) ⊎ IsIn y zs → (IsIn y zs → first_or test x zs ≡ y) → cond b z (first_or test x zs) ≡ y
      go true e is rest = only z all.0 e
      go false e (inl same) rest = absurd (false≢true (sym e ∙ ap test same ∙ won))
      go false e (inr there) rest = rest there

  -- where none passes
  pub first_none : (test : X → Bool) (P : X → Type 0) (x : X) (ys : List X) → AllByRecursion P ys → ((z : X) → P z → test z ≡ true → ⊥) → first_or test x ys ≡ x
  first_none test P x [] all never = refl
  first_none test P x (z ∷ zs) all never = go (test z) refl (first_none test P x zs all.1 never)
    where
      go : (b : Bool) → test z ≡ b → first_or test x zs ≡ x → cond b z (first_or test x zs) ≡ x
      go true e rest = absurd (never z all.0 e)
      go false e rest = rest

  in_left : (y : X) (xs ys : List X) → IsIn y xs → IsIn y (xs ++ ys)
  in_left y [] ys is = absurd is
  in_left y (x ∷ xs) ys (inl e) = inl e
  in_left y (x ∷ xs) ys (inr i) = inr (in_left y xs ys i)

  in_right : (y : X) (xs ys : List X) → IsIn y ys → IsIn y (xs ++ ys)
  in_right y [] ys is = is
  in_right y (x ∷ xs) ys is = inr (in_right y xs ys is)

module _ {X : Type 0} where
  in_fronts : (x : X) (t : List X) (ts : List (List X)) → IsIn t ts → IsIn (x ∷ t) (map (λ rest. x ∷ rest) ts)
  in_fronts x t [] is = absurd is
  in_fronts x t (s ∷ ts) (inl e) = inl (ap (λ rest. x ∷ rest) e)
  in_fronts x t (s ∷ ts) (inr i) = inr (in_fronts x t ts i)

  in_all : (x : X) (t : List X) (ts : List (List X)) (ds : List X) → IsIn t ts → IsIn x ds → IsIn (x ∷ t) (flat_map (λ d. map (λ rest. d ∷ rest) ts) ds)
  in_all x t ts [] behind is = absurd is
  in_all x t ts (d ∷ ds) behind (inl e) =
      in_left (x ∷ t) (map (λ rest. d ∷ rest) ts) (flat_map (λ d. map (λ rest. d ∷ rest) ts) ds) (subst (λ z. IsIn (x ∷ t) (map (λ rest. z ∷ rest) ts)) (sym e) (in_fronts x t ts behind))
  in_all x t ts (d ∷ ds) behind (inr i) =
      in_right (x ∷ t) (map (λ rest. d ∷ rest) ts) (flat_map (λ d. map (λ rest. d ∷ rest) ts) ds) (in_all x t ts ds behind i)

  -- every list of entries is among the lists of so many draws
  pub draws_have : (ds xs : List X) → HasAll ds → IsIn xs (draws_from ds (length xs))
  draws_have ds [] every = inl refl
  draws_have ds (x ∷ xs) every = in_all x xs (draws_from ds (length xs)) ds (draws_have ds xs every) (every x)

module _ {A : Type 0} {o : Ops A} (e : Coding A) (laws : NumberLaws o e.size e.number e.element e.bytes) where
  there : (j a k : ℕ) → a ≤ j → j < a + k → IsIn (e.element j) (map e.element (range_with_len a k))
  there j a zero l h = absurd (omega (arith, l, h))
  there j a (suc k) l h = elim (dec_lt a j) [
    | yes more ↦ inr (there j (a + 1) k (omega (arith, more)) (omega (arith, h)))
    | no less ↦ let same : a ≡ j = omega (arith, l, less) in inl (ap e.element same)
  ]

  pub elements_have : HasAll (all_elements e)
  elements_have x = subst (λ y. IsIn y (all_elements e)) (laws.element_number x) (there (e.number x) 0 e.size (omega arith) (omega (arith, laws.below x)))

  -- each list of n elements is among all lists of n
  pub lists_have : (xs : List A) (n : ℕ) → length xs ≡ n → IsIn xs (draws_from (all_elements e) n)
  lists_have xs n long = subst (λ (k : ℕ). IsIn xs (draws_from (all_elements e) k)) long (draws_have (all_elements e) xs elements_have)
