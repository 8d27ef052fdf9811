-- One choice for each of finitely many things of which there is not none.
use Rattle.std.specs.Prelude.{◌≡◌, ◌⊎◌, ℕ, ◌+◌, ◌<◌, ◌≤◌, List, [], ◌∷◌}
use Rattle.std.specs.List.{AllByRecursion, range_with_len}
use Rattle.std.proofs.Common.{zero, suc, inl, inr, sym, arith, subst}
use native.Mathlib.Decide.{dec_lt}
use Rattle.lzk_soundness.specs.Chance.Few.{IsIn}

pub choose_all : {Y : Type 0} → ((x y : Y) → Dec (x ≡ y)) → (C : Y → Type 0) (ys : List Y) → ((y : Y) → (C y → ⊥) → ⊥)
    → (((y : Y) → C y ⊎ (IsIn y ys → ⊥)) → ⊥) → ⊥
choose_all same C [] each not = not (λ y. inr (λ i. i))
choose_all {Y} same C (y ∷ ys) each not = choose_all same C ys each (λ rest. each y (λ here. not (λ z. one here rest z (same y z))))
  where
    one : C y → ((z : Y) → C z ⊎ (IsIn z ys → ⊥)) → (z : Y) → Dec (y ≡ z) → C z ⊎ (IsIn z (y ∷ ys) → ⊥)
    one here rest z (yes e) = inl (subst C e here)
    one here rest z (no d) = other (rest z)
      where
        neither : (IsIn z ys → ⊥) → (y ≡ z) ⊎ IsIn z ys → ⊥
        neither n (inl e) = d e
        neither n (inr i) = n i

        other : C z ⊎ (IsIn z ys → ⊥) → C z ⊎ (IsIn z (y ∷ ys) → ⊥)
        other (inl x) = inl x
        other (inr n) = inr (neither n)

-- a number below the end is in the range
pub in_range : (n a k : ℕ) → a ≤ n → n < a + k → IsIn n (range_with_len a k)
in_range n a zero l h = absurd (omega (arith, l, h))
in_range n a (suc k) l h = elim (dec_lt a n) [
  | yes more ↦ inr (in_range n (a + 1) k (omega (arith, more)) (omega (arith, h)))
  | no less ↦ let same : a ≡ n = omega (arith, l, less) in inl same
]

-- what is found of numbers, of which each has something or nothing
abbrev put_found : {P Y : Type 0} → (P → Y) → Dec P → List Y → List Y
put_found f (yes p) ys = f p ∷ ys
put_found f (no n) ys = ys

module _ {Y : Type 0} (P : ℕ → Type 0) (f : (n : ℕ) → P n → Y) where
  abbrev pub found_in : (ns : List ℕ) → AllByRecursion (λ n. Dec (P n)) ns → List Y
  found_in [] all = []
  found_in (n ∷ ns) all = put_found (f n) all.0 (found_in ns all.1)

  pub is_found : (y : Y) (ns : List ℕ) (all : AllByRecursion (λ n. Dec (P n)) ns) (n : ℕ) → IsIn n ns → P n → ((p : P n) → f n p ≡ y) → IsIn y (found_in ns all)
  is_found y [] all n there p is = there
  is_found y (m ∷ ns) all n (inl e) p is = here all.0
    where
      here : (d : Dec (P m)) → IsIn y (put_found (f m) d (found_in ns all.1))
      here (yes q) = inl (subst (λ (k : ℕ). (q : P k) → f k q ≡ y) (sym e) is q)
      here (no d) = absurd (d (subst P (sym e) p))
  is_found y (m ∷ ns) all n (inr i) p is = behind all.0 (is_found y ns all.1 n i p is)
    where
      behind : (d : Dec (P m)) → IsIn y (found_in ns all.1) → IsIn y (put_found (f m) d (found_in ns all.1))
      behind (yes q) j = inr j
      behind (no d) j = j
