-- Texts of a list.
use Rattle.std.proofs.Common.{◌≡◌, ℕ, Bool, true, false, List, ◌∷◌, zero, suc, arith, subst, sym, ◌∙◌}
use Rattle.std.specs.Prelude.{◌↔◌, Contains}
use Rattle.std.specs.Str.{bytes_eq}
use Rattle.std.proofs.lemmas.Slice.Eq.{bytes_eq-Decides}

-- what is compared byte by byte
pub is_other : (r : Bool) (xs ys : List ℕ) → r ≡ bytes_eq xs ys → r ≡ false → xs ≡ ys → ⊥
is_other r xs ys e fails same =
    let holds : bytes_eq xs ys ≡ true = (bytes_eq-Decides xs ys).1 same in
    absurd (let clash : false ≡ true = sym fails ∙ e ∙ holds in cc)

later : (text bytes : List ℕ) (others : List (List ℕ)) → Contains others bytes → Contains (text ∷ others) bytes
later text bytes others c = (suc c.0, omega (arith, c.1), c.2)

earlier : (text bytes : List ℕ) (others : List (List ℕ)) → (text ≡ bytes → ⊥) → Contains (text ∷ others) bytes → Contains others bytes
earlier text bytes others other (zero, l, e) = absurd (other e)
earlier text bytes others other (suc k, l, e) = (k, omega (arith, l), e)

-- bytes that are not the first text are one of the others
pub among_later : (text bytes : List ℕ) (others texts : List (List ℕ)) → texts ≡ text ∷ others → (text ≡ bytes → ⊥) → Contains others bytes ↔ Contains texts bytes
among_later text bytes others texts e other = (
  λ c. subst (λ (l : List (List ℕ)). Contains l bytes) (sym e) (later text bytes others c),
  λ c. earlier text bytes others other (subst (λ (l : List (List ℕ)). Contains l bytes) e c),
)
