-- Rows of marked wires behind one another.
use Rattle.std.specs.Prelude.{◌≡◌, ℕ, ◌<◌, true, false, Bool, Option, Some, None, List, [], ◌∷◌, ◌++◌, map}
use Rattle.std.proofs.Common.{inl, inr, sym, arith, subst}
use Rattle.std.proofs.lemmas.Bool.{cases_Bool}
use Rattle.lzk_field.specs.Ring.{Ops}
use Rattle.lzk_circuit.specs.declared.layer.Term.{Term}
use Rattle.lzk_circuit.specs.Valid.{AreTerms}
use Rattle.lzk_circuit_reduce.specs.Rows.{placed}
use Rattle.lzk_circuit_beside.specs.Asserts.{IsOfAnother, AreLone}

pub true-false : (b : Bool) → b ≡ true → b ≡ false → ⊥
true-false true e f = absurd (go f)
  where
    go : true ≡ false → ⊥
    go e = cc
true-false false e f = absurd (go e)
  where
    go : false ≡ true → ⊥
    go e = cc

module _ {A : Type 0} (o : Ops A) (marks : ℕ → Bool) where
  abbrev IsBefore : ℕ → Option (Term A) → Type 0
  IsBefore g None = Unit {0}
  IsBefore g (Some s) = s.g < g

  lone-row : (g : ℕ) (before : Option (Term A)) (row : List (Term A)) → IsBefore g before → (marks g ≡ true → (u : Term A) × (row ≡ u ∷ []) × (u.coef ≡ o.one)) → AreLone o marks before (map (placed g) row)
  lone-row g before row b h = elim (cases_Bool (marks g)) [
    | inl y ↦ let u = h y in subst (λ us. AreLone o marks before (map (placed g) us)) (sym u.1) ((λ m. (u.2, other before b)), tt)
    | inr n ↦ none before row n
  ]
    where
      other : (before : Option (Term A)) → IsBefore g before → IsOfAnother before g
      other None b = tt
      other (Some s) b = λ e. omega (arith, b, e)

      none : (before : Option (Term A)) (row : List (Term A)) → marks g ≡ false → AreLone o marks before (map (placed g) row)
      none before [] n = tt
      none before (t ∷ ts) n = (λ m. absurd (true-false (marks g) m n), none (Some (placed g t)) ts n)

  pub lone-append : (g width : ℕ) (before : Option (Term A)) (ts row : List (Term A)) → IsBefore g before → AreTerms o g width before ts → AreLone o marks before ts
      → (marks g ≡ true → (u : Term A) × (row ≡ u ∷ []) × (u.coef ≡ o.one)) → AreLone o marks before (ts ++ map (placed g) row)
  lone-append g width before [] row b h l r = lone-row g before row b r
  lone-append g width before (t ∷ ts) row b h l r = let one = h.0 in (l.0, lone-append g width (Some t) ts row one.g h.2 l.1 r)
