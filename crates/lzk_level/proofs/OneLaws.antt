-- The one goes on from level to level.
use Rattle.std.specs.Prelude.{◌≡◌, ℕ, ◌<◌, ◌≤◌, true, false, List, [], ◌∷◌, ◌++◌, length, map}
use Rattle.std.proofs.Common.{zero, suc, refl, sym, ap, ◌∙◌, arith, subst}
use Rattle.lzk_field.specs.Ring.{Ops}
use Rattle.lzk_circuit.specs.declared.layer.Term.{Term}
use Rattle.lzk_circuit_reduce.specs.Rows.{placed, ordered}
use Rattle.lzk_circuit_reduce.specs.Renumbering.{at, of_wire}
use Rattle.lzk_circuit_reduce.specs.Reduced.{terms_of}
use Rattle.lzk_level.specs.Levels.{has_wire}
use Rattle.lzk_level.proofs.Unshared.{place_in, row_at, lengths_in, StartsWithOne}
use Rattle.lzk_circuit_reduce.proofs.KeptLaws.{own-placed, own-before}
use Rattle.lzk_level.proofs.LevelLaws.{place-below, wire-there}
use Rattle.std.proofs.lemmas.Bool.{true≢false}

module _ {A : Type 0} (o : Ops A) where
  first-kept : (rows : List (List (Term A))) (row : List (Term A)) → (1 ≤ length rows → StartsWithOne o rows) → (length rows ≡ 0 → row ≡ ordered o.one 0 0 ∷ []) → StartsWithOne o (rows ++ row ∷ [])
  first-kept [] row f own = own refl
  first-kept (r ∷ rs) row f own = f (omega arith)

  -- the rows of a level start with that of the one
  pub starts-with-one : (old seen new : List (List (Term A))) (x row : List (Term A)) → seen ≡ old → x ≡ row → new ≡ old ++ x ∷ [] → (1 ≤ length old → StartsWithOne o old) → (length seen ≡ 0 → row ≡ ordered o.one 0 0 ∷ []) → StartsWithOne o new
  starts-with-one old seen new x row s e n f own = subst (StartsWithOne o) (sym n) (first-kept old x f (λ none. e ∙ own (ap length s ∙ none)))

module _ {A : Type 0} where
  no_terms : (ts : List (Term A)) → length ts ≡ 0 → ts ≡ []
  no_terms [] l = refl
  no_terms (t ∷ ts) l = absurd (omega (arith, l))

  -- the terms of a layer's first wire are the row of the first node
  pub FirstIsRow : List ℕ → List ℕ → ℕ → List (List (Term A)) → ℕ → List (Term A) → Type 0
  FirstIsRow depths last level rows k terms = has_wire depths last level 0 ≡ true → 1 ≤ k → of_wire 0 terms ≡ map (placed 0) (row_at rows 0)

  pub first-none : (depths last : List ℕ) (level : ℕ) (rows : List (List (Term A))) → FirstIsRow depths last level rows 0 []
  unfolding FirstIsRow
  first-none depths last level rows up some = absurd (omega (arith, some))

  pub first-skips : (depths last : List ℕ) (level : ℕ) (rows : List (List (Term A))) (k : ℕ) (terms : List (Term A)) → has_wire depths last level k ≡ false → FirstIsRow depths last level rows k terms → FirstIsRow depths last level rows (suc k) terms
  unfolding FirstIsRow
  first-skips depths last level rows zero terms deep first up some = absurd (true≢false (sym up ∙ deep))
  first-skips depths last level rows (suc k) terms deep first up some = first up (omega arith)

  pub first-adds : (depths last : List ℕ) (level : ℕ) (rows : List (List (Term A))) (k wires : ℕ) (old new row : List (Term A)) → wires ≡ place_in depths last level k → length old ≡ lengths_in depths last level rows k → row ≡ row_at rows k → new ≡ old ++ map (placed wires) row
      → FirstIsRow depths last level rows k old → FirstIsRow depths last level rows (suc k) new
  unfolding FirstIsRow
  first-adds depths last level rows zero wires old new row w count is e first up some =
      ap (of_wire 0) (e ∙ ap (λ us. us ++ map (placed wires) row) (no_terms old count) ∙ ap (λ n. map (placed n) row) w) ∙ own-placed 0 row ∙ ap (map (placed 0)) is
  first-adds depths last level rows (suc k) wires old new row w count is e first up some =
      ap (of_wire 0) e ∙ own-before wires 0 old row (omega (arith, w, place-below depths last level 0 (suc k) (omega arith) up)) ∙ first up (omega arith)

module _ {A : Type 0} (o : Ops A) where
  pub has-one : (depths last : List ℕ) (level : ℕ) (rows : List (List (Term A))) (k : ℕ) (terms : List (Term A)) → at depths 0 ≡ 0 → level < at last 0 → length rows ≤ k → FirstIsRow depths last level rows k terms → StartsWithOne o rows → terms_of 0 terms ≡ (0, 0, o.one) ∷ []
  unfolding FirstIsRow
  has-one depths last level [] k terms z high l first one = absurd cc
  has-one depths last level (r ∷ rs) k terms z high l first one =
      ap (map (λ t. (t.a, t.b, t.coef))) (first (wire-there depths last level 0 (omega (arith, z)) high) (omega (arith, l)) ∙ ap (map (placed 0)) one)
