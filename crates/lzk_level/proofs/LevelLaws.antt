-- Where nodes stand in a level.
use Rattle.std.specs.Prelude.{◌≡◌, ℕ, ◌+◌, ◌<◌, ◌≤◌, nat_le, nat_lt, cond, true, false, Bool, List, [], ◌∷◌, ◌++◌, length}
use Rattle.std.proofs.Common.{zero, suc, ◌⊎◌, inl, inr, sym, ap, ◌∙◌, arith, subst}
use Rattle.std.proofs.lemmas.Bool.{cases_lt, leb-true, ltb-true, le-leb, lt-ltb, and_from, and_parts}
use Rattle.lzk_circuit_reduce.specs.Renumbering.{at}
use Rattle.lzk_circuit.specs.declared.layer.Term.{Term}
use Rattle.lzk_level.specs.Levels.{has_wire}
use Rattle.lzk_level.proofs.Unshared.{place_in, row_at}

-- when a node has a wire
pub wire-there : (depths last : List ℕ) (level k : ℕ) → at depths k ≤ level → level < at last k → has_wire depths last level k ≡ true
wire-there depths last level k d l = and_from (nat_le (at depths k) level) (nat_lt level (at last k)) (le-leb (at depths k) level d) (lt-ltb level (at last k) l)

pub wire-no-deeper : (depths last : List ℕ) (level k : ℕ) → has_wire depths last level k ≡ true → at depths k ≤ level
wire-no-deeper depths last level k h = leb-true (at depths k) level (and_parts (nat_le (at depths k) level) (nat_lt level (at last k)) h).0

pub wire-needed : (depths last : List ℕ) (level k : ℕ) → has_wire depths last level k ≡ true → level < at last k
wire-needed depths last level k h = ltb-true level (at last k) (and_parts (nat_le (at depths k) level) (nat_lt level (at last k)) h).1

one_at_most : (b : Bool) → cond b 1 0 ≤ 1
one_at_most true = omega arith
one_at_most false = omega arith

pub place-most : (depths last : List ℕ) (level k : ℕ) → place_in depths last level k ≤ k
place-most depths last level zero = omega arith
place-most depths last level (suc k) = omega (arith, one_at_most (has_wire depths last level k), place-most depths last level k)

pub place-more : (depths last : List ℕ) (level k n : ℕ) → k ≤ n → place_in depths last level k ≤ place_in depths last level n
place-more depths last level k zero l = let e : k ≡ 0 = omega arith in subst (λ i. place_in depths last level i ≤ 0) (sym e) (omega arith)
place-more depths last level k (suc n) l = elim (le_cases k n l) [
  | inl m ↦ omega (arith, place-more depths last level k n m)
  | inr e ↦ subst (λ i. place_in depths last level i ≤ place_in depths last level (suc n)) (sym e) (omega arith)
]
  where
    le_cases : (k n : ℕ) → k ≤ suc n → (k ≤ n) ⊎ (k ≡ suc n)
    le_cases k n l = elim (cases_lt n k) [ inl m ↦ inr (omega (arith, l, m)) | inr m ↦ inl m ]

-- a node with a wire stands before those behind it
pub place-step : (depths last : List ℕ) (level k : ℕ) → has_wire depths last level k ≡ true → place_in depths last level (suc k) ≡ suc (place_in depths last level k)
place-step depths last level k l = ap (λ b. cond b 1 0 + place_in depths last level k) l ∙ omega arith

pub place-below : (depths last : List ℕ) (level k n : ℕ) → k < n → has_wire depths last level k ≡ true → place_in depths last level k < place_in depths last level n
place-below depths last level k n l d = omega (arith, place-step depths last level k d, place-more depths last level (suc k) n l)

module _ {A : Type 0} where
  -- one more row
  pub row-more : (P : ℕ → List (Term A) → Type 0) (rows : List (List (Term A))) (row : List (Term A)) → ((k : ℕ) → k < length rows → P k (row_at rows k)) → P (length rows) row
      → (k : ℕ) → k < length (rows ++ row ∷ []) → P k (row_at (rows ++ row ∷ []) k)
  row-more P [] row f p zero l = p
  row-more P [] row f p (suc k) l = absurd (omega (arith, l))
  row-more P (r ∷ rs) row f p zero l = f 0 (omega arith)
  row-more P (r ∷ rs) row f p (suc k) l = row-more (λ i. P (suc i)) rs row (λ i m. f (suc i) (omega (arith, m))) p k (omega (arith, l))
