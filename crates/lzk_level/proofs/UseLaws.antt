-- What stays used as more is.
use Rattle.std.specs.Prelude.{◌≡◌, ℕ, ◌+◌, ◌-◌, ◌<◌, ◌≤◌, List, length, take, replicate}
use Rattle.std.proofs.Common.{zero, suc, slice_set, inl, inr, refl, sym, ap, arith, subst, get_or}
use Rattle.std.proofs.lemmas.Bool.{cases_lt}
use Rattle.std.proofs.lemmas.List.Elements.{All-weaker, All-more}
use Rattle.lzk_circuit.specs.declared.layer.Term.{Term}
use Rattle.lzk_circuit_reduce.specs.Renumbering.{at}
use Rattle.lzk_level.specs.declared.forms.Forms.{Forms}
use Rattle.lzk_level.specs.Forms.{form_at}
use Rattle.lzk_level.specs.Uses.{node_form, IsBefore, AreBefore, IsUsedTo, AreUsedTo}

-- no number is less than it was
abbrev pub AreGrown : List ℕ → List ℕ → Type 0
AreGrown old new = (k : ℕ) → at old k ≤ at new k

-- each node is used at the first level, and the first up to another
pub uses-start : (n count k : ℕ) → 1 ≤ count → k < n → 1 ≤ at (slice_set (replicate n 1) 0 count) k
uses-start zero count k some l = absurd (omega (arith, l))
uses-start (suc n) count zero some l = some
uses-start (suc n) count (suc k) some l = ones n k (omega (arith, l))
  where
    ones : (n k : ℕ) → k < n → 1 ≤ at (replicate n 1) k
    ones zero k l = absurd (omega (arith, l))
    ones (suc n) zero l = omega arith
    ones (suc n) (suc k) l = ones n k (omega (arith, l))

pub uses-first : (n count : ℕ) → 1 ≤ n → at (slice_set (replicate n 1) 0 count) 0 ≡ count
uses-first zero count l = absurd (omega (arith, l))
uses-first (suc n) count l = refl

module _ {A : Type 0} where
  -- the form of a made node, by the node's number
  pub form-is : (inputs i : ℕ) (forms : Forms A) → form_at forms.starts.items forms.terms.items i ≡ node_form inputs forms (inputs + i)
  form-is inputs i forms = let back : i ≡ inputs + i - inputs = omega arith in ap (form_at forms.starts.items forms.terms.items) back

  pub before-later : (k n : ℕ) (ts : List (Term A)) → k ≤ n → AreBefore k ts → AreBefore n ts
  before-later k n ts l h = All-weaker (IsBefore k) (IsBefore n) (λ t b. (omega (arith, b.0, l), omega (arith, b.1, l))) ts h

  pub uses-stay : (old new : List ℕ) (level : ℕ) (ts : List (Term A)) → AreGrown old new → AreUsedTo old level ts → AreUsedTo new level ts
  uses-stay old new level ts g h = All-weaker (IsUsedTo old level) (IsUsedTo new level) (λ t u. (omega (arith, u.0, g t.a), omega (arith, u.1, g t.b))) ts h

  -- one term more
  pub uses-next : (old new : List ℕ) (level : ℕ) (ts : List (Term A)) (i : ℕ) (t : Term A) → i < length ts → t ≡ get_or ts i t → AreGrown old new → level ≤ at new t.a → level ≤ at new t.b → AreUsedTo old level (take i ts) → AreUsedTo new level (take (i + 1) ts)
  uses-next old new level ts i t l e g a b h =
      let here : IsUsedTo new level t = (a, b) in
      All-more (IsUsedTo new level) ts i t l (uses-stay old new level (take i ts) g h) (subst (IsUsedTo new level) e here)

  -- a term's nodes are before those that all of the terms are before
  pub term-before : (n : ℕ) (ts : List (Term A)) (i : ℕ) (t : Term A) → i < length ts → t ≡ get_or ts i t → AreBefore n ts → IsBefore n t
  term-before n ts i t l e h = subst (IsBefore n) (sym e) (h i t l)

  -- the forms of the nodes from the last one down to a place use their nodes
  pub AreServed : (ℕ → List (Term A)) → List ℕ → List ℕ → ℕ → Type 0
  AreServed form depths last from = (k : ℕ) → from ≤ k → k < length depths → at depths k ≤ at last k → AreUsedTo last (at depths k) (form k)

  pub none-served : (form : ℕ → List (Term A)) (depths last : List ℕ) (from : ℕ) → length depths ≤ from → AreServed form depths last from
  unfolding AreServed
  none-served form depths last from l k m n = absurd (omega (arith, l, m, n))

  -- a form uses nodes before its own, and none behind it
  pub serves-next : (form : ℕ → List (Term A)) (depths old new : List ℕ) (k from : ℕ) → from ≡ k + 1 → AreGrown old new → ((j : ℕ) → k ≤ j → at new j ≡ at old j) → (at depths k ≤ at new k → AreUsedTo new (at depths k) (form k))
      → AreServed form depths old from → AreServed form depths new k
  unfolding AreServed
  serves-next form depths old new k from e g same own h j l m up = elim (cases_lt k j) [
    | inl behind ↦ uses-stay old new (at depths j) (form j) g (h j (omega (arith, behind, e)) m (omega (arith, up, same j (omega (arith, behind)))))
    | inr first ↦
        let is : k ≡ j = omega (arith, l, first) in
        subst (λ n. AreUsedTo new (at depths n) (form n)) is (own (omega (arith, up, ap (at depths) is, ap (at new) is)))
  ]

  pub all-served : (form : ℕ → List (Term A)) (depths last : List ℕ) (inputs from : ℕ) → from ≤ inputs → AreServed form depths last from
      → (k : ℕ) → inputs ≤ k → k < length depths → at depths k ≤ at last k → AreUsedTo last (at depths k) (form k)
  unfolding AreServed
  all-served form depths last inputs from z h k l m up = h k (omega (arith, z, l)) m up
