-- Marks, term by term.
use Rattle.std.specs.Prelude.{◌≡◌, ℕ, ◌+◌, ◌<◌, ◌==◌, ◌&&◌, ◌||◌, true, false, Bool, List, [], ◌∷◌, length, drop}
use Rattle.std.proofs.Common.{zero, suc, refl, sym, ap, ◌∙◌, arith, get_or}
use Rattle.lzk_circuit.specs.declared.layer.Term.{Term}
use Rattle.lzk_circuit_reduce.specs.Marks.{is_marked, names}

or_shift : (x p q : Bool) → ((x || p) || q) ≡ (x || (p || q))
or_shift true p q = refl
or_shift false p q = refl

module _ {A : Type 0} where
  names-drop : (marks : List Bool) (ts : List (Term A)) (i : ℕ) (d : Term A) (k : ℕ) → i < length ts
      → names marks (drop i ts) k ≡ ((is_marked marks (get_or ts i d).g && (((get_or ts i d).a == k) || ((get_or ts i d).b == k))) || names marks (drop (i + 1) ts) k)
  names-drop marks [] i d k l = absurd (omega (arith, l))
  names-drop marks (t ∷ ts) zero d k l = refl
  names-drop marks (t ∷ ts) (suc i) d k l =
      let e : suc i + 1 ≡ suc (i + 1) = omega arith in
      names-drop marks ts i d k (omega (arith, l)) ∙ ap (λ n. (is_marked marks (get_or ts i d).g && (((get_or ts i d).a == k) || ((get_or ts i d).b == k))) || names marks (drop n (t ∷ ts)) k) (sym e)

  -- a term of a marked wire
  pub names-marked : (marks : List Bool) (ts : List (Term A)) (i : ℕ) (d : Term A) (k : ℕ) (x : Bool) → i < length ts → is_marked marks (get_or ts i d).g ≡ true
      → ((x || (((get_or ts i d).a == k) || ((get_or ts i d).b == k))) || names marks (drop (i + 1) ts) k) ≡ (x || names marks (drop i ts) k)
  names-marked marks ts i d k x l m =
      or_shift x (((get_or ts i d).a == k) || ((get_or ts i d).b == k)) (names marks (drop (i + 1) ts) k)
      ∙ ap (λ p. x || ((p && (((get_or ts i d).a == k) || ((get_or ts i d).b == k))) || names marks (drop (i + 1) ts) k)) (sym m) ∙ ap (λ q. x || q) (sym (names-drop marks ts i d k l))

  -- and one of another
  pub names-unmarked : (marks : List Bool) (ts : List (Term A)) (i : ℕ) (d : Term A) (k : ℕ) (x : Bool) → i < length ts → is_marked marks (get_or ts i d).g ≡ false
      → (x || names marks (drop (i + 1) ts) k) ≡ (x || names marks (drop i ts) k)
  names-unmarked marks ts i d k x l m =
      ap (λ p. x || ((p && (((get_or ts i d).a == k) || ((get_or ts i d).b == k))) || names marks (drop (i + 1) ts) k)) (sym m) ∙ ap (λ q. x || q) (sym (names-drop marks ts i d k l))
