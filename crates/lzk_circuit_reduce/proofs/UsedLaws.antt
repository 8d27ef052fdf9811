-- The terms of marked wires, term by term.
use Rattle.std.specs.Prelude.{◌≡◌, ℕ, ◌+◌, ◌<◌, ◌≤◌, true, false, Bool, List, [], ◌∷◌, ◌++◌, length, map, drop}
use Rattle.std.proofs.Common.{sym, ap, ◌∙◌, arith, get_or}
use Rattle.std.specs.List.{range_with_len}
use Rattle.std.proofs.lemmas.Bool.{cond-true, cond-false}
use Rattle.std.proofs.lemmas.List.{ext_get_or, drop_more, drop_all, append_assoc, append-nil}
use Rattle.std.proofs.lemmas.List.FromFn.{length-map-range_with_len, get_or-map-range_with_len}
use Rattle.lzk_circuit.specs.declared.layer.Term.{Term}
use Rattle.lzk_circuit_reduce.specs.Renumbering.{at}
use Rattle.lzk_circuit_reduce.specs.Marks.{is_marked, marked_before, AreMarkedPlaces}
use Rattle.lzk_circuit_reduce.specs.Used.{numbered_term, used_term, used_terms}

pub marks-as : (f : ℕ → Bool) (count : ℕ) (marks : List Bool) → length marks ≡ count → ((k : ℕ) → k < count → is_marked marks k ≡ f k) → marks ≡ map f (range_with_len 0 count)
marks-as f count marks e h =
    ext_get_or false marks (map f (range_with_len 0 count)) (e ∙ sym (length-map-range_with_len f 0 count))
    (λ k l. h k (omega (arith, l, e)) ∙ sym (get_or-map-range_with_len f 0 count k k false (omega (arith, l, e)) (omega arith)))

module _ {A : Type 0} where
  pub numbered-used : (marks below : List Bool) (above_places below_places : List ℕ) (t : Term A) → AreMarkedPlaces marks above_places → AreMarkedPlaces below below_places
      → t.g < length marks → t.a < length below → t.b < length below → numbered_term above_places below_places t ≡ used_term marks below t
  numbered-used marks below above_places below_places t p q g a b =
      ap (λ n. record { g = n; a = at below_places t.a; b = at below_places t.b; coef = t.coef }) (p.1 t.g g)
      ∙ ap (λ n. record { g = marked_before marks t.g; a = n; b = at below_places t.b; coef = t.coef }) (q.1 t.a a)
      ∙ ap (λ n. record { g = marked_before marks t.g; a = marked_before below t.a; b = n; coef = t.coef }) (q.1 t.b b)

  -- a term of a marked wire
  pub used-marked : (marks below : List Bool) (ts kept all : List (Term A)) (t : Term A) (i : ℕ) (d : Term A) → i < length ts → is_marked marks (get_or ts i d).g ≡ true → t ≡ used_term marks below (get_or ts i d)
      → kept ++ used_terms marks below (drop i ts) ≡ all → (kept ++ t ∷ []) ++ used_terms marks below (drop (i + 1) ts) ≡ all
  used-marked marks below ts kept all t i d l m e h =
      let rest = used_terms marks below (drop (i + 1) ts) in
      append_assoc kept (t ∷ []) rest
      ∙ ap (λ x. kept ++ x ∷ rest) e
      ∙ ap (λ xs. kept ++ xs) (sym (cond-true (is_marked marks (get_or ts i d).g) (used_term marks below (get_or ts i d) ∷ rest) rest m))
      ∙ ap (λ xs. kept ++ used_terms marks below xs) (sym (drop_more ts i d l)) ∙ h

  -- and one of another
  pub used-unmarked : (marks below : List Bool) (ts kept all : List (Term A)) (i : ℕ) (d : Term A) → i < length ts → is_marked marks (get_or ts i d).g ≡ false
      → kept ++ used_terms marks below (drop i ts) ≡ all → kept ++ used_terms marks below (drop (i + 1) ts) ≡ all
  used-unmarked marks below ts kept all i d l m h =
      let rest = used_terms marks below (drop (i + 1) ts) in
      ap (λ xs. kept ++ xs) (sym (cond-false (is_marked marks (get_or ts i d).g) (used_term marks below (get_or ts i d) ∷ rest) rest m))
      ∙ ap (λ xs. kept ++ used_terms marks below xs) (sym (drop_more ts i d l)) ∙ h

  pub used-all : (marks below : List Bool) (ts kept all : List (Term A)) (i : ℕ) → length ts ≤ i → kept ++ used_terms marks below (drop i ts) ≡ all → kept ≡ all
  used-all marks below ts kept all i l h = sym (append-nil kept) ∙ ap (λ xs. kept ++ used_terms marks below xs) (sym (drop_all i ts l)) ∙ h
