-- The hash of a row's places.
use Rattle.std.specs.Prelude.{◌≡◌, ℕ, ◌+◌, ◌%◌, ◌^◌, ◌<◌, ◌≤◌, List, [], ◌∷◌, length, map, drop}
use Rattle.std.proofs.Common.{refl, sym, ap, ◌∙◌, get_or}
use Rattle.std.proofs.lemmas.List.{drop_more, drop_all}
use Rattle.lzk_circuit.specs.declared.layer.Term.{Term}
use Rattle.lzk_circuit_reduce.specs.Hash.{mixed, hash_from}
use Rattle.lzk_circuit_reduce.specs.Kept.{Place, place_of}

hash-none : (h : ℕ) → hash_from h [] ≡ h
unfolding hash_from
hash-none h = refl

hash-more : (h : ℕ) (p : Place) (ps : List Place) → hash_from h (p ∷ ps) ≡ hash_from (mixed (mixed (mixed h p.0) p.1) (p.2 % 2 ^ 64)) ps
unfolding hash_from
hash-more h p ps = refl

module _ {A : Type 0} (number_of : A → ℕ) (row : List (Term A)) where
  -- one term more
  pub hash-step : (i : ℕ) (t : Term A) (h x y z w : ℕ) → i < length row → t ≡ get_or row i t → x ≡ mixed h t.a → y ≡ mixed x t.b → z ≡ mixed y (number_of t.coef % 2 ^ 64)
      → hash_from h (map (place_of number_of) (drop i row)) ≡ w → hash_from z (map (place_of number_of) (drop (i + 1) row)) ≡ w
  hash-step i t h x y z w l is ex ey ez e =
      let rest = map (place_of number_of) (drop (i + 1) row) in
      ap (λ k. hash_from k rest) (ez ∙ ap (λ k. mixed k (number_of t.coef % 2 ^ 64)) (ey ∙ ap (λ k. mixed k t.b) ex)) ∙ sym (hash-more h (place_of number_of t) rest)
      ∙ ap (λ u. hash_from h (place_of number_of u ∷ rest)) is ∙ ap (λ us. hash_from h (map (place_of number_of) us)) (sym (drop_more row i t l)) ∙ e

  -- and at the end
  pub hash-ends : (i h w : ℕ) → length row ≤ i → hash_from h (map (place_of number_of) (drop i row)) ≡ w → h ≡ w
  hash-ends i h w l e = sym (hash-none h) ∙ ap (λ us. hash_from h (map (place_of number_of) us)) (sym (drop_all i row l)) ∙ e
