-- Lists that are made of other lists, entry by entry.
use Rattle.std.proofs.Common.{◌≡◌, ◌+◌, ◌<◌, ◌≤◌, ℕ, suc, List, [], ◌∷◌, ◌++◌, length, map, take, slice_index_or, sym, ap, ◌∙◌, arith}
use Rattle.std.proofs.Math.Seq.{take-suc}
use Rattle.std.proofs.lemmas.List.{map_push, take_all}

module _ {A B : Type 0} (f : A → B) (xs : List A) where
  -- one entry more
  pub mapped_more : (i : ℕ) (x d : A) (ys more : List B) (y : B) → i < length xs → ys ≡ map f (take i xs) → x ≡ slice_index_or xs i d → y ≡ f x → more ≡ ys ++ y ∷ [] → more ≡ map f (take (i + 1) xs)
  mapped_more i x d ys more y less so_far is made put =
      let next : suc i ≡ i + 1 = omega arith in
      put ∙ ap (λ zs. zs ++ y ∷ []) so_far ∙ ap (λ z. map f (take i xs) ++ z ∷ []) (made ∙ ap f is) ∙ sym (map_push f (take i xs) (slice_index_or xs i d)) ∙ ap (map f) (sym (take-suc xs i d less)) ∙ ap (λ n. map f (take n xs)) next

  -- all entries
  pub mapped_all : (i : ℕ) (ys : List B) → length xs ≤ i → ys ≡ map f (take i xs) → ys ≡ map f xs
  mapped_all i ys done so_far = so_far ∙ ap (map f) (take_all i xs done)
