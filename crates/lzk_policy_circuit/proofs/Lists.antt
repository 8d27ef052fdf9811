-- Parts of lists.
use Rattle.std.proofs.Common.{◌≡◌, ℕ, ◌+◌, ◌<◌, ◌≤◌, List, [], ◌∷◌, ◌++◌, length, take, drop, map, zero, suc, refl, sym, ap, ◌∙◌, arith, get_or, get_or-take, append_assoc}
use Rattle.std.specs.List.{range_with_len}
use Rattle.std.proofs.lemmas.List.{get_or_append_left, length-take-le}
use Rattle.std.proofs.lemmas.List.FromFn.{map-range_with_len_more}
use Rattle.std.proofs.Math.Seq.{take-append_seam}

module _ {A : Type 0} where
  pub drop_seam : (xs ys : List A) → drop (length xs) (xs ++ ys) ≡ ys
  drop_seam [] ys = refl
  drop_seam (x ∷ xs) ys = drop_seam xs ys

  pub drop_front : (n : ℕ) (xs ys : List A) → n ≡ length xs → drop n (xs ++ ys) ≡ ys
  drop_front n xs ys e = ap (λ k. drop k (xs ++ ys)) e ∙ drop_seam xs ys

  pub take_front : (n : ℕ) (xs ys : List A) → n ≡ length xs → take n (xs ++ ys) ≡ xs
  take_front n xs ys e = ap (λ k. take k (xs ++ ys)) e ∙ take-append_seam xs ys

  of_nothing : (n : ℕ) → drop {A = A} n [] ≡ []
  of_nothing zero = refl
  of_nothing (suc n) = refl

  pub drop_twice : (a b : ℕ) (xs : List A) → drop b (drop a xs) ≡ drop (a + b) xs
  drop_twice a b [] = ap (drop b) (of_nothing a) ∙ of_nothing b ∙ sym (of_nothing (a + b))
  drop_twice zero b (x ∷ xs) = let e : 0 + b ≡ b = omega arith in ap (λ n. drop n (x ∷ xs)) (sym e)
  drop_twice (suc a) b (x ∷ xs) =
      let e : suc a + b ≡ suc (a + b) = omega arith in drop_twice a b xs ∙ ap (λ n. drop n (x ∷ xs)) (sym e)

  pub front_at : (d : A) (n i : ℕ) (xs ys : List A) → n ≤ length xs → i < n → get_or (take n xs ++ ys) i d ≡ get_or xs i d
  front_at d n i xs ys le lt =
      let long = length-take-le n xs le in
      get_or_append_left (take n xs) ys d i (omega (arith, long, lt)) ∙ get_or-take n xs i d lt

map_same : (xs : List ℕ) → map (λ x. x) xs ≡ xs
map_same [] = refl
map_same (x ∷ xs) = ap (λ l. x ∷ l) (map_same xs)

-- one place more in a row
pub row_more : (a k : ℕ) (before old new : List ℕ) (next : ℕ) → old ≡ before ++ range_with_len a k → new ≡ old ++ next ∷ [] → next ≡ a + k → new ≡ before ++ range_with_len a (k + 1)
row_more a k before old new next eo en e =
    let more : range_with_len a (k + 1) ≡ range_with_len a k ++ (a + k) ∷ [] =
    sym (map_same (range_with_len a (k + 1))) ∙ map-range_with_len_more (λ x. x) a k (a + k) refl ∙ ap (λ l. l ++ (a + k) ∷ []) (map_same (range_with_len a k)) in
    en ∙ (λ i. eo i ++ e i ∷ []) ∙ append_assoc before (range_with_len a k) ((a + k) ∷ []) ∙ ap (λ l. before ++ l) (sym more)
