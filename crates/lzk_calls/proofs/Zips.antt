-- Two lists whose items go together, place by place.
use Rattle.std.proofs.Common.{◌≡◌, ℕ, ◌+◌, ◌<◌, ◌≤◌, List, [], ◌∷◌, ◌++◌, length, take, get_or, set, sym, subst, refl, ◌∙◌, arith}
use Rattle.std.specs.List.{AllZip}
use Rattle.std.proofs.lemmas.List.{take_more, take_more_set, take_all, length-set, get_or-set_other}
use Rattle.std.proofs.lemmas.List.Elements.{AllZip-push}

pub zip-weaken : {A B : Type 0} (R S : A → B → Type 0) → ((x : A) (y : B) → R x y → S x y) → (xs : List A) (ys : List B) → AllZip R xs ys → AllZip S xs ys
zip-weaken R S f [] [] h = h
zip-weaken R S f [] (y ∷ ys) h = absurd h
zip-weaken R S f (x ∷ xs) [] h = absurd h
zip-weaken R S f (x ∷ xs) (y ∷ ys) h = (f x y h.0, zip-weaken R S f xs ys h.1)

-- of the items of a list, the first i were exchanged, each for one that goes with it
pub record IsDone {A : Type 0} (R : A → A → Type 0) (i : ℕ) (old new : List A) : Type 0 where
  pub long : length new ≡ length old
  pub front : AllZip R (take i old) (take i new)
  pub back : (k : ℕ) (d : A) → i ≤ k → get_or new k d ≡ get_or old k d

pub done-start : {A : Type 0} (R : A → A → Type 0) (xs : List A) → IsDone R 0 xs xs
done-start R xs = record { long = refl; front = tt; back = λ k d h. refl }

pub done-end : {A : Type 0} (R : A → A → Type 0) (i : ℕ) (xs ys : List A) → IsDone R i xs ys → length ys ≤ i → AllZip R xs ys
done-end R i xs ys h end =
    subst (λ zs. AllZip R zs ys) (take_all i xs (omega (arith, h.long)))
    (subst (λ zs. AllZip R (take i xs) zs) (take_all i ys (omega arith)) h.front)

pub done-step : {A : Type 0} (R : A → A → Type 0) (i : ℕ) (xs ys : List A) (y d : A) → i < length xs → R (get_or xs i d) y → IsDone R i xs ys → IsDone R (i + 1) xs (set ys i y)
done-step R i xs ys y d lt r h =
    let within : i < length ys = omega (arith, h.long) in
    record {
      long = length-set ys i y ∙ h.long;
      front =
          subst (λ zs. AllZip R zs (take (i + 1) (set ys i y))) (sym (take_more xs i d lt))
          (subst (λ zs. AllZip R (take i xs ++ get_or xs i d ∷ []) zs) (sym (take_more_set ys i y within)) (AllZip-push R (take i xs) (take i ys) (get_or xs i d) y h.front r));
      back = λ k e le. get_or-set_other ys i k y e (omega (arith, le)) ∙ h.back k e (omega (arith, le));
    }
