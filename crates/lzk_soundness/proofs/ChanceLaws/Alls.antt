-- Sums over lists that have everything, and pairs counted the other way round.
use Rattle.std.specs.Prelude.{◌≡◌, ◌≢◌, ◌⊎◌, ℕ, ◌≤◌, ◌+◌, ◌*◌, Bool, List, [], ◌∷◌, length, map, flat_map}
use Rattle.std.specs.List.{AllByRecursion}
use Rattle.std.proofs.Common.{suc, inl, inr, refl, sym, ap, ◌∙◌, arith, suc-mul}
use Rattle.lzk_soundness.specs.Chance.Few.{AreDistinct, IsIn, HasAll}
use Rattle.lzk_soundness.specs.Chance.Draws.{count}
use Rattle.lzk_soundness.specs.Chance.Sets.{count_pairs}
use Rattle.lzk_soundness.proofs.ChanceLaws.Counting.{count-append, count-map}

-- a function's values over a list, added up
abbrev pub added : {X : Type 0} → (X → ℕ) → List X → ℕ
added h [] = 0
added h (x ∷ xs) = h x + added h xs

pub added_more : {X : Type 0} (g h : X → ℕ) (xs : List X) → ((x : X) → g x ≤ h x) → added g xs ≤ added h xs
added_more g h [] more = omega arith
added_more g h (x ∷ xs) more = omega (arith, more x, added_more g h xs more)

added_map : {X Y : Type 0} (h : Y → ℕ) (f : X → Y) (xs : List X) → added h (map f xs) ≡ added (λ x. h (f x)) xs
added_map h f [] = refl
added_map h f (x ∷ xs) = ap (λ (n : ℕ). h (f x) + n) (added_map h f xs)

-- lists with a first entry are counted by it
pub fronts_added : {X : Type 0} (test : List X → Bool) (ts : List (List X)) (es : List X)
    → count test (flat_map (λ d. map (λ rest. d ∷ rest) ts) es) ≡ added (λ d. count (λ rest. test (d ∷ rest)) ts) es
fronts_added test ts [] = refl
fronts_added test ts (e ∷ es) =
    count-append test (map (λ rest. e ∷ rest) ts) (flat_map (λ d. map (λ rest. d ∷ rest) ts) es)
    ∙ omega (arith, count-map (λ rest. e ∷ rest) test ts, fronts_added test ts es)

-- ---- pairs

pairs_none : {X Y : Type 0} (test : X → Y → Bool) (xs : List X) → count_pairs test xs [] ≡ 0
pairs_none test [] = refl
pairs_none test (x ∷ xs) = omega (arith, pairs_none test xs)

pairs_next : {X Y : Type 0} (test : X → Y → Bool) (xs : List X) (y : Y) (ys : List Y) → count_pairs test xs (y ∷ ys) ≡ count (λ x. test x y) xs + count_pairs test xs ys
pairs_next test [] y ys = refl
pairs_next test (x ∷ xs) y ys = omega (arith, pairs_next test xs y ys)

pub pairs_turned : {X Y : Type 0} (test : X → Y → Bool) (xs : List X) (ys : List Y) → count_pairs test xs ys ≡ count_pairs (λ y x. test x y) ys xs
pairs_turned test xs [] = pairs_none test xs
pairs_turned test xs (y ∷ ys) = pairs_next test xs y ys ∙ ap (λ (n : ℕ). count (λ x. test x y) xs + n) (pairs_turned test xs ys)

pub pairs_most : {X Y : Type 0} (test : X → Y → Bool) (ys : List Y) (most : ℕ) (xs : List X) → AllByRecursion (λ x. count (test x) ys ≤ most) xs → count_pairs test xs ys ≤ length xs * most
pairs_most test ys most [] all = omega arith
pairs_most test ys most (x ∷ xs) all = omega (arith, all.0, pairs_most test ys most xs all.1, suc-mul (length xs) most)

pub pairs_least : {X Y : Type 0} (test : X → Y → Bool) (ys : List Y) (least : ℕ) (xs : List X) → AllByRecursion (λ x. least ≤ count (test x) ys) xs → length xs * least ≤ count_pairs test xs ys
pairs_least test ys least [] all = omega arith
pairs_least test ys least (x ∷ xs) all = omega (arith, all.0, pairs_least test ys least xs all.1, suc-mul (length xs) least)

-- ---- lists without an entry

abbrev pub pick : {P X : Type 0} → Dec P → X → X → X
pick (yes p) x y = x
pick (no n) x y = y

module _ {X : Type 0} (same : (x y : X) → Dec (x ≡ y)) where
  -- the list without the first entry that is this one
  abbrev pub without : X → List X → List X
  without z [] = []
  without z (x ∷ xs) = pick (same x z) xs (x ∷ without z xs)

  added_without : (h : X → ℕ) (z : X) (xs : List X) → IsIn z xs → added h (without z xs) + h z ≡ added h xs
  added_without h z [] is = absurd is
  added_without h z (x ∷ xs) is = go (same x z) is (added_without h z xs)
    where
      go : (d : Dec (x ≡ z)) → (x ≡ z) ⊎ IsIn z xs → (IsIn z xs → added h (without z xs) + h z ≡ added h xs) → added h (pick d xs (x ∷ without z xs)) + h z ≡ h x + added h xs
      go (yes e) is rest = omega (arith, ap h e)
      go (no n) (inl e) rest = absurd (n e)
      go (no n) (inr i) rest = omega (arith, rest i)

  in_without : (y z : X) (xs : List X) → y ≢ z → IsIn y xs → IsIn y (without z xs)
  in_without y z [] differ is = absurd is
  in_without y z (x ∷ xs) differ is = go (same x z) is (in_without y z xs differ)
    where
      go : (d : Dec (x ≡ z)) → (x ≡ y) ⊎ IsIn y xs → (IsIn y xs → IsIn y (without z xs)) → IsIn y (pick d xs (x ∷ without z xs))
      go (yes e) (inl f) rest = absurd (differ (sym f ∙ e))
      go (yes e) (inr i) rest = i
      go (no n) (inl f) rest = inl f
      go (no n) (inr i) rest = inr (rest i)

  all_without : (P : X → Type 0) (z : X) (xs : List X) → AllByRecursion P xs → AllByRecursion P (without z xs)
  all_without P z [] all = tt
  all_without P z (x ∷ xs) all = go (same x z) (all_without P z xs all.1)
    where
      go : (d : Dec (x ≡ z)) → AllByRecursion P (without z xs) → AllByRecursion P (pick d xs (x ∷ without z xs))
      go (yes e) rest = all.1
      go (no n) rest = (all.0, rest)

  pub distinct_without : (z : X) (xs : List X) → AreDistinct xs → AreDistinct (without z xs)
  distinct_without z [] d = tt
  distinct_without z (x ∷ xs) d = go (same x z) (all_without (λ y. x ≢ y) z xs d.0) (distinct_without z xs d.1)
    where
      go : (e : Dec (x ≡ z)) → AllByRecursion (λ y. x ≢ y) (without z xs) → AreDistinct (without z xs) → AreDistinct (pick e xs (x ∷ without z xs))
      go (yes e) all rest = d.1
      go (no n) all rest = (all, rest)

  differ_from : (x z : X) (ys : List X) → x ≡ z → AllByRecursion (λ y. x ≢ y) ys → AllByRecursion (λ y. y ≢ z) ys
  differ_from x z [] e all = tt
  differ_from x z (y ∷ ys) e all = ((λ f. all.0 (e ∙ sym f)), differ_from x z ys e all.1)

  -- in a list without repetition no other entry is this one
  pub none_without : (z : X) (xs : List X) → AreDistinct xs → AllByRecursion (λ y. y ≢ z) (without z xs)
  none_without z [] d = tt
  none_without z (x ∷ xs) d = go (same x z) (none_without z xs d.1)
    where
      go : (e : Dec (x ≡ z)) → AllByRecursion (λ y. y ≢ z) (without z xs) → AllByRecursion (λ y. y ≢ z) (pick e xs (x ∷ without z xs))
      go (yes e) rest = differ_from x z xs e d.0
      go (no n) rest = (n, rest)

  pub length_without : (z : X) (xs : List X) → IsIn z xs → length (without z xs) + 1 ≡ length xs
  length_without z [] is = absurd is
  length_without z (x ∷ xs) is = go (same x z) is (length_without z xs)
    where
      go : (d : Dec (x ≡ z)) → (x ≡ z) ⊎ IsIn z xs → (IsIn z xs → length (without z xs) + 1 ≡ length xs) → length (pick d xs (x ∷ without z xs)) + 1 ≡ suc (length xs)
      go (yes e) is rest = omega arith
      go (no n) (inl e) rest = absurd (n e)
      go (no n) (inr i) rest = omega (arith, rest i)

  not_among : (y : X) (xs : List X) → AllByRecursion (λ x. y ≢ x) xs → IsIn y xs → ⊥
  not_among y [] all is = absurd is
  not_among y (x ∷ xs) all (inl e) = absurd (all.0 (sym e))
  not_among y (x ∷ xs) all (inr i) = not_among y xs all.1 i

  -- entries of one list, without repetition in another, add up to no more
  pub added_most : (h : X → ℕ) (zs xs : List X) → AreDistinct zs → ((z : X) → IsIn z zs → IsIn z xs) → added h zs ≤ added h xs
  added_most h [] xs d inside = omega arith
  added_most h (z ∷ zs) xs d inside =
      let here : IsIn z xs = inside z (inl refl) in
      let rest = added_most h zs (without z xs) d.1 (λ y is. in_without y z xs (λ e. absurd (not_among z zs d.0 (moved y z zs e is))) (inside y (inr is))) in
      omega (arith, rest, added_without h z xs here)
    where
      moved : (y z : X) (ys : List X) → y ≡ z → IsIn y ys → IsIn z ys
      moved y z [] e is = absurd is
      moved y z (x ∷ xs) e (inl f) = inl (f ∙ e)
      moved y z (x ∷ xs) e (inr i) = inr (moved y z xs e i)

  map_apart : (f : X → X) → ((x y : X) → f x ≡ f y → x ≡ y) → (x : X) (xs : List X) → AllByRecursion (λ y. x ≢ y) xs → AllByRecursion (λ y. f x ≢ y) (map f xs)
  map_apart f one x [] all = tt
  map_apart f one x (y ∷ ys) all = ((λ e. all.0 (one x y e)), map_apart f one x ys all.1)

  map_distinct : (f : X → X) → ((x y : X) → f x ≡ f y → x ≡ y) → (xs : List X) → AreDistinct xs → AreDistinct (map f xs)
  map_distinct f one [] d = tt
  map_distinct f one (x ∷ xs) d = (map_apart f one x xs d.0, map_distinct f one xs d.1)

  -- of a list that has everything, each entry moved to another
  pub moved_most : (h : X → ℕ) (f : X → X) → ((x y : X) → f x ≡ f y → x ≡ y) → (xs : List X) → AreDistinct xs → HasAll xs → added (λ x. h (f x)) xs ≤ added h xs
  moved_most h f one xs d all = omega (arith, added_map h f xs, added_most h (map f xs) xs (map_distinct f one xs d) (λ z is. all z))
