-- All answers of an oracle, counted by their elements and columns.
use Rattle.std.specs.Prelude.{◌≡◌, ℕ, ◌+◌, ◌*◌, ◌<◌, ◌≤◌, ◌||◌, Bool, true, false, cond, List, [], ◌∷◌, length, map, flat_map}
use Rattle.std.specs.List.{AllByRecursion}
use Rattle.std.proofs.Common.{refl, sym, ap, ◌∙◌, arith, add-mul, zero-mul, suc-mul, length-append}
use Rattle.std.proofs.lemmas.Bool.{false≢true}
use Rattle.std.proofs.lemmas.List.{length-map}
use native.Mathlib.Decide.{ℕ_discrete}
use Rattle.lzk_soundness.specs.Chance.Draws.{count}
use Rattle.lzk_soundness.specs.Chance.Sets.{count_pairs}
use Rattle.lzk_soundness.proofs.ChanceLaws.Counting.{count-most, count-append, count-map}
use Rattle.lzk_soundness.proofs.OracleLaws.Queries.{same_list}
use Rattle.lzk_soundness.proofs.CountLaws.Fronts.{some_pass}
use Rattle.lzk_soundness.specs.Forger.Questions.{Start, Reply}

-- a reply of two parts
abbrev pub both_parts : {A : Type 0} → List A → List ℕ → Reply A
both_parts xs s = record { elements = xs; columns = s }

module _ {A : Type 0} (test : Reply A → Bool) (sets : List (List ℕ)) where
  pub count-replies : (xs : List (List A)) → count test (flat_map (λ x. map (λ s. both_parts x s) sets) xs) ≡ count_pairs (λ x s. test (both_parts x s)) xs sets
  count-replies [] = refl
  count-replies (x ∷ xs) =
      count-append test (map (λ s. both_parts x s) sets) (flat_map (λ x. map (λ s. both_parts x s) sets) xs)
      ∙ omega (arith, count-map (λ s. both_parts x s) test sets, count-replies xs)

pub length-replies : {A : Type 0} (sets : List (List ℕ)) (xs : List (List A)) → length (flat_map (λ x. map (λ s. both_parts x s) sets) xs) ≡ length xs * length sets
length-replies sets [] = omega (arith, zero-mul (length sets))
length-replies sets (x ∷ xs) =
    length-append (map (λ s. both_parts x s) sets) (flat_map (λ x. map (λ s. both_parts x s) sets) xs)
    ∙ omega (arith, length-map sets (λ s. both_parts x s), length-replies sets xs, add-mul 1 (length xs) (length sets))

-- pairs of which each first part has few seconds
pub pairs_by : {X Y : Type 0} (test : X → Y → Bool) (ys : List Y) (by most : ℕ) (xs : List X) → AllByRecursion (λ x. count (test x) ys * by ≤ most) xs → count_pairs test xs ys * by ≤ length xs * most
pairs_by test ys by most [] all = omega (arith, zero-mul by, zero-mul most)
pairs_by test ys by most (x ∷ xs) all = omega (arith, all.0, pairs_by test ys by most xs all.1, add-mul (count (test x) ys) (count_pairs test xs ys) by, suc-mul (length xs) most)

-- pairs of few first parts
pub pairs_front : {X Y : Type 0} (test : X → Y → Bool) (ys : List Y) (xs : List X) → count_pairs test xs ys ≤ count (λ x. some_pass (test x) ys) xs * length ys
pairs_front test ys [] = omega (arith, zero-mul (length ys))
pairs_front {X} {Y} test ys (x ∷ xs) = omega (arith, one (some_pass (test x) ys) refl, pairs_front test ys xs, add-mul (cond (some_pass (test x) ys) 1 0) (count (λ x. some_pass (test x) ys) xs) (length ys))
  where
    none : (zs : List Y) → some_pass (test x) zs ≡ false → count (test x) zs ≤ 0
    none [] is = omega arith
    none (z ∷ zs) is = go (test x z) is (none zs)
      where
        go : (b : Bool) → (b || some_pass (test x) zs) ≡ false → (some_pass (test x) zs ≡ false → count (test x) zs ≤ 0) → cond b 1 0 + count (test x) zs ≤ 0
        go true is rest = absurd (false≢true (sym is))
        go false is rest = omega (arith, rest is)

    one : (b : Bool) → some_pass (test x) ys ≡ b → count (test x) ys ≤ cond b 1 0 * length ys
    one true is = omega (arith, count-most (test x) ys)
    one false is = omega (arith, none ys is)

-- some entry passes, so there is one
pub some_is : {X : Type 0} (test : X → Bool) (xs : List X) → some_pass test xs ≡ true → (x : X) × (test x ≡ true)
some_is test [] is = absurd (false≢true is)
some_is {X} test (x ∷ xs) is = go (test x) refl is (some_is test xs)
  where
    go : (b : Bool) → test x ≡ b → (b || some_pass test xs) ≡ true → (some_pass test xs ≡ true → (x : X) × (test x ≡ true)) → (x : X) × (test x ≡ true)
    go true here is rest = (x, here)
    go false not is rest = rest is

pub counted_is : {X : Type 0} (test : X → Bool) (xs : List X) → 0 < count test xs → (x : X) × (test x ≡ true)
counted_is test [] h = absurd (omega (arith, h))
counted_is {X} test (x ∷ xs) h = go (test x) refl h (counted_is test xs)
  where
    go : (b : Bool) → test x ≡ b → 0 < cond b 1 0 + count test xs → (0 < count test xs → (x : X) × (test x ≡ true)) → (x : X) × (test x ≡ true)
    go true here more rest = (x, here)
    go false not more rest = rest (omega (arith, more))

-- ---- telling them apart

pub same_reply : {A : Type 0} → ((x y : A) → Dec (x ≡ y)) → (x y : Reply A) → Dec (x ≡ y)
same_reply {A} same x y = both (same_list same x.elements y.elements) (same_list ℕ_discrete x.columns y.columns)
  where
    both : Dec (x.elements ≡ y.elements) → Dec (x.columns ≡ y.columns) → Dec (x ≡ y)
    both (yes p) (yes q) = yes (ap (λ xs. both_parts xs x.columns) p ∙ ap (both_parts y.elements) q)
    both (no n) q = no (λ e. n (ap (λ (r : Reply A). r.elements) e))
    both (yes p) (no n) = no (λ e. n (ap (λ (r : Reply A). r.columns) e))

abbrev make : {A : Type 0} → List ℕ → List A → List A → Start A
make a b c = record { session = a; public = b; table = c }

pub same_start : {A : Type 0} → ((x y : A) → Dec (x ≡ y)) → (x y : Start A) → Dec (x ≡ y)
same_start {A} same x y = three (same_list ℕ_discrete x.session y.session) (same_list same x.public y.public) (same_list same x.table y.table)
  where
    three : Dec (x.session ≡ y.session) → Dec (x.public ≡ y.public) → Dec (x.table ≡ y.table) → Dec (x ≡ y)
    three (yes p) (yes q) (yes r) = yes (ap (λ a. make a x.public x.table) p ∙ ap (λ b. make y.session b x.table) q ∙ ap (make y.session y.public) r)
    three (no n) q r = no (λ e. n (ap (λ (s : Start A). s.session) e))
    three (yes p) (no n) r = no (λ e. n (ap (λ (s : Start A). s.public) e))
    three (yes p) (yes q) (no n) = no (λ e. n (ap (λ (s : Start A). s.table) e))
