-- A list that has each number below n once weighs what these numbers weigh, whatever a number weighs.
use Rattle.std.proofs.Common.{All, length, ◌≡◌, ℕ, zero, suc, ◌+◌, ◌-◌, ◌<◌, ◌≤◌, ◌==◌, cond, List, [], ◌∷◌, ◌++◌, refl, sym, ap, ◌∙◌, inl, inr, arith}
use Rattle.std.specs.Prelude.{sum_by, flat_map, nat_le, slice_index_or}
use Rattle.std.proofs.lemmas.Bool.{cases_lt, cases_eq, eq-eqb, ne_eqb, le-ltb, le-leb, lt-leb}
use Rattle.std.proofs.lemmas.Bool.Decides.{nat_tests}
use Rattle.std.proofs.lemmas.List.Elements.{All-head, All-tail}
use Rattle.std.proofs.lemmas.List.Sums.{sum_by-cons, sum_by-append}
use Rattle.lzk_batch.specs.Tickets.{times, once_below, HasEachBelowOnce, late, most_jobs}

-- 1 for this number
abbrev pub mark : ℕ → ℕ → ℕ
mark x y = cond (y == x) 1 0

-- 1 for a number past all jobs
abbrev pub late_mark : ℕ → ℕ
late_mark x = cond (nat_le most_jobs x) 1 0

-- the weights of the numbers below n, added up
abbrev pub sum_below : (ℕ → ℕ) → ℕ → ℕ
sum_below h zero = 0
sum_below h (suc n) = sum_below h n + h n

once_more : (n x : ℕ) → once_below (suc n) x ≡ once_below n x + mark x n
once_more n x = grind (arith, nat_tests)

mark_self : (x : ℕ) → mark x x ≡ 1
mark_self x = rw (eq-eqb x x refl) refl

pub times-append : (x : ℕ) (xs ys : List ℕ) → times x (xs ++ ys) ≡ times x xs + times x ys
times-append x xs ys = sum_by-append (mark x) xs ys

times-cons : (x y : ℕ) (ys : List ℕ) → times x (y ∷ ys) ≡ mark x y + times x ys
times-cons x y ys = sum_by-cons (mark x) y ys

-- a list that has a number is made of what stands before it, it, and what stands behind
split_at : (x : ℕ) (xs : List ℕ) → 0 < times x xs → (ys : List ℕ) × (zs : List ℕ) × (xs ≡ ys ++ x ∷ zs)
split_at x [] h = absurd (omega arith)
split_at x (y ∷ xs) h = elim (cases_eq y x) [
  | inl e ↦ ([], xs, ap (λ z. z ∷ xs) e)
  | inr other ↦
      let no : mark x y ≡ 0 = rw (ne_eqb y x other) refl in
      let rest = split_at x xs (omega (arith, times-cons x y xs, no, h)) in
      (y ∷ rest.0, rest.1, ap (λ zs. y ∷ zs) rest.2)
]

pub weighs_below : (h : ℕ → ℕ) (n : ℕ) (xs : List ℕ) → HasEachBelowOnce n xs → sum_by h xs ≡ sum_below h n
weighs_below h zero [] once = refl
weighs_below h zero (x ∷ xs) once =
    let none : once_below 0 x ≡ 0 = rw (le-ltb x 0 (omega arith)) refl in
    absurd (omega (arith, once x, times-cons x x xs, mark_self x, none))
weighs_below h (suc n) xs once =
    let here : 0 < times n xs = omega (arith, once n, once_more n n, mark_self n) in
    let parts = split_at n xs here in
    let ys = parts.0 in
    let zs = parts.1 in
    let is : xs ≡ ys ++ n ∷ zs = parts.2 in
    let fewer : HasEachBelowOnce n (ys ++ zs) = λ x.
    let all : times x xs ≡ times x ys + times x (n ∷ zs) = ap (times x) is ∙ times-append x ys (n ∷ zs) in
    omega (arith, all, times-cons x n zs, times-append x ys zs, once x, once_more n x) in
    let whole : sum_by h xs ≡ sum_by h ys + sum_by h (n ∷ zs) = ap (sum_by h) is ∙ sum_by-append h ys (n ∷ zs) in
    omega (arith, whole, sum_by-cons h n zs, sum_by-append h ys zs, weighs_below h n (ys ++ zs) fewer)

marks_below : (x n : ℕ) → sum_below (mark x) n ≡ once_below n x
marks_below x zero = sym (rw (le-ltb x 0 (omega arith)) refl)
marks_below x (suc n) = omega (arith, marks_below x n, once_more n x)

pub once_from_weights : (n : ℕ) (xs : List ℕ) → ((h : ℕ → ℕ) → sum_by h xs ≡ sum_below h n) → HasEachBelowOnce n xs
once_from_weights n xs weighs x = weighs (mark x) ∙ marks_below x n

pub late_small : (x : ℕ) → x < most_jobs → late_mark x ≡ 0
late_small x h = rw (lt-leb most_jobs x h) refl

late_large : (x : ℕ) → most_jobs ≤ x → late_mark x ≡ 1
late_large x h = rw (le-leb most_jobs x h) refl

pub late_once : (x : ℕ) → late_mark x ≤ 1
late_once x = elim (cases_lt x most_jobs) [ inl h ↦ omega (arith, late_small x h) | inr h ↦ omega (arith, late_large x h) ]

pub late_below : (n : ℕ) → sum_below late_mark n ≡ n - most_jobs
late_below zero = refl
late_below (suc n) = elim (cases_lt n most_jobs) [
  | inl h ↦ omega (arith, late_below n, late_small n h)
  | inr h ↦ omega (arith, late_below n, late_large n h)
]

-- numbers of jobs are not late
pub none_late : (jobs : ℕ) (xs : List ℕ) → jobs ≤ most_jobs → All (λ x. x < jobs) xs → late xs ≡ 0
none_late jobs [] few h = refl
none_late jobs (x ∷ xs) few h =
    let first : x < jobs = All-head (λ y. y < jobs) x xs h in
    omega (arith, sum_by-cons late_mark x xs, late_small x (omega (arith, first, few)), none_late jobs xs few (All-tail (λ y. y < jobs) x xs h))

-- a number that stands in a list stands there at least once
pub stands : (xs : List ℕ) (k d : ℕ) → k < length xs → 0 < times (slice_index_or xs k d) xs
stands [] k d lt = absurd (omega arith)
stands (x ∷ xs) zero d lt = omega (arith, times-cons x x xs, mark_self x)
stands (x ∷ xs) (suc k) d lt =
    let y = slice_index_or xs k d in
    omega (arith, times-cons y x xs, stands xs k d (omega arith))

pub sum_flat : {A : Type 0} (h : ℕ → ℕ) (f : A → List ℕ) (xs : List A) → sum_by h (flat_map f xs) ≡ sum_by (λ x. sum_by h (f x)) xs
sum_flat h f [] = refl
sum_flat h f (x ∷ xs) = sum_by-append h (f x) (flat_map f xs) ∙ (ap (λ n. sum_by h (f x) + n) (sum_flat h f xs) ∙ sym (sum_by-cons (λ y. sum_by h (f y)) x xs))
