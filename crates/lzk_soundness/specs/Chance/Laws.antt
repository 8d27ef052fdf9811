-- What holds of sets with few members, of bad draws and of sets of columns.
use Rattle.std.specs.Prelude.{◌≡◌, ◌≢◌, ℕ, ◌+◌, ◌*◌, ◌-◌, ◌^◌, ◌≤◌, Bool, true, false, List, [], ◌++◌, length}
use Rattle.std.specs.List.{AllByRecursion}
use Rattle.lzk_field.specs.Ring.{Ops}
use Rattle.lzk_field.specs.Sums.{entry}
use Rattle.lzk_poly.specs.Polynomial.{eval}
use Rattle.lzk_soundness.specs.Chance.Few.{HasAtMost}
use Rattle.lzk_soundness.specs.Chance.Draws.{count, draws_from, has_bad, total_from}
use Rattle.lzk_soundness.specs.Chance.Sets.{sets_of, choose, falling, count_pairs}

-- a polynomial with at most n coefficients, one of which is not zero, is zero at n - 1 elements at most
abbrev pub RootsAreFew : {A : Type 0} → Ops A → Type 0
RootsAreFew {A} o = (n : ℕ) (cs : List A) (k : ℕ) → length cs ≤ n → entry o cs k ≢ o.zero
    → HasAtMost (n - 1) (λ t. eval o cs t ≡ o.zero)

-- two polynomials with at most n coefficients that are not the same everywhere agree at n - 1 elements at most
abbrev pub AgreesRarely : {A : Type 0} → Ops A → Type 0
AgreesRarely {A} o =
    (n : ℕ) (cs ds : List A) → length cs ≤ n → length ds ≤ n → (((s : A) → eval o cs s ≡ eval o ds s) → ⊥)
    → HasAtMost (n - 1) (λ t. eval o cs t ≡ eval o ds t)

-- a sum of a constant and a multiple of the drawn element, which is not 0 times it, has a given value for one element
-- at most
abbrev pub SlopesAreFew : {A : Type 0} → Ops A → Type 0
SlopesAreFew {A} o = (a b c : A) → b ≢ o.zero → HasAtMost 1 (λ x. o.plus a (o.times x b) ≡ c)

-- Two pairs that differ, the second of each times the drawn element, add up to the same for one element at most.
abbrev pub ShiftsAreFew : {A : Type 0} → Ops A → Type 0
ShiftsAreFew {A} o = (a b c d : A) → (a ≡ c → b ≡ d → ⊥)
    → HasAtMost 1 (λ x. o.plus a (o.times x b) ≡ o.plus c (o.times x d))

-- Where of a list's entries at most d k are bad as the draw behind any k draws, then of all lists of n draws, whose
-- number is the list's length to the n, the share that has a bad draw is at most the sum of d 0 to d (n - 1) over the
-- list's length.
abbrev pub BadDrawsAreFew : Type 0 → Type 0
BadDrawsAreFew X =
    (bad : List X → X → Bool) (d : ℕ → ℕ) (ds : List X) (n : ℕ)
    → ((before : List X) → count (bad before) ds ≤ d (length before))
    → (length (draws_from ds n) ≡ length ds ^ n)
    × (count (has_bad bad []) (draws_from ds n) * length ds ≤ total_from d 0 n * length ds ^ n)

-- ---- lists of draws in two parts

-- Lists of m draws, and n more behind each. Where behind each first part that fails a test at most most / N of the
-- second parts pass, N being how many elements there are, then of all lists at most these pass, and those whose first
-- part passes the test.
abbrev pub PartsAreFew : Type 0 → Type 0
PartsAreFew X =
    (ds : List X) (wins first : List X → Bool) (m n most : ℕ)
    → ((r : List X) → length r ≡ m → first r ≡ false → count (λ t. wins (r ++ t)) (draws_from ds n) * length ds ≤ most)
    → count wins (draws_from ds (m + n)) * length ds
    ≤ count first (draws_from ds m) * (length ds ^ n * length ds) + length ds ^ m * most

-- ---- sets

-- n things have so many sets of k members as `choose` says.
abbrev pub SetsAreCounted : Type 0 → Type 0
SetsAreCounted X = (k : ℕ) (xs : List X) → length (sets_of k xs) ≡ choose (length xs) k

-- It is the number of lists of k different things, over the number of orders of each.
abbrev pub ChoicesAreLists : Type 0
ChoicesAreLists = (n k : ℕ) → choose n k * falling k k ≡ falling n k

-- Where a test says yes only to sets whose members have a property, it says yes to no more sets than the things with
-- the property have.
abbrev pub SetsAreFew : Type 0 → Type 0
SetsAreFew X =
    (member : X → Bool) (k : ℕ) (xs : List X) (wins : List X → Bool)
    → ((s : List X) → wins s ≡ true → AllByRecursion (λ x. member x ≡ true) s)
    → count wins (sets_of k xs) ≤ choose (count member xs) k

-- Where for all first entries but the bad ones at most so many of the second ones pass, at most these pairs pass, and
-- those of the bad ones.
abbrev pub PairsAreFew : Type 0 → Type 0 → Type 0
PairsAreFew X Y =
    (test : X → Y → Bool) (bad : X → Bool) (ys : List Y) (most : ℕ) (xs : List X)
    → AllByRecursion (λ x. bad x ≡ false → count (test x) ys ≤ most) xs
    → count_pairs test xs ys ≤ count bad xs * length ys + length xs * most
