-- Sets of so many members, as lists, and how many there are.
use Rattle.std.specs.Prelude.{ℕ, ◌+◌, ◌-◌, ◌*◌, Bool, List, [], ◌∷◌, ◌++◌, map}
use Rattle.std.proofs.Common.{zero, suc}
use Rattle.lzk_soundness.specs.Chance.Draws.{count}

-- all lists of k entries of a list, in the order that they have there: its sets of k members, where no entry is there
-- twice
abbrev pub sets_of : {X : Type 0} → ℕ → List X → List (List X)
sets_of zero xs = [] ∷ []
sets_of (suc k) [] = []
sets_of (suc k) (x ∷ xs) = map (λ rest. x ∷ rest) (sets_of k xs) ++ sets_of (suc k) xs

-- how many sets of k members n things have
abbrev pub choose : ℕ → ℕ → ℕ
choose n zero = 1
choose zero (suc k) = 0
choose (suc n) (suc k) = choose n k + choose n (suc k)

-- n times n - 1 and so on, k factors: how many lists of k different things of n there are
abbrev pub falling : ℕ → ℕ → ℕ
falling n zero = 1
falling n (suc k) = n * falling (n - 1) k

-- how many pairs pass a test, of entries of one list and of another
abbrev pub count_pairs : {X Y : Type 0} → (X → Y → Bool) → List X → List Y → ℕ
count_pairs test [] ys = 0
count_pairs test (x ∷ xs) ys = count (test x) ys + count_pairs test xs ys
