-- What the ticket word and the views of all seats say together.
use Rattle.std.specs.Prelude.{◌≡◌, ℕ, ◌+◌, ◌≤◌, ◌==◌, Bool, false, cond, nat_lt, nat_le, List, [], length, slice_index, sum_by, count_by, flat_map}
use mathlib.Core.Option.{some}
use lib.ListN.{get_elem?}
use Rattle.lzk_batch.specs.declared.rule.View.{View}

-- the most jobs that tickets are dealt for
abbrev pub most_jobs : ℕ
most_jobs = 256

-- the most workers, each of which draws one number that is no job's
abbrev pub most_workers : ℕ
most_workers = 64

-- how often a number stands in a list
abbrev pub times : ℕ → List ℕ → ℕ
times x xs = count_by (λ y. y == x) xs

-- how often a number stands among those below n
abbrev pub once_below : ℕ → ℕ → ℕ
once_below n x = cond (nat_lt x n) 1 0

-- the list has each number below n once, and no other
abbrev pub HasEachBelowOnce : ℕ → List ℕ → Type 0
HasEachBelowOnce n xs = (x : ℕ) → times x xs ≡ once_below n x

-- how many numbers of a list are past all jobs
abbrev pub late : List ℕ → ℕ
late xs = count_by (λ x. nat_le most_jobs x) xs

-- what a seat knows: the numbers that it drew, and how many more than one of them may be past all jobs; and whether a
-- join has spent it
abbrev pub view_of : List ℕ → ℕ → Bool → View
view_of drawn spare spent = record { drawn = drawn; spare = spare; is_spent = spent }

abbrev pub drawn_unless_spent : View → List ℕ
drawn_unless_spent v = cond v.is_spent [] v.drawn

abbrev pub shares_unless_spent : View → ℕ
shares_unless_spent v = cond v.is_spent 0 (1 + v.spare)

-- the views together have drawn each number below the word once, and no other
abbrev pub IsEachDrawnOnce : ℕ → List View → Type 0
IsEachDrawnOnce word views = HasEachBelowOnce word (flat_map drawn_unless_spent views)

-- few of the numbers that a view has drawn are past all jobs
abbrev pub AreFewLate : List View → Type 0
AreFewLate views = (id : ℕ) (v : View) → get_elem? views id ≡ some v → v.is_spent ≡ false → late v.drawn ≤ 1 + v.spare

-- the views together may draw so many numbers past all jobs
abbrev pub AreSharedOut : List View → Type 0
AreSharedOut views = sum_by shares_unless_spent views ≡ most_workers

-- what holds of the word and the views at every moment
pub record Rule (words : List ℕ) (views : List View) : Type 0 where
  pub one_word : length words ≡ 1
  pub drawn_once : IsEachDrawnOnce (slice_index words 0) views
  pub few_late : AreFewLate views
  pub shared_out : AreSharedOut views
