-- Each job stands once in the lists of a batch.
use Rattle.std.proofs.Common.{All, ◌≡◌, ◌≢◌, ℕ, ◌<◌, ◌≤◌, List, [], ◌∷◌, ◌++◌, map, Result, Ok, Err, IfOk, Vec, Global, refl, sym, ap, ◌∙◌, inl, inr, arith}
use Rattle.std.specs.Prelude.{Bool, nat_lt, nat_le, filter, count_by}
use Rattle.std.specs.List.{AllZip}
use Rattle.std.proofs.lemmas.Bool.{cases_lt, lt-ltb, le-ltb, lt-leb, ne_eqb}
use Rattle.std.proofs.lemmas.List.Elements.{All-head, All-tail, filter-append}
use Rattle.std.proofs.lemmas.List.Sums.{sum_by-cons}
use Rattle.lzk_batch.specs.declared.job.Judged.{Judged}
use Rattle.lzk_batch.specs.Tickets.{times, once_below, HasEachBelowOnce}
use Rattle.lzk_batch.specs.Passes.{TicketsState, PassState, AreAll, drawn_of}
use Rattle.lzk_batch.specs.Batch.{numbers_of, numbers_in, HasDrawnOneLate, AreAllJobsDrawn}
use Rattle.lzk_batch.proofs.Weights.{mark, times-append}
use Rattle.lzk_batch.proofs.Sharing.{mark_from}

-- ---- what no list has

times_none : (x : ℕ) (list : List Judged) → All (λ j. j.job ≢ x) list → times x (numbers_of list) ≡ 0
times_none x [] h = refl
times_none x (j ∷ js) h =
    let other : j.job ≢ x = All-head (λ (y : Judged). y.job ≢ x) j js h in
    let no : mark x j.job ≡ 0 = rw (ne_eqb j.job x other) refl in
    omega (arith, sum_by-cons (mark x) j.job (numbers_of js), no, times_none x js (All-tail (λ (y : Judged). y.job ≢ x) j js h))

pub times_none_in : (x : ℕ) (lists : List (Vec Judged Global)) → All (λ l. All (λ j. j.job ≢ x) l.items) lists → times x (numbers_in lists) ≡ 0
times_none_in x [] h = refl
times_none_in x (l ∷ ls) h =
    let without : Vec Judged Global → Type 0 = λ v. All (λ j. j.job ≢ x) v.items in
    omega (arith, times-append x (numbers_of l.items) (numbers_in ls), times_none x l.items (All-head without l ls h), times_none_in x ls (All-tail without l ls h))

-- a job that stands once stands somewhere
pub stands_somewhere : (jobs x : ℕ) (lists : List (Vec Judged Global)) → HasEachBelowOnce jobs (numbers_in lists) → x < jobs → ¬ All (λ l. All (λ j. j.job ≢ x) l.items) lists
stands_somewhere jobs x lists once small none =
    let one : once_below jobs x ≡ 1 = rw (lt-ltb x jobs small) refl in
    omega (arith, once x, one, times_none_in x lists none)

-- ---- what passes have drawn

-- the lists together have the numbers of jobs that the passes have drawn
all_numbers : (jobs : ℕ) (passes : List PassState) (lists : List (Vec Judged Global)) → AllZip (AreAllJobsDrawn jobs) passes (map (λ l. l.items) lists)
    → numbers_in lists ≡ filter (λ n. nat_lt n jobs) (drawn_of passes)
all_numbers jobs [] [] h = refl
all_numbers jobs [] (l ∷ ls) h = absurd h
all_numbers jobs (p ∷ ps) [] h = absurd h
all_numbers jobs (p ∷ ps) (l ∷ ls) h =
    let test : ℕ → Bool = λ n. nat_lt n jobs in
    ap (λ xs. xs ++ numbers_in ls) h.0 ∙ (ap (λ xs. filter test p.drawn ++ xs) (all_numbers jobs ps ls h.1) ∙ sym (filter-append test p.drawn (drawn_of ps)))

times_kept : (jobs x : ℕ) (xs : List ℕ) → x < jobs → times x (filter (λ n. nat_lt n jobs) xs) ≡ times x xs
times_kept jobs x [] small = refl
times_kept jobs x (y ∷ ys) small = elim (cases_lt y jobs) [
  | inl lt ↦
      let kept : filter (λ n. nat_lt n jobs) (y ∷ ys) ≡ y ∷ filter (λ n. nat_lt n jobs) ys = rw (lt-ltb y jobs lt) refl in
      omega (arith, ap (times x) kept, sum_by-cons (mark x) y ys, sum_by-cons (mark x) y (filter (λ n. nat_lt n jobs) ys), times_kept jobs x ys small)
  | inr le ↦
      let kept : filter (λ n. nat_lt n jobs) (y ∷ ys) ≡ filter (λ n. nat_lt n jobs) ys = rw (le-ltb y jobs le) refl in
      let no : mark x y ≡ 0 = rw (ne_eqb y x (λ e. omega arith)) refl in
      omega (arith, ap (times x) kept, sum_by-cons (mark x) y ys, no, times_kept jobs x ys small)
]

times_dropped : (jobs x : ℕ) (xs : List ℕ) → jobs ≤ x → times x (filter (λ n. nat_lt n jobs) xs) ≡ 0
times_dropped jobs x [] large = refl
times_dropped jobs x (y ∷ ys) large = elim (cases_lt y jobs) [
  | inl lt ↦
      let kept : filter (λ n. nat_lt n jobs) (y ∷ ys) ≡ y ∷ filter (λ n. nat_lt n jobs) ys = rw (lt-ltb y jobs lt) refl in
      let no : mark x y ≡ 0 = rw (ne_eqb y x (λ e. omega arith)) refl in
      omega (arith, ap (times x) kept, sum_by-cons (mark x) y (filter (λ n. nat_lt n jobs) ys), no, times_dropped jobs x ys large)
  | inr le ↦
      let kept : filter (λ n. nat_lt n jobs) (y ∷ ys) ≡ filter (λ n. nat_lt n jobs) ys = rw (le-ltb y jobs le) refl in
      omega (arith, ap (times x) kept, times_dropped jobs x ys large)
]

-- a number that is no job's stands in a list that has one
late_stands : (jobs : ℕ) (xs : List ℕ) → 0 < count_by (λ n. nat_le jobs n) xs → (x : ℕ) × (jobs ≤ x) × (0 < times x xs)
late_stands jobs [] h = absurd (omega arith)
late_stands jobs (y ∷ ys) h = elim (cases_lt y jobs) [
  | inl lt ↦
      let no : mark_from jobs y ≡ 0 = rw (lt-leb jobs y lt) refl in
      let rest = late_stands jobs ys (omega (arith, h, sum_by-cons (mark_from jobs) y ys, no)) in
      (rest.0, rest.1, omega (arith, sum_by-cons (mark rest.0) y ys, rest.2))
  | inr le ↦ (y, le, omega (arith, sum_by-cons (mark y) y ys, mark_one y))
]
  where
    mark_one : (n : ℕ) → mark n n ≡ 1
    mark_one n = grind arith

-- where a pass has drawn a number that is no job's, all jobs' numbers are drawn
all_drawn : (jobs word : ℕ) (tickets : TicketsState) (passes : List PassState) → AreAll tickets passes → All (HasDrawnOneLate jobs) passes → HasEachBelowOnce word (drawn_of passes) → jobs ≤ word
all_drawn jobs word tickets [] all late once = absurd (omega (arith, all.shares))
all_drawn jobs word tickets (p ∷ ps) all late once =
    let one : HasDrawnOneLate jobs p = All-head (HasDrawnOneLate jobs) p ps late in
    let x = late_stands jobs p.drawn (omega (arith, one)) in
    elim (cases_lt x.0 word) [
      | inl lt ↦ omega (arith, lt, x.1)
      | inr le ↦
          let none : once_below word x.0 ≡ 0 = rw (le-ltb x.0 word le) refl in
          absurd (omega (arith, once x.0, none, times-append x.0 p.drawn (drawn_of ps), x.2))
    ]

pub each_once : (jobs word : ℕ) (tickets : TicketsState) (passes : List PassState) (lists : List (Vec Judged Global)) → AreAll tickets passes → All (HasDrawnOneLate jobs) passes
    → AllZip (AreAllJobsDrawn jobs) passes (map (λ l. l.items) lists) → HasEachBelowOnce word (drawn_of passes) → HasEachBelowOnce jobs (numbers_in lists)
each_once jobs word tickets passes lists all late drawn once x =
    let have : times x (numbers_in lists) ≡ times x (filter (λ n. nat_lt n jobs) (drawn_of passes)) = ap (times x) (all_numbers jobs passes lists drawn) in
    let above : jobs ≤ word = all_drawn jobs word tickets passes all late once in
    elim (cases_lt x jobs) [
      | inl lt ↦
          let one : once_below jobs x ≡ 1 = rw (lt-ltb x jobs lt) refl in
          let there : once_below word x ≡ 1 = rw (lt-ltb x word (omega (arith, lt, above))) refl in
          omega (arith, have, times_kept jobs x (drawn_of passes) lt, once x, one, there)
      | inr le ↦
          let none : once_below jobs x ≡ 0 = rw (le-ltb x jobs le) refl in
          omega (arith, have, times_dropped jobs x (drawn_of passes) le, none)
    ]

-- what holds, holds of what was returned
pub if_ok : {A E P : Type 0} (r : Result A E) → P → IfOk r (λ _. P)
if_ok (Ok x) p = p
if_ok (Err e) p = tt
