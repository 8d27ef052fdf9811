-- What workers do side by side, and what their lists have.
use Rattle.std.proofs.Common.{All, ◌≡◌, ℕ, ◌<◌, ◌≤◌, cond, List, [], ◌∷◌, ◌++◌, length, drop, map, Result, Ok, Err, IfOk, Vec, Global, refl, sym, ap, subst, ◌∙◌, append-nil, arith}
use Rattle.std.specs.declared.alloc.AllocError.{AllocError}
use Rattle.std.specs.Prelude.{IsOkAnd, nat_lt, nat_le, filter, count_by, sum_by}
use Rattle.std.specs.List.{AllZip}
use Rattle.std.proofs.Math.Seq.{drop-append_seam}
use Rattle.std.proofs.lemmas.Bool.{lt-ltb, le-ltb, le-leb, lt-leb}
use Rattle.std.proofs.lemmas.List.{map-append}
use Rattle.std.proofs.lemmas.List.Elements.{All-nil, All-cons, All-head, All-tail, filter-append}
use Rattle.std.proofs.lemmas.List.Sums.{sum_by-cons, sum_by-append}
use Rattle.lzk_circbytes.specs.declared.any.AnyCircuit.{AnyCircuit}
use Rattle.lzk_batch.specs.declared.job.Job.{Job}
use Rattle.lzk_batch.specs.declared.job.Judged.{Judged}
use Rattle.lzk_batch.specs.Passes.{TicketsState, PassState, IsOpen}
use Rattle.lzk_batch.specs.Batch.{IsJudged, AreJobsDrawn, DrawsOn, HasDrawnOneLate, AllZip₃, numbers_of, drawn_since}
use Rattle.lzk_batch.specs.Working.{HasWorked, HaveWorked}

-- ---- lists that are joined

pub AllZip-append : {A B : Type 0} (R : A → B → Type 0) (xs xs' : List A) (ys ys' : List B) → AllZip R xs ys → AllZip R xs' ys' → AllZip R (xs ++ xs') (ys ++ ys')
AllZip-append R [] xs' [] ys' a b = b
AllZip-append R [] xs' (y ∷ ys) ys' a b = absurd a
AllZip-append R (x ∷ xs) xs' [] ys' a b = absurd a
AllZip-append R (x ∷ xs) xs' (y ∷ ys) ys' a b = (a.0, AllZip-append R xs xs' ys ys' a.1 b)

AllZip₃-append : {A B C : Type 0} (R : A → B → C → Type 0) (xs xs' : List A) (ys ys' : List B) (zs zs' : List C) → AllZip₃ R xs ys zs → AllZip₃ R xs' ys' zs'
    → AllZip₃ R (xs ++ xs') (ys ++ ys') (zs ++ zs')
AllZip₃-append R [] xs' [] ys' [] zs' a b = b
AllZip₃-append R [] xs' [] ys' (z ∷ zs) zs' a b = absurd a
AllZip₃-append R [] xs' (y ∷ ys) ys' zs zs' a b = absurd a
AllZip₃-append R (x ∷ xs) xs' [] ys' zs zs' a b = absurd a
AllZip₃-append R (x ∷ xs) xs' (y ∷ ys) ys' [] zs' a b = absurd a
AllZip₃-append R (x ∷ xs) xs' (y ∷ ys) ys' (z ∷ zs) zs' a b = (a.0, AllZip₃-append R xs xs' ys ys' zs zs' a.1 b)

-- the lists of workers, as they are returned
abbrev pub Lists : Type 0
Lists = Vec (Vec Judged Global) Global

abbrev items_of : Vec Judged Global → List Judged
items_of list = list.items

module _ (batch : List AnyCircuit) (list : List Job) (front back front' back' : List PassState) where
  -- workers of both halves have worked
  pub both_worked : (old : List PassState) (all lists others : Result Lists AllocError) → old ≡ front ++ back
      → IfOk lists (λ l. HaveWorked batch list front front' (map items_of l.items)) → IfOk others (λ l. HaveWorked batch list back back' (map items_of l.items))
      → IfOk all (λ a. IsOkAnd lists (λ l. IsOkAnd others (λ o. a.items ≡ l.items ++ o.items))) → IfOk all (λ a. HaveWorked batch list old (front' ++ back') (map items_of a.items))
  both_worked old (Ok a) (Ok l) (Ok o) is w w' joined =
      let names : map items_of a.items ≡ map items_of l.items ++ map items_of o.items = ap (map items_of) joined ∙ map-append items_of l.items o.items in
      subst (λ xs. HaveWorked batch list xs (front' ++ back') (map items_of a.items)) (sym is) (subst (HaveWorked batch list (front ++ back) (front' ++ back')) (sym names)
      (AllZip₃-append (HasWorked batch list) front back front' back' (map items_of l.items) (map items_of o.items) w w'))
  both_worked old (Ok a) (Ok l) (Err e) is w w' joined = absurd joined
  both_worked old (Ok a) (Err e) others is w w' joined = absurd joined
  both_worked old (Err e) lists others is w w' joined = tt

-- ---- what a worker's list has

-- tests that all or none pass
filter_all : (n : ℕ) (xs : List ℕ) → All (λ x. x < n) xs → filter (λ x. nat_lt x n) xs ≡ xs
filter_all n [] h = refl
filter_all n (x ∷ xs) h =
    let first : x < n = All-head (λ y. y < n) x xs h in
    rw (lt-ltb x n first) (ap (λ ys. x ∷ ys) (filter_all n xs (All-tail (λ y. y < n) x xs h)))

filter_late : (n x : ℕ) → n ≤ x → filter (λ y. nat_lt y n) (x ∷ []) ≡ []
filter_late n x h = rw (le-ltb x n h) refl

-- 1 for a number that is no job's
abbrev pub mark_from : ℕ → ℕ → ℕ
mark_from n x = cond (nat_le n x) 1 0

count_none : (n : ℕ) (xs : List ℕ) → All (λ x. x < n) xs → count_by (λ x. nat_le n x) xs ≡ 0
count_none n [] h = refl
count_none n (x ∷ xs) h =
    let first : x < n = All-head (λ y. y < n) x xs h in
    let mark : mark_from n x ≡ 0 = rw (lt-leb n x first) refl in
    omega (arith, sum_by-cons (mark_from n) x xs, mark, count_none n xs (All-tail (λ y. y < n) x xs h))

count_late : (n x : ℕ) → n ≤ x → count_by (λ y. nat_le n y) (x ∷ []) ≡ 1
count_late n x h = rw (le-leb n x h) refl

module _ (batch : List AnyCircuit) (list : List Job) where
  jobs_drawn : (old new : PassState) (judged : List Judged) → HasWorked batch list old new judged → AreJobsDrawn (length list) old new judged
  jobs_drawn old new judged w =
      let n = length list in
      let test = λ (x : ℕ). nat_lt x n in
      let since : drawn_since old new ≡ numbers_of judged ++ w.last ∷ [] = ap (drop (length old.drawn)) w.drawn.drawn ∙ drop-append_seam old.drawn (numbers_of judged ++ w.last ∷ []) in
      let kept : filter test (numbers_of judged) ≡ numbers_of judged = filter_all n (numbers_of judged) w.below in
      sym (ap (filter test) since ∙ (filter-append test (numbers_of judged) (w.last ∷ []) ∙ (ap (λ xs. xs ++ filter test (w.last ∷ [])) kept ∙ (ap (λ xs. numbers_of judged ++ xs) (filter_late n w.last w.past) ∙ append-nil (numbers_of judged)))))

  one_late : (old new : PassState) (judged : List Judged) → All (λ x. x < length list) old.drawn → HasWorked batch list old new judged → HasDrawnOneLate (length list) new
  one_late old new judged before w =
      let n = length list in
      let mark : ℕ → ℕ = mark_from n in
      let whole : sum_by mark new.drawn ≡ sum_by mark (old.drawn ++ (numbers_of judged ++ w.last ∷ [])) = ap (sum_by mark) w.drawn.drawn in
      omega (arith, whole, sum_by-append mark old.drawn (numbers_of judged ++ w.last ∷ []), sum_by-append mark (numbers_of judged) (w.last ∷ []), count_none n old.drawn before, count_none n (numbers_of judged) w.below, count_late n w.last w.past)

  all_jobs_drawn : (old new : List PassState) (judged : List (List Judged)) → HaveWorked batch list old new judged → AllZip₃ (AreJobsDrawn (length list)) old new judged
  all_jobs_drawn [] [] [] w = tt
  all_jobs_drawn [] [] (j ∷ js) w = absurd w
  all_jobs_drawn [] (q ∷ qs) js w = absurd w
  all_jobs_drawn (p ∷ ps) [] js w = absurd w
  all_jobs_drawn (p ∷ ps) (q ∷ qs) [] w = absurd w
  all_jobs_drawn (p ∷ ps) (q ∷ qs) (j ∷ js) w = (jobs_drawn p q j w.0, all_jobs_drawn ps qs js w.1)

  all_one_late : (old new : List PassState) (judged : List (List Judged)) → All (λ p. All (λ x. x < length list) p.drawn) old → HaveWorked batch list old new judged → All (HasDrawnOneLate (length list)) new
  all_one_late [] [] js before w = All-nil (HasDrawnOneLate (length list))
  all_one_late [] (q ∷ qs) js before w = absurd w
  all_one_late (p ∷ ps) [] js before w = All-nil (HasDrawnOneLate (length list))
  all_one_late (p ∷ ps) (q ∷ qs) [] before w = absurd w
  all_one_late (p ∷ ps) (q ∷ qs) (j ∷ js) before w =
      let before_all : PassState → Type 0 = λ p. All (λ x. x < length list) p.drawn in
      All-cons (HasDrawnOneLate (length list)) q qs (one_late p q j (All-head before_all p ps before) w.0) (all_one_late ps qs js (All-tail before_all p ps before) w.1)

  all_verdicts : (old new : List PassState) (lists : List (Vec Judged Global)) → HaveWorked batch list old new (map items_of lists) → All (λ l. All (IsJudged batch list) (items_of l)) lists
  all_verdicts old new [] w = All-nil (λ l. All (IsJudged batch list) (items_of l))
  all_verdicts [] [] (l ∷ ls) w = absurd w
  all_verdicts [] (q ∷ qs) (l ∷ ls) w = absurd w
  all_verdicts (p ∷ ps) [] (l ∷ ls) w = absurd w
  all_verdicts (p ∷ ps) (q ∷ qs) (l ∷ ls) w = All-cons (λ l. All (IsJudged batch list) (items_of l)) l ls w.0.verdicts (all_verdicts ps qs ls w.1)

  -- the same of what was returned
  pub returned_jobs : (old new : List PassState) (r : Result Lists AllocError) → IfOk r (λ l. HaveWorked batch list old new (map items_of l.items)) → IfOk r (λ l. AllZip₃ (AreJobsDrawn (length list)) old new (map items_of l.items))
  returned_jobs old new (Ok l) w = all_jobs_drawn old new (map items_of l.items) w
  returned_jobs old new (Err e) w = tt

  pub returned_verdicts : (old new : List PassState) (r : Result Lists AllocError) → IfOk r (λ l. HaveWorked batch list old new (map items_of l.items)) → IfOk r (λ l. All (λ l. All (IsJudged batch list) (items_of l)) l.items)
  returned_verdicts old new (Ok l) w = all_verdicts old new l.items w
  returned_verdicts old new (Err e) w = tt

  pub returned_late : (tickets : TicketsState) (old new : List PassState) (r : Result Lists AllocError) → tickets.jobs ≡ length list → All (IsOpen tickets) old → IfOk r (λ l. HaveWorked batch list old new (map items_of l.items)) → IfOk r (λ l. All (HasDrawnOneLate (length list)) new)
  returned_late tickets old new (Ok l) count before w = all_one_late old new (map items_of l.items) (subst (λ n. All (λ (p : PassState). All (λ x. x < n) p.drawn) old) count before) w
  returned_late tickets old new (Err e) count before w = tt

-- passes that have drawn nothing more
pub draws_none : (passes : List PassState) → AllZip DrawsOn passes passes
draws_none [] = tt
draws_none (p ∷ ps) = (([], record { table = refl; spare = refl; drawn = sym (append-nil p.drawn) }), draws_none ps)
