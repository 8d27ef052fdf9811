-- Verdicts that stand in the order of their jobs.
use Rattle.std.proofs.Common.{All, ◌≡◌, ℕ, suc, ◌+◌, ◌<◌, take, drop, List, [], ◌∷◌, ◌++◌, length, length-append, map, Result, Ok, Err, IfOk, Some, Vec, Global, get_or, refl, sym, ap, subst, ◌∙◌, inl, inr, arith}
use Rattle.std.specs.Prelude.{slice_get, vec_len}
use Rattle.std.specs.declared.alloc.AllocError.{AllocError}
use Rattle.std.specs.List.{AllZip}
use Rattle.std.proofs.Math.Seq.{take-append_seam}
use Rattle.std.proofs.lemmas.Bool.{cases_lt}
use Rattle.std.proofs.lemmas.Option.{slice_get_within, slice_get-get_or, get_or_from_slice_get}
use Rattle.std.proofs.lemmas.List.{get_or_push, get_or_append_left}
use Rattle.std.proofs.lemmas.List.Elements.{All-nil, All-cons, All-head, All-tail}
use Rattle.std.proofs.lemmas.List.Sums.{sum_by-cons}
use Rattle.lzk_circbytes.specs.declared.any.AnyCircuit.{AnyCircuit}
use Rattle.lzk_batch.specs.declared.job.Job.{Job}
use Rattle.lzk_batch.specs.declared.job.Judged.{Judged}
use Rattle.lzk_batch.specs.declared.job.AnyVerdict.{AnyVerdict}
use Rattle.lzk_batch.specs.Passes.{TicketsState, PassState, IsOf, IsOpen, HasDrawnNothing, AreAll, shares_of}
use Rattle.lzk_batch.specs.Batch.{IsJudged, HasVerdict, HaveVerdicts, HasVerdictIn, judged_as, AreJobsDrawn, AreAllJobsDrawn, DrawsOn, AllZip₃}

-- ---- one more place

pub found_more : {A : Type 0} (P : ℕ → A → Type 0) (xs : List A) (n : ℕ) (x : A) → length xs ≡ n → ((k : ℕ) (v : A) → slice_get xs k ≡ Some v → P k v) → P n x
    → (k : ℕ) (v : A) → slice_get (xs ++ x ∷ []) k ≡ Some v → P k v
found_more P xs n x count before here k v at =
    let within : k < length (xs ++ x ∷ []) = slice_get_within (xs ++ x ∷ []) k v at in
    let is : get_or (xs ++ x ∷ []) k v ≡ v = get_or_from_slice_get (xs ++ x ∷ []) k v v at in
    elim (cases_lt k (length xs)) [
      | inl lt ↦ before k v (slice_get-get_or xs k v lt ∙ ap (λ y. Some y) (sym (get_or_append_left xs (x ∷ []) v k lt) ∙ is))
      | inr le ↦
          let last : length xs ≡ k = omega (arith, within, le, length-append xs (x ∷ [])) in
          let same : x ≡ v = sym (get_or_push xs x v k last) ∙ is in
          subst (λ m. P m v) (sym count ∙ last) (subst (P n) same here)
    ]

-- ---- two lists, place by place

zip_from : {A B : Type 0} (R : A → B → Type 0) (xs : List A) (ys : List B) → length ys ≡ length xs → ((k : ℕ) (x : A) (y : B) → slice_get xs k ≡ Some x → slice_get ys k ≡ Some y → R x y) → AllZip R xs ys
zip_from R [] [] same each = tt
zip_from R [] (y ∷ ys) same each = absurd (omega (arith, same))
zip_from R (x ∷ xs) [] same each = absurd (omega (arith, same))
zip_from R (x ∷ xs) (y ∷ ys) same each = (each 0 x y refl refl, zip_from R xs ys (omega (arith, same)) (λ k. each (suc k)))

module _ (batch : List AnyCircuit) (list : List Job) (lists : List (Vec Judged Global)) where
  -- what stands in a list was judged
  judged_there : All (λ l. All (IsJudged batch list) l.items) lists → (k : ℕ) (v : AnyVerdict) → HasVerdictIn lists k v → IsJudged batch list (judged_as k v)
  judged_there all k v there =
      let l = there.1 in
      let inside : All (IsJudged batch list) l.items = subst (λ (w : Vec Judged Global). All (IsJudged batch list) w.items) there.3 (all there.0 l there.2) in
      subst (IsJudged batch list) there.4.2 (inside there.4.0 (judged_as k v) there.4.1)

  pub have_verdicts : (r : Result (Vec AnyVerdict Global) AllocError) (jobs : ℕ) → jobs ≡ length list → All (λ l. All (IsJudged batch list) l.items) lists → IfOk r (λ vs. vec_len vs ≡ jobs)
      → IfOk r (λ vs. (k : ℕ) (v : AnyVerdict) → slice_get vs.items k ≡ Some v → HasVerdictIn lists k v) → IfOk r (λ vs. HaveVerdicts batch list vs.items)
  have_verdicts (Ok vs) jobs dealt all count found = zip_from (HasVerdict batch) list vs.items (sym vs.ok.0 ∙ (count ∙ dealt)) (λ k job v at at'.
      let judged : IsJudged batch list (judged_as k v) = judged_there all k v (found k v at') in
      let same : judged.job ≡ job = some_same (sym judged.there ∙ at) in
      subst (λ j. HasVerdict batch j v) same judged.verdict)
    where
      some_same : {x y : Job} → Some x ≡ Some y → x ≡ y
      some_same e = cc
  have_verdicts (Err e) jobs dealt all count found = tt

-- ---- passes that were lent

-- passes that have drawn nothing have not drawn past the jobs
pub fresh_open : (tickets : TicketsState) (passes : List PassState) → All HasDrawnNothing passes → All (IsOpen tickets) passes
fresh_open tickets [] h = All-nil (IsOpen tickets)
fresh_open tickets (p ∷ ps) h =
    All-cons (IsOpen tickets) p ps (subst (All (λ n. n < tickets.jobs)) (sym (All-head HasDrawnNothing p ps h)) (All-nil (λ n. n < tickets.jobs)))
    (fresh_open tickets ps (All-tail HasDrawnNothing p ps h))

-- all passes of the tickets are all of them still
pub still_all : (tickets : TicketsState) (old new : List PassState) → AllZip DrawsOn old new → AreAll tickets old → AreAll tickets new
still_all tickets old new draws all = record { of = still_of old new draws all.of; shares = same_shares old new draws ∙ all.shares }
  where
    still_of : (old new : List PassState) → AllZip DrawsOn old new → All (IsOf tickets) old → All (IsOf tickets) new
    still_of [] [] d h = All-nil (IsOf tickets)
    still_of [] (q ∷ qs) d h = absurd d
    still_of (p ∷ ps) [] d h = absurd d
    still_of (p ∷ ps) (q ∷ qs) d h = All-cons (IsOf tickets) q qs (d.0.1.table ∙ All-head (IsOf tickets) p ps h) (still_of ps qs d.1 (All-tail (IsOf tickets) p ps h))

    same_shares : (old new : List PassState) → AllZip DrawsOn old new → shares_of new ≡ shares_of old
    same_shares [] [] d = refl
    same_shares [] (q ∷ qs) d = absurd d
    same_shares (p ∷ ps) [] d = absurd d
    same_shares (p ∷ ps) (q ∷ qs) d = omega (arith, sum_by-cons (λ (x : PassState). 1 + x.spare) q qs, sum_by-cons (λ (x : PassState). 1 + x.spare) p ps, d.0.1.spare, same_shares ps qs d.1)

-- what passes with nothing drawn have drawn since is all that they have drawn
pub fresh_jobs : (jobs : ℕ) (old new : List PassState) (judged : List (List Judged)) → All HasDrawnNothing old → AllZip₃ (AreJobsDrawn jobs) old new judged → AllZip (AreAllJobsDrawn jobs) new judged
fresh_jobs jobs [] [] [] fresh d = tt
fresh_jobs jobs [] [] (j ∷ js) fresh d = absurd d
fresh_jobs jobs [] (q ∷ qs) js fresh d = absurd d
fresh_jobs jobs (p ∷ ps) [] js fresh d = absurd d
fresh_jobs jobs (p ∷ ps) (q ∷ qs) [] fresh d = absurd d
fresh_jobs jobs (p ∷ ps) (q ∷ qs) (j ∷ js) fresh d =
    let nothing : p.drawn ≡ [] = All-head HasDrawnNothing p ps fresh in
    let first : AreAllJobsDrawn jobs q j = rw nothing at d.0 in
    (first, fresh_jobs jobs ps qs js (All-tail HasDrawnNothing p ps fresh) d.1)

-- the same of passes and lists that are seen anew
pub gathered_jobs : (jobs n : ℕ) (old old' new : List PassState) (lists lists' : List (Vec Judged Global)) → jobs ≡ n → old' ≡ old → lists' ≡ lists → All HasDrawnNothing old
    → AllZip₃ (AreJobsDrawn n) old' new (map (λ l. l.items) lists) → AllZip (AreAllJobsDrawn jobs) new (map (λ l. l.items) lists')
gathered_jobs jobs n old old' new lists lists' dealt same same_lists fresh d =
    let before : All HasDrawnNothing old' = subst (All HasDrawnNothing) (sym same) fresh in
    subst (λ ls. AllZip (AreAllJobsDrawn jobs) new (map (λ (l : Vec Judged Global). l.items) ls)) (sym same_lists)
    (subst (λ m. AllZip (AreAllJobsDrawn m) new (map (λ (l : Vec Judged Global). l.items) lists)) (sym dealt) (fresh_jobs n old' new (map (λ (l : Vec Judged Global). l.items) lists) before d))

-- passes that are as many as there were stand for them
pub passes_back : (n : ℕ) (new old : List PassState) → length new ≡ n → take n (new ++ drop (length new) old) ≡ new
passes_back n new old count = ap (λ m. take m (new ++ drop (length new) old)) (sym count) ∙ take-append_seam new (drop (length new) old)
