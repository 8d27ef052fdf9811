-- A worker's pass, draw after draw.
use Rattle.std.proofs.Common.{All, ◌≡◌, ℕ, suc, ◌-◌, ◌<◌, ◌≤◌, max, List, [], ◌∷◌, ◌++◌, length, refl, sym, ap, subst, ◌∙◌, append_assoc, append-nil, arith}
use Rattle.std.proofs.lemmas.List.{map_push}
use Rattle.std.proofs.lemmas.List.Elements.{All-nil, All-push, All-head, All-tail}
use Rattle.lzk_circbytes.specs.declared.any.AnyCircuit.{AnyCircuit}
use Rattle.lzk_batch.specs.declared.job.Job.{Job}
use Rattle.lzk_batch.specs.declared.job.Judged.{Judged}
use Rattle.lzk_batch.specs.Passes.{TicketsState, PassState, IsOf, IsOpen, with_number}
use Rattle.lzk_batch.specs.Batch.{IsJudged, HasDrawnMore, DrawsOn, numbers_of}
use Rattle.lzk_batch.specs.Working.{HasWorked}

-- above all numbers of a list
abbrev pub bound : List ℕ → ℕ
bound [] = 0
bound (x ∷ xs) = max (suc x) (bound xs)

bound_below : (xs : List ℕ) (n : ℕ) → All (λ x. x < n) xs → bound xs ≤ n
bound_below [] n h = omega arith
bound_below (x ∷ xs) n h =
    let first : x < n = All-head (λ y. y < n) x xs h in
    omega (arith, first, bound_below xs n (All-tail (λ y. y < n) x xs h))

bound_push : (xs : List ℕ) (n : ℕ) → n < bound (xs ++ n ∷ [])
bound_push [] n = omega arith
bound_push (x ∷ xs) n = omega (arith, bound_push xs n)

-- a draw brings a worker nearer to its end
pub nearer : (jobs n : ℕ) (old new : PassState) → n < jobs → All (λ x. x < n) old.drawn → new ≡ with_number old n → jobs - bound new.drawn < jobs - bound old.drawn
nearer jobs n old new small above is =
    let drawn : new.drawn ≡ old.drawn ++ n ∷ [] = ap (λ (p : PassState). p.drawn) is in
    let past : n < bound new.drawn = subst (λ xs. n < bound xs) (sym drawn) (bound_push old.drawn n) in
    omega (arith, small, bound_below old.drawn n above, past)

-- the jobs that a pass has drawn so far, each with its verdict
pub record Working (batch : List AnyCircuit) (list : List Job) (tickets : TicketsState) (old new : PassState) (judged : List Judged) : Type 0 where
  pub of : IsOf tickets new
  pub still : IsOpen tickets new
  pub drawn : HasDrawnMore old new (numbers_of judged)
  pub below : All (λ n. n < tickets.jobs) (numbers_of judged)
  pub verdicts : All (IsJudged batch list) judged

pub begun : (batch : List AnyCircuit) (list : List Job) (tickets : TicketsState) (pass : PassState) → IsOf tickets pass → IsOpen tickets pass → Working batch list tickets pass pass []
begun batch list tickets pass of still = record {
  of = of;
  still = still;
  drawn = record { table = refl; spare = refl; drawn = sym (append-nil pass.drawn) };
  below = All-nil (λ n. n < tickets.jobs);
  verdicts = All-nil (IsJudged batch list);
}

more_drawn : (old new later : PassState) (numbers : List ℕ) (n : ℕ) → HasDrawnMore old new numbers → later ≡ with_number new n → HasDrawnMore old later (numbers ++ n ∷ [])
more_drawn old new later numbers n d is = record {
  table = ap (λ (p : PassState). p.table) is ∙ d.table;
  spare = ap (λ (p : PassState). p.spare) is ∙ d.spare;
  drawn = ap (λ (p : PassState). p.drawn) is ∙ (ap (λ xs. xs ++ n ∷ []) d.drawn ∙ append_assoc old.drawn numbers (n ∷ []));
}

module _ (batch : List AnyCircuit) (list : List Job) (tickets : TicketsState) (old new later : PassState) (judged : List Judged) where
  -- the job of a number that was drawn has its verdict
  pub one_more : (judged' : List Judged) (one : Judged) → Working batch list tickets old new judged → one.job < tickets.jobs → later ≡ with_number new one.job
      → IsJudged batch list one → judged' ≡ judged ++ one ∷ [] → Working batch list tickets old later judged'
  one_more judged' one w small is verdict put =
      let drawn : later.drawn ≡ new.drawn ++ one.job ∷ [] = ap (λ (p : PassState). p.drawn) is in
      let numbers : numbers_of judged' ≡ numbers_of judged ++ one.job ∷ [] = ap numbers_of put ∙ map_push (λ (j : Judged). j.job) judged one in
      record {
        of = ap (λ (p : PassState). p.table) is ∙ w.of;
        still = subst (All (λ n. n < tickets.jobs)) (sym drawn) (All-push (λ n. n < tickets.jobs) new.drawn one.job w.still small);
        drawn = subst (HasDrawnMore old later) (sym numbers) (more_drawn old new later (numbers_of judged) one.job w.drawn is);
        below = subst (All (λ n. n < tickets.jobs)) (sym numbers) (All-push (λ n. n < tickets.jobs) (numbers_of judged) one.job w.below small);
        verdicts = subst (All (IsJudged batch list)) (sym put) (All-push (IsJudged batch list) judged one w.verdicts verdict);
      }

  -- a number that is no job's was drawn
  pub worked : (last : ℕ) → tickets.jobs ≡ length list → Working batch list tickets old new judged → tickets.jobs ≤ last → later ≡ with_number new last → HasWorked batch list old later judged
  worked last count w past is = record {
    last = last;
    past = subst (λ n. n ≤ last) count past;
    below = subst (λ m. All (λ n. n < m) (numbers_of judged)) count w.below;
    drawn = more_drawn old new later (numbers_of judged) last w.drawn is;
    verdicts = w.verdicts;
  }

  -- a number was drawn, and memory ran out
  pub drew : (n : ℕ) → Working batch list tickets old new judged → later ≡ with_number new n → DrawsOn old later
  drew n w is = (numbers_of judged ++ n ∷ [], more_drawn old new later (numbers_of judged) n w.drawn is)
