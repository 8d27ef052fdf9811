-- What workers do with the passes that they are lent.
use Rattle.std.specs.Prelude.{◌≡◌, ◌≤◌, ◌<◌, ◌++◌, ℕ, List, [], ◌∷◌, length, All}
use Rattle.lzk_circbytes.specs.declared.any.AnyCircuit.{AnyCircuit}
use Rattle.lzk_batch.specs.declared.job.Job.{Job}
use Rattle.lzk_batch.specs.declared.job.Judged.{Judged}
use Rattle.lzk_batch.specs.Passes.{TicketsState, PassState, IsOf, IsOpen}
use Rattle.lzk_batch.specs.Batch.{IsJobFit, IsJudged, numbers_of, HasDrawnMore, AllZip₃}

-- a pass may be lent for these jobs: it is of these tickets, and has not drawn past them
pub record IsReady (batch : List AnyCircuit) (list : List Job) (tickets : TicketsState)
    (pass : PassState) : Type 0 where
  pub fit : All (IsJobFit batch) list
  pub of : IsOf tickets pass
  pub still : IsOpen tickets pass

-- so may these passes
pub record AreReady (batch : List AnyCircuit) (list : List Job) (tickets : TicketsState)
    (passes : List PassState) : Type 0 where
  pub fit : All (IsJobFit batch) list
  pub of : All (IsOf tickets) passes
  pub still : All (IsOpen tickets) passes

-- the pass has drawn the numbers of these jobs, in this order, each of which has its verdict, and then one number that
-- is no job's
pub record HasWorked (batch : List AnyCircuit) (list : List Job) (old new : PassState)
    (judged : List Judged) : Type 0 where
  pub last : ℕ
  pub past : length list ≤ last
  pub below : All (λ n. n < length list) (numbers_of judged)
  pub drawn : HasDrawnMore old new (numbers_of judged ++ last ∷ [])
  pub verdicts : All (IsJudged batch list) judged

abbrev pub HaveWorked : List AnyCircuit → List Job → List PassState → List PassState → List (List Judged) → Type 0
HaveWorked batch list old new judged = AllZip₃ (HasWorked batch list) old new judged
