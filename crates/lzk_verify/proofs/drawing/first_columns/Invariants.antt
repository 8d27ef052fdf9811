use Rattle.lzk_profile.specs.Profile.{opened_count}
use Rattle.std.proofs.Common.{◌≡◌, length}
use Rattle.lzk_sumcheck.proofs.Filled.{IsFilled}
use Rattle.lzk_verify.proofs.drawing.first_columns.Given as goal

abbrev pub invariant-loop-j : goal.invariant-loop-j
invariant-loop-j l = record { size : length l.columns.items ≡ opened_count; filled : IsFilled 0 (λ k. k) l.j l.columns.items }
