use Rattle.std.proofs.Common.{◌≡◌, ℕ, Some, length}
use Rattle.std.specs.Prelude.{slice_get}
use Rattle.lzk_batch.specs.declared.job.AnyVerdict.{AnyVerdict}
use Rattle.lzk_batch.specs.Batch.{HasVerdictIn}
use Rattle.lzk_batch.proofs.order.in_order.Given as goal

abbrev pub invariant-loop-number : goal.invariant-loop-number
invariant-loop-number l = record { count : length l.verdicts.items ≡ l.number; found : (k : ℕ) (v : AnyVerdict) → slice_get l.verdicts.items k ≡ Some v → HasVerdictIn l.lists k v }
