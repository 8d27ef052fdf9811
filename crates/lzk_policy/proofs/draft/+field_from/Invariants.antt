use Rattle.std.proofs.Common.{length}
use Rattle.lzk_policy.proofs.draft.+field_from.Given as goal

abbrev pub decreases-field_from : goal.decreases-field_from
decreases-field_from l = length l.fields.now
