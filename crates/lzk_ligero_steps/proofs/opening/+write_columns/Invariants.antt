use Rattle.std.proofs.Common.{length}
use Rattle.lzk_ligero_steps.proofs.opening.+write_columns.Given as goal

abbrev pub decreases-write_columns : goal.decreases-write_columns
decreases-write_columns g l = length l.columns.now
