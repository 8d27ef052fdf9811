use Rattle.std.proofs.Common.{length}
use Rattle.lzk_level.proofs.wires.+form_row.Given as goal

abbrev pub decreases-form_row : goal.decreases-form_row
decreases-form_row g l = length l.form.now
