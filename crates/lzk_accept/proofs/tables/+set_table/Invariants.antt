use Rattle.std.proofs.Common.{length}
use Rattle.lzk_accept.proofs.tables.+set_table.Given as goal

abbrev pub decreases-set_table : goal.decreases-set_table
decreases-set_table g l = length l.r.now
