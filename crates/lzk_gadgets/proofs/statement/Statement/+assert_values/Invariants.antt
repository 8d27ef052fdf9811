use Rattle.std.proofs.Common.{length}
use Rattle.lzk_gadgets.proofs.statement.Statement.+assert_values.Given as goal

abbrev pub decreases-assert_values : goal.decreases-assert_values
decreases-assert_values l = length l.xs.now
