use Rattle.std.proofs.Common.{length}
use Rattle.lzk_plain.proofs.extender.Row.+extend_from.Given as goal

abbrev pub decreases-extend_from : goal.decreases-extend_from
decreases-extend_from g l = length l.out.now
