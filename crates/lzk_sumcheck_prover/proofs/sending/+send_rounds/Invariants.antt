use Rattle.std.proofs.Common.{◌+◌, length}
use Rattle.lzk_sumcheck_prover.proofs.sending.+send_rounds.Given as goal

abbrev pub decreases-send_rounds : goal.decreases-send_rounds
decreases-send_rounds g l = length l.ra.now + length l.rb.now
