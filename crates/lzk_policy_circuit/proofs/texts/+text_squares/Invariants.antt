use Rattle.std.proofs.Common.{length}
use Rattle.lzk_policy_circuit.proofs.texts.+text_squares.Given as goal

abbrev pub decreases-text_squares : goal.decreases-text_squares
decreases-text_squares l = length l.text.now
