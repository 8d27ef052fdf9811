use Rattle.std.proofs.Common.{length}
use Rattle.lzk_circuit.proofs.eval.+eval_layers.Given as goal

abbrev pub decreases-eval_layers : goal.decreases-eval_layers
decreases-eval_layers g l = length l.layers.now
