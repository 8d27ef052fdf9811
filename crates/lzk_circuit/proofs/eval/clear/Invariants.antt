use Rattle.std.proofs.Common.{◌≡◌, ℕ, ◌<◌, get_or}
use Rattle.lzk_circuit.proofs.eval.clear.Given as goal

abbrev pub invariant-loop-wire : goal.invariant-loop-wire
invariant-loop-wire g l = let zero = g.F.Field.ops.zero in (k : ℕ) → k < l.wire-index → get_or l.out k zero ≡ zero
