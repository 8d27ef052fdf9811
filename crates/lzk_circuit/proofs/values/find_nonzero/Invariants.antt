use Rattle.std.proofs.Common.{◌≡◌, ℕ, ◌<◌, get_or}
use Rattle.lzk_circuit.proofs.values.find_nonzero.Given as goal

abbrev pub invariant-loop-g : goal.invariant-loop-g
invariant-loop-g g l = let zero = g.F.Field.ops.zero in (k : ℕ) → k < l.g → get_or l.checks k zero ≡ zero
