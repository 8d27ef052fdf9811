use Rattle.std.proofs.Common.{◌≡◌, ◌+◌, drop}
use Rattle.lzk_cmd_circuits.specs.Compiled.{term_count}
use Rattle.lzk_cmd_circuits.proofs.compiling.count_terms.Given as goal

abbrev pub invariant-loop-l : goal.invariant-loop-l
invariant-loop-l g l = l.count + term_count (drop l.l l.circuit.layers) ≡ term_count l.circuit.layers
