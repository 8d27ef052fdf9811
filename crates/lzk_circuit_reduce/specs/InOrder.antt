-- Terms that stay in order under other numbers of the wires below.
use Rattle.std.specs.Prelude.{ℕ, List}
use Rattle.lzk_circuit.specs.declared.layer.Term.{Term}
use Rattle.lzk_circuit_reduce.specs.Renumbering.{at}
use Rattle.lzk_circuit_reduce.specs.Rows.{ordered}

-- a term as one of a row over the wires with these numbers
abbrev pub over_numbers : {A : Type 0} → List ℕ → Term A → Term A
over_numbers numbers t = ordered t.coef (at numbers t.a) (at numbers t.b)
