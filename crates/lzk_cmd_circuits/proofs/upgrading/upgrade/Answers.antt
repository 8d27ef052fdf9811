use Rattle.std.proofs.Common.{ℕ, List}
use Rattle.lzk_circbytes.specs.declared.any.AnyCircuit.{AnyCircuit}
use Rattle.lzk_outside.specs.Outside.{Files}
use Rattle.lzk_cmd_files.specs.Decoded.{circuit_files}
use Rattle.lzk_cmd_files.specs.Ends.{End, Stop}
use Rattle.lzk_cmd_files.specs.Seen.{seen}
use Rattle.lzk_cmd_files.proofs.Laws as laws
use Rattle.lzk_cmd_files.proofs.Steps.{ends, then}
use Rattle.lzk_cmd_circuits.specs.Upgraded.{PutsUpgraded, UpgradeRun}
use Rattle.lzk_cmd_files.proofs.Sights.{only_moves, moves_then}
use Rattle.lzk_cmd_circuits.proofs.upgrading.upgrade.Goals as goal

-- the walk that has the circuit
abbrev next : List ℕ → Files → Stop → End → AnyCircuit → Type 0
next name files stop end c = PutsUpgraded c name stop end

pub returns-in_err-circuit-clause-walks : goal.returns-in_err-circuit-clause-walks
unfolding UpgradeRun
returns-in_err-circuit-clause-walks g c =
    ends circuit_files (λ x. x) c.args.old.now 0 (next c.args.new.now) (Unit {0}) (seen g.S.Shelf c.args.shelf.now) (seen g.S.Shelf c.read_circuit.new.shelf) c.in_err-circuit.field-0.0 _ (laws.circuits.quiet c.args.old.now) c.in_err-circuit.ensures.reads c.in_err-circuit.ensures.gives c.from_residual.ensures.1

pub returns-clause-walks : goal.returns-clause-walks
unfolding UpgradeRun
returns-clause-walks g c =
    then circuit_files (λ x. x) c.args.old.now 0 (next c.args.new.now) (Unit {0}) (seen g.S.Shelf c.args.shelf.now) (seen g.S.Shelf c.read_circuit.new.shelf) (seen g.S.Shelf c.upgrade_circuit.new.shelf) c.in_ok-circuit.circuit c.upgrade_circuit.result c.in_ok-circuit.ensures.reads c.in_ok-circuit.ensures.gives c.upgrade_circuit.ensures.walks

pub returns-in_err-circuit-clause-moves : goal.returns-in_err-circuit-clause-moves
returns-in_err-circuit-clause-moves g c = only_moves (seen g.S.Shelf c.args.shelf.now) (seen g.S.Shelf c.read_circuit.new.shelf) c.read_circuit.ensures.reads

pub returns-clause-moves : goal.returns-clause-moves
returns-clause-moves g c = moves_then (seen g.S.Shelf c.args.shelf.now) (seen g.S.Shelf c.read_circuit.new.shelf) (seen g.S.Shelf c.upgrade_circuit.new.shelf) c.read_circuit.ensures.reads c.upgrade_circuit.ensures.moves
