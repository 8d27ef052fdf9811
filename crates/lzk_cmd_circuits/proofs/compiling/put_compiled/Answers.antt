use Rattle.lzk_cmd_files.specs.Seen.{seen}
use Rattle.lzk_cmd_circuits.proofs.Compiles.{no_circuit, puts_circuit}
use Rattle.lzk_cmd_files.proofs.Sights.{no_step, only_moves}
use Rattle.lzk_cmd_circuits.proofs.compiling.put_compiled.Goals as goal

pub returns-in_err-bytes-clause-walks : goal.returns-in_err-bytes-clause-walks
returns-in_err-bytes-clause-walks g c =
    λ source is. no_circuit c.args.version c.args.name.now c.args.circuit.now source (seen g.S.Shelf c.args.shelf.now) c.in_err-bytes.field-0.0 _ (c.in_err-bytes.ensures source is) c.from_residual.ensures.1

pub returns-clause-walks : goal.returns-clause-walks
returns-clause-walks g c =
    λ source is. puts_circuit c.args.version c.args.name.now c.args.circuit.now source (seen g.S.Shelf c.args.shelf.now) (seen g.S.Shelf c.put_file.new.shelf) (c.in_ok-bytes.bytes, c.in_ok-bytes.text) c.deref.result.now _ (c.in_ok-bytes.ensures source is) c.deref.ensures.value c.put_file.ensures.puts

pub returns-in_err-bytes-clause-moves : goal.returns-in_err-bytes-clause-moves
returns-in_err-bytes-clause-moves g c = only_moves (seen g.S.Shelf c.args.shelf.now) (seen g.S.Shelf c.args.shelf.now) (no_step (seen g.S.Shelf c.args.shelf.now))

pub returns-clause-moves : goal.returns-clause-moves
returns-clause-moves g c = c.put_file.ensures.moves
