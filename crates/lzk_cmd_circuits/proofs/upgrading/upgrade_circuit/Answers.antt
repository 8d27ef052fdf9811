use Rattle.std.specs.Prelude.{string_bytes}
use Rattle.lzk_cmd_files.specs.Seen.{seen}
use Rattle.lzk_cmd_circuits.specs.Upgraded.{PutsUpgraded}
use Rattle.lzk_cmd_circuits.proofs.ShaFiles.{no_memory}
use Rattle.lzk_cmd_circuits.proofs.Upgrades.{puts_upgraded}
use Rattle.lzk_cmd_files.proofs.Sights.{no_step, only_moves}
use Rattle.lzk_cmd_circuits.proofs.upgrading.upgrade_circuit.Goals as goal

pub returns-in_err-bytes-clause-walks : goal.returns-in_err-bytes-clause-walks
returns-in_err-bytes-clause-walks g c = no_memory (λ files. PutsUpgraded c.args.circuit c.args.name.now) 1 (seen g.S.Shelf c.args.shelf.now) _ c.from_residual.ensures.1

pub returns-clause-walks : goal.returns-clause-walks
returns-clause-walks g c =
    puts_upgraded c.args.circuit c.args.name.now c.in_ok-bytes.bytes.items c.deref.result.now (string_bytes c.in_ok-bytes.text) (seen g.S.Shelf c.args.shelf.now) (seen g.S.Shelf c.put_file.new.shelf) c.put_file.result
    c.in_ok-bytes.ensures.file c.in_ok-bytes.ensures.text c.deref.ensures.value c.put_file.ensures.puts

pub returns-in_err-bytes-clause-moves : goal.returns-in_err-bytes-clause-moves
returns-in_err-bytes-clause-moves g c = only_moves (seen g.S.Shelf c.args.shelf.now) (seen g.S.Shelf c.args.shelf.now) (no_step (seen g.S.Shelf c.args.shelf.now))

pub returns-clause-moves : goal.returns-clause-moves
returns-clause-moves g c = c.put_file.ensures.moves
