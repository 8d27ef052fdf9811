use Rattle.std.proofs.Common.{ℕ, subst}
use Rattle.std.specs.Prelude.{string_bytes}
use Rattle.lzk_cmd_circuits.specs.ShaCircuits.{ShaCircuitRun}
use Rattle.lzk_cmd_words.specs.Keys.{number_of}
use Rattle.lzk_cmd_files.specs.Seen.{seen}
use Rattle.lzk_cmd_files.specs.Walks.{EndsAtPut, WalksToPut}
use Rattle.lzk_cmd_files.specs.declared.ending.Halt.TheVariants as halts
use Rattle.lzk_cmd_files.proofs.Steps.{handed_on}
use Rattle.lzk_cmd_circuits.proofs.ShaFiles.{ends_at_put, no_memory, puts_sha}
use Rattle.lzk_cmd_files.proofs.Sights.{no_step, only_moves}
use Rattle.lzk_cmd_circuits.proofs.sha_circuits.shacircuit.Goals as goal

pub returns-in_err-bytes-clause-walks : goal.returns-in_err-bytes-clause-walks
returns-in_err-bytes-clause-walks g c = no_memory (ShaCircuitRun (number_of c.args.count.now) c.args.circuit.now) 0 (seen g.S.Shelf c.args.shelf.now) _ c.from_residual.ensures.1

pub returns-clause-walks : goal.returns-clause-walks
returns-clause-walks g c =
    let old = seen g.S.Shelf c.args.shelf.now in
    let new = seen g.S.Shelf c.put_file.new.shelf in
    let name = c.args.circuit.now in
    subst (λ (n : ℕ). WalksToPut (ShaCircuitRun n name) 0 old new c.put_file.result) c.len_of.ensures.number
    (puts_sha c.len_of.result name c.deref.result.now (string_bytes c.in_ok-bytes.text) c.in_ok-bytes.bytes.items old new c.put_file.result c.in_ok-bytes.ensures c.deref.ensures.value c.put_file.ensures.puts)

pub returns-in_err-bytes-clause-put : goal.returns-in_err-bytes-clause-put
returns-in_err-bytes-clause-put g c = handed_on EndsAtPut _ halts.Memory c.from_residual.ensures.1 tt

pub returns-clause-put : goal.returns-clause-put
returns-clause-put g c = ends_at_put c.args.circuit.now c.deref.result.now (string_bytes c.in_ok-bytes.text) (seen g.S.Shelf c.args.shelf.now) (seen g.S.Shelf c.put_file.new.shelf) c.put_file.result c.put_file.ensures.puts

pub returns-in_err-bytes-clause-moves : goal.returns-in_err-bytes-clause-moves
returns-in_err-bytes-clause-moves g c = only_moves (seen g.S.Shelf c.args.shelf.now) (seen g.S.Shelf c.args.shelf.now) (no_step (seen g.S.Shelf c.args.shelf.now))

pub returns-clause-moves : goal.returns-clause-moves
returns-clause-moves g c = c.put_file.ensures.moves

pub len_of-requires : goal.len_of-requires
len_of-requires g c = c.requires.number

pub sha_file-requires : goal.sha_file-requires
sha_file-requires g c = c.len_of.ensures.most
