use Rattle.std.proofs.Common.{◌∙◌, refl, arith}
use Rattle.lzk_cmd_files.specs.Decoded.{proof_files}
use Rattle.lzk_cmd_files.specs.Seen.{seen}
use Rattle.lzk_cmd_files.proofs.Steps.{no_bytes}
use Rattle.lzk_cmd_batch.specs.Batched.{among}
use Rattle.lzk_cmd_batch.proofs.Gathers.{items_with}
use Rattle.lzk_cmd_batch.proofs.Keeping.{over, counted}
use Rattle.lzk_cmd_batch.proofs.totals.read_proof.Goals as goal

pub returns-in_err-bytes-clause-reads : goal.returns-in_err-bytes-clause-reads
returns-in_err-bytes-clause-reads g c = c.read_file.ensures.reads

pub returns-in_err-taken-clause-reads : goal.returns-in_err-taken-clause-reads
returns-in_err-taken-clause-reads g c = c.read_file.ensures.reads

pub returns-clause-reads : goal.returns-clause-reads
returns-clause-reads g c = c.read_file.ensures.reads

pub count_in-requires-clause-taken : goal.count_in-requires-clause-taken
count_in-requires-clause-taken g c = c.requires.taken

pub count_in-requires-clause-bytes : goal.count_in-requires-clause-bytes
count_in-requires-clause-bytes g c = omega (arith, c.len.ensures, c.in_ok-bytes.bytes.ok.0, c.in_ok-bytes.ensures.fits)

pub returns-in_err-bytes-clause-gives : goal.returns-in_err-bytes-clause-gives
returns-in_err-bytes-clause-gives g c =
    no_bytes (among c.args.taken proof_files) items_with c.args.name.now (seen g.S.Shelf c.args.shelf.now) (seen g.S.Shelf c.read_file.new.shelf) _ c.in_err-bytes.field-0.0 c.in_err-bytes.ensures.gives c.from_residual.ensures.1

pub returns-in_err-taken-clause-gives : goal.returns-in_err-taken-clause-gives
returns-in_err-taken-clause-gives g c =
    over proof_files items_with c.args.name.now (seen g.S.Shelf c.args.shelf.now) (seen g.S.Shelf c.read_file.new.shelf) c.args.taken _ c.in_ok-bytes.bytes.items c.len.result c.in_err-taken.field-0.0
    (c.len.ensures ∙ c.in_ok-bytes.bytes.ok.0) c.in_ok-bytes.ensures.gives c.in_err-taken.ensures c.from_residual-in_err-taken.ensures.1

pub returns-clause-gives : goal.returns-clause-gives
returns-clause-gives g c =
    let bytes = c.in_ok-bytes.bytes in
    let all = c.in_ok-taken.taken in
    counted proof_files items_with c.args.name.now (seen g.S.Shelf c.args.shelf.now) (seen g.S.Shelf c.read_file.new.shelf) c.args.taken (bytes, all) bytes.items bytes.items c.len.result all
    refl (c.len.ensures ∙ bytes.ok.0) c.in_ok-bytes.ensures.gives c.in_ok-taken.ensures refl refl
