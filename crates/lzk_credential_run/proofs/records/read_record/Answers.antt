use Rattle.std.proofs.Common.{ℕ, refl, subst}
use Rattle.std.specs.Prelude.{Vec}
use Rattle.std.specs.declared.alloc.Global.{Global}
use Rattle.lzk_cmd_files.specs.Seen.{seen}
use Rattle.lzk_cmd_files.specs.Walks.{Gives}
use Rattle.lzk_cmd_files.proofs.Steps.{no_bytes, decoded}
use Rattle.lzk_credential_run.specs.Files.{record_files}
use Rattle.lzk_credential_run.proofs.records.read_record.Goals as goal

pub returns-in_err-bytes-clause-gives : goal.returns-in_err-bytes-clause-gives
returns-in_err-bytes-clause-gives g c =
    let old = seen g.S.Shelf c.args.shelf.now in
    let new = seen g.S.Shelf c.read_file.new.shelf in
    subst (λ (n : ℕ). Gives (record_files n) (λ (v : Vec ℕ Global). v.items) old new c.args.name.now c.from_residual.result) c.size-size.ensures.size
    (no_bytes (record_files c.size-size.result) (λ (v : Vec ℕ Global). v.items) c.args.name.now old new _ c.in_err-bytes.field-0.0 c.in_err-bytes.ensures.gives c.from_residual.ensures.1)

pub returns-clause-gives : goal.returns-clause-gives
returns-clause-gives g c =
    let old = seen g.S.Shelf c.args.shelf.now in
    let new = seen g.S.Shelf c.read_file.new.shelf in
    subst (λ (n : ℕ). Gives (record_files n) (λ (v : Vec ℕ Global). v.items) old new c.args.name.now c.record_of.result) c.size-size.ensures.size
    (decoded (record_files c.size-size.result) (λ (v : Vec ℕ Global). v.items) c.args.name.now old new _ c.in_ok-bytes.bytes.items c.in_ok-bytes.bytes.items refl c.in_ok-bytes.ensures.gives c.record_of.ensures)
