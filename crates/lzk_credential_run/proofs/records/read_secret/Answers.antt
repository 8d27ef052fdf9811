use Rattle.std.proofs.Common.{ℕ, refl}
use Rattle.std.specs.Prelude.{Vec}
use Rattle.std.specs.declared.alloc.Global.{Global}
use Rattle.lzk_cmd_files.specs.Seen.{seen}
use Rattle.lzk_cmd_files.proofs.Steps.{no_bytes, decoded}
use Rattle.lzk_credential_run.specs.Files.{record_files}
use Rattle.lzk_credential_run.proofs.records.read_secret.Goals as goal

pub returns-in_err-bytes-clause-gives : goal.returns-in_err-bytes-clause-gives
returns-in_err-bytes-clause-gives g c =
    no_bytes (record_files 16) (λ (v : Vec ℕ Global). v.items) c.args.name.now (seen g.S.Shelf c.args.shelf.now) (seen g.S.Shelf c.read_file.new.shelf) _ c.in_err-bytes.field-0.0 c.in_err-bytes.ensures.gives c.from_residual.ensures.1

pub returns-clause-gives : goal.returns-clause-gives
returns-clause-gives g c =
    decoded (record_files 16) (λ (v : Vec ℕ Global). v.items) c.args.name.now (seen g.S.Shelf c.args.shelf.now) (seen g.S.Shelf c.read_file.new.shelf) _ c.in_ok-bytes.bytes.items c.in_ok-bytes.bytes.items refl c.in_ok-bytes.ensures.gives c.record_of.ensures
