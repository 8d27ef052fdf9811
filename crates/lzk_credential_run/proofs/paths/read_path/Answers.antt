use Rattle.lzk_cmd_files.specs.Seen.{seen}
use Rattle.lzk_cmd_files.proofs.Steps.{no_bytes, decoded}
use Rattle.lzk_credential_run.specs.Files.{path_files}
use Rattle.lzk_policy_texts.specs.Paths.{placed_of}
use Rattle.lzk_credential_run.proofs.paths.read_path.Goals as goal

pub returns-in_err-text-clause-gives : goal.returns-in_err-text-clause-gives
returns-in_err-text-clause-gives g c =
    no_bytes path_files placed_of c.args.name.now (seen g.S.Shelf c.args.shelf.now) (seen g.S.Shelf c.read_file.new.shelf) _ c.in_err-text.field-0.0 c.in_err-text.ensures.gives c.from_residual.ensures.1

pub returns-clause-gives : goal.returns-clause-gives
returns-clause-gives g c =
    decoded path_files placed_of c.args.name.now (seen g.S.Shelf c.args.shelf.now) (seen g.S.Shelf c.read_file.new.shelf) _ c.in_ok-text.text.items c.deref.result.now c.deref.ensures.value c.in_ok-text.ensures.gives c.path_in.ensures
