use Rattle.lzk_cmd_files.specs.Seen.{seen}
use Rattle.lzk_cmd_files.proofs.Steps.{no_bytes, decoded}
use Rattle.lzk_credential_run.specs.Verified.{shown_files}
use Rattle.lzk_credential_run.proofs.VerifyEnds.{counted}
use Rattle.lzk_credential_run.proofs.verifying.read_shown.Goals as goal

pub returns-in_err-text-clause-gives : goal.returns-in_err-text-clause-gives
returns-in_err-text-clause-gives g c =
    no_bytes (shown_files c.args.policy.now) (λ v. v.items) c.args.name.now (seen g.S.Shelf c.args.shelf.now) (seen g.S.Shelf c.read_file.new.shelf) _ c.in_err-text.field-0.0 c.in_err-text.ensures.gives c.from_residual.ensures.1

pub returns-clause-gives : goal.returns-clause-gives
returns-clause-gives g c =
    decoded (shown_files c.args.policy.now) (λ v. v.items) c.args.name.now (seen g.S.Shelf c.args.shelf.now) (seen g.S.Shelf c.read_file.new.shelf) _ c.in_ok-text.text.items c.deref.result.now c.deref.ensures.value c.in_ok-text.ensures.gives c.shown_in.ensures

pub returns-clause-count : goal.returns-clause-count
returns-clause-count g c = counted c.args.policy.now c.args.name.now c.deref.result.now c.shown_in.result c.shown_in.ensures
