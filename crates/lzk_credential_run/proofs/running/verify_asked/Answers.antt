use Rattle.std.proofs.Common.{ℕ, List, subst, ◌∙◌}
use Rattle.lzk_cmd_files.specs.Seen.{seen}
use Rattle.lzk_credential_run.specs.Ends.{NothingPut, Settles}
use Rattle.lzk_credential_run.specs.Verified.{VerifyRun}
use Rattle.lzk_credential_run.proofs.running.verify_asked.Goals as goal

pub returns : goal.returns
returns g c =
    let words = c.args.words.now in
    subst (λ (session : List ℕ). Settles (VerifyRun words.shown.now (record { policy = words.policy.now; proof = words.proof.now; session = session })) NothingPut (seen g.S.Shelf c.args.shelf.now) (seen g.S.Shelf c.verify.new.shelf) c.verify.result)
    (c.deref.ensures.value ∙ c.in_ok-session.ensures) c.verify.ensures
