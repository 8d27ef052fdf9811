use Rattle.std.proofs.Common.{ℕ, List, subst, ◌∙◌}
use Rattle.lzk_cmd_files.specs.Seen.{seen}
use Rattle.lzk_credential_run.specs.Ends.{NothingPut, Settles}
use Rattle.lzk_credential_run.specs.Holding.{HoldingRun, Prove}
use Rattle.lzk_credential_run.specs.Orders.{holding_of}
use Rattle.lzk_credential_run.proofs.running.prove_asked.Goals as goal

pub returns : goal.returns
returns g c =
    let words = c.args.words.now in
    subst (λ (session : List ℕ). Settles (HoldingRun words.policy.now (holding_of words.holding) (Prove (record { policy = words.policy.now; proof = words.proof.now; session = session }))) NothingPut (seen g.S.Shelf c.args.shelf.now) (seen g.S.Shelf c.hold.new.shelf) c.hold.result)
    (c.deref.ensures.value ∙ c.in_ok-session.ensures) c.hold.ensures
