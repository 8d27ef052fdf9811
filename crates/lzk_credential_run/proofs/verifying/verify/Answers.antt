use Rattle.lzk_cmd_files.specs.Seen.{seen}
use Rattle.lzk_credential_run.proofs.Steps.{ended, goes_on, nothing_later}
use Rattle.lzk_credential_run.proofs.VerifyEnds.{policy_later}
use Rattle.lzk_credential_run.specs.Ends.{NothingPut}
use Rattle.lzk_credential_run.specs.Files.{policy_files}
use Rattle.lzk_credential_run.specs.Orders.{order_of}
use Rattle.lzk_credential_run.specs.Verified.{ShownTo}
use Rattle.lzk_credential_run.proofs.verifying.verify.Goals as goal

pub returns-in_err-read : goal.returns-in_err-read
returns-in_err-read g c =
    let reads = c.in_err-read.ensures.reads in
    ended policy_files c.args.order.now.policy.now (ShownTo c.args.shown.now (order_of c.args.order.now)) (λ p. p) NothingPut (seen g.S.Shelf c.args.shelf.now) (seen g.S.Shelf c.read_policy.new.shelf) c.in_err-read.field-0.0 _ reads.files reads c.in_err-read.ensures.gives c.from_residual.ensures.1

pub returns : goal.returns
returns g c =
    let old = seen g.S.Shelf c.args.shelf.now in
    let mid = seen g.S.Shelf c.read_policy.new.shelf in
    let new = seen g.S.Shelf c.shown_to.new.shelf in
    let reads = c.in_ok-read.ensures.reads in
    goes_on policy_files c.args.order.now.policy.now (ShownTo c.args.shown.now (order_of c.args.order.now)) (λ p. p) NothingPut old mid new c.in_ok-read.read c.shown_to.result reads c.in_ok-read.ensures.gives
    (policy_later c.args.shown.now (order_of c.args.order.now) c.in_ok-read.read) (nothing_later old mid new reads)
    c.shown_to.ensures
