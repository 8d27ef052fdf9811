use Rattle.std.proofs.Common.{subst}
use Rattle.lzk_cmd_files.specs.Seen.{seen}
use Rattle.lzk_credential_run.specs.Ends.{Settles}
use Rattle.lzk_credential_run.specs.Files.{path_files}
use Rattle.lzk_credential_run.specs.Holding.{Keeps, ShowsPlaced, purpose_of}
use Rattle.lzk_credential_run.specs.Orders.{holding_of}
use Rattle.lzk_policy_texts.specs.Paths.{Placed, placed_of, with_secret}
use Rattle.lzk_credential_run.proofs.HoldingEnds.{keeps_all, keeps_later, placed_later}
use Rattle.lzk_credential_run.proofs.Steps.{ended, goes_on}
use Rattle.lzk_credential_run.proofs.holding.show_path.Goals as goal

pub returns-in_err-read : goal.returns-in_err-read
returns-in_err-read g c =
    let reads = c.in_err-read.ensures.reads in
    let purpose = purpose_of c.args.purpose.now in
    ended (path_files) c.args.name.now (λ x. ShowsPlaced (holding_of c.args.holding.now) c.args.name.now (with_secret c.args.secret.items x) purpose c.args.policy.now) placed_of (Keeps purpose) (seen g.S.Shelf c.args.shelf.now) (seen g.S.Shelf c.read_path.new.shelf) c.in_err-read.field-0.0 _
    (keeps_all purpose (seen g.S.Shelf c.args.shelf.now) (seen g.S.Shelf c.read_path.new.shelf) reads.files) reads c.in_err-read.ensures.gives c.from_residual.ensures.1

pub returns : goal.returns
returns g c =
    let old = seen g.S.Shelf c.args.shelf.now in
    let mid = seen g.S.Shelf c.read_path.new.shelf in
    let new = seen g.S.Shelf c.show_placed.new.shelf in
    let reads = c.in_ok-read.ensures.reads in
    let purpose = purpose_of c.args.purpose.now in
    goes_on (path_files) c.args.name.now (λ x. ShowsPlaced (holding_of c.args.holding.now) c.args.name.now (with_secret c.args.secret.items x) purpose c.args.policy.now) placed_of (Keeps purpose) old mid new c.in_ok-read.read c.show_placed.result reads c.in_ok-read.ensures.gives
    (placed_later c.args.name.now (with_secret c.args.secret.items (placed_of c.in_ok-read.read)) purpose (holding_of c.args.holding.now) c.args.policy.now) (keeps_later purpose old mid new reads)
    (subst (λ (x : Placed). Settles (ShowsPlaced (holding_of c.args.holding.now) c.args.name.now x purpose c.args.policy.now) (Keeps purpose) mid new c.show_placed.result) c.beside-path.ensures c.show_placed.ensures)
