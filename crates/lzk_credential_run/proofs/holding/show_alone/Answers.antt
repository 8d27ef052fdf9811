use Rattle.std.proofs.Common.{[], ap, subst, ◌∙◌}
use Rattle.lzk_cmd_files.specs.Seen.{seen}
use Rattle.lzk_credential_run.specs.Ends.{Settles}
use Rattle.lzk_credential_run.specs.Holding.{Keeps, ShowsPlaced, purpose_of}
use Rattle.lzk_credential_run.specs.Orders.{holding_of}
use Rattle.lzk_policy_texts.specs.Paths.{Placed, alone}
use Rattle.lzk_credential_run.proofs.holding.show_alone.Goals as goal

pub returns : goal.returns
returns g c =
    subst (λ (x : Placed). Settles (ShowsPlaced (holding_of c.args.holding.now) [] x (purpose_of c.args.purpose.now) c.args.policy.now) (Keeps (purpose_of c.args.purpose.now)) (seen g.S.Shelf c.args.shelf.now) (seen g.S.Shelf c.show_placed.new.shelf) c.show_placed.result) (c.alone-path.ensures ∙ ap alone c.new.ensures.items) c.show_placed.ensures
