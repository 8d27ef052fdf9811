use Rattle.lzk_cmd_files.specs.Seen.{seen}
use Rattle.lzk_credential_run.proofs.Steps.{ended, goes_on, nothing_later}
use Rattle.lzk_credential_run.proofs.VerifyEnds.{shown_later}
use Rattle.lzk_credential_run.specs.Ends.{NothingPut, Settles}
use Rattle.lzk_credential_run.specs.Orders.{order_of}
use Rattle.lzk_credential_run.specs.Verified.{WithShown, shown_files}
use Rattle.lzk_goldilocks.specs.declared.element.Gold.{Gold}
use Rattle.std.proofs.Common.{List, subst}
use Rattle.std.specs.Prelude.{Vec}
use Rattle.std.specs.declared.alloc.Global.{Global}
use Rattle.lzk_credential_run.proofs.verifying.shown_to.Goals as goal

pub returns-in_err-publics : goal.returns-in_err-publics
returns-in_err-publics g c =
    let reads = c.in_err-publics.ensures.reads in
    ended (shown_files c.args.policy.now) c.args.shown.now (WithShown (order_of c.args.order.now) c.args.policy.now) (λ (v : Vec Gold Global). v.items) NothingPut (seen g.S.Shelf c.args.shelf.now) (seen g.S.Shelf c.read_shown.new.shelf) c.in_err-publics.field-0.0 _ reads.files reads c.in_err-publics.ensures.gives c.from_residual.ensures.1

pub returns : goal.returns
returns g c =
    let old = seen g.S.Shelf c.args.shelf.now in
    let mid = seen g.S.Shelf c.read_shown.new.shelf in
    let new = seen g.S.Shelf c.with_shown.new.shelf in
    let reads = c.in_ok-publics.ensures.reads in
    goes_on (shown_files c.args.policy.now) c.args.shown.now (WithShown (order_of c.args.order.now) c.args.policy.now) (λ (v : Vec Gold Global). v.items) NothingPut old mid new c.in_ok-publics.publics c.with_shown.result reads c.in_ok-publics.ensures.gives
    (shown_later (order_of c.args.order.now) c.args.policy.now c.in_ok-publics.publics.items) (nothing_later old mid new reads)
    (subst (λ (xs : List Gold). Settles (WithShown (order_of c.args.order.now) c.args.policy.now xs) NothingPut mid new c.with_shown.result) c.deref.ensures.value c.with_shown.ensures)
