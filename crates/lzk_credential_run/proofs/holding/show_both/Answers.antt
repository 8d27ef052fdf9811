use Rattle.std.proofs.Common.{ℕ}
use Rattle.std.specs.Prelude.{Vec}
use Rattle.std.specs.declared.alloc.Global.{Global}
use Rattle.lzk_cmd_files.specs.Seen.{seen}
use Rattle.lzk_credential_run.specs.Files.{record_files}
use Rattle.lzk_credential_run.specs.Holding.{Keeps, ShowsPath, purpose_of}
use Rattle.lzk_credential_run.specs.Orders.{holding_of}
use Rattle.lzk_credential_run.proofs.HoldingEnds.{keeps_all, keeps_later, path_later}
use Rattle.lzk_credential_run.proofs.Steps.{ended, goes_on}
use Rattle.lzk_credential_run.proofs.holding.show_both.Goals as goal

pub returns-in_err-read : goal.returns-in_err-read
returns-in_err-read g c =
    let reads = c.in_err-read.ensures.reads in
    let purpose = purpose_of c.args.purpose.now in
    ended (record_files 16) c.args.secret.now (λ s. ShowsPath (holding_of c.args.holding.now) c.args.path.now s purpose c.args.policy.now) (λ (v : Vec ℕ Global). v.items) (Keeps purpose) (seen g.S.Shelf c.args.shelf.now) (seen g.S.Shelf c.read_secret.new.shelf) c.in_err-read.field-0.0 _
    (keeps_all purpose (seen g.S.Shelf c.args.shelf.now) (seen g.S.Shelf c.read_secret.new.shelf) reads.files) reads c.in_err-read.ensures.gives c.from_residual.ensures.1

pub returns : goal.returns
returns g c =
    let old = seen g.S.Shelf c.args.shelf.now in
    let mid = seen g.S.Shelf c.read_secret.new.shelf in
    let new = seen g.S.Shelf c.show_path.new.shelf in
    let reads = c.in_ok-read.ensures.reads in
    let purpose = purpose_of c.args.purpose.now in
    goes_on (record_files 16) c.args.secret.now (λ s. ShowsPath (holding_of c.args.holding.now) c.args.path.now s purpose c.args.policy.now) (λ (v : Vec ℕ Global). v.items) (Keeps purpose) old mid new c.in_ok-read.read c.show_path.result reads c.in_ok-read.ensures.gives
    (path_later (holding_of c.args.holding.now) purpose c.args.policy.now c.args.path.now c.in_ok-read.read.items) (keeps_later purpose old mid new reads)
    (c.show_path.ensures)
