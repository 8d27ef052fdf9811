use Rattle.std.proofs.Common.{List, ℕ, subst}
use Rattle.std.specs.Prelude.{Vec}
use Rattle.std.specs.declared.alloc.Global.{Global}
use Rattle.lzk_cmd_files.specs.Seen.{seen}
use Rattle.lzk_credential_run.specs.Ends.{Settles}
use Rattle.lzk_credential_run.specs.Files.{record_files}
use Rattle.lzk_credential_run.specs.Holding.{Keeps, ShowsRecord, purpose_of}
use Rattle.lzk_policy_texts.specs.Paths.{placed_of}
use Rattle.lzk_credential_run.proofs.HoldingEnds.{keeps_all, keeps_later, record_later}
use Rattle.lzk_credential_run.proofs.Steps.{ended, goes_on}
use Rattle.lzk_credential_run.proofs.holding.show_placed.Goals as goal

pub returns-in_err-read : goal.returns-in_err-read
returns-in_err-read g c =
    let reads = c.in_err-read.ensures.reads in
    let purpose = purpose_of c.args.purpose.now in
    ended (record_files c.args.policy.now.size) c.args.holding.now.record.now (ShowsRecord c.args.holding.now.values.now c.args.name.now (placed_of c.args.path.now) purpose c.args.policy.now) (λ (v : Vec ℕ Global). v.items) (Keeps purpose) (seen g.S.Shelf c.args.shelf.now) (seen g.S.Shelf c.read_record.new.shelf) c.in_err-read.field-0.0 _
    (keeps_all purpose (seen g.S.Shelf c.args.shelf.now) (seen g.S.Shelf c.read_record.new.shelf) reads.files) reads c.in_err-read.ensures.gives c.from_residual.ensures.1

pub returns : goal.returns
returns g c =
    let old = seen g.S.Shelf c.args.shelf.now in
    let mid = seen g.S.Shelf c.read_record.new.shelf in
    let new = seen g.S.Shelf c.show_record.new.shelf in
    let reads = c.in_ok-read.ensures.reads in
    let purpose = purpose_of c.args.purpose.now in
    goes_on (record_files c.args.policy.now.size) c.args.holding.now.record.now (ShowsRecord c.args.holding.now.values.now c.args.name.now (placed_of c.args.path.now) purpose c.args.policy.now) (λ (v : Vec ℕ Global). v.items) (Keeps purpose) old mid new c.in_ok-read.read c.show_record.result reads c.in_ok-read.ensures.gives
    (record_later c.args.name.now (placed_of c.args.path.now) purpose c.args.holding.now.values.now c.args.policy.now c.in_ok-read.read.items) (keeps_later purpose old mid new reads)
    (subst (λ (m : List ℕ). Settles (ShowsRecord c.args.holding.now.values.now c.args.name.now (placed_of c.args.path.now) purpose c.args.policy.now m) (Keeps purpose) mid new c.show_record.result) c.deref.ensures.value c.show_record.ensures)
