use Rattle.std.proofs.Common.{ℕ, subst}
use Rattle.lzk_cmd_files.specs.Seen.{seen}
use Rattle.lzk_credential_run.specs.Ends.{Reads, Settles}
use Rattle.lzk_credential_run.specs.Files.{kind_files}
use Rattle.lzk_credential_run.specs.Holding.{Keeps, ShowsBeside, purpose_of}
use Rattle.lzk_credential_run.specs.Orders.{holding_of}
use Rattle.lzk_credential_run.proofs.HoldingEnds.{beside_later, keeps_all, keeps_later}
use Rattle.lzk_credential_run.proofs.Steps.{ended, goes_on}
use Rattle.lzk_credential_run.proofs.holding.hold.Goals as goal

pub returns-in_err-read : goal.returns-in_err-read
returns-in_err-read g c =
    let old = seen g.S.Shelf c.args.shelf.now in
    let new = seen g.S.Shelf c.read_kind.new.shelf in
    let reads = c.in_err-read.ensures.reads in
    let purpose = purpose_of c.args.purpose.now in
    let next = ShowsBeside (holding_of c.args.holding.now) purpose in
    subst (λ (n : ℕ). Settles (Reads (kind_files n) c.args.policy.now next) (Keeps purpose) old new c.from_residual.result) c.file_count-count.ensures
    (ended (kind_files c.file_count-count.result) c.args.policy.now next (λ p. p) (Keeps purpose) old new c.in_err-read.field-0.0 _ (keeps_all purpose old new reads.files) reads c.in_err-read.ensures.gives c.from_residual.ensures.1)

pub returns : goal.returns
returns g c =
    let old = seen g.S.Shelf c.args.shelf.now in
    let mid = seen g.S.Shelf c.read_kind.new.shelf in
    let new = seen g.S.Shelf c.show_beside.new.shelf in
    let reads = c.in_ok-read.ensures.reads in
    let purpose = purpose_of c.args.purpose.now in
    let next = ShowsBeside (holding_of c.args.holding.now) purpose in
    subst (λ (n : ℕ). Settles (Reads (kind_files n) c.args.policy.now next) (Keeps purpose) old new c.show_beside.result) c.file_count-count.ensures
    (goes_on (kind_files c.file_count-count.result) c.args.policy.now next (λ p. p) (Keeps purpose) old mid new c.in_ok-read.read c.show_beside.result reads c.in_ok-read.ensures.gives
    (beside_later (holding_of c.args.holding.now) purpose c.in_ok-read.read) (keeps_later purpose old mid new reads) c.show_beside.ensures)
