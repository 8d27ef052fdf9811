use Rattle.std.proofs.Common.{List, ℕ, Ok, Err, subst}
use Rattle.std.specs.Prelude.{Vec}
use Rattle.std.specs.declared.alloc.Global.{Global}
use Rattle.lzk_cmd_files.specs.Seen.{seen}
use Rattle.lzk_cmd_files.specs.Walks.{Gives}
use Rattle.lzk_policy_inputs.specs.declared.value.Value.{Value}
use Rattle.lzk_credential_run.specs.Ends.{Settles}
use Rattle.lzk_credential_run.specs.Given.{value_files}
use Rattle.lzk_credential_run.specs.Holding.{Keeps, ShowsValues, purpose_of}
use Rattle.lzk_policy_texts.specs.Paths.{placed_of}
use Rattle.lzk_credential_run.proofs.HoldingEnds.{keeps_all, keeps_later, values_later}
use Rattle.lzk_credential_run.proofs.Steps.{ended, goes_on}
use Rattle.lzk_credential_run.proofs.holding.show_record.Goals as goal

pub returns-in_err-read : goal.returns-in_err-read
returns-in_err-read g c =
    let reads = c.in_err-read.ensures.reads in
    let purpose = purpose_of c.args.showing.now.purpose in
    ended (value_files c.args.policy.now c.args.showing.now.path.now.secret.items) c.args.values.now (ShowsValues c.args.showing.now.name.now (placed_of c.args.showing.now.path.now) purpose c.args.policy.now c.args.bytes.now) (λ (v : Vec Value Global). v.items) (Keeps purpose) (seen g.S.Shelf c.args.shelf.now) (seen g.S.Shelf c.read_given.new.shelf) c.in_err-read.field-0.0 _
    (keeps_all purpose (seen g.S.Shelf c.args.shelf.now) (seen g.S.Shelf c.read_given.new.shelf) reads.files) reads (subst (λ (s : List ℕ). Gives (value_files c.args.policy.now s) (λ (v : Vec Value Global). v.items) (seen g.S.Shelf c.args.shelf.now) (seen g.S.Shelf c.read_given.new.shelf) c.args.values.now (Err c.in_err-read.field-0.0)) c.deref.ensures.value c.in_err-read.ensures.gives) c.from_residual.ensures.1

pub returns : goal.returns
returns g c =
    let old = seen g.S.Shelf c.args.shelf.now in
    let mid = seen g.S.Shelf c.read_given.new.shelf in
    let new = seen g.S.Shelf c.show_values.new.shelf in
    let reads = c.in_ok-read.ensures.reads in
    let purpose = purpose_of c.args.showing.now.purpose in
    goes_on (value_files c.args.policy.now c.args.showing.now.path.now.secret.items) c.args.values.now (ShowsValues c.args.showing.now.name.now (placed_of c.args.showing.now.path.now) purpose c.args.policy.now c.args.bytes.now) (λ (v : Vec Value Global). v.items) (Keeps purpose) old mid new c.in_ok-read.read c.show_values.result reads (subst (λ (s : List ℕ). Gives (value_files c.args.policy.now s) (λ (v : Vec Value Global). v.items) old mid c.args.values.now (Ok c.in_ok-read.read)) c.deref.ensures.value c.in_ok-read.ensures.gives)
    (values_later c.args.showing.now.name.now (placed_of c.args.showing.now.path.now) purpose c.args.policy.now c.args.bytes.now c.in_ok-read.read.items) (keeps_later purpose old mid new reads)
    (subst (λ (vs : List Value). Settles (ShowsValues c.args.showing.now.name.now (placed_of c.args.showing.now.path.now) purpose c.args.policy.now c.args.bytes.now vs) (Keeps purpose) mid new c.show_values.result) c.deref-2.ensures.value c.show_values.ensures)
