use Rattle.std.proofs.Common.{ℕ, List, subst}
use Rattle.std.specs.Prelude.{Vec}
use Rattle.std.specs.declared.alloc.Global.{Global}
use Rattle.lzk_cmd_files.specs.Decoded.{proof_files}
use Rattle.lzk_cmd_files.specs.Seen.{seen}
use Rattle.lzk_credential_run.specs.Ends.{NothingPut}
use Rattle.lzk_credential_run.specs.Orders.{order_of}
use Rattle.lzk_credential_run.specs.Verified.{Judges, JudgesTo}
use Rattle.lzk_credential_run.proofs.Steps.{ended, goes_on, nothing_later}
use Rattle.lzk_credential_run.proofs.VerifyEnds.{judges_later, told}
use Rattle.lzk_credential_run.proofs.verifying.with_shown.Goals as goal

pub returns-in_err-bytes : goal.returns-in_err-bytes
returns-in_err-bytes g c =
    let reads = c.in_err-bytes.ensures.reads in
    ended proof_files c.args.order.now.proof.now (Judges (order_of c.args.order.now) c.args.policy.now c.args.publics.now) (λ (v : Vec ℕ Global). v.items) NothingPut (seen g.S.Shelf c.args.shelf.now) (seen g.S.Shelf c.read_proof.new.shelf) c.in_err-bytes.field-0.0 _ reads.files reads c.in_err-bytes.ensures.gives c.from_residual.ensures.1

pub returns : goal.returns
returns g c =
    let old = seen g.S.Shelf c.args.shelf.now in
    let mid = seen g.S.Shelf c.read_proof.new.shelf in
    let reads = c.in_ok-bytes.ensures.reads in
    let bytes = c.in_ok-bytes.bytes.items in
    let judged = subst (λ (bs : List ℕ). JudgesTo (order_of c.args.order.now) c.args.policy.now c.args.publics.now bs c.judged.result) c.deref.ensures.value c.judged.ensures in
    goes_on proof_files c.args.order.now.proof.now (Judges (order_of c.args.order.now) c.args.policy.now c.args.publics.now) (λ (v : Vec ℕ Global). v.items) NothingPut old mid mid c.in_ok-bytes.bytes c.judged.result reads c.in_ok-bytes.ensures.gives
    (judges_later (order_of c.args.order.now) c.args.policy.now c.args.publics.now bytes) (nothing_later old mid mid reads)
    (told (order_of c.args.order.now) c.args.policy.now c.args.publics.now bytes mid c.judged.result judged)
