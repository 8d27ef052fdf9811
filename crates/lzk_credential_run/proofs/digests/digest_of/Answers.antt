use Rattle.std.proofs.Common.{ℕ, List, Ok, refl, sym, ap, ◌∙◌}
use Rattle.std.specs.Prelude.{Vec}
use Rattle.sha2.specs.Sha256.{sha256}
use Rattle.lzk_cmd_files.specs.declared.ending.Ending.{Ending}
use Rattle.lzk_cmd_files.specs.Ends.{says}
use Rattle.std.specs.declared.alloc.Global.{Global}
use Rattle.lzk_cmd_files.specs.Seen.{seen}
use Rattle.lzk_credential_run.specs.Digests.{DigestOf}
use Rattle.lzk_credential_run.specs.Ends.{NothingPut, Says}
use Rattle.lzk_credential_run.specs.Files.{record_files}
use Rattle.lzk_credential_run.specs.Lines.{digest_line}
use Rattle.lzk_credential_run.proofs.Steps.{ended, goes_on, no_memory, nothing_later, says_later}
use Rattle.lzk_credential_run.proofs.digests.digest_of.Goals as goal

pub returns-in_err-bytes-clause-run : goal.returns-in_err-bytes-clause-run
returns-in_err-bytes-clause-run g c =
    let reads = c.in_err-bytes.ensures.reads in
    ended (record_files c.args.policy.now.size) c.args.name.now (λ m. Says (says 0 (digest_line (sha256 m)))) (λ (v : Vec ℕ Global). v.items) NothingPut (seen g.S.Shelf c.args.shelf.now) (seen g.S.Shelf c.read_record.new.shelf) c.in_err-bytes.field-0.0 _ reads.files reads c.in_err-bytes.ensures.gives c.from_residual.ensures.1

pub returns-in_err-text-clause-run : goal.returns-in_err-text-clause-run
returns-in_err-text-clause-run g c =
    no_memory (DigestOf c.args.name.now c.args.policy.now) (seen g.S.Shelf c.args.shelf.now) (seen g.S.Shelf c.read_record.new.shelf) _ c.in_ok-bytes.ensures.reads.files c.from_residual-in_err-text.ensures.1

pub returns-clause-run : goal.returns-clause-run
returns-clause-run g c =
    let old = seen g.S.Shelf c.args.shelf.now in
    let mid = seen g.S.Shelf c.read_record.new.shelf in
    let reads = c.in_ok-bytes.ensures.reads in
    let next = λ (m : List ℕ). Says (says 0 (digest_line (sha256 m))) in
    let text = sym (c.in_ok-text.ensures ∙ ap (λ d. digest_line d) (c.digest-digest.ensures ∙ ap sha256 c.as_slice.ensures.value)) in
    let end = says 0 (digest_line (sha256 c.in_ok-bytes.bytes.items)) in
    let e : Ending = record { status = 0; text = c.in_ok-text.text } in
    let told : Says end mid mid e = (record { status = refl; text = text }, refl) in
    goes_on (record_files c.args.policy.now.size) c.args.name.now next (λ (v : Vec ℕ Global). v.items) NothingPut old mid mid c.in_ok-bytes.bytes (Ok e) reads c.in_ok-bytes.ensures.gives
    (says_later end) (nothing_later old mid mid reads) told
