use Rattle.std.proofs.Common.{inr, refl, sym}
use Rattle.lzk_cmd_files.specs.Ends.{says}
use Rattle.lzk_cmd_files.specs.Seen.{seen}
use Rattle.lzk_credential_run.specs.Ends.{NothingPut, Says}
use Rattle.lzk_credential_run.specs.Files.{policy_files}
use Rattle.lzk_policy_texts.specs.Shown.{shown_lines}
use Rattle.lzk_credential_run.proofs.Steps.{ended}
use Rattle.lzk_credential_run.proofs.showing.show.Goals as goal

pub returns-in_err-read-clause-run : goal.returns-in_err-read-clause-run
returns-in_err-read-clause-run g c =
    let reads = c.in_err-read.ensures.reads in
    ended policy_files c.args.policy.now (λ p. Says (says 0 (shown_lines p))) (λ p. p) NothingPut (seen g.S.Shelf c.args.shelf.now) (seen g.S.Shelf c.read_policy.new.shelf) c.in_err-read.field-0.0 _ reads.files reads c.in_err-read.ensures.gives c.from_residual.ensures.1

pub returns-clause-run : goal.returns-clause-run
returns-clause-run g c =
    let gives = c.in_ok-read.ensures.gives in
    inr (gives.0, gives.1, inr (c.in_ok-read.read, gives.2, (record { status = refl; text = sym c.in_ok-text.ensures }, c.in_ok-read.ensures.reads.files)))
