use Rattle.std.specs.Option.{option_copied}
use Rattle.lzk_cmd_files.specs.Seen.{seen}
use Rattle.lzk_cmd.specs.Sights.{texts}
use Rattle.lzk_cmd_words.specs.Words.{Eval, Compile, Upgrade, Show, Prove, Verify, Batch, Demo, ShaCircuit, Sha256}
use Rattle.lzk_cmd_words.specs.Keys.{number_of}
use Rattle.lzk_cmd_words.specs.Digits.{seed_of}
use Rattle.lzk_cmd_words.proofs.Counts.{has_number}
use Rattle.lzk_cmd.proofs.DemoRuns.{demo_walks, leaves, no_unread, on_unread}
use Rattle.lzk_cmd_words.proofs.Sessions.{message_fits, session_fits}
use Rattle.lzk_cmd_files.proofs.Sights.{only_moves, no_step, where_told}
use Rattle.lzk_cmd.proofs.Works.{refused, works}
use Rattle.std.proofs.Common.{refl}
use Rattle.lzk_cmd.specs.RunSteps.{Works}
use Rattle.lzk_cmd_files.specs.declared.ending.Halt.TheVariants as halts
use Rattle.lzk_cmd_files.proofs.Steps.{handed_on}
use Rattle.lzk_cmd.proofs.top.work.Goals as goal

pub returns-in_ok-refuse-in-None-clause-works : goal.returns-in_ok-refuse-in-None-clause-works
returns-in_ok-refuse-in-None-clause-works g c = refused (texts c.args.words.now) (seen g.S.Shelf c.args.shelf.now) c.in_ok-refuse-in-None.field-0 c.in-None.ensures c.in_ok-refuse-in-None.ensures

pub returns-in-Some-Eval-clause-works : goal.returns-in-Some-Eval-clause-works
returns-in-Some-Eval-clause-works g c =
    works (texts c.args.words.now) (Eval c.in-Some-Eval.circuit.now c.in-Some-Eval.public.now c.in-Some-Eval.private.now) ⊥ (seen g.S.Shelf c.args.shelf.now) (seen g.S.Shelf c.eval.new.shelf) c.eval.result (rw c.in-Some-Eval.field-0-is at c.in-Some-Eval.ensures) (λ b. b) c.eval.ensures.walks

pub returns-in-Some-Eval-clause-moves : goal.returns-in-Some-Eval-clause-moves
returns-in-Some-Eval-clause-moves g c = only_moves (seen g.S.Shelf c.args.shelf.now) (seen g.S.Shelf c.eval.new.shelf) c.eval.ensures.reads

pub returns-in-Some-Compile-clause-works : goal.returns-in-Some-Compile-clause-works
returns-in-Some-Compile-clause-works g c =
    works (texts c.args.words.now) (Compile c.in-Some-Compile.source.now c.in-Some-Compile.circuit.now c.in-Some-Compile.version) (Unit {0}) (seen g.S.Shelf c.args.shelf.now) (seen g.S.Shelf c.compile_source.new.shelf) c.compile_source.result (rw c.in-Some-Compile.field-0-is at c.in-Some-Compile.ensures) (λ u. u) c.compile_source.ensures.walks

pub returns-in-Some-Upgrade-clause-works : goal.returns-in-Some-Upgrade-clause-works
returns-in-Some-Upgrade-clause-works g c =
    works (texts c.args.words.now) (Upgrade c.in-Some-Upgrade.old.now c.in-Some-Upgrade.new.now) (Unit {0}) (seen g.S.Shelf c.args.shelf.now) (seen g.S.Shelf c.upgrade.new.shelf) c.upgrade.result (rw c.in-Some-Upgrade.field-0-is at c.in-Some-Upgrade.ensures) (λ u. u) c.upgrade.ensures.walks

pub returns-in-Some-Show-clause-works : goal.returns-in-Some-Show-clause-works
returns-in-Some-Show-clause-works g c =
    works (texts c.args.words.now) (Show c.in-Some-Show.circuit.now) ⊥ (seen g.S.Shelf c.args.shelf.now) (seen g.S.Shelf c.show.new.shelf) c.show.result (rw c.in-Some-Show.field-0-is at c.in-Some-Show.ensures) (λ b. b) c.show.ensures.walks

pub returns-in-Some-Show-clause-moves : goal.returns-in-Some-Show-clause-moves
returns-in-Some-Show-clause-moves g c = only_moves (seen g.S.Shelf c.args.shelf.now) (seen g.S.Shelf c.show.new.shelf) c.show.ensures.reads

pub returns-in-Some-Verify-clause-works : goal.returns-in-Some-Verify-clause-works
returns-in-Some-Verify-clause-works g c =
    works (texts c.args.words.now) (Verify c.in-Some-Verify.circuit.now c.in-Some-Verify.public.now c.in-Some-Verify.proof.now (option_copied c.in-Some-Verify.session)) ⊥ (seen g.S.Shelf c.args.shelf.now) (seen g.S.Shelf c.verify.new.shelf) c.verify.result
    (rw c.in-Some-Verify.field-0-is at c.in-Some-Verify.ensures) (λ b. b) c.verify.ensures.walks

pub returns-in-Some-Verify-clause-moves : goal.returns-in-Some-Verify-clause-moves
returns-in-Some-Verify-clause-moves g c = only_moves (seen g.S.Shelf c.args.shelf.now) (seen g.S.Shelf c.verify.new.shelf) c.verify.ensures.reads

pub verify-requires-clause-session : goal.verify-requires-clause-session
verify-requires-clause-session g c κs within =
    session_fits (texts c.args.words.now) (Verify c.in-Some-Verify.circuit.now c.in-Some-Verify.public.now c.in-Some-Verify.proof.now (option_copied c.in-Some-Verify.session)) (rw c.in-Some-Verify.field-0-is at c.in-Some-Verify.ensures)

pub prove-requires-clause-session : goal.prove-requires-clause-session
prove-requires-clause-session g c κs within =
    let order = c.in-Some-Prove.order in
    session_fits (texts c.args.words.now) (Prove order.circuit.now order.public.now order.private.now order.proof.now order.seed.now (option_copied order.session)) (rw c.in-Some-Prove.field-0-is at c.in-Some-Prove.ensures)

pub returns-in-Some-Prove-clause-works : goal.returns-in-Some-Prove-clause-works
returns-in-Some-Prove-clause-works g c =
    let order = c.in-Some-Prove.order in
    works (texts c.args.words.now) (Prove order.circuit.now order.public.now order.private.now order.proof.now order.seed.now (option_copied order.session)) (Unit {0}) (seen g.S.Shelf c.args.shelf.now) (seen g.S.Shelf c.prove.new.shelf) c.prove.result
    (rw c.in-Some-Prove.field-0-is at c.in-Some-Prove.ensures) (λ u. u) c.prove.ensures.walks

pub demo-requires-clause-number : goal.demo-requires-clause-number
demo-requires-clause-number g c κs within = has_number (texts c.args.words.now) (Demo c.in-Some-Demo.count.now c.in-Some-Demo.seed.now) (rw c.in-Some-Demo.field-0-is at c.in-Some-Demo.ensures)

pub returns-in-Some-Demo-clause-works : goal.returns-in-Some-Demo-clause-works
returns-in-Some-Demo-clause-works g c =
    let count = c.in-Some-Demo.count.now in
    let seed = c.in-Some-Demo.seed.now in
    let s = seen g.S.Shelf c.args.shelf.now in
    works (texts c.args.words.now) (Demo count seed) ⊥ s s c.demo.result (rw c.in-Some-Demo.field-0-is at c.in-Some-Demo.ensures) (λ b. b) (demo_walks (number_of count) (seed_of seed) s c.demo.result c.demo.ensures)

pub returns-in-Some-Eval-clause-unread : goal.returns-in-Some-Eval-clause-unread
returns-in-Some-Eval-clause-unread g c = on_unread (texts c.args.words.now) (Eval c.in-Some-Eval.circuit.now c.in-Some-Eval.public.now c.in-Some-Eval.private.now) c.eval.result (rw c.in-Some-Eval.field-0-is at c.in-Some-Eval.ensures) tt

pub returns-in-Some-Eval-clause-untouched : goal.returns-in-Some-Eval-clause-untouched
returns-in-Some-Eval-clause-untouched g c = λ h. leaves (texts c.args.words.now) (Eval c.in-Some-Eval.circuit.now c.in-Some-Eval.public.now c.in-Some-Eval.private.now) (rw c.in-Some-Eval.field-0-is at c.in-Some-Eval.ensures) (λ b. b) h

pub returns-in-Some-Compile-clause-unread : goal.returns-in-Some-Compile-clause-unread
returns-in-Some-Compile-clause-unread g c = on_unread (texts c.args.words.now) (Compile c.in-Some-Compile.source.now c.in-Some-Compile.circuit.now c.in-Some-Compile.version) c.compile_source.result (rw c.in-Some-Compile.field-0-is at c.in-Some-Compile.ensures) tt

pub returns-in-Some-Compile-clause-untouched : goal.returns-in-Some-Compile-clause-untouched
returns-in-Some-Compile-clause-untouched g c = λ h. leaves (texts c.args.words.now) (Compile c.in-Some-Compile.source.now c.in-Some-Compile.circuit.now c.in-Some-Compile.version) (rw c.in-Some-Compile.field-0-is at c.in-Some-Compile.ensures) (λ b. b) h

pub returns-in-Some-Upgrade-clause-unread : goal.returns-in-Some-Upgrade-clause-unread
returns-in-Some-Upgrade-clause-unread g c = on_unread (texts c.args.words.now) (Upgrade c.in-Some-Upgrade.old.now c.in-Some-Upgrade.new.now) c.upgrade.result (rw c.in-Some-Upgrade.field-0-is at c.in-Some-Upgrade.ensures) tt

pub returns-in-Some-Upgrade-clause-untouched : goal.returns-in-Some-Upgrade-clause-untouched
returns-in-Some-Upgrade-clause-untouched g c = λ h. leaves (texts c.args.words.now) (Upgrade c.in-Some-Upgrade.old.now c.in-Some-Upgrade.new.now) (rw c.in-Some-Upgrade.field-0-is at c.in-Some-Upgrade.ensures) (λ b. b) h

pub returns-in-Some-Show-clause-unread : goal.returns-in-Some-Show-clause-unread
returns-in-Some-Show-clause-unread g c = on_unread (texts c.args.words.now) (Show c.in-Some-Show.circuit.now) c.show.result (rw c.in-Some-Show.field-0-is at c.in-Some-Show.ensures) tt

pub returns-in-Some-Show-clause-untouched : goal.returns-in-Some-Show-clause-untouched
returns-in-Some-Show-clause-untouched g c = λ h. leaves (texts c.args.words.now) (Show c.in-Some-Show.circuit.now) (rw c.in-Some-Show.field-0-is at c.in-Some-Show.ensures) (λ b. b) h

pub returns-in-Some-Verify-clause-unread : goal.returns-in-Some-Verify-clause-unread
returns-in-Some-Verify-clause-unread g c = on_unread (texts c.args.words.now) (Verify c.in-Some-Verify.circuit.now c.in-Some-Verify.public.now c.in-Some-Verify.proof.now (option_copied c.in-Some-Verify.session)) c.verify.result (rw c.in-Some-Verify.field-0-is at c.in-Some-Verify.ensures) tt

pub returns-in-Some-Verify-clause-untouched : goal.returns-in-Some-Verify-clause-untouched
returns-in-Some-Verify-clause-untouched g c = λ h. leaves (texts c.args.words.now) (Verify c.in-Some-Verify.circuit.now c.in-Some-Verify.public.now c.in-Some-Verify.proof.now (option_copied c.in-Some-Verify.session)) (rw c.in-Some-Verify.field-0-is at c.in-Some-Verify.ensures) (λ b. b) h

pub returns-in-Some-Prove-clause-unread : goal.returns-in-Some-Prove-clause-unread
returns-in-Some-Prove-clause-unread g c = on_unread (texts c.args.words.now) (Prove c.in-Some-Prove.order.circuit.now c.in-Some-Prove.order.public.now c.in-Some-Prove.order.private.now c.in-Some-Prove.order.proof.now c.in-Some-Prove.order.seed.now (option_copied c.in-Some-Prove.order.session)) c.prove.result (rw c.in-Some-Prove.field-0-is at c.in-Some-Prove.ensures) tt

pub returns-in-Some-Prove-clause-untouched : goal.returns-in-Some-Prove-clause-untouched
returns-in-Some-Prove-clause-untouched g c = λ h. leaves (texts c.args.words.now) (Prove c.in-Some-Prove.order.circuit.now c.in-Some-Prove.order.public.now c.in-Some-Prove.order.private.now c.in-Some-Prove.order.proof.now c.in-Some-Prove.order.seed.now (option_copied c.in-Some-Prove.order.session)) (rw c.in-Some-Prove.field-0-is at c.in-Some-Prove.ensures) (λ b. b) h

pub returns-in-Some-Demo-clause-unread : goal.returns-in-Some-Demo-clause-unread
returns-in-Some-Demo-clause-unread g c =
    on_unread (texts c.args.words.now) (Demo c.in-Some-Demo.count.now c.in-Some-Demo.seed.now) c.demo.result (rw c.in-Some-Demo.field-0-is at c.in-Some-Demo.ensures) c.demo.ensures

pub returns-in_ok-refuse-in-None-clause-unread : goal.returns-in_ok-refuse-in-None-clause-unread
returns-in_ok-refuse-in-None-clause-unread g c = no_unread (texts c.args.words.now) _ c.in-None.ensures

pub shacircuit-requires-clause-number : goal.shacircuit-requires-clause-number
shacircuit-requires-clause-number g c κs within = has_number (texts c.args.words.now) (ShaCircuit c.in-Some-ShaCircuit.count.now c.in-Some-ShaCircuit.circuit.now) (rw c.in-Some-ShaCircuit.field-0-is at c.in-Some-ShaCircuit.ensures)

pub returns-in-Some-ShaCircuit-clause-works : goal.returns-in-Some-ShaCircuit-clause-works
returns-in-Some-ShaCircuit-clause-works g c =
    works (texts c.args.words.now) (ShaCircuit c.in-Some-ShaCircuit.count.now c.in-Some-ShaCircuit.circuit.now) (Unit {0}) (seen g.S.Shelf c.args.shelf.now) (seen g.S.Shelf c.shacircuit.new.shelf) c.shacircuit.result (rw c.in-Some-ShaCircuit.field-0-is at c.in-Some-ShaCircuit.ensures) (λ u. u) c.shacircuit.ensures.walks

pub returns-in-Some-ShaCircuit-clause-unread : goal.returns-in-Some-ShaCircuit-clause-unread
returns-in-Some-ShaCircuit-clause-unread g c = on_unread (texts c.args.words.now) (ShaCircuit c.in-Some-ShaCircuit.count.now c.in-Some-ShaCircuit.circuit.now) c.shacircuit.result (rw c.in-Some-ShaCircuit.field-0-is at c.in-Some-ShaCircuit.ensures) c.shacircuit.ensures.put

pub returns-in-Some-ShaCircuit-clause-untouched : goal.returns-in-Some-ShaCircuit-clause-untouched
returns-in-Some-ShaCircuit-clause-untouched g c = λ h. leaves (texts c.args.words.now) (ShaCircuit c.in-Some-ShaCircuit.count.now c.in-Some-ShaCircuit.circuit.now) (rw c.in-Some-ShaCircuit.field-0-is at c.in-Some-ShaCircuit.ensures) (λ b. b) h

pub sha256-requires-clause-message : goal.sha256-requires-clause-message
sha256-requires-clause-message g c κs within =
    let order = c.in-Some-Sha256.order in
    message_fits (texts c.args.words.now) order.circuit.now order.proof.now order.message.now order.seed.now (option_copied order.session) (rw c.in-Some-Sha256.field-0-is at c.in-Some-Sha256.ensures)

pub sha256-requires-clause-session : goal.sha256-requires-clause-session
sha256-requires-clause-session g c κs within = session_fits (texts c.args.words.now) (Sha256 c.in-Some-Sha256.order.circuit.now c.in-Some-Sha256.order.proof.now c.in-Some-Sha256.order.message.now c.in-Some-Sha256.order.seed.now (option_copied c.in-Some-Sha256.order.session)) (rw c.in-Some-Sha256.field-0-is at c.in-Some-Sha256.ensures)

pub returns-in-Some-Sha256-clause-works : goal.returns-in-Some-Sha256-clause-works
returns-in-Some-Sha256-clause-works g c =
    works (texts c.args.words.now) (Sha256 c.in-Some-Sha256.order.circuit.now c.in-Some-Sha256.order.proof.now c.in-Some-Sha256.order.message.now c.in-Some-Sha256.order.seed.now (option_copied c.in-Some-Sha256.order.session)) (Unit {0}) (seen g.S.Shelf c.args.shelf.now) (seen g.S.Shelf c.sha256.new.shelf) c.sha256.result (rw c.in-Some-Sha256.field-0-is at c.in-Some-Sha256.ensures) (λ u. u) c.sha256.ensures.walks

pub returns-in-Some-Sha256-clause-unread : goal.returns-in-Some-Sha256-clause-unread
returns-in-Some-Sha256-clause-unread g c = on_unread (texts c.args.words.now) (Sha256 c.in-Some-Sha256.order.circuit.now c.in-Some-Sha256.order.proof.now c.in-Some-Sha256.order.message.now c.in-Some-Sha256.order.seed.now (option_copied c.in-Some-Sha256.order.session)) c.sha256.result (rw c.in-Some-Sha256.field-0-is at c.in-Some-Sha256.ensures) tt

pub returns-in-Some-Sha256-clause-untouched : goal.returns-in-Some-Sha256-clause-untouched
returns-in-Some-Sha256-clause-untouched g c = λ h. leaves (texts c.args.words.now) (Sha256 c.in-Some-Sha256.order.circuit.now c.in-Some-Sha256.order.proof.now c.in-Some-Sha256.order.message.now c.in-Some-Sha256.order.seed.now (option_copied c.in-Some-Sha256.order.session)) (rw c.in-Some-Sha256.field-0-is at c.in-Some-Sha256.ensures) (λ b. b) h

pub returns-in-Some-Batch-clause-works : goal.returns-in-Some-Batch-clause-works
returns-in-Some-Batch-clause-works g c =
    works (texts c.args.words.now) (Batch c.in-Some-Batch.list.now) ⊥ (seen g.S.Shelf c.args.shelf.now) (seen g.S.Shelf c.batch.new.shelf) c.batch.result (rw c.in-Some-Batch.field-0-is at c.in-Some-Batch.ensures) (λ b. b) c.batch.ensures.walks

pub returns-in-Some-Batch-clause-moves : goal.returns-in-Some-Batch-clause-moves
returns-in-Some-Batch-clause-moves g c = only_moves (seen g.S.Shelf c.args.shelf.now) (seen g.S.Shelf c.batch.new.shelf) c.batch.ensures.reads

pub returns-in-Some-Batch-clause-unread : goal.returns-in-Some-Batch-clause-unread
returns-in-Some-Batch-clause-unread g c = on_unread (texts c.args.words.now) (Batch c.in-Some-Batch.list.now) c.batch.result (rw c.in-Some-Batch.field-0-is at c.in-Some-Batch.ensures) tt

pub returns-in-Some-Batch-clause-untouched : goal.returns-in-Some-Batch-clause-untouched
returns-in-Some-Batch-clause-untouched g c = λ h. leaves (texts c.args.words.now) (Batch c.in-Some-Batch.list.now) (rw c.in-Some-Batch.field-0-is at c.in-Some-Batch.ensures) (λ b. b) h

pub returns-in-Some-Compile-clause-moves : goal.returns-in-Some-Compile-clause-moves
returns-in-Some-Compile-clause-moves g c = c.compile_source.ensures.moves

pub returns-in-Some-Upgrade-clause-moves : goal.returns-in-Some-Upgrade-clause-moves
returns-in-Some-Upgrade-clause-moves g c = c.upgrade.ensures.moves

pub returns-in-Some-Prove-clause-moves : goal.returns-in-Some-Prove-clause-moves
returns-in-Some-Prove-clause-moves g c = c.prove.ensures.moves

pub returns-in-Some-ShaCircuit-clause-moves : goal.returns-in-Some-ShaCircuit-clause-moves
returns-in-Some-ShaCircuit-clause-moves g c = c.shacircuit.ensures.moves

pub returns-in-Some-Sha256-clause-moves : goal.returns-in-Some-Sha256-clause-moves
returns-in-Some-Sha256-clause-moves g c = c.sha256.ensures.moves

pub returns-in-Some-Demo-clause-moves : goal.returns-in-Some-Demo-clause-moves
returns-in-Some-Demo-clause-moves g c = only_moves (seen g.S.Shelf c.args.shelf.now) (seen g.S.Shelf c.args.shelf.now) (no_step (seen g.S.Shelf c.args.shelf.now))

pub returns-in-Some-Demo-clause-untouched : goal.returns-in-Some-Demo-clause-untouched
returns-in-Some-Demo-clause-untouched g c = λ h. refl

pub returns-in_ok-refuse-in-None-clause-moves : goal.returns-in_ok-refuse-in-None-clause-moves
returns-in_ok-refuse-in-None-clause-moves g c = only_moves (seen g.S.Shelf c.args.shelf.now) (seen g.S.Shelf c.args.shelf.now) (no_step (seen g.S.Shelf c.args.shelf.now))

pub returns-in_ok-refuse-in-None-clause-untouched : goal.returns-in_ok-refuse-in-None-clause-untouched
returns-in_ok-refuse-in-None-clause-untouched g c = λ h. refl

pub returns-in_err-refuse-in-None-clause-moves : goal.returns-in_err-refuse-in-None-clause-moves
returns-in_err-refuse-in-None-clause-moves g c = only_moves (seen g.S.Shelf c.args.shelf.now) (seen g.S.Shelf c.args.shelf.now) (no_step (seen g.S.Shelf c.args.shelf.now))

pub returns-in_err-refuse-in-None-clause-untouched : goal.returns-in_err-refuse-in-None-clause-untouched
returns-in_err-refuse-in-None-clause-untouched g c = λ h. refl

pub returns-in_err-refuse-in-None-clause-unread : goal.returns-in_err-refuse-in-None-clause-unread
returns-in_err-refuse-in-None-clause-unread g c = no_unread (texts c.args.words.now) _ c.in-None.ensures

pub returns-in_err-refuse-in-None-clause-works : goal.returns-in_err-refuse-in-None-clause-works
returns-in_err-refuse-in-None-clause-works g c =
    let s = seen g.S.Shelf c.args.shelf.now in
    handed_on (Works (texts c.args.words.now) s s) _ halts.Memory c.from_residual.ensures.1 (where_told s.files _ (λ f at. at))
