use Rattle.std.proofs.Common.{◌≡◌, ℕ, List, subst, ◌∙◌, ◌≤◌, length, sym}
use Rattle.std.specs.Option.{option_copied}
use Rattle.lzk_circbytes.specs.declared.any.AnyCircuit.{AnyCircuit}
use Rattle.lzk_outside.specs.Outside.{Files}
use Rattle.lzk_cmd_files.specs.Decoded.{circuit_files}
use Rattle.lzk_cmd_files.specs.Ends.{End, Stop}
use Rattle.lzk_cmd_files.specs.Seen.{seen}
use Rattle.lzk_cmd_verify.specs.Verified.{VerifyAny, VerifyRun}
use Rattle.lzk_cmd_words.specs.Digits.{session_of}
use Rattle.lzk_cmd_files.specs.Walks.{Walks}
use Rattle.lzk_cmd_files.specs.declared.circuits.Held.{Held}
use Rattle.lzk_cmd_files.proofs.Laws as laws
use Rattle.lzk_cmd_files.proofs.Steps.{ends, then, handed_on}
use Rattle.lzk_cmd_files.proofs.Sights.{no_step, reads_then, where_told}
use Rattle.lzk_cmd_files.specs.declared.ending.Halt.TheVariants as halts
use Rattle.lzk_cmd_verify.proofs.verifying.verify.Goals as goal

-- the walk that has the circuit
abbrev next : List ℕ → List ℕ → List ℕ → Files → Stop → End → AnyCircuit → Type 0
next public proof session files stop end c = VerifyAny c public proof session files stop end

pub returns-in_err-held-clause-walks : goal.returns-in_err-held-clause-walks
unfolding VerifyRun
returns-in_err-held-clause-walks g c =
    ends circuit_files (λ (held : Held). held.circuit) c.args.circuit.now 0 (next c.args.public_file.now c.args.proof.now (session_of (option_copied c.args.session))) ⊥ (seen g.S.Shelf c.args.shelf.now) (seen g.S.Shelf c.read_held.new.shelf) c.in_err-held.field-0.0 _
    (laws.circuits.quiet c.args.circuit.now) c.in_err-held.ensures.reads c.in_err-held.ensures.gives c.from_residual-in_err-held.ensures.1

pub returns-clause-walks : goal.returns-clause-walks
unfolding VerifyRun
returns-clause-walks g c =
    let mid = seen g.S.Shelf c.read_held.new.shelf in
    let end = seen g.S.Shelf c.verify_any.new.shelf in
    let session : c.deref.result.now ≡ session_of (option_copied c.args.session) = c.deref.ensures.value ∙ c.in_ok-session.ensures in
    then circuit_files (λ (held : Held). held.circuit) c.args.circuit.now 0 (next c.args.public_file.now c.args.proof.now (session_of (option_copied c.args.session))) ⊥ (seen g.S.Shelf c.args.shelf.now) mid end c.in_ok-held.held c.verify_any.result
    c.in_ok-held.ensures.reads c.in_ok-held.ensures.gives
    (subst (λ s. Walks (VerifyAny c.in_ok-held.held.circuit c.args.public_file.now c.args.proof.now s) 1 mid end c.verify_any.result) session c.verify_any.ensures.walks)

pub returns-in_err-session-clause-reads : goal.returns-in_err-session-clause-reads
returns-in_err-session-clause-reads g c = no_step (seen g.S.Shelf c.args.shelf.now)

pub returns-in_err-held-clause-reads : goal.returns-in_err-held-clause-reads
returns-in_err-held-clause-reads g c = c.read_held.ensures.reads

pub returns-clause-reads : goal.returns-clause-reads
returns-clause-reads g c = reads_then (seen g.S.Shelf c.args.shelf.now) (seen g.S.Shelf c.read_held.new.shelf) (seen g.S.Shelf c.verify_any.new.shelf) c.read_held.ensures.reads c.verify_any.ensures.reads

pub returns-in_err-session-clause-walks : goal.returns-in_err-session-clause-walks
returns-in_err-session-clause-walks g c =
    let old = seen g.S.Shelf c.args.shelf.now in
    handed_on (Walks (VerifyRun c.args.circuit.now c.args.public_file.now c.args.proof.now (option_copied c.args.session)) 0 old old) _ halts.Memory c.from_residual.ensures.1 (where_told old.files _ (λ f at. at))

pub verify_any-requires-clause-id : goal.verify_any-requires-clause-id
verify_any-requires-clause-id g c = c.in_ok-held.ensures.id

pub verify_any-requires-clause-session : goal.verify_any-requires-clause-session
verify_any-requires-clause-session g c = subst (λ xs. length xs ≤ 64) (sym (c.deref.ensures.value ∙ c.in_ok-session.ensures)) c.requires.session
