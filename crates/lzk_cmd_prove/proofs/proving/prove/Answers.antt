use Rattle.std.proofs.Common.{◌≡◌, ℕ, List, subst, ◌∙◌, ◌≤◌, length, sym, refl}
use Rattle.std.specs.Option.{option_copied}
use Rattle.lzk_circbytes.specs.declared.any.AnyCircuit.{AnyCircuit}
use Rattle.lzk_outside.specs.Outside.{Files}
use Rattle.lzk_cmd_files.specs.Decoded.{circuit_files}
use Rattle.lzk_cmd_files.specs.Ends.{End, Stop}
use Rattle.lzk_cmd_prove.specs.Proved.{ProveAny, ProveRun}
use Rattle.lzk_cmd_words.specs.Digits.{seed_of, session_of}
use Rattle.lzk_cmd_files.specs.Seen.{seen}
use Rattle.lzk_cmd_files.specs.Walks.{WalksToPut}
use Rattle.lzk_cmd_files.specs.declared.circuits.Held.{Held}
use Rattle.lzk_cmd_files.proofs.Laws as laws
use Rattle.lzk_cmd_files.proofs.Steps.{ends, then}
use Rattle.lzk_cmd_circuits.proofs.ShaFiles.{no_memory}
use Rattle.lzk_cmd_files.proofs.Sights.{no_step, only_moves, moves_then}
use Rattle.lzk_cmd_prove.proofs.proving.prove.Goals as goal

-- the walk that has the circuit
abbrev next : List ℕ → List ℕ → List ℕ → List ℕ → List ℕ → Files → Stop → End → AnyCircuit → Type 0
next public private proof session seed files stop end c = ProveAny c public private proof session seed files stop end

pub returns-in_err-session-clause-walks : goal.returns-in_err-session-clause-walks
returns-in_err-session-clause-walks g c =
    let order = c.args.order.now in
    no_memory (ProveRun order.circuit.now order.public.now order.private.now order.proof.now order.seed.now (option_copied order.session)) 0 (seen g.S.Shelf c.args.shelf.now) _ c.from_residual.ensures.1

pub returns-in_err-held-clause-walks : goal.returns-in_err-held-clause-walks
unfolding ProveRun
returns-in_err-held-clause-walks g c =
    let order = c.args.order.now in
    ends circuit_files (λ (held : Held). held.circuit) order.circuit.now 0 (next order.public.now order.private.now order.proof.now (session_of (option_copied order.session)) (seed_of order.seed.now)) (Unit {0}) (seen g.S.Shelf c.args.shelf.now) (seen g.S.Shelf c.read_shared.new.shelf) c.in_err-held.field-0.0 _
    (laws.circuits.quiet order.circuit.now) c.in_err-held.ensures.reads c.in_err-held.ensures.gives c.from_residual-in_err-held.ensures.1

pub returns-clause-walks : goal.returns-clause-walks
unfolding ProveRun
returns-clause-walks g c =
    let order = c.args.order.now in
    let mid = seen g.S.Shelf c.read_shared.new.shelf in
    let end = seen g.S.Shelf c.prove_any.new.shelf in
    let session : c.deref.result.now ≡ session_of (option_copied order.session) = c.deref.ensures.value ∙ c.in_ok-session.ensures in
    let seed : c.seed_bytes.result ≡ seed_of order.seed.now = c.seed_bytes.ensures in
    let first = subst (λ (s : List ℕ). WalksToPut (ProveAny c.in_ok-held.held.circuit order.public.now order.private.now order.proof.now s c.seed_bytes.result) 1 mid end c.prove_any.result) session c.prove_any.ensures.walks in
    let both = subst (λ (s : List ℕ). WalksToPut (ProveAny c.in_ok-held.held.circuit order.public.now order.private.now order.proof.now (session_of (option_copied order.session)) s) 1 mid end c.prove_any.result) seed first in
    then circuit_files (λ (held : Held). held.circuit) order.circuit.now 0 (next order.public.now order.private.now order.proof.now (session_of (option_copied order.session)) (seed_of order.seed.now)) (Unit {0}) (seen g.S.Shelf c.args.shelf.now) mid end c.in_ok-held.held c.prove_any.result
    c.in_ok-held.ensures.reads c.in_ok-held.ensures.gives both

pub returns-in_err-session-clause-moves : goal.returns-in_err-session-clause-moves
returns-in_err-session-clause-moves g c = only_moves (seen g.S.Shelf c.args.shelf.now) (seen g.S.Shelf c.args.shelf.now) (no_step (seen g.S.Shelf c.args.shelf.now))

pub returns-in_err-held-clause-moves : goal.returns-in_err-held-clause-moves
returns-in_err-held-clause-moves g c = only_moves (seen g.S.Shelf c.args.shelf.now) (seen g.S.Shelf c.read_shared.new.shelf) c.read_shared.ensures.reads

pub returns-clause-moves : goal.returns-clause-moves
returns-clause-moves g c = moves_then (seen g.S.Shelf c.args.shelf.now) (seen g.S.Shelf c.read_shared.new.shelf) (seen g.S.Shelf c.prove_any.new.shelf) c.read_shared.ensures.reads c.prove_any.ensures.moves

pub invariant_of-task : goal.invariant_of-task
invariant_of-task g c =
    record {
      short = subst (λ xs. length xs ≤ 64) (sym (c.deref.ensures.value ∙ c.in_ok-session.ensures)) c.requires.session;
      some = c.workers_of-workers.ensures.some;
      few = c.workers_of-workers.ensures.most;
    }

pub prove_any-requires-clause-id : goal.prove_any-requires-clause-id
prove_any-requires-clause-id g c κs within = c.in_ok-held.ensures.id

pub prove_any-requires-clause-digest : goal.prove_any-requires-clause-digest
prove_any-requires-clause-digest g c κs within = refl
