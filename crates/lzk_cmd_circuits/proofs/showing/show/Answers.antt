use Rattle.std.proofs.Common.{◌≡◌, Ok, inl, refl, arith, ◌∙◌}
use Rattle.lzk_circbytes.specs.declared.any.AnyCircuit.{AnyCircuit}
use Rattle.lzk_outside.specs.Outside.{Files}
use Rattle.lzk_cmd_files.specs.Decoded.{circuit_files}
use Rattle.lzk_cmd_files.specs.Ends.{End, Stop, says}
use Rattle.lzk_cmd_circuits.specs.Evaluated.{ShowRun, shown_any}
use Rattle.lzk_cmd_files.specs.Seen.{seen}
use Rattle.lzk_cmd_files.specs.declared.circuits.Held.{Held}
use Rattle.lzk_cmd_files.proofs.Laws as laws
use Rattle.lzk_cmd_files.proofs.Sights.{no_step, where_told}
use Rattle.lzk_cmd_files.proofs.Steps.{ends, then, here, handed_on}
use Rattle.lzk_cmd_files.specs.declared.ending.Halt.TheVariants as halts
use Rattle.lzk_cmd_files.specs.Walks.{Walks}
use Rattle.lzk_cmd_circuits.proofs.showing.show.Goals as goal

-- the walk that has the circuit
abbrev next : Files → Stop → End → AnyCircuit → Type 0
next files stop end c = end ≡ says 0 (shown_any c)

pub returns-in_err-held-clause-walks : goal.returns-in_err-held-clause-walks
unfolding ShowRun
returns-in_err-held-clause-walks g c =
    ends circuit_files (λ (held : Held). held.circuit) c.args.circuit.now 0 next ⊥ (seen g.S.Shelf c.args.shelf.now) (seen g.S.Shelf c.read_held.new.shelf) c.in_err-held.field-0.0 _ (laws.circuits.quiet c.args.circuit.now) c.in_err-held.ensures.reads c.in_err-held.ensures.gives c.from_residual.ensures.1

pub returns-clause-walks : goal.returns-clause-walks
unfolding ShowRun
returns-clause-walks g c =
    let end = seen g.S.Shelf c.read_held.new.shelf in
    then circuit_files (λ (held : Held). held.circuit) c.args.circuit.now 0 next ⊥ (seen g.S.Shelf c.args.shelf.now) end end c.in_ok-held.held (Ok c.in_ok-ending_of.field-0) c.in_ok-held.ensures.reads c.in_ok-held.ensures.gives
    (here (λ files stop end. next files stop end c.in_ok-held.held.circuit) 1 ⊥ end end (says 0 (shown_any c.in_ok-held.held.circuit)) c.in_ok-ending_of.field-0 (no_step end) (record { put = refl; present = refl; cause = inl (omega arith) }) c.in_ok-ending_of.ensures (λ f at. refl))

pub returns-in_err-held-clause-reads : goal.returns-in_err-held-clause-reads
returns-in_err-held-clause-reads g c = c.read_held.ensures.reads

pub returns-in_err-ending_of-clause-reads : goal.returns-in_err-ending_of-clause-reads
returns-in_err-ending_of-clause-reads g c = c.read_held.ensures.reads

pub returns-clause-reads : goal.returns-clause-reads
returns-clause-reads g c = c.read_held.ensures.reads

pub returns-in_err-ending_of-clause-walks : goal.returns-in_err-ending_of-clause-walks
returns-in_err-ending_of-clause-walks g c =
    let old = seen g.S.Shelf c.args.shelf.now in
    handed_on (Walks (ShowRun c.args.circuit.now) 0 old (seen g.S.Shelf c.read_held.new.shelf)) _ halts.Memory c.from_residual-in_err-ending_of.ensures.1 (where_told old.files _ (λ f at. c.in_ok-held.ensures.reads.files ∙ at))

pub ending_of-requires : goal.ending_of-requires
ending_of-requires g c = record { id = c.in_ok-held.ensures.id }
