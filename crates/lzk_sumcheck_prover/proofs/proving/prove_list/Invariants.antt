use Rattle.std.proofs.Common.{◌≡◌, ◌<◌, ◌≤◌, length}
use Rattle.lzk_layout.specs.Places.{depth, places_of, width_at, AreWithin}
use Rattle.lzk_sumcheck.proofs.ProvingLaws.{AreProved, AreBound}
use Rattle.lzk_sumcheck_prover.proofs.proving.prove_list.Given as goal

abbrev pub invariant-loop-l : goal.invariant-loop-l
invariant-loop-l g l =
    let f = g.F.Field in
    record {
      places : l.places ≡ places_of l.given.on.now.circuit.now l.l;
      within : l.l < depth l.given.on.now.circuit.now → AreWithin l.given.on.now.circuit.now l.places;
      first : width_at l.given.on.now.circuit.now l.l ≤ length l.tables.first;
      second : width_at l.given.on.now.circuit.now l.l ≤ length l.tables.second;
      room : l.tables.room ≡ l.fn.tables.room;
      proved : AreProved f.ops f.coding l.given.on.now.circuit.now l.given.on.now.values.now.wires l.given.on.now.pads.now l.fn.tape l.fn.layers l.l l.tape l.layers l.messages l.tables.first l.tables.second;
      bound : AreBound f.ops f.coding l.given.on.now.circuit.now l.given.on.now.values.now.wires l.given.on.now.pads.now l.fn.tape l.fn.layers l.l l.messages l.bounds;
    }
