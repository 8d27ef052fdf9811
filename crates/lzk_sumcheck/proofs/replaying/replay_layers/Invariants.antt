use Rattle.std.proofs.Common.{◌≡◌, ◌<◌}
use Rattle.lzk_layout.specs.Places.{depth, places_of, AreWithin}
use Rattle.lzk_sumcheck.proofs.LayerLaws.{AreReplayed}
use Rattle.lzk_sumcheck.proofs.replaying.replay_layers.Given as goal

abbrev pub invariant-loop-l : goal.invariant-loop-l
invariant-loop-l g l =
    let f = g.F.Field in
    record {
      places : l.places ≡ places_of l.circuit l.l;
      within : l.l < depth l.circuit → AreWithin l.circuit l.places;
      layers : AreReplayed f.ops f.coding l.messages l.circuit l.fn.tape l.fn.layers l.l l.tape l.layers;
    }
