use Rattle.std.proofs.Common.{◌≡◌, ℕ, ◌≤◌, ◌++◌, take, length}
use Rattle.std.specs.List.{flat_map, range_with_len}
use Rattle.lzk_field.specs.Sums.{entry}
use Rattle.lzk_layout.specs.Places.{pads_at, places_of}
use Rattle.lzk_layout.specs.Sizes.{sent_counts}
use Rattle.lzk_ligero_tableau.specs.Tableau.{randoms, layer_pads}
use Rattle.lzk_ligero_tableau.proofs.elements.set_committed.Given as goal

-- the private inputs and the first layers' pads are set, and zeros behind them
abbrev pub invariant-loop-l : goal.invariant-loop-l
invariant-loop-l g l =
    let f = g.F.Field in
    let e = f.coding in
    record {
      places : l.places ≡ places_of l.secrets.circuit.now l.l;
      length : length l.list ≡ length l.fn.list;
      begun : (word : ℕ → ℕ) → l.secrets.pads.now ≡ randoms f.ops e word 0 (sent_counts l.secrets.circuit.now)
          → take (pads_at l.secrets.circuit.now l.l) l.list ≡ l.secrets.private.now ++ flat_map (layer_pads f.ops e l.secrets.circuit.now l.secrets.private.now word) (range_with_len 0 l.l);
      zeros : (j : ℕ) → pads_at l.secrets.circuit.now l.l ≤ j → entry f.ops l.list j ≡ f.ops.zero;
    }
