use Rattle.std.proofs.Common.{◌≡◌, ℕ, ◌+◌, ◌<◌, List, length}
use Rattle.lzk_layout.specs.Places.{depth, places_of, AreWithin}
use Rattle.lzk_sumcheck.specs.Coefficients.{coefficients}
use Rattle.lzk_accept.specs.Kept.{form_at, above_a, above_b, IsPlacedAt, IsConstraint}
use Rattle.lzk_accept.proofs.linear.fill_layers.Given as goal

abbrev pub invariant-loop-l : goal.invariant-loop-l
invariant-loop-l g l =
    let f = g.F.Field in
    let o = f.ops in
    let e = l.prepared.exchange in
    let w = e.scripted.circuit.now in
    let s = e.scripted.script.now in
    record {
      forms_length : length l.forms ≡ length l.fn.forms;
      own_length : length l.own ≡ length l.fn.own;
      places : l.places ≡ places_of w l.l;
      within : l.l < depth w → AreWithin w l.places;
      above_a : l.above.first ≡ above_a o w e.messages.now l.l;
      above_b : l.above.second ≡ above_b o w e.messages.now l.l;
      placed : (i : ℕ) → i < depth w + 1 → IsPlacedAt w i (form_at o l.forms i);
      constraints : (public : List _) (i : ℕ) → i < l.l → IsConstraint o f.coding.element w (coefficients o w s) public s e.messages.now i l.own (form_at o l.forms i);
    }
