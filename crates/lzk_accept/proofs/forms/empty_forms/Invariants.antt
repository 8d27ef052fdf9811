use Rattle.std.proofs.Common.{◌≡◌, ℕ, ◌+◌, ◌<◌, ◌≤◌, ◌-◌, length}
use Rattle.lzk_layout.specs.Places.{factors_at, places_of}
use Rattle.lzk_accept.specs.Kept.{form_at, IsPlacedAt}
use Rattle.lzk_accept.proofs.forms.empty_forms.Given as goal

abbrev pub invariant-loop-l : goal.invariant-loop-l
invariant-loop-l g l = record {
  places : l.places ≡ places_of l.circuit l.l;
  above : l.above ≡ factors_at l.circuit (l.l - 1);
  count : length l.forms.items ≡ l.l;
  room : l.depth + 1 ≤ l.forms.cap;
  placed : (i : ℕ) → i < l.l → IsPlacedAt l.circuit i (form_at g.F.Field.ops l.forms.items i);
}
