use Rattle.lzk_profile.specs.Profile.{most_bits}
use Rattle.std.proofs.Common.{◌≡◌, ◌+◌, ◌*◌, ◌≤◌, take}
use Rattle.std.specs.List.{sum_by}
use Rattle.lzk_layout.specs.Sizes.{under_widths, sent_count, pad_count}
use Rattle.lzk_layout.proofs.params.counts_of.Given as goal

abbrev pub invariant-loop-l : goal.invariant-loop-l
invariant-loop-l g l = record {
  sent : l.sent ≡ sum_by sent_count (take l.l (under_widths l.circuit));
  pads : l.pads ≡ sum_by pad_count (take l.l (under_widths l.circuit));
  few_sent : l.sent ≤ (4 * most_bits + 2) * l.l;
  few_pads : l.pads ≤ (4 * most_bits + 3) * l.l;
}
