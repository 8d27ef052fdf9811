use Rattle.std.proofs.Common.{◌≡◌, ◌<◌, ◌^◌}
use Rattle.lzk_policy.specs.Lines.{number_at}
use Rattle.lzk_policy.proofs.number.number_at.Given as goal

abbrev pub invariant-loop-i : goal.invariant-loop-i
invariant-loop-i l = record {
  value : l.number ≡ number_at l.bytes l.place l.i;
  below : l.number < 256 ^ l.i;
}
