use Rattle.std.proofs.Common.{◌≡◌, ◌+◌, ◌*◌, ◌/◌, ◌%◌, ◌^◌, ◌<◌}
use Rattle.lzk_gf128.specs.Bodies.{in_wide}
use Rattle.lzk_gf128.proofs.Multiples.{both, front}
use Rattle.lzk_gf128.proofs.arith.Wide.product.Given as goal

abbrev pub invariant-loop-i : goal.invariant-loop-i
invariant-loop-i l = record {
  above_room : l.above.high < 2 ^ (60 + 8 * l.i);
  below_room : l.below.high < 2 ^ (60 + 8 * l.i);
  above : in_wide l.above ≡ both (4 * (2 * l.i)) l.fn.a (front 32 (2 * l.i) (l.fn.b % 2 ^ 64)) (front 32 (2 * l.i) (l.fn.b / 2 ^ 64));
  below : in_wide l.below ≡ both (4 * (2 * l.i)) l.fn.a (front 0 (2 * l.i) (l.fn.b % 2 ^ 64)) (front 0 (2 * l.i) (l.fn.b / 2 ^ 64));
}
