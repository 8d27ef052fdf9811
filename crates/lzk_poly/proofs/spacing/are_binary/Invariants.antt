use Rattle.std.proofs.Common.{◌≡◌, ℕ, ◌+◌, ◌^◌, ◌<◌}
use Rattle.lzk_poly.proofs.spacing.are_binary.Given as goal

abbrev pub invariant-loop-b : goal.invariant-loop-b
invariant-loop-b g l = let m = g.F.Field in (b k : ℕ) → b < l.b → k < 2 ^ b → m.coding.element (2 ^ b + k) ≡ m.ops.plus (m.coding.element (2 ^ b)) (m.coding.element k)
