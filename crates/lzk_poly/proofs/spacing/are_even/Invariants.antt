use Rattle.std.proofs.Common.{◌≡◌, ℕ, ◌+◌, ◌<◌}
use Rattle.lzk_poly.proofs.spacing.are_even.Given as goal

abbrev pub invariant-loop-k : goal.invariant-loop-k
invariant-loop-k g l = let m = g.F.Field in (i : ℕ) → i + 1 < l.k → m.coding.element (i + 1) ≡ m.ops.plus (m.coding.element i) m.ops.one
