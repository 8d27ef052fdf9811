use Rattle.std.proofs.Common.{◌≡◌, ℕ, ◌+◌, ◌^◌, ◌<◌}
use Rattle.lzk_poly.proofs.spacing.is_split.Given as goal

abbrev pub invariant-loop-k : goal.invariant-loop-k
invariant-loop-k g l = let m = g.F.Field in (l.bit ≡ 2 ^ l.b) × ((k : ℕ) → k < l.k → m.coding.element (2 ^ l.b + k) ≡ m.ops.plus (m.coding.element (2 ^ l.b)) (m.coding.element k))
