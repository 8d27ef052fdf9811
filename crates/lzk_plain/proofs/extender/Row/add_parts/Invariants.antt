use Rattle.std.proofs.Common.{◌≡◌, ℕ, ◌+◌, ◌<◌, ◌≤◌, length}
use Rattle.lzk_field.specs.Sums.{entry}
use Rattle.lzk_poly.specs.Weights.{quotient_sum}
use Rattle.lzk_plain.proofs.extender.Row.add_parts.Given as goal

abbrev pub invariant-loop-t : goal.invariant-loop-t
invariant-loop-t g l =
    let m = g.F.Field in
    (length l.block ≡ length l.fn.block)
    × ((k : ℕ) → k < l.t → entry m.ops l.out k ≡ m.ops.plus (entry m.ops l.fn.out k) (quotient_sum m.ops m.coding.element l.block l.end (m.coding.element (l.from + k))))
    × ((k : ℕ) → l.t ≤ k → k < length l.out → entry m.ops l.out k ≡ entry m.ops l.fn.out k)
