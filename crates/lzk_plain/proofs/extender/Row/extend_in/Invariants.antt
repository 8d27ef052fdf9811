use Rattle.std.proofs.Common.{◌≡◌, ℕ, ◌+◌, ◌-◌, ◌<◌, ◌≤◌, length}
use Rattle.lzk_field.specs.Sums.{entry}
use Rattle.lzk_poly.specs.Extension.{extension}
use Rattle.lzk_poly.specs.Weights.{parts}
use Rattle.lzk_plain.proofs.extender.Row.extend_in.Given as goal

abbrev pub invariant-loop-start : goal.invariant-loop-start
invariant-loop-start g l =
    let m = g.F.Field in
    (l.start ≤ length l.fn.self.values.now) × ((k : ℕ) → k < length l.out → entry m.ops l.out k ≡ parts m.ops m.coding.element l.fn.self.values.now l.start (m.coding.element (l.fn.from + k)))

abbrev pub decreases-loop-start : goal.decreases-loop-start
decreases-loop-start g l = length l.fn.self.values.now - l.start

abbrev pub invariant-loop-t : goal.invariant-loop-t
invariant-loop-t g l =
    let m = g.F.Field in
    ((k : ℕ) → k < l.t → entry m.ops l.out k ≡ extension m.ops m.coding.element l.fn.self.values.now (l.fn.from + k))
    × ((k : ℕ) → l.t ≤ k → k < length l.out → entry m.ops l.out k ≡ parts m.ops m.coding.element l.fn.self.values.now (length l.fn.self.values.now) (m.coding.element (l.fn.from + k)))
