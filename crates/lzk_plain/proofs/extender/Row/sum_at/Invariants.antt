use Rattle.std.proofs.Common.{◌≡◌}
use Rattle.lzk_poly.specs.Weights.{parts}
use Rattle.lzk_plain.proofs.extender.Row.sum_at.Given as goal

abbrev pub invariant-loop-i : goal.invariant-loop-i
invariant-loop-i g l = l.total ≡ parts g.F.Field.ops g.F.Field.coding.element l.fn.self.values.now l.i l.x
