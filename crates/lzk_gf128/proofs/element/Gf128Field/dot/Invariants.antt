use Rattle.std.proofs.Common.{◌≡◌}
use Rattle.lzk_gf128.specs.Bodies.{in_wide}
use Rattle.lzk_gf128.proofs.Sums.{first_products}
use Rattle.lzk_gf128.proofs.element.Gf128Field.dot.Given as goal

abbrev pub invariant-loop-i : goal.invariant-loop-i
invariant-loop-i l = in_wide l.total ≡ (first_products l.left l.right l.i).n
