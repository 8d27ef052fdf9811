use Rattle.std.proofs.Common.{◌≡◌, true, false, sym, ◌∙◌}
use Rattle.lzk_verify.proofs.low_degree.check_linear_sum.Goals as goal

pub returns-then-are_equal : goal.returns-then-are_equal
returns-then-are_equal g c = sym c.found_sum-found.ensures ∙ c.are_equal.ensures.0 c.if-are_equal.true

pub returns-else-are_equal : goal.returns-else-are_equal
returns-else-are_equal g c = ((λ h. absurd (let t : true ≡ false = sym (c.are_equal.ensures.1 (c.found_sum-found.ensures ∙ h)) ∙ c.if-are_equal.false in cc)), c.found_sum-found.ensures)
