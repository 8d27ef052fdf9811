use Rattle.std.proofs.Common.{arith}
use Rattle.lzk_residual.proofs.linear.linear_forms.Goals as goal

pub returns-clause-coefficients : goal.returns-clause-coefficients
returns-clause-coefficients g c i j h k = c.rest_forms.ensures.rest.entries i j h (omega arith) k
