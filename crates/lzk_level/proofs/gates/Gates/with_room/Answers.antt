use Rattle.std.proofs.Common.{ap, sym, subst, length}
use Rattle.lzk_level.specs.FlatGates.{gates_in, AreSpanned}
use Rattle.lzk_level.proofs.FlatGateLaws.{not-ok}
use Rattle.lzk_level.proofs.gates.Gates.with_room.Goals as goal

pub returns-in_err-made : goal.returns-in_err-made
returns-in_err-made g c = not-ok c.from_residual.result _ _ c.from_residual.ensures.1

pub returns-in_err-parts : goal.returns-in_err-parts
returns-in_err-parts g c = not-ok c.from_residual-in_err-parts.result _ _ c.from_residual-in_err-parts.ensures.1

pub invariant_of-result : goal.invariant_of-result
invariant_of-result g c = subst (AreSpanned (length c.in_ok-parts.parts.items)) (sym c.in_ok-made.ensures.items) tt

pub returns : goal.returns
returns g c = ap (gates_in c.in_ok-parts.parts.items) c.in_ok-made.ensures.items
