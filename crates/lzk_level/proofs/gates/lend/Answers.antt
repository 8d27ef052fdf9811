use Rattle.std.proofs.Common.{ap, sym, subst, length}
use Rattle.lzk_level.specs.FlatGates.{gate_in, IsSpanned}
use Rattle.lzk_level.proofs.gates.lend.Goals as goal

pub slice_bounds-result-count : goal.slice_bounds-result-count
slice_bounds-result-count g c = (subst (IsSpanned (length c.args.parts.now)) c.in-Combine.is c.requires).0

pub slice_bounds-result-start : goal.slice_bounds-result-start
slice_bounds-result-start g c = (subst (IsSpanned (length c.args.parts.now)) c.in-Combine.is c.requires).0

pub slice_bounds-result-end : goal.slice_bounds-result-end
slice_bounds-result-end g c = (subst (IsSpanned (length c.args.parts.now)) c.in-Combine.is c.requires).1

pub returns-in-Constant : goal.returns-in-Constant
returns-in-Constant g c = ap (gate_in c.args.parts.now) (sym c.in-Constant.is)

pub returns-in-Combine : goal.returns-in-Combine
returns-in-Combine g c = ap (gate_in c.args.parts.now) (sym c.in-Combine.is)

pub returns-in-Mul : goal.returns-in-Mul
returns-in-Mul g c = ap (gate_in c.args.parts.now) (sym c.in-Mul.is)
