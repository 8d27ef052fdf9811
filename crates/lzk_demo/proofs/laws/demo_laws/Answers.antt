use Rattle.lzk_demo.proofs.Circuits.{demo_has_circuit}
use Rattle.lzk_demo.proofs.Limits.{limits_kept, depth_is}
use Rattle.lzk_demo.proofs.Values.{gold_value}
use Rattle.lzk_demo.proofs.Satisfied.{demo_satisfied}
use Rattle.lzk_demo.proofs.laws.demo_laws.Goals as goal

pub returns-clause-within : goal.returns-clause-within
returns-clause-within c = limits_kept

pub returns-clause-depth : goal.returns-clause-depth
returns-clause-depth c = depth_is

pub returns-clause-value : goal.returns-clause-value
returns-clause-value c = gold_value

pub returns-clause-satisfied : goal.returns-clause-satisfied
returns-clause-satisfied c = demo_satisfied

pub returns-clause-circuit : goal.returns-clause-circuit
returns-clause-circuit c = demo_has_circuit c.compile_laws.ensures.some
