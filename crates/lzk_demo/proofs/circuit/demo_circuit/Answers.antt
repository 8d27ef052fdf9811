use Rattle.std.proofs.Common.{ap, sym, subst, ◌∙◌}
use Rattle.lzk_circbytes.specs.declared.any.AnyCircuit.{AnyCircuit}
use Rattle.lzk_level.specs.Compiled.{HasSourceValues, HasReducedLayers, version_of, publics_of, privates_of, depth_of}
use Rattle.lzk_demo.specs.Demo.{demo_statements, IsDemoDepth}
use Rattle.lzk_demo.proofs.Limits.{demo_publics, demo_privates, depth_is}
use Rattle.lzk_demo.proofs.Satisfied.{demo_satisfied}
use Rattle.lzk_demo.proofs.circuit.demo_circuit.Goals as goal

pub gold-circuit-requires : goal.gold-circuit-requires
gold-circuit-requires c = c.in-Ok.ensures.circuit.field_is

pub returns-in-Ok-clause-version : goal.returns-in-Ok-clause-version
returns-in-Ok-clause-version c = sym (ap (λ (x : AnyCircuit). version_of x) c.gold-circuit.ensures) ∙ c.in-Ok.ensures.circuit.version_is

pub returns-in-Ok-clause-publics : goal.returns-in-Ok-clause-publics
returns-in-Ok-clause-publics c =
    sym (ap (λ (x : AnyCircuit). publics_of x) c.gold-circuit.ensures) ∙ c.in-Ok.ensures.circuit.publics ∙ demo_publics c.args.n

pub returns-in-Ok-clause-privates : goal.returns-in-Ok-clause-privates
returns-in-Ok-clause-privates c =
    sym (ap (λ (x : AnyCircuit). privates_of x) c.gold-circuit.ensures) ∙ c.in-Ok.ensures.circuit.privates ∙ demo_privates c.args.n

pub returns-in-Ok-clause-layers : goal.returns-in-Ok-clause-layers
returns-in-Ok-clause-layers c = sym (ap (λ (x : AnyCircuit). depth_of x) c.gold-circuit.ensures) ∙ c.in-Ok.ensures.circuit.layers

pub returns-in-Ok-clause-depth : goal.returns-in-Ok-clause-depth
returns-in-Ok-clause-depth c = subst (IsDemoDepth c.args.n) (sym (returns-in-Ok-clause-layers c)) (depth_is c.args.n c.requires.some)

pub returns-in-Ok-clause-outputs : goal.returns-in-Ok-clause-outputs
returns-in-Ok-clause-outputs c = subst (λ (x : AnyCircuit). HasSourceValues (demo_statements c.args.n) x) c.gold-circuit.ensures c.in-Ok.ensures.circuit.outputs

pub returns-in-Ok-clause-reduced : goal.returns-in-Ok-clause-reduced
returns-in-Ok-clause-reduced c = subst (λ (x : AnyCircuit). HasReducedLayers x) c.gold-circuit.ensures c.in-Ok.ensures.circuit.reduced

pub returns-in-Ok-clause-satisfied : goal.returns-in-Ok-clause-satisfied
returns-in-Ok-clause-satisfied c =
    demo_satisfied c.args.n c.requires.some c.gold-circuit.result (returns-in-Ok-clause-version c) c.valid_laws.ensures (returns-in-Ok-clause-publics c) (returns-in-Ok-clause-privates c) (returns-in-Ok-clause-outputs c)
