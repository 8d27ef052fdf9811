use Rattle.std.proofs.Common.{◌∙◌, arith, sym, subst}
use Rattle.std.specs.Prelude.{IfOk, IfErr}
use Rattle.lzk_level.specs.Bounds.{IsFaultOf}
use Rattle.lzk_level.specs.Compiling.{nodes_of}
use Rattle.lzk_level.specs.CompiledCode.{IsCircuitIn, limit_of_made}
use Rattle.lzk_level.specs.Finished.{AreBuilt}
use Rattle.lzk_level.proofs.CompiledLaws.{built-count, built-nodes, circuit-over, circuit-over-v2, built-fault, built-fault-v2, handed_on}
use Rattle.std.proofs.lemmas.Result.{IfOk-from_err}
use Rattle.lzk_level.specs.declared.fault.LevelError.TheVariants.{OutOfMemory}
use Rattle.lzk_level.proofs.compiling.compile_over.Goals as goal

pub finish-requires-clause-some : goal.finish-requires-clause-some
finish-requires-clause-some g c =
    let s = c.in_ok-builder.ensures.some in
    let n = built-count g.F.Field.ops g.F.Field.coding.element s.statements c.deref.result.now (c.deref.ensures.value ∙ s.built.outputs_are) in
    omega (arith, n, s.built.compilable.some)

pub finish-requires-clause-few : goal.finish-requires-clause-few
finish-requires-clause-few g c =
    let s = c.in_ok-builder.ensures.some in
    let n = built-count g.F.Field.ops g.F.Field.coding.element s.statements c.deref.result.now (c.deref.ensures.value ∙ s.built.outputs_are) in
    omega (arith, n, s.built.compilable.asserts)

pub finish-requires-clause-nodes : goal.finish-requires-clause-nodes
finish-requires-clause-nodes g c κs within =
    let s = c.in_ok-builder.ensures.some in
    built-nodes g.F.Field.ops g.F.Field.coding.element s.statements c.in_ok-builder.builder c.deref.result.now s.built.nodes (c.deref.ensures.value ∙ s.built.outputs_are)

pub finish_v2-requires-clause-some : goal.finish_v2-requires-clause-some
finish_v2-requires-clause-some g c =
    let s = c.in_ok-builder.ensures.some in
    let n = built-count g.F.Field.ops g.F.Field.coding.element s.statements c.deref-in-Two.result.now (c.deref-in-Two.ensures.value ∙ s.built.outputs_are) in
    omega (arith, n, s.built.compilable.some)

pub finish_v2-requires-clause-few : goal.finish_v2-requires-clause-few
finish_v2-requires-clause-few g c =
    let s = c.in_ok-builder.ensures.some in
    let n = built-count g.F.Field.ops g.F.Field.coding.element s.statements c.deref-in-Two.result.now (c.deref-in-Two.ensures.value ∙ s.built.outputs_are) in
    omega (arith, n, s.built.compilable.asserts)

pub finish_v2-requires-clause-nodes : goal.finish_v2-requires-clause-nodes
finish_v2-requires-clause-nodes g c κs within =
    let s = c.in_ok-builder.ensures.some in
    built-nodes g.F.Field.ops g.F.Field.coding.element s.statements c.in_ok-builder.builder c.deref-in-Two.result.now s.built.nodes (c.deref-in-Two.ensures.value ∙ s.built.outputs_are)

pub returns-in-One-clause-circuit : goal.returns-in-One-clause-circuit
returns-in-One-clause-circuit g c = λ source is.
    let o = g.F.Field.ops in
    let number = g.F.Field.coding.number in
    let element = g.F.Field.coding.element in
    let ss = source.statements in
    let n = c.in_ok-builder.builder in
    let e = c.finish.ensures in
    let built = subst (AreBuilt o element ss n) (sym c.deref.ensures.value) (c.in_ok-builder.ensures.built source is) in
    subst (λ v. IfOk c.finish.result (IsCircuitIn v o number element ss)) (sym c.in-One.is)
    (circuit-over o element ss g.F.Field.laws.ring n c.deref.result.now built c.finish.result e.version e.publics e.privates e.layers e.outputs e.reduced e.within)

pub returns-in-One-clause-fault : goal.returns-in-One-clause-fault
returns-in-One-clause-fault g c = λ source is.
    let o = g.F.Field.ops in
    let element = g.F.Field.coding.element in
    let ss = source.statements in
    let b = c.in_ok-builder.ensures.built source is in
    let e = c.finish.ensures in
    subst (λ v. IfErr c.finish.result (IsFaultOf (limit_of_made v (nodes_of o element ss)))) (sym c.in-One.is)
    (built-fault o element ss c.in_ok-builder.builder c.deref.result.now c.finish.result b.nodes (c.deref.ensures.value ∙ b.outputs_are) e.fault)

pub returns-clause-circuit : goal.returns-clause-circuit
returns-clause-circuit g c = λ source is.
    let o = g.F.Field.ops in
    let number = g.F.Field.coding.number in
    let element = g.F.Field.coding.element in
    let ss = source.statements in
    let n = c.in_ok-builder.builder in
    let e = c.finish_v2.ensures in
    let built = subst (AreBuilt o element ss n) (sym c.deref-in-Two.ensures.value) (c.in_ok-builder.ensures.built source is) in
    subst (λ v. IfOk c.finish_v2.result (IsCircuitIn v o number element ss)) (sym c.in-Two.is)
    (circuit-over-v2 o element ss g.F.Field.laws.ring n c.deref-in-Two.result.now built number c.finish_v2.result e.version e.publics e.privates e.layers e.count e.checks e.outputs e.reduced e.within)

pub returns-clause-fault : goal.returns-clause-fault
returns-clause-fault g c = λ source is.
    let o = g.F.Field.ops in
    let element = g.F.Field.coding.element in
    let ss = source.statements in
    let b = c.in_ok-builder.ensures.built source is in
    let e = c.finish_v2.ensures in
    subst (λ v. IfErr c.finish_v2.result (IsFaultOf (limit_of_made v (nodes_of o element ss)))) (sym c.in-Two.is)
    (built-fault-v2 o element ss c.in_ok-builder.builder c.deref-in-Two.result.now c.finish_v2.result b.nodes (c.deref-in-Two.ensures.value ∙ b.outputs_are) e.fault)

pub returns-in_err-builder-clause-circuit : goal.returns-in_err-builder-clause-circuit
returns-in_err-builder-clause-circuit g c source is = IfOk-from_err _ _ c.from_residual.ensures.0

pub returns-in_err-builder-clause-fault : goal.returns-in_err-builder-clause-fault
returns-in_err-builder-clause-fault g c source is = handed_on _ _ OutOfMemory c.from_residual.ensures.1 tt
