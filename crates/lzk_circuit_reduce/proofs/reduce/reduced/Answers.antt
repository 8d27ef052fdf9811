use Rattle.std.proofs.Common.{◌≡◌, ◌≤◌, ◌∙◌, ℕ, List, [], ap, sym, subst, arith, length}
use Rattle.std.proofs.lemmas.Result.{IfOk-weaker}
use Rattle.lzk_field.specs.Ring.{Ops, RingLaws}
use Rattle.lzk_circuit.specs.declared.layer.Layer.{Layer}
use Rattle.lzk_circuit.specs.Valid.{AreLayers}
use Rattle.lzk_circuit_reduce.specs.Asserting.{IsForm}
use Rattle.lzk_circuit_reduce.specs.Used.{IsPruned}
use Rattle.lzk_circuit_reduce.proofs.PrunedLaws.{pruned-form, pruned-ones}
use Rattle.lzk_circuit_reduce.specs.Reduced.{HaveOnes, AreSameOutputs, output_count}
use Rattle.lzk_circuit_reduce.proofs.TargetLaws.{no-targets}
use Rattle.lzk_circuit_reduce.proofs.reduce.reduced.Goals as goal

left-form : {A : Type 0} (o : Ops A) (r : RingLaws o) (inputs : ℕ) (layers : List (Layer A)) (moved : List (List ℕ)) (left : List (Layer A)) → 1 ≤ length layers → AreLayers o inputs layers → IsPruned inputs [] layers moved left → IsForm o inputs [] layers moved left
left-form o r inputs layers moved left some h p = pruned-form o r inputs [] layers moved left p some h (no-targets inputs layers)

pub invariant_of-given : goal.invariant_of-given
invariant_of-given g c =
    let r = c.requires in
    record { are = record { some = r.some; valid = r.layers; ones = r.ones; targets = no-targets c.args.inputs c.args.layers.now } }

pub reduced_by_sharing-result-requires-clause-some : goal.reduced_by_sharing-result-requires-clause-some
reduced_by_sharing-result-requires-clause-some g c κs within =
    let f = left-form g.F.Field.ops g.F.Field.laws.ring c.args.inputs c.args.layers.now c.in-Ok-pruned.moved.items c.in-Ok-pruned.left.items c.requires.some c.requires.layers c.in-Ok-pruned.ensures in
    omega (arith, ap length c.deref.ensures.value, f.count, c.requires.some)

pub reduced_by_sharing-result-requires-clause-layers : goal.reduced_by_sharing-result-requires-clause-layers
reduced_by_sharing-result-requires-clause-layers g c κs within =
    let f = left-form g.F.Field.ops g.F.Field.laws.ring c.args.inputs c.args.layers.now c.in-Ok-pruned.moved.items c.in-Ok-pruned.left.items c.requires.some c.requires.layers c.in-Ok-pruned.ensures in
    subst (AreLayers g.F.Field.ops c.args.inputs) (sym c.deref.ensures.value) f.valid

pub reduced_by_sharing-result-requires-clause-ones : goal.reduced_by_sharing-result-requires-clause-ones
reduced_by_sharing-result-requires-clause-ones g c κs within = subst (HaveOnes g.F.Field.ops) (sym c.deref.ensures.value) (pruned-ones g.F.Field.ops c.args.inputs [] c.args.layers.now c.in-Ok-pruned.moved.items c.in-Ok-pruned.left.items c.in-Ok-pruned.ensures c.requires.layers c.requires.ones)

pub returns : goal.returns
returns g c =
    let o = g.F.Field.ops in
    let inputs = c.args.inputs in
    let layers = c.args.layers.now in
    let left = c.deref.result.now in
    let is = c.deref.ensures.value in
    let f = left-form g.F.Field.ops g.F.Field.laws.ring c.args.inputs c.args.layers.now c.in-Ok-pruned.moved.items c.in-Ok-pruned.left.items c.requires.some c.requires.layers c.in-Ok-pruned.ensures in
    let u = c.reduced_by_sharing-result.ensures in
    let r = c.reduced_by_sharing-result.result in
    record {
      count = IfOk-weaker r (λ kept. length kept.items ≡ length left) (λ kept. length kept.items ≡ length layers) (λ kept e. e ∙ ap length is ∙ f.count) u.count;
      layers = u.layers;
      outputs = IfOk-weaker r (λ kept. output_count kept.items ≡ output_count left) (λ kept. output_count kept.items ≡ output_count layers) (λ kept e. e ∙ ap output_count is ∙ f.outputs) u.outputs;
      values =
          IfOk-weaker r (λ kept. AreSameOutputs o inputs kept.items left) (λ kept. AreSameOutputs o inputs kept.items layers)
          (λ kept e values l. (subst (AreSameOutputs o inputs kept.items) is e) values l ∙ f.values values l) u.values;
      reduced = u.reduced;
    }

pub reduced_by_sharing-requires-clause-some : goal.reduced_by_sharing-requires-clause-some
reduced_by_sharing-requires-clause-some g c κs within = c.requires.some

pub reduced_by_sharing-requires-clause-layers : goal.reduced_by_sharing-requires-clause-layers
reduced_by_sharing-requires-clause-layers g c κs within = c.requires.layers

pub reduced_by_sharing-requires-clause-ones : goal.reduced_by_sharing-requires-clause-ones
reduced_by_sharing-requires-clause-ones g c κs within = c.requires.ones

pub returns-then-all : goal.returns-then-all
returns-then-all g c =
    let u = c.reduced_by_sharing.ensures in
    record { count = u.count; layers = u.layers; outputs = u.outputs; values = u.values; reduced = u.reduced }
