use Rattle.std.proofs.Common.{◌≡◌, ◌∙◌, arith, length}
use Rattle.std.proofs.lemmas.Result.{IfOk-weaker}
use Rattle.lzk_circuit_reduce.specs.Reduced.{AreSameOutputs, output_count}
use Rattle.lzk_circuit_reduce.proofs.reduce.reduced_by_sharing.Goals as goal

pub used-requires-clause-some : goal.used-requires-clause-some
used-requires-clause-some g c κs within = omega (arith, c.in-Ok.ensures.count, c.requires.some)

pub used-requires-clause-layers : goal.used-requires-clause-layers
used-requires-clause-layers g c κs within = c.in-Ok.ensures.valid

pub used-requires-clause-ones : goal.used-requires-clause-ones
used-requires-clause-ones g c κs within = c.in-Ok.ensures.ones

pub used-requires-clause-different : goal.used-requires-clause-different
used-requires-clause-different g c κs within = c.in-Ok.ensures.different

pub returns : goal.returns
returns g c =
    let o = g.F.Field.ops in
    let inputs = c.args.inputs in
    let layers = c.args.layers.now in
    let different = c.in-Ok.different.items in
    let d = c.in-Ok.ensures in
    let u = c.used.ensures in
    let r = c.used.result in
    record {
      count = IfOk-weaker r (λ kept. length kept.items ≡ length different) (λ kept. length kept.items ≡ length layers) (λ kept e. e ∙ d.count) u.count;
      layers = u.layers;
      outputs = IfOk-weaker r (λ kept. output_count kept.items ≡ output_count different) (λ kept. output_count kept.items ≡ output_count layers) (λ kept e. e ∙ d.outputs) u.outputs;
      values = IfOk-weaker r (λ kept. AreSameOutputs o inputs kept.items different) (λ kept. AreSameOutputs o inputs kept.items layers) (λ kept e values l. e values l ∙ d.values values l) u.values;
      reduced = u.reduced;
    }
