use Rattle.std.proofs.Common.{◌≡◌, length, None}
use Rattle.std.proofs.lemmas.Result.{IfOk-weaker}
use Rattle.lzk_circuit_reduce.specs.Reduced.{IsReduced}
use Rattle.lzk_level.specs.Bounds.{layer_count, level_fault}
use Rattle.lzk_level.specs.Layouts.{IsLaidOut}
use Rattle.lzk_level.specs.Meanings.{HasOutputs}
use Rattle.lzk_level.proofs.builder.Builder.finish.Goals as goal

pub returns-clause-version : goal.returns-clause-version
returns-clause-version g c =
    let o = g.F.Field.ops in
    let n = c.args.self in
    let ks = c.args.outputs.now in
    IfOk-weaker c.laid_out.result (IsLaidOut o n ks) (λ w. w.version ≡ 1) (λ _ h. h.version_is) c.laid_out.ensures.circuit

pub returns-clause-publics : goal.returns-clause-publics
returns-clause-publics g c =
    let o = g.F.Field.ops in
    let n = c.args.self in
    let ks = c.args.outputs.now in
    IfOk-weaker c.laid_out.result (IsLaidOut o n ks) (λ w. w.publics ≡ n.publics) (λ _ h. h.publics) c.laid_out.ensures.circuit

pub returns-clause-privates : goal.returns-clause-privates
returns-clause-privates g c =
    let o = g.F.Field.ops in
    let n = c.args.self in
    let ks = c.args.outputs.now in
    IfOk-weaker c.laid_out.result (IsLaidOut o n ks) (λ w. w.privates ≡ n.privates) (λ _ h. h.privates) c.laid_out.ensures.circuit

pub returns-clause-layers : goal.returns-clause-layers
returns-clause-layers g c =
    let o = g.F.Field.ops in
    let n = c.args.self in
    let ks = c.args.outputs.now in
    IfOk-weaker c.laid_out.result (IsLaidOut o n ks) (λ w. length w.layers ≡ layer_count n ks) (λ _ h. h.layers) c.laid_out.ensures.circuit

pub returns-clause-outputs : goal.returns-clause-outputs
returns-clause-outputs g c =
    let o = g.F.Field.ops in
    let n = c.args.self in
    let ks = c.args.outputs.now in
    IfOk-weaker c.laid_out.result (IsLaidOut o n ks) (HasOutputs o n ks) (λ _ h. h.outputs_are) c.laid_out.ensures.circuit

pub returns-clause-reduced : goal.returns-clause-reduced
returns-clause-reduced g c =
    let o = g.F.Field.ops in
    let n = c.args.self in
    let ks = c.args.outputs.now in
    IfOk-weaker c.laid_out.result (IsLaidOut o n ks) (λ w. IsReduced o w.layers) (λ _ h. h.reduced) c.laid_out.ensures.circuit

pub returns-clause-within : goal.returns-clause-within
returns-clause-within g c =
    let o = g.F.Field.ops in
    let n = c.args.self in
    let ks = c.args.outputs.now in
    IfOk-weaker c.laid_out.result (IsLaidOut o n ks) (λ _. level_fault n ks ≡ None) (λ _ h. h.within) c.laid_out.ensures.circuit
