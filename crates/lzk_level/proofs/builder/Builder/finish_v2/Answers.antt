use Rattle.std.proofs.Common.{◌≡◌, length, None}
use Rattle.std.proofs.lemmas.Result.{IfOk-weaker}
use Rattle.lzk_circuit.specs.Checks.{check_count}
use Rattle.lzk_circuit_reduce.specs.Attached.{IsReducedAsserting}
use Rattle.lzk_level.specs.Bounds.{layer_count, level_fault_v2}
use Rattle.lzk_level.specs.Checking.{HasChecks, HasFewOutputs}
use Rattle.lzk_level.specs.Layouts.{IsLaidOutV2}
use Rattle.lzk_level.proofs.builder.Builder.finish_v2.Goals as goal

pub returns-clause-version : goal.returns-clause-version
returns-clause-version g c =
    let o = g.F.Field.ops in
    let number = g.F.Field.coding.number in
    let n = c.args.self in
    let ks = c.args.asserts.now in
    IfOk-weaker c.laid_out.result (IsLaidOutV2 o number n ks) (λ w. w.version ≡ 2) (λ _ h. h.version_is) c.laid_out.ensures.circuit

pub returns-clause-publics : goal.returns-clause-publics
returns-clause-publics g c =
    let o = g.F.Field.ops in
    let number = g.F.Field.coding.number in
    let n = c.args.self in
    let ks = c.args.asserts.now in
    IfOk-weaker c.laid_out.result (IsLaidOutV2 o number n ks) (λ w. w.publics ≡ n.publics) (λ _ h. h.publics) c.laid_out.ensures.circuit

pub returns-clause-privates : goal.returns-clause-privates
returns-clause-privates g c =
    let o = g.F.Field.ops in
    let number = g.F.Field.coding.number in
    let n = c.args.self in
    let ks = c.args.asserts.now in
    IfOk-weaker c.laid_out.result (IsLaidOutV2 o number n ks) (λ w. w.privates ≡ n.privates) (λ _ h. h.privates) c.laid_out.ensures.circuit

pub returns-clause-layers : goal.returns-clause-layers
returns-clause-layers g c =
    let o = g.F.Field.ops in
    let number = g.F.Field.coding.number in
    let n = c.args.self in
    let ks = c.args.asserts.now in
    IfOk-weaker c.laid_out.result (IsLaidOutV2 o number n ks) (λ w. length w.layers ≡ layer_count n ks) (λ _ h. h.layers) c.laid_out.ensures.circuit

pub returns-clause-count : goal.returns-clause-count
returns-clause-count g c =
    let o = g.F.Field.ops in
    let number = g.F.Field.coding.number in
    let n = c.args.self in
    let ks = c.args.asserts.now in
    IfOk-weaker c.laid_out.result (IsLaidOutV2 o number n ks) (λ w. check_count number w.layers ≡ length ks) (λ _ h. h.count) c.laid_out.ensures.circuit

pub returns-clause-checks : goal.returns-clause-checks
returns-clause-checks g c =
    let o = g.F.Field.ops in
    let number = g.F.Field.coding.number in
    let n = c.args.self in
    let ks = c.args.asserts.now in
    IfOk-weaker c.laid_out.result (IsLaidOutV2 o number n ks) (HasChecks o number n ks) (λ _ h. h.checks) c.laid_out.ensures.circuit

pub returns-clause-outputs : goal.returns-clause-outputs
returns-clause-outputs g c =
    let o = g.F.Field.ops in
    let number = g.F.Field.coding.number in
    let n = c.args.self in
    let ks = c.args.asserts.now in
    IfOk-weaker c.laid_out.result (IsLaidOutV2 o number n ks) (HasFewOutputs n ks) (λ _ h. h.outputs) c.laid_out.ensures.circuit

pub returns-clause-reduced : goal.returns-clause-reduced
returns-clause-reduced g c =
    let o = g.F.Field.ops in
    let number = g.F.Field.coding.number in
    let n = c.args.self in
    let ks = c.args.asserts.now in
    IfOk-weaker c.laid_out.result (IsLaidOutV2 o number n ks) (λ w. IsReducedAsserting o w.layers) (λ _ h. h.reduced) c.laid_out.ensures.circuit

pub returns-clause-within : goal.returns-clause-within
returns-clause-within g c =
    let o = g.F.Field.ops in
    let number = g.F.Field.coding.number in
    let n = c.args.self in
    let ks = c.args.asserts.now in
    IfOk-weaker c.laid_out.result (IsLaidOutV2 o number n ks) (λ _. level_fault_v2 n ks ≡ None) (λ _ h. h.within) c.laid_out.ensures.circuit
