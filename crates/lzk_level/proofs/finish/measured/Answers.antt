use Rattle.std.proofs.Common.{◌≡◌, ◌∙◌, ap, ◌+◌, ◌-◌, ◌^◌, length, map, min, arith, Some, None}
use Rattle.lzk_circuit_reduce.specs.Renumbering.{at}
use Rattle.lzk_level.specs.Bounds.{node_depths, node_weights, wire_bound, greatest}
use Rattle.lzk_level.specs.Nodes.{Nodes}
use Rattle.lzk_level.proofs.AfterLaws.{limits-of}
use Rattle.lzk_level.proofs.FinishLaws.{depths-long}
use Rattle.std.proofs.lemmas.Result.{IfOk-from_err}
use Rattle.lzk_level.specs.declared.fault.LevelError.TheVariants.{OutOfMemory}
use Rattle.lzk_level.proofs.CompiledLaws.{handed_on}
use Rattle.lzk_level.proofs.finish.measured.Goals as goal

pub check_limits-requires : goal.check_limits-requires
check_limits-requires g c =
    let n = c.args.builder.now in
    let depths : c.deref.result.now ≡ node_depths n = c.deref.ensures.value ∙ c.in_ok-depths.ensures.depths ∙ ap (λ (b : Nodes _). node_depths b) c.builder.view_is in
    omega (arith, ap length depths, depths-long n.publics n.privates n.made, ap (λ (b : Nodes _). b.publics + b.privates + length b.made) c.builder.view_is, c.builder.invariant.2, c.requires)

pub returns-in-Ok-clause-depths : goal.returns-in-Ok-clause-depths
returns-in-Ok-clause-depths g c = c.in_ok-depths.ensures.depths ∙ ap (λ (b : Nodes _). node_depths b) c.builder.view_is

pub returns-in-Ok-clause-count : goal.returns-in-Ok-clause-count
returns-in-Ok-clause-count g c =
    let n = c.args.builder.now in
    let outputs = c.args.outputs.now in
    let depths : c.deref.result.now ≡ node_depths n = c.deref.ensures.value ∙ c.in_ok-depths.ensures.depths ∙ ap (λ (b : Nodes _). node_depths b) c.builder.view_is in
    let weights : c.deref-2.result.now ≡ map (min (2 ^ 64 - 1)) (node_weights n) = c.deref-2.ensures.value ∙ c.in_ok-depths.ensures.weights ∙ ap (λ (b : Nodes _). map (min (2 ^ 64 - 1)) (node_weights b)) c.builder.view_is in
    (c.in-Ok.ensures (node_weights n) weights).0 ∙ ap (λ ds. greatest 1 (map (at ds) outputs)) depths

pub returns-in-Ok-clause-within : goal.returns-in-Ok-clause-within
returns-in-Ok-clause-within g c =
    let n = c.args.builder.now in
    let outputs = c.args.outputs.now in
    let depths : c.deref.result.now ≡ node_depths n = c.deref.ensures.value ∙ c.in_ok-depths.ensures.depths ∙ ap (λ (b : Nodes _). node_depths b) c.builder.view_is in
    let weights : c.deref-2.result.now ≡ map (min (2 ^ 64 - 1)) (node_weights n) = c.deref-2.ensures.value ∙ c.in_ok-depths.ensures.weights ∙ ap (λ (b : Nodes _). map (min (2 ^ 64 - 1)) (node_weights b)) c.builder.view_is in
    let long : length (node_depths n) ≡ wire_bound n = depths-long n.publics n.privates n.made ∙ omega arith in
    limits-of c.args.further n outputs c.deref.result.now (node_weights n) None depths long (c.in-Ok.ensures (node_weights n) weights).1

pub returns-in-Err-clause-fault : goal.returns-in-Err-clause-fault
returns-in-Err-clause-fault g c =
    let n = c.args.builder.now in
    let outputs = c.args.outputs.now in
    let depths : c.deref.result.now ≡ node_depths n = c.deref.ensures.value ∙ c.in_ok-depths.ensures.depths ∙ ap (λ (b : Nodes _). node_depths b) c.builder.view_is in
    let weights : c.deref-2.result.now ≡ map (min (2 ^ 64 - 1)) (node_weights n) = c.deref-2.ensures.value ∙ c.in_ok-depths.ensures.weights ∙ ap (λ (b : Nodes _). map (min (2 ^ 64 - 1)) (node_weights b)) c.builder.view_is in
    let long : length (node_depths n) ≡ wire_bound n = depths-long n.publics n.privates n.made ∙ omega arith in
    limits-of c.args.further n outputs c.deref.result.now (node_weights n) (Some c.in-Err.fault) depths long (c.in-Err.ensures (node_weights n) weights)

pub returns-in_err-depths-clause-depths : goal.returns-in_err-depths-clause-depths
returns-in_err-depths-clause-depths g c = IfOk-from_err _ _ c.from_residual.ensures.0

pub returns-in_err-depths-clause-count : goal.returns-in_err-depths-clause-count
returns-in_err-depths-clause-count g c = IfOk-from_err _ _ c.from_residual.ensures.0

pub returns-in_err-depths-clause-within : goal.returns-in_err-depths-clause-within
returns-in_err-depths-clause-within g c = IfOk-from_err _ _ c.from_residual.ensures.0

pub sizes_of-requires-clause-gates : goal.sizes_of-requires-clause-gates
sizes_of-requires-clause-gates g c κs within = c.builder.invariant.3

pub overflow_add-inputs : goal.overflow_add-inputs
overflow_add-inputs g c = omega (arith, c.builder.invariant.2)

pub sizes_of-requires-clause-few : goal.sizes_of-requires-clause-few
sizes_of-requires-clause-few g c κs within = c.builder.invariant.2

pub returns-in_err-depths-clause-fault : goal.returns-in_err-depths-clause-fault
returns-in_err-depths-clause-fault g c = handed_on _ _ OutOfMemory c.from_residual.ensures.1 tt
