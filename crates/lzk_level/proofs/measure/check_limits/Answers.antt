use Rattle.std.proofs.Common.{◌≡◌, ◌∙◌, ap, arith, subst, ◌+◌, ◌*◌, length, map, Some, None}
use Rattle.std.specs.Result.{MatchResult}
use Rattle.lzk_circuit_reduce.specs.Renumbering.{at}
use Rattle.lzk_level.specs.Bounds.{total, greatest, limit_fault}
use Rattle.lzk_level.proofs.GateLaws.{cap, capped-all}
use Rattle.lzk_level.proofs.measure.check_limits.Goals as goal

pub returns : goal.returns
returns c all e =
    let layers = c.outputs_sizes-layers.result.0 in
    let wires = length c.args.depths.now + c.args.further in
    let outputs = c.args.outputs.now in
    let weights = c.args.weights.now in
    let most = greatest 1 (map (at c.args.depths.now) outputs) in
    let terms = most * wires + total all + total (map (at all) outputs) in
    let own = c.outputs_sizes-layers.ensures in
    let capped : c.saturating_add-terms.result ≡ cap terms =
    c.saturating_add-terms.ensures ∙ omega (arith, c.add_all.ensures, own.weight, capped-all (layers * wires) (most * wires) weights all outputs (ap (λ l. l * wires) own.depth) e) in
    subst (λ l. MatchResult c.check.result (λ count. (count ≡ l) × (limit_fault l wires terms ≡ None)) (λ fault. limit_fault l wires terms ≡ Some fault)) own.depth (c.check.ensures terms capped)

pub overflow_cast-wires : goal.overflow_cast-wires
overflow_cast-wires c = omega (arith, c.requires)

pub overflow_add-wires : goal.overflow_add-wires
overflow_add-wires c = omega (arith, c.requires)

pub overflow_cast-copies-2 : goal.overflow_cast-copies-2
overflow_cast-copies-2 c = omega (arith, c.requires)
