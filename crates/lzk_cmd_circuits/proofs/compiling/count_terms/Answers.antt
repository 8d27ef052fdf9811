use Rattle.lzk_profile.specs.Profile.{most_total}
use Rattle.std.proofs.Common.{◌+◌, ◌≤◌, length, ap, refl, arith, ◌≡◌, drop}
use Rattle.lzk_cmd_circuits.proofs.Terms.{one_more_count, count_fits}
use Rattle.std.proofs.lemmas.List.{drop_all}
use Rattle.lzk_cmd_circuits.specs.Compiled.{term_count}
use Rattle.lzk_cmd_circuits.proofs.compiling.count_terms.Goals as goal

pub overflow_add-count : goal.overflow_add-count
overflow_add-count g c =
    let fits : c.loop-l.count + length c.as_slice.result.now ≤ most_total =
    count_fits g.F.Field.ops c.args.circuit.now c.layer.result.now c.loop-l.l c.loop-l.count (length c.as_slice.result.now) c.depth-l-end.ensures.valid c.layer.ensures (ap length c.as_slice.ensures) c.loop-l.invariant in
    omega (arith, fits)

pub loop-l-preserved : goal.loop-l-preserved
loop-l-preserved g c =
    one_more_count c.layer.result.now c.args.circuit.now.layers c.loop-l.l c.loop-l.count (c.loop-l.count + length c.as_slice.result.now) (length c.as_slice.result.now) _ c.layer.ensures (ap length c.as_slice.ensures) refl c.loop-l.invariant

pub loop-l-init : goal.loop-l-init
loop-l-init g c = omega arith

pub returns : goal.returns
returns g c =
    let layers = c.args.circuit.now.layers in
    let end : length layers ≤ c.loop-l.l = omega (arith, c.depth-l-end.ensures.depth, c.loop-l-test.false) in
    let none : term_count (drop c.loop-l.l layers) ≡ 0 = ap term_count (drop_all c.loop-l.l layers end) in
    omega (arith, none, c.loop-l.invariant)
