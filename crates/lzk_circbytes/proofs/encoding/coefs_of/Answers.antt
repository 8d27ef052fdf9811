use Rattle.std.proofs.Common.{◌++◌, ℕ, ap, sym, subst, arith, map, length, List}
use Rattle.std.specs.List.Sorted.{IsStrictlyIncreasing}
use Rattle.std.proofs.lemmas.List.{drop_all}
use Rattle.lzk_circuit.specs.declared.layer.Layer.{Layer}
use Rattle.lzk_circbytes.specs.Numbered.{numbered_term, numbered_layer, coefficients, coefs_of}
use Rattle.lzk_circbytes.specs.Fits.{CanWriteLayers}
use Rattle.lzk_circbytes.specs.Recent.{HaveSame}
use Rattle.lzk_circbytes.proofs.Recent.{same_end}
use Rattle.lzk_circbytes.proofs.Written.{coefficients_go_on}
use Rattle.lzk_circbytes.proofs.OneFile.{can_write_layers, coefs_made, coefficients_some, constants_rise, few_coefs}
use Rattle.lzk_circbytes.proofs.ReadSteps.{not_if_ok}
use Rattle.lzk_circbytes.proofs.encoding.coefs_of.Goals as goal

pub loop-l-preserved : goal.loop-l-preserved
loop-l-preserved g c =
    let number = g.F.Field.coding.number in
    let layers = c.args.circuit.now.layers in
    let layer = c.layer.result.now in
    let step = subst (λ (ts : List _). HaveSame c.push_coefficients.new.numbers.items (c.loop-l.numbers.items ++ map (λ t. t.coef) (map (numbered_term number) ts))) c.as_slice.ensures c.in_ok-push_coefficients.ensures.same in
    record {
      same = coefficients_go_on number c.loop-l.numbers.items c.push_coefficients.new.numbers.items c.loop-l.l layers layer (coefs_of c.args.circuit.now.version (coefficients (map (numbered_layer number) layers))) (omega (arith, c.loop-l-test.true, c.depth-l-end.ensures.depth)) c.layer.ensures step c.loop-l.invariant.same;
      met = c.in_ok-push_coefficients.ensures.met;
    }

pub returns-clause-numbers : goal.returns-clause-numbers
returns-clause-numbers g c =
    let F = g.F.Field in
    let layers = c.args.circuit.now.layers in
    let ks = coefficients (map (numbered_layer F.coding.number) layers) in
    let none = drop_all c.loop-l.l layers (omega (arith, c.loop-l-test.false, c.depth-l-end.ensures.depth)) in
    let all = coefs_of c.args.circuit.now.version ks in
    let same : HaveSame c.loop-l.numbers.items all = same_end c.loop-l.numbers.items all (subst (λ (ls : List (Layer _)). HaveSame (c.loop-l.numbers.items ++ coefficients (map (numbered_layer F.coding.number) ls)) all) none c.loop-l.invariant.same) in
    coefs_made c.args.circuit.now.version ks c.loop-l.numbers.items c.sort_unstable.new.self.items c.dedup.new.self.items (coefficients_some F.ops F.coding.size F.coding.number F.coding.element F.coding.bytes F.laws F.coding.id c.args.circuit.now c.depth-l-end.ensures.valid) same c.sort_unstable.ensures.permutation c.sort_unstable.ensures.sorted c.dedup.ensures.filtered

pub returns-clause-rising : goal.returns-clause-rising
returns-clause-rising g c =
    let F = g.F.Field in
    subst IsStrictlyIncreasing (sym (returns-clause-numbers g c)) (constants_rise F.ops F.coding.size F.coding.number F.coding.element F.coding.bytes F.laws F.coding.id c.args.circuit.now)

pub returns-clause-few : goal.returns-clause-few
returns-clause-few g c =
    let F = g.F.Field in
    omega (arith, few_coefs F.ops F.coding.size F.coding.number F.coding.element F.coding.bytes F.laws F.coding.id c.args.circuit.now c.depth-l-end.ensures.valid, ap length (returns-clause-numbers g c))

pub returns-clause-fit : goal.returns-clause-fit
returns-clause-fit g c =
    let F = g.F.Field in
    subst (λ (cs : List ℕ). CanWriteLayers cs (map (numbered_layer F.coding.number) c.args.circuit.now.layers)) (sym (returns-clause-numbers g c)) (can_write_layers F.ops F.coding.size F.coding.number F.coding.element F.coding.bytes F.laws F.coding.id c.args.circuit.now c.depth-l-end.ensures.valid)

pub returns-in_err-push-clause-numbers : goal.returns-in_err-push-clause-numbers
returns-in_err-push-clause-numbers g c = not_if_ok _ c.from_residual.result _ c.from_residual.ensures.1

pub returns-in_err-push-clause-rising : goal.returns-in_err-push-clause-rising
returns-in_err-push-clause-rising g c = not_if_ok _ c.from_residual.result _ c.from_residual.ensures.1

pub returns-in_err-push-clause-few : goal.returns-in_err-push-clause-few
returns-in_err-push-clause-few g c = not_if_ok _ c.from_residual.result _ c.from_residual.ensures.1

pub returns-in_err-push-clause-fit : goal.returns-in_err-push-clause-fit
returns-in_err-push-clause-fit g c = not_if_ok _ c.from_residual.result _ c.from_residual.ensures.1

pub returns-in_err-push_coefficients-clause-numbers : goal.returns-in_err-push_coefficients-clause-numbers
returns-in_err-push_coefficients-clause-numbers g c = not_if_ok _ c.from_residual-in_err-push_coefficients.result _ c.from_residual-in_err-push_coefficients.ensures.1

pub returns-in_err-push_coefficients-clause-rising : goal.returns-in_err-push_coefficients-clause-rising
returns-in_err-push_coefficients-clause-rising g c = not_if_ok _ c.from_residual-in_err-push_coefficients.result _ c.from_residual-in_err-push_coefficients.ensures.1

pub returns-in_err-push_coefficients-clause-few : goal.returns-in_err-push_coefficients-clause-few
returns-in_err-push_coefficients-clause-few g c = not_if_ok _ c.from_residual-in_err-push_coefficients.result _ c.from_residual-in_err-push_coefficients.ensures.1

pub returns-in_err-push_coefficients-clause-fit : goal.returns-in_err-push_coefficients-clause-fit
returns-in_err-push_coefficients-clause-fit g c = not_if_ok _ c.from_residual-in_err-push_coefficients.result _ c.from_residual-in_err-push_coefficients.ensures.1
