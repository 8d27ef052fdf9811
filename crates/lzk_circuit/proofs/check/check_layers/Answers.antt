use Rattle.std.proofs.Common.{◌≡◌, ◌∙◌, ℕ, ◌+◌, ◌-◌, drop, length, arith, ap, sym, subst}
use Rattle.std.specs.Prelude.{None, Some}
use Rattle.std.proofs.lemmas.Result.{err_from_is_err_and}
use Rattle.lzk_circuit.specs.Faults.{layers_fault}
use Rattle.lzk_circuit.specs.Valid.{Under, under_of, above_layer}
use Rattle.lzk_circuit.proofs.FaultLaws.{from_here, limits-within, layer-first, walk-fails, limits-fail, limits-pass}
use Rattle.lzk_circuit.proofs.check.check_layers.Goals as goal

pub returns-in_err-check_limits : goal.returns-in_err-check_limits
returns-in_err-check_limits g c =
    let number = g.F.Field.coding.number in
    let layers = c.args.layers.now in
    let l = c.loop-l.l - 1 in
    let layer = c.index-layers-l.result in
    let under : Under = record { width = c.loop-l.width; wires = c.loop-l.wires; terms = c.loop-l.count } in
    let p = err_from_is_err_and c.from_residual.result c.from_residual.ensures.1 in
    let back : c.loop-l.l ≡ l + 1 = omega (arith, c.loop-l-test.true) in
    rw (p.1, p.2) (walk-fails number c.args.version c.args.inputs l under layer layers c.in_err-check_limits.field-0.0 (omega (arith, c.loop-l.auto, c.loop-l-test.true)) c.index-layers-l.is
    (subst (λ n. layers_fault number c.args.version c.args.inputs n (drop n layers) ≡ None) back c.loop-l.invariant.none)
    (subst (λ n. under_of c.args.inputs (drop n layers) ≡ under) back c.loop-l.invariant.under)
    (limits-fail number c.args.version l under layer c.in_err-check_limits.field-0.0 (rw c.as_slice-terms.ensures at c.in_err-check_limits.ensures)))

pub returns-in_err-check_terms : goal.returns-in_err-check_terms
returns-in_err-check_terms g c =
    let number = g.F.Field.coding.number in
    let layers = c.args.layers.now in
    let l = c.loop-l.l - 1 in
    let layer = c.index-layers-l.result in
    let under : Under = record { width = c.loop-l.width; wires = c.loop-l.wires; terms = c.loop-l.count } in
    let p = err_from_is_err_and c.from_residual-in_err-check_terms.result c.from_residual-in_err-check_terms.ensures.1 in
    let back : c.loop-l.l ≡ l + 1 = omega (arith, c.loop-l-test.true) in
    let fault = c.in_err-check_terms.field-0.0 in
    rw (p.1, p.2) (walk-fails number c.args.version c.args.inputs l under layer layers fault (omega (arith, c.loop-l.auto, c.loop-l-test.true)) c.index-layers-l.is
    (subst (λ n. layers_fault number c.args.version c.args.inputs n (drop n layers) ≡ None) back c.loop-l.invariant.none)
    (subst (λ n. under_of c.args.inputs (drop n layers) ≡ under) back c.loop-l.invariant.under)
    (limits-pass number c.args.version l under layer (Some fault) (rw c.as_slice-terms.ensures at c.in_ok-check_limits.ensures) (rw c.as_slice-terms.ensures at c.in_err-check_terms.ensures)))

pub loop-l-preserved : goal.loop-l-preserved
loop-l-preserved g c =
    let number = g.F.Field.coding.number in
    let layers = c.args.layers.now in
    let l = c.loop-l.l - 1 in
    let layer = c.index-layers-l.result in
    let under : Under = record { width = c.loop-l.width; wires = c.loop-l.wires; terms = c.loop-l.count } in
    let back : c.loop-l.l ≡ l + 1 = omega (arith, c.loop-l-test.true) in
    let none = subst (λ n. layers_fault number c.args.version c.args.inputs n (drop n layers) ≡ None) back c.loop-l.invariant.none in
    let below = subst (λ n. under_of c.args.inputs (drop n layers) ≡ under) back c.loop-l.invariant.under in
    let limits = rw c.as_slice-terms.ensures at c.in_ok-check_limits.ensures in
    let within = limits-within l c.loop-l.wires c.loop-l.count layer.wires (length layer.terms) limits in
    let front = from_here layers l layer (omega (arith, c.loop-l.auto, c.loop-l-test.true)) c.index-layers-l.is in
    let many = ap length c.as_slice-terms.ensures in
    record {
      none = layer-first number c.args.version c.args.inputs l under layer layers (drop (l + 1) layers) front none below
          ∙ limits-pass number c.args.version l under layer None limits (rw c.as_slice-terms.ensures at c.in_ok-check_terms.ensures);
      under = ap (under_of c.args.inputs) front ∙ ap (λ (u : Under). above_layer u layer) below ∙ ap (λ (n : ℕ). record { width = layer.wires; wires = c.loop-l.wires + layer.wires; terms = c.loop-l.count + n }) (sym many);
      wires = within.0;
      terms = omega (arith, within.1, many);
    }

pub bounds-layers-l : goal.bounds-layers-l
bounds-layers-l g c = omega (arith, c.loop-l.auto, c.loop-l-test.true)

pub check_limits-requires-clause-wires : goal.check_limits-requires-clause-wires
check_limits-requires-clause-wires g c = c.loop-l.invariant.wires

pub check_limits-requires-clause-terms : goal.check_limits-requires-clause-terms
check_limits-requires-clause-terms g c = c.loop-l.invariant.terms

pub check_terms-requires-after_bounds : goal.check_terms-requires-after_bounds
check_terms-requires-after_bounds g c κs within-lives =
    let layer = c.index-layers-l.result in
    let limits = rw c.as_slice-terms.ensures at c.in_ok-check_limits.ensures in
    let within = limits-within (c.loop-l.l - 1) c.loop-l.wires c.loop-l.count layer.wires (length layer.terms) limits in
    omega (arith, within.1, ap length c.as_slice-terms.ensures)

pub overflow_add-wires : goal.overflow_add-wires
overflow_add-wires g c =
    let layer = c.index-layers-l.result in
    let limits = rw c.as_slice-terms.ensures at c.in_ok-check_limits.ensures in
    let within = limits-within (c.loop-l.l - 1) c.loop-l.wires c.loop-l.count layer.wires (length layer.terms) limits in
    omega (arith, within.0)

pub overflow_add-count : goal.overflow_add-count
overflow_add-count g c =
    let layer = c.index-layers-l.result in
    let limits = rw c.as_slice-terms.ensures at c.in_ok-check_limits.ensures in
    let within = limits-within (c.loop-l.l - 1) c.loop-l.wires c.loop-l.count layer.wires (length layer.terms) limits in
    omega (arith, within.1, ap length c.as_slice-terms.ensures)

pub returns : goal.returns
returns g c =
    let none : c.loop-l.l ≡ 0 = omega (arith, c.loop-l-test.false) in
    subst (λ n. layers_fault g.F.Field.coding.number c.args.version c.args.inputs n (drop n c.args.layers.now) ≡ None) none c.loop-l.invariant.none
