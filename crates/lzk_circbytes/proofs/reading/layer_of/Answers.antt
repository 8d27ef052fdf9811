use Rattle.std.proofs.Common.{map, length, ap, arith}
use Rattle.std.proofs.lemmas.Result.{err_from_is_err_and}
use Rattle.lzk_circbytes.specs.Numbered.{numbered_term}
use Rattle.lzk_circbytes.specs.Answers.{under}
use Rattle.lzk_circbytes.proofs.ReadSteps.{not_if_ok, wires_fail, count_fails, terms_fail, layer_read}
use Rattle.lzk_circbytes.proofs.reading.layer_of.Goals as goal

pub returns-in_err-wires-clause-value : goal.returns-in_err-wires-clause-value
returns-in_err-wires-clause-value g c =
    let number = g.F.Field.coding.number in
    let coefs = map number c.args.coefs.now.list.now in
    let u = under c.args.below.width c.args.below.wires c.args.below.terms in
    let p = err_from_is_err_and c.from_residual.result c.from_residual.ensures.1 in
    rw (p.1, p.2) (wires_fail coefs u c.args.bytes.now c.requires.wires c.requires.terms c.min-most.result c.min-most.ensures c.in_err-wires.field-0.0 c.in_err-wires.ensures.value)

pub returns-in_err-wires-clause-wires : goal.returns-in_err-wires-clause-wires
returns-in_err-wires-clause-wires g c = not_if_ok _ c.from_residual.result _ c.from_residual.ensures.1

pub returns-in_err-wires-clause-terms : goal.returns-in_err-wires-clause-terms
returns-in_err-wires-clause-terms g c = not_if_ok _ c.from_residual.result _ c.from_residual.ensures.1

pub returns-in_err-wires-clause-used : goal.returns-in_err-wires-clause-used
returns-in_err-wires-clause-used g c = not_if_ok _ c.from_residual.result _ c.from_residual.ensures.1

pub returns-in_err-count-clause-value : goal.returns-in_err-count-clause-value
returns-in_err-count-clause-value g c =
    let number = g.F.Field.coding.number in
    let coefs = map number c.args.coefs.now.list.now in
    let u = under c.args.below.width c.args.below.wires c.args.below.terms in
    let p = err_from_is_err_and c.from_residual-in_err-count.result c.from_residual-in_err-count.ensures.1 in
    rw (p.1, p.2) (count_fails coefs u c.args.bytes.now c.requires.wires c.requires.terms c.min-most.result c.min-most.ensures c.in_ok-wires.wires c.in_ok-wires.at_count.now c.in_ok-wires.ensures.value c.in_err-count.field-0.0 c.in_err-count.ensures.value)

pub returns-in_err-count-clause-wires : goal.returns-in_err-count-clause-wires
returns-in_err-count-clause-wires g c = not_if_ok _ c.from_residual-in_err-count.result _ c.from_residual-in_err-count.ensures.1

pub returns-in_err-count-clause-terms : goal.returns-in_err-count-clause-terms
returns-in_err-count-clause-terms g c = not_if_ok _ c.from_residual-in_err-count.result _ c.from_residual-in_err-count.ensures.1

pub returns-in_err-count-clause-used : goal.returns-in_err-count-clause-used
returns-in_err-count-clause-used g c = not_if_ok _ c.from_residual-in_err-count.result _ c.from_residual-in_err-count.ensures.1

pub returns-in_err-terms-clause-value : goal.returns-in_err-terms-clause-value
returns-in_err-terms-clause-value g c =
    let number = g.F.Field.coding.number in
    let coefs = map number c.args.coefs.now.list.now in
    let u = under c.args.below.width c.args.below.wires c.args.below.terms in
    let p = err_from_is_err_and c.from_residual-in_err-terms.result c.from_residual-in_err-terms.ensures.1 in
    rw (p.1, p.2) (terms_fail coefs u c.args.bytes.now c.requires.wires c.requires.terms c.min-most.result c.min-most.ensures c.in_ok-wires.wires c.in_ok-wires.at_count.now c.in_ok-wires.ensures.value c.in_ok-count.count c.in_ok-count.rest.now c.in_ok-count.ensures.value c.in_err-terms.field-0.0 c.in_err-terms.ensures.value)

pub returns-in_err-terms-clause-wires : goal.returns-in_err-terms-clause-wires
returns-in_err-terms-clause-wires g c = not_if_ok _ c.from_residual-in_err-terms.result _ c.from_residual-in_err-terms.ensures.1

pub returns-in_err-terms-clause-terms : goal.returns-in_err-terms-clause-terms
returns-in_err-terms-clause-terms g c = not_if_ok _ c.from_residual-in_err-terms.result _ c.from_residual-in_err-terms.ensures.1

pub returns-in_err-terms-clause-used : goal.returns-in_err-terms-clause-used
returns-in_err-terms-clause-used g c = not_if_ok _ c.from_residual-in_err-terms.result _ c.from_residual-in_err-terms.ensures.1

pub terms_of-requires-after_bounds : goal.terms_of-requires-after_bounds
terms_of-requires-after_bounds g c κs within = c.requires.flags

pub returns-clause-value : goal.returns-clause-value
returns-clause-value g c =
    let number = g.F.Field.coding.number in
    let coefs = map number c.args.coefs.now.list.now in
    let u = under c.args.below.width c.args.below.wires c.args.below.terms in
    rw c.new-terms.ensures (layer_read coefs u c.args.bytes.now c.requires.wires c.requires.terms c.min-most.result c.min-most.ensures c.in_ok-wires.wires c.in_ok-wires.at_count.now c.in_ok-wires.ensures.value c.in_ok-count.count c.in_ok-count.rest.now c.in_ok-count.ensures.value (map (numbered_term number) c.in_ok-terms.terms.items) c.in_ok-terms.rest.now c.in_ok-terms.ensures.value)

pub returns-clause-wires : goal.returns-clause-wires
returns-clause-wires g c = omega (arith, c.in_ok-wires.ensures.bound, c.min-most.ensures, c.requires.wires)

pub returns-clause-terms : goal.returns-clause-terms
returns-clause-terms g c = omega (arith, ap length c.new-terms.ensures, c.in_ok-terms.ensures.count, c.in_ok-count.ensures.bound, c.requires.terms)

pub returns-clause-used : goal.returns-clause-used
returns-clause-used g c = rw c.new-terms.ensures c.in_ok-terms.ensures.used
