use Rattle.std.proofs.Common.{◌∙◌, List, ap, subst, sym, length, arith}
use Rattle.lzk_circuit.specs.declared.layer.Term.{Term}
use Rattle.lzk_goldilocks.specs.Elements.{ops}
use Rattle.lzk_goldilocks.specs.declared.element.Gold.{Gold}
use Rattle.lzk_circuit_reduce.specs.Rows.{IsRow, row_value}
use Rattle.lzk_sha_circuit.proofs.Growth.{grown}
use Rattle.lzk_sha_circuit.proofs.rows.push_row.Goals as goal

pub returns : goal.returns
returns c =
    let row = c.deref.result.now in
    let same = c.deref.ensures.value in
    let made = c.in_ok-row.ensures in
    let long = ap length same in
    let few = made.short in
    grown ops c.args.wire c.args.products.now c.args.terms.now.items c.append.new.terms.items row c.append.result
    c.append.ensures.terms c.append.ensures.before c.append.ensures.added c.append.ensures.count c.append.ensures.exact
    (λ width within. subst (λ (l : List (Term Gold)). IsRow ops width l) (sym same) (made.row width within))
    (λ below. ap (row_value ops below) same ∙ made.value below)
    (omega (arith, long, few))
    (λ e. same ∙ made.one e)
