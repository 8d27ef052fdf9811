use Rattle.std.proofs.Common.{◌∙◌, ◌+◌, ℕ, length, ap, sym, arith}
use Rattle.std.proofs.lemmas.List.{take_all}
use Rattle.lzk_circuit.specs.declared.layer.Term.{Term}
use Rattle.lzk_circuit.specs.Checks.{assertion_wires}
use Rattle.lzk_circuit.proofs.CheckLaws.{count-more, wires-same}
use Rattle.lzk_circuit.proofs.checks.count_asserted.Goals as goal
use Rattle.lzk_circuit.proofs.checks.count_asserted.Goals.{then-number-eq0, else-number-eq0}

pub loop-i-preserved : goal.loop-i-preserved
loop-i-preserved g c =
    let number = g.F.Field.coding.number in
    let ts = c.args.terms.now in
    let i = c.loop-i.i in
    let now = c.loop-i.invariant in
    elim c.if-number-eq0.branch [
      | then-number-eq0 w ↦ record {
        count = w.count-is ∙ ap (λ (n : ℕ). n + 1) now.count ∙ sym (count-more number ts i c.index-terms-i.result c.loop-i-test.true c.index-terms-i.is (ap (λ (t : Term _). number t.coef) c.index-terms-i.is ∙ sym c.number.ensures ∙ w.if-number-eq0.true));
        few = omega (arith, w.count-is, now.few);
      }
      | else-number-eq0 w ↦ record {
        count = w.count-is ∙ now.count ∙ sym (ap length (wires-same number ts i c.index-terms-i.result c.loop-i-test.true c.index-terms-i.is (λ z. w.if-number-eq0.false (c.number.ensures ∙ sym (ap (λ (t : Term _). number t.coef) c.index-terms-i.is) ∙ z))));
        few = omega (arith, w.count-is, now.few);
      }
    ]

pub returns-clause-count : goal.returns-clause-count
returns-clause-count g c =
    let number = g.F.Field.coding.number in
    c.loop-i.invariant.count ∙ ap (λ ts. length (assertion_wires number ts)) (take_all c.loop-i.i c.args.terms.now c.loop-i-test.false)

pub returns-clause-most : goal.returns-clause-most
returns-clause-most g c = omega (arith, c.loop-i.invariant.few, c.loop-i.auto.i-end)
