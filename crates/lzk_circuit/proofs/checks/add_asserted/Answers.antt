use Rattle.std.proofs.Common.{◌≡◌, inl, inr, length, subst, sym, ap, ◌∙◌, arith}
use Rattle.std.specs.Prelude.{None}
use Rattle.std.proofs.lemmas.Bool.{cases_eq}
use Rattle.lzk_circuit.specs.Valid.{IsPlaced}
use Rattle.lzk_circuit.proofs.CheckLaws.{adding-starts, adding-step, adding-skips, adding-ends}
use Rattle.lzk_circuit.proofs.OrderLaws.{placed-at}
use Rattle.lzk_circuit.proofs.ValidLaws.{zero-only}
use Rattle.lzk_circuit.proofs.checks.add_asserted.Goals as goal

pub loop-i-init : goal.loop-i-init
loop-i-init g c = λ k l. adding-starts g.F.Field.ops g.F.Field.laws.ring c.args.terms.now c.args.below.now c.args.out.now k l c.requires

pub count_asserted_term-requires-after_bounds : goal.count_asserted_term-requires-after_bounds
count_asserted_term-requires-after_bounds g c = λ κs le.
    let h = placed-at (length c.args.out.now) (length c.args.below.now) c.loop-i.i None c.args.terms.now c.index-terms-i.result c.requires c.loop-i-test.true in
    let e : length c.args.out.now ≡ length c.loop-i.out = omega (arith, c.loop-i.auto.out) in
    subst (λ n. IsPlaced n (length c.args.below.now) c.index-terms-i.result) e
    (subst (λ t. IsPlaced (length c.args.out.now) (length c.args.below.now) t) (sym c.index-terms-i.is) h)

pub loop-i-preserved : goal.loop-i-preserved
loop-i-preserved g c = λ k l.
    let m = g.F.Field in
    let t = c.index-terms-i.result in
    let h = placed-at (length c.args.out.now) (length c.args.below.now) c.loop-i.i None c.args.terms.now t c.requires c.loop-i-test.true in
    let one = subst (λ t. IsPlaced (length c.args.out.now) (length c.args.below.now) t) (sym c.index-terms-i.is) h in
    elim (cases_eq (m.coding.number t.coef) 0) [
      | inl z ↦ adding-step m.ops m.laws.ring c.args.terms.now c.args.below.now c.loop-i.out c.count_asserted_term.new.out c.loop-i.i k t _ c.loop-i-test.true c.index-terms-i.is (omega (arith, one.g, c.loop-i.auto.out))
          (zero-only m.ops m.coding.size m.coding.number m.coding.element m.coding.bytes m.laws.numbers t.coef z) (c.count_asserted_term.ensures.counts z) (c.loop-i.invariant k l)
      | inr n ↦ adding-skips m.ops m.laws.ring m.laws.field c.args.terms.now c.args.below.now c.loop-i.out c.count_asserted_term.new.out c.loop-i.i k t _ c.loop-i-test.true c.index-terms-i.is
          (λ z. n (ap m.coding.number z ∙ m.laws.numbers.zero_number)) (c.count_asserted_term.ensures.other n) (c.loop-i.invariant k l)
    ]

pub returns-clause-sum : goal.returns-clause-sum
returns-clause-sum g c = λ k l. adding-ends g.F.Field.ops g.F.Field.laws.ring c.args.terms.now c.args.below.now c.loop-i.out c.loop-i.i k _ c.loop-i-test.false (c.loop-i.invariant k l)
