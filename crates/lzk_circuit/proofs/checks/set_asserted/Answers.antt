use Rattle.std.proofs.Common.{refl, lit≤, ℕ, List, get_or, ◌≡◌, ◌≢◌, ◌<◌, ◌∙◌, ap, length, map, take, subst, sym, arith}
use Rattle.std.specs.Prelude.{[], ◌∷◌, None}
use Rattle.std.proofs.lemmas.List.{take_all, length-append}
use Rattle.lzk_circuit.specs.declared.layer.Term.{Term}
use Rattle.lzk_circuit.specs.Checks.{asserted, assertion_wires}
use Rattle.lzk_circuit.specs.Valid.{IsPlaced, ArePlaced, MayEachStand}
use Rattle.lzk_circuit.proofs.CheckLaws.{asserted-alone, wires-same, wires-within, wires-more, setting-step, setting-skips}
use Rattle.lzk_circuit.proofs.OrderLaws.{placed-at}
use Rattle.lzk_circuit.proofs.ValidLaws.{zero-only}
use Rattle.lzk_circuit.proofs.checks.set_asserted.Goals as goal
use Rattle.lzk_circuit.proofs.checks.set_asserted.Goals.{then-number-eq0, else-number-eq0}

-- the term at a place is in its place
at : {A : Type 0} (wires width i : ℕ) (given terms : List (Term A)) (t : Term A) → terms ≡ given → ArePlaced wires width None given → i < length terms → t ≡ get_or terms i t → IsPlaced wires width t
at wires width i given terms t same h l is =
    subst (IsPlaced wires width) (sym is) (placed-at wires width i None terms t (subst (ArePlaced wires width None) (sym same) h) l)

pub product_of-requires-clause-a : goal.product_of-requires-clause-a
product_of-requires-clause-a g c = λ κs le.
    let layer = c.args.layer.now in
    let t = at layer.wires (length c.args.below.now) c.loop-i.i layer.terms c.as_slice-terms.result.now c.index-terms-i.result c.as_slice-terms.ensures c.requires.placed c.loop-i-test.true c.index-terms-i.is in
    omega (arith, t.a, t.b)

pub product_of-requires-clause-b : goal.product_of-requires-clause-b
product_of-requires-clause-b g c = λ κs le.
    let layer = c.args.layer.now in
    let t = at layer.wires (length c.args.below.now) c.loop-i.i layer.terms c.as_slice-terms.result.now c.index-terms-i.result c.as_slice-terms.ensures c.requires.placed c.loop-i-test.true c.index-terms-i.is in
    t.b

pub bounds-out-next : goal.bounds-out-next
bounds-out-next g c =
    let number = g.F.Field.coding.number in
    let within = wires-within number c.as_slice-terms.result.now c.loop-i.i c.index-terms-i.result c.loop-i-test.true c.index-terms-i.is (sym c.number.ensures ∙ c.if-number-eq0.true) in
    let room = ap (λ ts. length (assertion_wires number ts)) c.as_slice-terms.ensures in
    omega (arith, within, room, c.requires.room, c.loop-i.auto.out, c.loop-i.invariant.next)

pub loop-i-preserved : goal.loop-i-preserved
loop-i-preserved g c =
    let m = g.F.Field in
    let layer = c.args.layer.now in
    let ts = c.as_slice-terms.result.now in
    let t = c.index-terms-i.result in
    let below = c.args.below.now in
    let same = c.as_slice-terms.ensures in
    let f = asserted m.ops ts below in
    elim c.if-number-eq0.branch [
      | then-number-eq0 w ↦
          let z = sym c.number.ensures ∙ w.if-number-eq0.true in
          let one = at layer.wires (length below) c.loop-i.i layer.terms ts t same c.requires.placed c.loop-i-test.true c.index-terms-i.is in
          let value = w.product_of.ensures
          ∙ sym (asserted-alone m.ops m.laws.ring layer.wires ts below c.loop-i.i t c.loop-i-test.true c.index-terms-i.is (zero-only m.ops m.coding.size m.coding.number m.coding.element m.coding.bytes m.laws.numbers t.coef z)
          (subst (ArePlaced layer.wires (length below) None) (sym same) c.requires.placed) (subst (MayEachStand m.ops 2 None) (sym same) c.requires.apart) one) in
          let within = wires-within m.coding.number ts c.loop-i.i t c.loop-i-test.true c.index-terms-i.is z in
          let room = ap (λ ts. length (assertion_wires m.coding.number ts)) same in
          let less : c.loop-i.next < length c.loop-i.out = omega (arith, within, room, c.requires.room, c.loop-i.auto.out, c.loop-i.invariant.next) in
          let more = ap length (wires-more m.coding.number ts c.loop-i.i t c.loop-i-test.true c.index-terms-i.is z) ∙ length-append (assertion_wires m.coding.number (take c.loop-i.i ts)) (t.g ∷ []) in
          record {
            few = omega (arith, w.next-is, c.loop-i.invariant.few);
            next = omega (arith, w.next-is, more, c.loop-i.invariant.next);
            set = ap (λ n. take n c.if-number-eq0.out) w.next-is
                ∙ setting-step m.coding.number f ts c.loop-i.out c.if-number-eq0.out c.loop-i.i c.loop-i.next t w.product_of.result c.loop-i-test.true c.index-terms-i.is z less w.out-is value c.loop-i.invariant.set;
          }
      | else-number-eq0 w ↦
          let n : m.coding.number t.coef ≢ 0 = λ z. w.if-number-eq0.false (c.number.ensures ∙ z) in
          record {
            few = omega (arith, w.next-is, c.loop-i.invariant.few);
            next = w.next-is ∙ c.loop-i.invariant.next ∙ sym (ap length (wires-same m.coding.number ts c.loop-i.i t c.loop-i-test.true c.index-terms-i.is n));
            set = ap (λ n. take n c.if-number-eq0.out) w.next-is
                ∙ setting-skips m.coding.number f ts c.loop-i.out c.if-number-eq0.out c.loop-i.i c.loop-i.next t c.loop-i-test.true c.index-terms-i.is n w.out-is c.loop-i.invariant.set;
          }
    ]

pub returns : goal.returns
returns g c =
    let m = g.F.Field in
    let ts = c.as_slice-terms.result.now in
    let same = c.as_slice-terms.ensures in
    let done : take c.loop-i.i ts ≡ ts = take_all c.loop-i.i ts c.loop-i-test.false in
    let count = ap (λ us. length (assertion_wires m.coding.number us)) (done ∙ same) in
    let all : take c.loop-i.next c.loop-i.out ≡ c.loop-i.out = take_all c.loop-i.next c.loop-i.out (omega (arith, count, c.requires.room, c.loop-i.auto.out, c.loop-i.invariant.next)) in
    sym all ∙ c.loop-i.invariant.set ∙ ap (λ us. map (asserted m.ops ts c.args.below.now) (assertion_wires m.coding.number us)) done
    ∙ ap (λ us. map (asserted m.ops us c.args.below.now) (assertion_wires m.coding.number us)) same

pub loop-i-init : goal.loop-i-init
loop-i-init g c = record { next = refl; set = refl; few = lit≤ tt }

pub bounds-terms-i : goal.bounds-terms-i
bounds-terms-i g c = c.loop-i-test.true
