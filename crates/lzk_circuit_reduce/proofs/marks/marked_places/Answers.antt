use Rattle.std.proofs.Common.{◌≡◌, ◌+◌, ap, refl, arith, length, ◌∷◌, []}
use Rattle.std.proofs.lemmas.List.{length-append}
use Rattle.lzk_circuit_reduce.specs.Marks.{marked_before}
use Rattle.lzk_circuit_reduce.proofs.MarkedPlaceLaws.{places-most, next-marked, next-unmarked, places-more}
use Rattle.lzk_circuit_reduce.proofs.marks.marked_places.Goals.{then-marks-k, else-marks-k}
use Rattle.lzk_circuit_reduce.proofs.marks.marked_places.Goals as goal

pub loop-k-init : goal.loop-k-init
loop-k-init c = record {
  next_is = refl;
  count = ap length c.in-Ok.ensures.items;
  each = λ j l. absurd (omega (arith, l));
  room = omega (arith, c.in-Ok.ensures.capacity);
}

pub push_reserved-requires : goal.push_reserved-requires
push_reserved-requires c = omega (arith, c.loop-k.invariant.count, c.loop-k.invariant.room, c.loop-k-test.true)

pub overflow_add-next : goal.overflow_add-next
overflow_add-next c = omega (arith, c.loop-k.invariant.next_is, places-most c.args.marks.now c.loop-k.k, c.loop-k-test.true, c.requires.few)

pub loop-k-preserved : goal.loop-k-preserved
loop-k-preserved c =
    let marks = c.args.marks.now in
    let k = c.loop-k.k in
    let inv = c.loop-k.invariant in
    let old = c.loop-k.places.items in
    let new = c.push_reserved.new.self.items in
    let next_is : c.if-marks-k.next ≡ marked_before marks (k + 1) = elim c.if-marks-k.branch [
      | then-marks-k w ↦ next-marked marks k c.loop-k.next c.if-marks-k.next inv.next_is w.if-marks-k.true w.next-is
      | else-marks-k w ↦ next-unmarked marks k c.loop-k.next c.if-marks-k.next inv.next_is w.if-marks-k.false w.next-is
    ] in
    record {
      next_is = next_is;
      count = omega (arith, ap length c.push_reserved.ensures.items, length-append old (c.loop-k.next ∷ []), inv.count);
      each = places-more marks old new k c.loop-k.next c.push_reserved.ensures.items inv.count inv.next_is inv.each;
      room = omega (arith, c.push_reserved.ensures.capacity, inv.room);
    }
