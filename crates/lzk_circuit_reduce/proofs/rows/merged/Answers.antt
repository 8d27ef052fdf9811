use Rattle.std.proofs.Common.{◌∙◌, ◌+◌, ◌-◌, ◌<◌, ◌≤◌, ℕ, arith, ap, sym, subst, inl, inr, length}
use Rattle.lzk_circuit_reduce.specs.Rows.{IsRow, AreUnder, row_value}
use Rattle.lzk_circuit_reduce.proofs.MergeLaws.{SoFar, taken-some, merge-starts, merge-step, merge-row, merge-value, merge-short, merge-under, taken-few, two-tails}
use Rattle.lzk_circuit_reduce.proofs.rows.merged.Goals.{then-loop-i-test+else-j-right, else-loop-i-test}
use Rattle.lzk_circuit_reduce.proofs.rows.merged.Goals as goal

pub loop-i-init : goal.loop-i-init
loop-i-init g c = record {
  so_far = subst (λ us. SoFar g.F.Field.ops c.args.left.now c.args.right.now us 0 0) (sym c.in-Ok.ensures.items) (merge-starts g.F.Field.ops g.F.Field.laws.ring c.args.left.now c.args.right.now);
  room = omega (arith, c.in-Some.ensures, c.in-Ok.ensures.capacity);
}

pub push_next-from_left-requires-after_bounds : goal.push_next-from_left-requires-after_bounds
push_next-from_left-requires-after_bounds g c κs within = omega (arith, c.loop-i.invariant.so_far.short, c.loop-i.invariant.room)

pub overflow_add-i : goal.overflow_add-i
overflow_add-i g c = omega (arith, (taken-few g.F.Field.ops c.index-left-i.result c.index-right-j.result c.loop-i.sum.items c.push_next-from_left.new.sum.items c.push_next-from_left.result c.push_next-from_left.ensures.next).0)

pub overflow_add-j : goal.overflow_add-j
overflow_add-j g c = omega (arith, (taken-few g.F.Field.ops c.index-left-i.result c.index-right-j.result c.loop-i.sum.items c.push_next-from_left.new.sum.items c.push_next-from_left.result c.push_next-from_left.ensures.next).1)

pub loop-i-preserved : goal.loop-i-preserved
loop-i-preserved g c = record {
  so_far =
      merge-step g.F.Field.ops g.F.Field.laws.ring c.args.left.now c.args.right.now c.loop-i.sum.items c.push_next-from_left.new.sum.items c.index-left-i.result c.index-right-j.result c.push_next-from_left.result
      c.loop-i.i c.loop-i.j (omega arith) (omega arith) c.index-left-i.is c.index-right-j.is c.push_next-from_left.ensures.next c.loop-i.invariant.so_far;
  room = omega (arith, c.push_next-from_left.ensures.capacity, c.loop-i.invariant.room);
}

pub returns-clause-row : goal.returns-clause-row
returns-clause-row g c width h k =
    subst (IsRow g.F.Field.ops width) (sym (two-tails c.loop-i.sum.items c.args.left.now c.args.right.now c.extend_from_slice.new.self.items c.extend_from_slice-2.new.self.items c.loop-i.i c.loop-i.j c.in-Ok-extend_from_slice.ensures.items c.in-Ok-extend_from_slice-2.ensures.items)) (merge-row g.F.Field.ops g.F.Field.laws.ring width c.args.left.now c.args.right.now c.loop-i.sum.items c.loop-i.i c.loop-i.j
    (elim c.loop-i-test.branch [ then-loop-i-test+else-j-right w ↦ inr (omega arith) | else-loop-i-test w ↦ inl (omega arith) ]) c.loop-i.invariant.so_far h k)

pub returns-clause-value : goal.returns-clause-value
returns-clause-value g c below =
    ap (row_value g.F.Field.ops below) (two-tails c.loop-i.sum.items c.args.left.now c.args.right.now c.extend_from_slice.new.self.items c.extend_from_slice-2.new.self.items c.loop-i.i c.loop-i.j c.in-Ok-extend_from_slice.ensures.items c.in-Ok-extend_from_slice-2.ensures.items) ∙ merge-value g.F.Field.ops g.F.Field.laws.ring below c.args.left.now c.args.right.now c.loop-i.sum.items c.loop-i.i c.loop-i.j c.loop-i.invariant.so_far

pub returns-clause-short : goal.returns-clause-short
returns-clause-short g c =
    let all = two-tails c.loop-i.sum.items c.args.left.now c.args.right.now c.extend_from_slice.new.self.items c.extend_from_slice-2.new.self.items c.loop-i.i c.loop-i.j c.in-Ok-extend_from_slice.ensures.items c.in-Ok-extend_from_slice-2.ensures.items in
    omega (arith, ap length all, merge-short g.F.Field.ops g.F.Field.laws.ring c.args.left.now c.args.right.now c.loop-i.sum.items c.loop-i.i c.loop-i.j c.loop-i.invariant.so_far)

pub returns-clause-under : goal.returns-clause-under
returns-clause-under g c ns d h k =
    subst (AreUnder ns d) (sym (two-tails c.loop-i.sum.items c.args.left.now c.args.right.now c.extend_from_slice.new.self.items c.extend_from_slice-2.new.self.items c.loop-i.i c.loop-i.j c.in-Ok-extend_from_slice.ensures.items c.in-Ok-extend_from_slice-2.ensures.items))
    (merge-under g.F.Field.ops g.F.Field.laws.ring ns d c.args.left.now c.args.right.now c.loop-i.sum.items c.loop-i.i c.loop-i.j c.loop-i.invariant.so_far h k)

smaller : (m n i j a b : ℕ) → i < m → j < n → 1 ≤ a + b → (m - (i + a)) + (n - (j + b)) < (m - i) + (n - j)
smaller m n i j a b l k some = omega (arith, l, k, some)

pub loop-i-smaller : goal.loop-i-smaller
loop-i-smaller g c =
    smaller (length c.args.left.now) (length c.args.right.now) c.loop-i.i c.loop-i.j c.push_next-from_left.result.0 c.push_next-from_left.result.1 c.loop-i-test.true c.if-j-right.true
    (taken-some g.F.Field.ops c.index-left-i.result c.index-right-j.result c.loop-i.sum.items c.push_next-from_left.new.sum.items c.push_next-from_left.result c.push_next-from_left.ensures.next)

pub offset_bounds-left-i : goal.offset_bounds-left-i
offset_bounds-left-i g c = omega (arith, c.loop-i-test.true)

pub bounds-left-i : goal.bounds-left-i
bounds-left-i g c = c.loop-i-test.true

pub offset_bounds-right-j : goal.offset_bounds-right-j
offset_bounds-right-j g c = omega (arith, c.if-j-right.true)

pub bounds-right-j : goal.bounds-right-j
bounds-right-j g c = c.if-j-right.true

pub offset_bounds-left-i-2 : goal.offset_bounds-left-i-2
offset_bounds-left-i-2 g c = c.loop-i.invariant.so_far.left_part

pub slice_bounds-extend_from_slice-start : goal.slice_bounds-extend_from_slice-start
slice_bounds-extend_from_slice-start g c = c.loop-i.invariant.so_far.left_part

pub offset_bounds-right-j-2 : goal.offset_bounds-right-j-2
offset_bounds-right-j-2 g c = c.loop-i.invariant.so_far.right_part

pub slice_bounds-extend_from_slice-start-2 : goal.slice_bounds-extend_from_slice-start-2
slice_bounds-extend_from_slice-start-2 g c = c.loop-i.invariant.so_far.right_part

pub slice_bounds-extend_from_slice-count : goal.slice_bounds-extend_from_slice-count
slice_bounds-extend_from_slice-count g c = c.loop-i.invariant.so_far.left_part

pub slice_bounds-extend_from_slice-count-2 : goal.slice_bounds-extend_from_slice-count-2
slice_bounds-extend_from_slice-count-2 g c = c.loop-i.invariant.so_far.right_part
