use Rattle.std.proofs.Common.{rules, ◌≡◌, ℕ, ◌+◌, ◌-◌, ◌≤◌, drop, length, length-drop, length-take, ap, ◌∙◌, arith, sym, add-one}
use Rattle.std.proofs.lemmas.List.{get_or_default, get_or-take, get_or-drop}
use Rattle.lzk_field.specs.Sums.{sum_below, minus, entry}
use Rattle.lzk_field.proofs.Numbering.{points_apart}
use Rattle.lzk_field.proofs.RingBasics.{same_from_difference}
use Rattle.lzk_field.proofs.SumLaws.{sum-ext}
use Rattle.lzk_poly.specs.Weights.{quotient_sum}
use Rattle.lzk_poly.proofs.Blocks.{steps_are_quotients}
use Rattle.lzk_plain.proofs.extender.Row.quotients.Goals as goal

pub returns-then-is_even : goal.returns-then-is_even
returns-then-is_even g c =
    let m = g.F.Field in
    let o = m.ops in
    let block = c.args.block.now in
    let table = c.inverses-inverses.result.now in
    let first = c.args.j + 1 - c.args.end in
    let upto = c.args.self.now.weights.now.upto in
    c.dot.ensures
    ∙ sum-ext o m.laws.ring (length block) _ (λ k. o.times (entry o block k) (entry o table (first + k)))
    (λ k h. ap (o.times (entry o block k)) (get_or-take _ _ k o.zero (omega arith) ∙ get_or-drop first table k o.zero))
    ∙ steps_are_quotients o m.laws.ring m.laws.field m.coding.element block table c.args.end c.args.j upto (c.is_even.ensures.0 (search rules)) c.inverses-inverses.ensures.table c.inverses-inverses.ensures.enough c.requires.enough (omega arith) (omega arith)

pub inverse_of-requires-clause-nonzero : goal.inverse_of-requires-clause-nonzero
inverse_of-requires-clause-nonzero g c =
    let m = g.F.Field in
    let o = m.ops in
    let i = c.args.end - 1 - c.loop-k.k in
    let x = c.point-at.result in
    let limit : c.args.self.now.weights.now.upto ≤ 65536 = c.args.self.now.limit in
    λ ls b e. points_apart m.laws 65536 (omega arith) i c.args.j (omega arith) (omega arith)
    (sym (same_from_difference o m.laws.ring x (m.coding.element i) (ap (λ w. o.plus x (o.neg w)) (sym c.point.ensures) ∙ sym c.sub-difference.ensures ∙ e)) ∙ c.point-at.ensures)

pub returns : goal.returns
returns g c =
    let m = g.F.Field in
    let o = m.ops in
    let block = c.args.block.now in
    let all : c.loop-k.k ≡ length block = omega arith in
    c.loop-k.invariant.1
    ∙ ap (λ n. sum_below o n (λ k. o.times (entry o block k) (o.inverse (minus o c.point-at.result (m.coding.element (c.args.end - 1 - k)))))) all
    ∙ ap (λ x. quotient_sum o m.coding.element block c.args.end x) c.loop-k.invariant.0

pub overflow_add-first : goal.overflow_add-first
overflow_add-first g c = omega (arith, c.requires.further.1, c.args.self.now.limit)

pub overflow_sub-first : goal.overflow_sub-first
overflow_sub-first g c = omega (arith, c.requires.within, c.requires.further.0)

pub overflow_cast-first : goal.overflow_cast-first
overflow_cast-first g c = omega (arith, c.requires.further.1, c.args.self.now.limit)

pub overflow_add-first-then-is_even : goal.overflow_add-first-then-is_even
overflow_add-first-then-is_even g c = omega (arith, c.requires.enough, c.requires.within, c.requires.further.0, c.requires.further.1, c.args.self.now.limit)

pub offset_bounds-inverses-first : goal.offset_bounds-inverses-first
offset_bounds-inverses-first g c = omega (arith, c.requires.further.1, c.inverses-inverses.ensures.enough)

pub loop-k-init : goal.loop-k-init
loop-k-init g c = (c.point-at.ensures, c.zero-total.ensures)

pub inverse_of-requires-clause-table : goal.inverse_of-requires-clause-table
inverse_of-requires-clause-table g c κs within = c.inverses-inverses.ensures.table

pub loop-k-preserved : goal.loop-k-preserved
loop-k-preserved g c =
    let m = g.F.Field in
    let o = m.ops in
    let block = c.args.block.now in
    let k = c.loop-k.k in
    let x = c.point-at.result in
    let f : ℕ → g.row.F.Denot = λ k. o.times (entry o block k) (o.inverse (minus o x (m.coding.element (c.args.end - 1 - k)))) in
    let value : c.index-block-k.result ≡ entry o block k = c.index-block-k.is ∙ get_or_default block k c.index-block-k.result o.zero c.loop-k-test.true in
    let difference : c.sub-difference.result ≡ minus o x (m.coding.element (c.args.end - 1 - k)) = c.sub-difference.ensures ∙ ap (λ w. o.plus x (o.neg w)) c.point.ensures in
    let adds : c.mul.result ≡ f k = c.mul.ensures ∙ ap (λ w. o.times w c.inverse_of.result) value ∙ ap (o.times (entry o block k)) (c.inverse_of.ensures ∙ ap o.inverse difference) in (
      c.loop-k.invariant.0,
      rw add-one (c.add-total.ensures ∙ ap (λ w. o.plus w c.mul.result) c.loop-k.invariant.1 ∙ ap (o.plus (sum_below o k f)) adds),
    )

pub slice_bounds-dot-count : goal.slice_bounds-dot-count
slice_bounds-dot-count g c = omega arith

pub dot-requires : goal.dot-requires
dot-requires g c =
    let first = c.args.j + 1 - c.args.end in
    let n = first + length c.args.block.now - first in
    let table = c.inverses-inverses.result.now in
    omega (arith, length-take n (drop first table), length-drop first table, c.requires.enough, c.requires.further.0, c.requires.within, c.requires.further.1, c.inverses-inverses.ensures.enough)
