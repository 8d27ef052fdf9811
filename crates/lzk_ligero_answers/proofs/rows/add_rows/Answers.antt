use Rattle.std.proofs.Common.{◌≤◌, ◌+◌, ◌*◌, length, refl, sym, arith, mul-le-mul_right}
use Rattle.lzk_field.specs.Sums.{entry}
use Rattle.lzk_ligero_answers.proofs.TableLaws.{group_added}
use Rattle.lzk_ligero_answers.proofs.rows.add_rows.Goals as goal

pub loop-start-preserved : goal.loop-start-preserved
loop-start-preserved g c =
    let m = g.F.Field in
    let l = c.loop-start in
    let part = c.part_of.result.now in (
      omega arith,
      omega arith,
      omega arith,
      λ k h.
          group_added m.ops m.laws.ring c.args.rows.now.factors.now part c.args.rows.now.table.now c.args.rows.now.first l.start c.min-size.result c.args.rows.now.width k (entry m.ops c.args.out.now k) (entry m.ops l.out k) (entry m.ops c.add_group.new.out k)
          c.part_of.ensures.size c.part_of.ensures.values (l.invariant.3 k h) (c.add_group.ensures.sums k (omega arith)),
    )

pub loop-start-init : goal.loop-start-init
loop-start-init g c = (refl, refl, omega arith, λ k h. sym (g.F.Field.laws.ring.plus_zero (entry g.F.Field.ops c.args.out.now k)))

pub invariant_of-group : goal.invariant_of-group
invariant_of-group g c =
    let r = c.args.rows.now in
    let part = c.part_of.result.now in
    let fits : c.loop-start.start + length part ≤ length r.factors.now = omega (arith, c.part_of.ensures.size, c.min-size.ensures, c.loop-start-test.true) in
    let low : (r.first + c.loop-start.start + length part) * r.width ≤ (r.first + length r.factors.now) * r.width = mul-le-mul_right r.width (omega (arith, fits)) in
    record { inside = omega (arith, low, r.inside); few = omega (arith, fits, r.few) }

pub returns-clause-column : goal.returns-clause-column
returns-clause-column g c = c.loop-start.invariant.1

pub returns-clause-length : goal.returns-clause-length
returns-clause-length g c = c.loop-start.invariant.0
