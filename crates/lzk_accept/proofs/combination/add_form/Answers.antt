use Rattle.std.proofs.Common.{◌≡◌, ap, ◌∙◌, arith, cond, ◌+◌, ◌-◌, ◌==◌, ◌&&◌, nat_lt}
use Rattle.lzk_field.specs.Sums.{entry}
use Rattle.lzk_accept.proofs.CombinationLaws.{form_added, larger_reached, eqb-less}
use Rattle.lzk_accept.proofs.combination.add_form.Goals as goal

pub invariant_of-range : goal.invariant_of-range
invariant_of-range g c =
    let r = c.args.reaching.now in
    record {
      ordered = c.larger.ensures.least r.form.end r.within.start r.end;
      inside = r.within.end;
      behind = c.larger.ensures.second;
    }

pub add_range-requires-after_bounds : goal.add_range-requires-after_bounds
add_range-requires-after_bounds g c κs within = omega (arith, c.args.reaching.now.within.end, c.requires.room)

pub overflow_sub-above : goal.overflow_sub-above
overflow_sub-above g c = c.args.reaching.now.above

pub add_at-requires-after_bounds : goal.add_at-requires-after_bounds
add_at-requires-after_bounds g c κs within = omega (arith, c.args.reaching.now.within.above, c.args.reaching.now.above, c.requires.room, c.add_range.auto.sums)

pub add_at-requires-2-after_bounds : goal.add_at-requires-2-after_bounds
add_at-requires-2-after_bounds g c κs within = omega (arith, c.args.reaching.now.within.above, c.args.reaching.now.above, c.requires.room, c.add_range.auto.sums, c.add_at.auto.sums)

pub returns : goal.returns
returns g c j =
    let o = g.F.Field.ops in
    let form = c.args.reaching.now.form in
    let skip = c.args.reaching.now.skip in
    let by = c.args.by in
    let own = c.args.reaching.now.own.now in
    let k = skip + j in
    let e = c.larger.ensures in
    let reached = larger_reached form.start skip c.larger.result j e.first e.least in
    let one : form.above - skip + 1 ≡ form.above + 1 - skip = omega (arith, c.args.reaching.now.above) in
    form_added o g.F.Field.laws.ring own form k by (entry o c.args.sums.now j) (entry o c.add_range.new.sums j) (entry o c.add_at.new.sums j) (entry o c.add_at-2.new.sums j)
    (c.add_range.ensures j ∙ ap (λ b. o.plus (entry o c.args.sums.now j) (cond (b && nat_lt k form.end) (o.times by (entry o own k)) o.zero)) reached)
    (c.add_at.ensures j ∙ ap (λ x. o.plus (entry o c.add_range.new.sums j) (cond (j == form.above - skip) x o.zero)) c.mul.ensures
    ∙ ap (λ b. o.plus (entry o c.add_range.new.sums j) (cond b (o.times by form.first) o.zero)) (eqb-less skip j form.above c.args.reaching.now.above))
    (c.add_at-2.ensures j ∙ ap (λ x. o.plus (entry o c.add_at.new.sums j) (cond (j == form.above - skip + 1) x o.zero)) c.mul-2.ensures
    ∙ ap (λ n. o.plus (entry o c.add_at.new.sums j) (cond (j == n) (o.times by form.second) o.zero)) one
    ∙ ap (λ b. o.plus (entry o c.add_at.new.sums j) (cond b (o.times by form.second) o.zero)) (eqb-less skip j (form.above + 1) (omega (arith, c.args.reaching.now.above))))
