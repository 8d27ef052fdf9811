use Rattle.std.proofs.Common.{◌≡◌, ◌+◌, ◌*◌, cond, refl, ap, ◌∙◌, arith, add-one}
use Rattle.lzk_field.specs.Sums.{entry, minus}
use Rattle.lzk_layout.specs.Sizes.{place_of}
use Rattle.lzk_layout.specs.Places.{copy_place_of}
use Rattle.lzk_accept.specs.Combination.{sum_where, is_place}
use Rattle.lzk_accept.specs.Kept.{source_in}
use Rattle.lzk_accept.proofs.CombinationLaws.{combined_step}
use Rattle.lzk_accept.proofs.combination.add_copies.Goals as goal

pub loop-m-preserved : goal.loop-m-preserved
loop-m-preserved g c i s h =
    let o = g.F.Field.ops in
    let p = c.args.copies.now.params.now in
    let m = c.loop-m.m in
    let mu = c.args.copies.now.mu.now in
    let forms = c.args.copies.now.forms.now in
    let k = i * p.wr + s in
    let at = is_place (3 + (c.args.copies.now.rows + i)) s in
    let here = at (copy_place_of p m) in
    let there = at (place_of p (source_in o forms m)) in
    let copies = sum_where o m (λ m. at (copy_place_of p m)) (entry o mu) in
    let entries = sum_where o m (λ m. at (place_of p (source_in o forms m))) (entry o mu) in
    let old = entry o c.loop-m.table k in
    let v = entry o mu m in
    rw add-one (combined_step o g.F.Field.laws.ring (entry o c.args.table.now k) copies entries old (o.plus old (cond here v o.zero)) (entry o c.add_copy.new.table k) v (o.neg v) here there refl
    (c.loop-m.invariant i s h) refl (c.add_copy.ensures i s h))

pub returns : goal.returns
returns g c i s h =
    let o = g.F.Field.ops in
    let p = c.args.copies.now.params.now in
    let mu = c.args.copies.now.mu.now in
    let forms = c.args.copies.now.forms.now in
    let all : c.loop-m.m ≡ 3 * p.layers = omega arith in
    c.loop-m.invariant i s h
    ∙ ap (λ n. minus o (o.plus (entry o c.args.table.now (i * p.wr + s)) (sum_where o n (λ m. is_place (3 + (c.args.copies.now.rows + i)) s (copy_place_of p m)) (entry o mu)))
    (sum_where o n (λ m. is_place (3 + (c.args.copies.now.rows + i)) s (place_of p (source_in o forms m))) (entry o mu))) all
