use Rattle.std.proofs.Common.{◌*◌, ◌^◌, ◌<◌, ◌≤◌, length, take, ap, sym, ◌∙◌, subst, arith, rules, ◌∷◌, [], ◌++◌}
use Rattle.std.proofs.lemmas.List.{take_more, get_or-set_same, length-set}
use Rattle.lzk_profile.specs.Profile.{most_bits}
use Rattle.lzk_mle.proofs.LoopStates.{IsEqTable, eq_table_first, eq_table_more, room_for, not_large}
use Rattle.lzk_mle.proofs.tables.eq_table.Goals as goal

pub loop-j-init : goal.loop-j-init
loop-j-init g c =
    let o = g.F.Field.ops in
    let fits : 0 < length c.args.out.now = search rules in
    eq_table_first o g.F.Field.laws.ring c.args.r.now _ (get_or-set_same c.args.out.now 0 c.one.result o.zero fits ∙ c.one.ensures)

pub double-requires-after_bounds : goal.double-requires-after_bounds
double-requires-after_bounds g c κs within =
    omega (arith, c.loop-j.invariant.size_is, room_for g.F.Field.ops c.args.r.now c.loop-j.j (omega arith), length-set c.args.out.now 0 c.one.result)

pub overflow_mul-size : goal.overflow_mul-size
overflow_mul-size g c =
    let b : c.loop-j.size * 2 ≤ 2 ^ most_bits = omega (arith, c.loop-j.invariant.size_is, room_for g.F.Field.ops c.args.r.now c.loop-j.j (omega arith), not_large g.F.Field.ops (length c.args.r.now) c.requires.few) in
    omega arith

pub loop-j-preserved : goal.loop-j-preserved
loop-j-preserved g c =
    let o = g.F.Field.ops in
    let j = c.loop-j.j in
    let xs = c.args.r.now in
    let x = c.index-r-j.result in
    let front = take_more xs j x c.loop-j-test.true ∙ ap (λ y. take j xs ++ y ∷ []) (sym c.index-r-j.is) in
    subst (λ ys. IsEqTable o ys (c.loop-j.size * 2) c.double.new.table) (sym front) (eq_table_more o g.F.Field.laws.ring (take j xs) x c.loop-j.size c.loop-j.out c.double.new.table c.loop-j.invariant c.double.ensures.zeros c.double.ensures.ones)
