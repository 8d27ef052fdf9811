use Rattle.std.proofs.Common.{◌≡◌, ◌+◌, ◌*◌, ◌^◌, length, ap, ◌∙◌, arith}
use Rattle.lzk_mle.specs.Multilinear.{eq}
use Rattle.lzk_accept.proofs.FactorLaws.{joined_products, four_products}
use Rattle.lzk_accept.proofs.factored.set_both_factors.Goals as goal

pub split_at_mut-rows_a-requires : goal.split_at_mut-rows_a-requires
split_at_mut-rows_a-requires g c = omega (arith, c.requires.factors.of_rows)

pub split_at_mut-places_a-requires : goal.split_at_mut-places_a-requires
split_at_mut-places_a-requires g c = omega (arith, c.requires.factors.of_places, c.power_of.ensures)

pub set_point_factors-requires-clause-room : goal.set_point_factors-requires-clause-room
set_point_factors-requires-clause-room g c κs within = c.requires.room

pub set_point_factors-requires-clause-factors : goal.set_point_factors-requires-clause-factors
set_point_factors-requires-clause-factors g c κs within =
    record {
      of_rows = c.split_at_mut-rows_a.ensures.front_len;
      of_places = c.split_at_mut-places_a.ensures.front_len ∙ ap (λ n. 2 * n) c.power_of.ensures;
    }

pub invariant_of-other : goal.invariant_of-other
invariant_of-other g c =
    let t = c.args.twice.now in
    record {
      few = omega (arith, t.same, t.taken.few);
      within = omega (arith, t.same, t.taken.within);
      numbers = omega (arith, ap (λ n. 2 ^ n) t.same, t.taken.numbers);
    }

pub set_point_factors-requires-2-clause-room : goal.set_point_factors-requires-2-clause-room
set_point_factors-requires-2-clause-room g c κs within =
    let power = ap (λ n. 2 ^ n) c.args.twice.now.same in
    record {
      first = omega (arith, power, c.requires.room.first, c.set_point_factors.auto.low);
      second = omega (arith, power, c.requires.room.second, c.set_point_factors.auto.high);
    }

pub set_point_factors-requires-2-clause-factors : goal.set_point_factors-requires-2-clause-factors
set_point_factors-requires-2-clause-factors g c κs within =
    record {
      of_rows = omega (arith, c.split_at_mut-rows_a.ensures.back_len, c.requires.factors.of_rows);
      of_places = omega (arith, c.split_at_mut-places_a.ensures.back_len, c.requires.factors.of_places, c.power_of.ensures);
    }

pub returns : goal.returns
returns g c i s hi hs =
    let o = g.F.Field.ops in
    let laws = g.F.Field.laws.ring in
    let a = c.set_point_factors in
    let b = c.set_point_factors-2 in
    let n = c.args.twice.now.taken.first + (i * 2 ^ c.args.twice.now.taken.bits + s) in
    let er : length a.new.row_factors ≡ 2 * c.args.twice.now.taken.rows = a.auto.row_factors ∙ c.split_at_mut-rows_a.ensures.front_len in
    let ep : length a.new.place_factors ≡ 2 * 2 ^ c.args.twice.now.taken.bits = a.auto.place_factors ∙ c.split_at_mut-places_a.ensures.front_len ∙ ap (λ n. 2 * n) c.power_of.ensures in
    joined_products o laws c.args.twice.now.taken.rows (2 ^ c.args.twice.now.taken.bits) a.new.row_factors b.new.row_factors a.new.place_factors b.new.place_factors i s er ep hi hs
    ∙ four_products o laws c.args.by c.args.twice.now.gamma (eq o n c.args.twice.now.taken.r.now) (eq o n c.args.twice.now.second.now) _ _ _ _ (a.ensures i s hi hs)
    (b.ensures i s hi hs ∙ ap (λ x. o.times x (eq o n c.args.twice.now.second.now)) c.mul.ensures)
