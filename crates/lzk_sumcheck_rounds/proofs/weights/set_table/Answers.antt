use Rattle.std.proofs.Common.{◌≡◌, ◌≤◌, ◌^◌, length, drop, ◌∙◌, arith}
use Rattle.std.proofs.lemmas.List.{length-take-le, get_or_append_left}
use Rattle.lzk_sumcheck_rounds.proofs.weights.set_table.Goals as goal

pub eq_table-requires-clause-few : goal.eq_table-requires-clause-few
eq_table-requires-clause-few g c κs within = c.requires.few

pub eq_table-requires-clause-size : goal.eq_table-requires-clause-size
eq_table-requires-clause-size g c κs within =
    let size = c.power_of-size.result in
    let fits : size ≤ length c.args.table.now = omega (arith, c.power_of-size.ensures, c.requires.room) in
    length-take-le size c.args.table.now fits ∙ c.power_of-size.ensures

pub returns : goal.returns
returns g c = λ i h.
    let size = c.power_of-size.result in
    let new = c.eq_table.new.out in
    let fits : size ≤ length c.args.table.now = omega (arith, c.power_of-size.ensures, c.requires.room) in
    let many : length new ≡ 2 ^ length c.args.r.now = c.eq_table.ensures.length ∙ length-take-le size c.args.table.now fits ∙ c.power_of-size.ensures in
    get_or_append_left new (drop size c.args.table.now) g.F.Field.ops.zero i (omega (arith, h, many)) ∙ c.eq_table.ensures.entries i (omega (arith, h, many))
