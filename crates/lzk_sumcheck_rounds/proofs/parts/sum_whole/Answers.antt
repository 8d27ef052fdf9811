use Rattle.std.proofs.Common.{◌∙◌, length}
use Rattle.std.proofs.lemmas.List.{length-take-le}
use Rattle.lzk_sumcheck_rounds.specs.Rows.{row_at}
use Rattle.lzk_sumcheck_rounds.proofs.PartLaws.{whole-sum}
use Rattle.lzk_sumcheck_rounds.proofs.parts.sum_whole.Goals as goal

pub returns : goal.returns
returns g c =
    let m = g.F.Field in
    let a = c.args.round.now in
    record {
      value = λ half fits t. c.round_sums.ensures half fits t
          ∙ whole-sum m.ops m.laws.ring half (row_at m.ops a.of_a a.pairs.now a.scale a.linear.now a.second.now) c.set_rows.new.rows a.first.now t c.set_rows.ensures;
    }

pub set_rows-requires-after_bounds : goal.set_rows-requires-after_bounds
set_rows-requires-after_bounds g c κs within = length-take-le (length c.args.round.now.first.now) c.args.rows.now c.requires

pub round_sums-requires-after_bounds : goal.round_sums-requires-after_bounds
round_sums-requires-after_bounds g c κs within = c.set_rows.auto.rows ∙ length-take-le (length c.args.round.now.first.now) c.args.rows.now c.requires
