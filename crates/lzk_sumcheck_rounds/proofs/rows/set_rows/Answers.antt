use Rattle.std.proofs.Common.{◌≡◌, ◌+◌, length, inl, inr, ap, ◌∙◌, sym, arith, subst}
use Rattle.std.proofs.lemmas.Bool.{cases_lt}
use Rattle.std.proofs.lemmas.List.{get_or_past}
use Rattle.lzk_sumcheck_rounds.specs.Pairs.{ArePairs}
use Rattle.lzk_sumcheck_rounds.specs.Rows.{linear_row, pairs_row}
use Rattle.lzk_sumcheck_rounds.proofs.PartLaws.{row-past}
use Rattle.lzk_sumcheck_rounds.proofs.rows.set_rows.Goals as goal

pub set_linear-requires-clause-some : goal.set_linear-requires-clause-some
set_linear-requires-clause-some g c κs within = omega (arith, c.requires, c.args.round.now.matching.first)

pub add_pairs-requires-after_bounds : goal.add_pairs-requires-after_bounds
add_pairs-requires-after_bounds g c κs within =
    let r = c.args.round.now in
    subst (λ n. ArePairs n (length r.second.now) r.pairs.now) (sym (c.set_linear.auto.rows ∙ c.requires)) r.matching.pairs

pub returns : goal.returns
returns g c = λ i.
    let m = g.F.Field in
    let o = m.ops in
    let r = c.args.round.now in
    let rows = c.add_pairs.new.rows in
    let size : length rows ≡ length r.first.now = c.add_pairs.auto.rows ∙ c.set_linear.auto.rows ∙ c.requires in
    let here : 0 + i ≡ i = omega arith in
    elim (cases_lt i (length r.first.now)) [
      | inl l ↦
          c.add_pairs.ensures i ∙ ap (λ w. o.plus w (pairs_row o r.pairs.now r.second.now i))
          (c.set_linear.ensures i (omega (arith, l, c.requires)) ∙ ap (linear_row o r.of_a r.scale r.linear.now r.second.now) here)
      | inr past ↦
          get_or_past rows i o.zero (omega (arith, size, past))
          ∙ sym (row-past o m.laws.ring r.of_a (length r.first.now) (length r.second.now) r.pairs.now r.scale r.linear.now r.second.now i r.matching.pairs r.matching.first r.matching.for_b past)
    ]
