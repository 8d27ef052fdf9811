use Rattle.std.proofs.Common.{◌+◌, ◌∷◌, drop, length, ap, ◌∙◌, sym, arith}
use Rattle.std.proofs.lemmas.List.{drop_more, drop_all}
use Rattle.lzk_field.specs.Sums.{entry}
use Rattle.lzk_sumcheck_rounds.specs.Rows.{pairs_row}
use Rattle.lzk_sumcheck_rounds.proofs.RowLaws.{row-more}
use Rattle.lzk_sumcheck_rounds.proofs.SpreadLaws.{pairs_at}
use Rattle.lzk_sumcheck_rounds.proofs.rows.add_pairs_from.Goals as goal

pub add_pair_from-requires-clause-second : goal.add_pair_from-requires-clause-second
add_pair_from-requires-clause-second g c κs within =
    let ps = c.args.pairs.now in
    let i = c.loop-pair.pair-index in
    let p = c.pair-item.result in
    let h = pairs_at g.F.Field.ops g.F.Field.laws.ring c.requires.0 (length c.args.second.now) i ps (drop (i + 1) ps) p (drop_more ps i p c.loop-pair-test.true ∙ ap (λ x. x ∷ drop (i + 1) ps) (sym c.pair-item.is)) c.requires.1 in
    h.1

pub loop-pair-preserved : goal.loop-pair-preserved
loop-pair-preserved g c =
    let m = g.F.Field in
    let o = m.ops in
    let ps = c.args.pairs.now in
    let i = c.loop-pair.pair-index in
    let p = c.pair-item.result in
    let second = c.args.second.now in
    let from = c.args.from in
    let front = drop_more ps i p c.loop-pair-test.true ∙ ap (λ x. x ∷ drop (i + 1) ps) (sym c.pair-item.is) in (
      c.add_pair_from.auto.rows ∙ c.loop-pair.invariant.0,
      λ k h. row-more o m.laws.ring p (drop (i + 1) ps) (drop i ps) second (from + k) (entry o c.loop-pair.rows k) (entry o c.add_pair_from.new.rows k) (o.plus (entry o c.args.rows.now k) (pairs_row o ps second (from + k))) front
          (c.add_pair_from.ensures k (omega (arith, h, c.loop-pair.invariant.0))) (c.loop-pair.invariant.1 k h),
    )

pub returns : goal.returns
returns g c = λ k h.
    let m = g.F.Field in
    let o = m.ops in
    let ps = c.args.pairs.now in
    let i = c.args.from + k in
    sym (m.laws.ring.plus_zero (entry o c.loop-pair.rows k))
    ∙ sym (ap (λ xs. o.plus (entry o c.loop-pair.rows k) (pairs_row o xs c.args.second.now i)) (drop_all c.loop-pair.pair-index ps c.loop-pair-test.false))
    ∙ c.loop-pair.invariant.1 k h
