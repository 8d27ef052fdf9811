use Rattle.std.proofs.Common.{◌+◌, ◌∷◌, drop, ap, sym, ◌∙◌}
use Rattle.std.proofs.lemmas.List.{drop_more, drop_all}
use Rattle.lzk_field.specs.Sums.{entry}
use Rattle.lzk_sumcheck_rounds.specs.Pairs.{spread}
use Rattle.lzk_sumcheck_rounds.proofs.LastLaws.{linear-first, last-step}
use Rattle.lzk_sumcheck_rounds.proofs.kept.last_coefficient.Goals as goal

pub loop-pair-init : goal.loop-pair-init
loop-pair-init g c =
    let o = g.F.Field.ops in
    let a = c.args in
    ap (λ x. o.plus x (spread o a.pairs.now 0 0)) (c.mul-total.ensures ∙ ap (o.times a.scale) c.entry_at.ensures)

pub loop-pair-preserved : goal.loop-pair-preserved
loop-pair-preserved g c =
    let m = g.F.Field in
    let ps = c.args.pairs.now in
    let i = c.loop-pair.pair-index in
    let p = c.pair-item.result in
    let front = drop_more ps i p c.loop-pair-test.true ∙ ap (λ x. x ∷ drop (i + 1) ps) (sym c.pair-item.is) in
    last-step m.ops m.laws.ring ps i p c.loop-pair.total c.add-total.result _ c.requires.pairs front c.add-total.ensures c.loop-pair.invariant

pub returns : goal.returns
returns g c = λ of_a.
    let m = g.F.Field in
    let o = m.ops in
    let a = c.args in
    let ps = a.pairs.now in
    sym (m.laws.ring.plus_zero c.loop-pair.total)
    ∙ sym (ap (λ xs. o.plus c.loop-pair.total (spread o xs 0 0)) (drop_all c.loop-pair.pair-index ps c.loop-pair-test.false))
    ∙ c.loop-pair.invariant
    ∙ m.laws.ring.plus_comm (o.times a.scale (entry o a.linear.now 0)) (spread o ps 0 0)
    ∙ ap (o.plus (spread o ps 0 0)) (sym (linear-first o m.laws.ring of_a a.scale a.linear.now))
