use Rattle.std.proofs.Common.{◌≡◌, ◌<◌, ◌+◌, ◌*◌, ◌/◌, ◌%◌, suc, length, ap, ◌∙◌, arith}
use Rattle.std.proofs.lemmas.List.{get_or_default}
use Rattle.lzk_field.specs.Sums.{sum_below, minus, entry}
use Rattle.lzk_sumcheck_rounds.proofs.CurveLaws.{even_at, lead_at, curve-is}
use Rattle.lzk_sumcheck_rounds.proofs.curve.round_sums.Goals as goal

pub returns : goal.returns
returns g c = λ half fits t.
    let m = g.F.Field in
    let o = m.ops in
    let n = length c.args.table.now in
    let h = n / 2 + n % 2 in
    let rows = c.args.rows.now in
    let table = c.args.table.now in
    let all : c.loop-i.i ≡ h = omega (arith, c.loop-i-test.false, c.loop-i.auto.i-end) in
    curve-is o m.laws.ring h half rows table c.dot-all.result c.loop-i.even c.loop-i.lead t c.requires (omega arith) (omega arith) c.dot-all.ensures
    (c.loop-i.invariant.0 ∙ ap (λ k. sum_below o k (even_at o rows table)) all) (c.loop-i.invariant.1 ∙ ap (λ k. sum_below o k (lead_at o rows table)) all)

pub dot-all-requires : goal.dot-all-requires
dot-all-requires g c = c.requires

pub loop-i-init : goal.loop-i-init
loop-i-init g c = (c.zero-even.ensures, c.zero-lead.ensures)

pub loop-i-preserved : goal.loop-i-preserved
loop-i-preserved g c =
    let o = g.F.Field.ops in
    let rows = c.args.rows.now in
    let table = c.args.table.now in
    let l = c.loop-i in
    let i = l.i in
    let x = c.index-rows-i.result in
    let y = c.index-table-i.result in
    let inside : 2 * i < length table = omega (arith, c.loop-i-test.true) in
    let row : x ≡ entry o rows (2 * i) = c.index-rows-i.is ∙ get_or_default rows (2 * i) x o.zero (omega (arith, inside, c.requires)) in
    let value : y ≡ entry o table (2 * i) = c.index-table-i.is ∙ get_or_default table (2 * i) y o.zero inside in
    let row_step : c.sub-row_step.result ≡ minus o (entry o rows (2 * i + 1)) (entry o rows (2 * i)) =
    c.sub-row_step.ensures ∙ ap (λ w. minus o w x) c.entry_at.ensures ∙ ap (minus o (entry o rows (2 * i + 1))) row in
    let value_step : c.sub-value_step.result ≡ minus o (entry o table (2 * i + 1)) (entry o table (2 * i)) =
    c.sub-value_step.ensures ∙ ap (λ w. minus o w y) c.entry_at-in-loop-i.ensures ∙ ap (minus o (entry o table (2 * i + 1))) value in
    let next : suc i ≡ i + 1 = omega arith in (
      c.plus_product-even.ensures ∙ ap (λ w. o.plus w (o.times x y)) l.invariant.0
          ∙ ap (o.plus (sum_below o i (even_at o rows table))) (ap (λ w. o.times w y) row ∙ ap (o.times (entry o rows (2 * i))) value)
          ∙ ap (λ k. sum_below o k (even_at o rows table)) next,
      c.plus_product-lead.ensures ∙ ap (λ w. o.plus w (o.times c.sub-row_step.result c.sub-value_step.result)) l.invariant.1
          ∙ ap (o.plus (sum_below o i (lead_at o rows table))) (ap (λ w. o.times w c.sub-value_step.result) row_step
          ∙ ap (o.times (minus o (entry o rows (2 * i + 1)) (entry o rows (2 * i)))) value_step)
          ∙ ap (λ k. sum_below o k (lead_at o rows table)) next,
    )
