use Rattle.std.proofs.Common.{◌≡◌, ◌+◌, ◌*◌, ◌<◌, suc, length, ap, ◌∙◌, arith}
use Rattle.std.proofs.lemmas.List.{get_or_default}
use Rattle.lzk_field.specs.Sums.{sum_below, entry}
use Rattle.lzk_sumcheck_rounds.specs.Parts.{sums_in}
use Rattle.lzk_sumcheck_rounds.specs.Rows.{round_at}
use Rattle.lzk_sumcheck_rounds.proofs.CurveLaws.{sums_of}
use Rattle.lzk_sumcheck_rounds.proofs.PartLaws.{round-none, round-plus}
use Rattle.lzk_sumcheck_rounds.proofs.parts.add_parts.Goals as goal

pub loop-k-init : goal.loop-k-init
loop-k-init g c = λ t.
    let m = g.F.Field in
    let o = m.ops in
    ap (λ x. round_at o (sums_of o x c.zero-even.result c.zero-lead.result) t) c.zero-all.ensures
    ∙ ap (λ x. round_at o (sums_of o o.zero x c.zero-lead.result) t) c.zero-even.ensures
    ∙ ap (λ x. round_at o (sums_of o o.zero o.zero x) t) c.zero-lead.ensures
    ∙ round-none o m.laws.ring t

pub loop-k-preserved : goal.loop-k-preserved
loop-k-preserved g c = λ t.
    let m = g.F.Field in
    let o = m.ops in
    let parts = c.args.parts.now in
    let k = c.loop-k.k in
    let size = c.args.size in
    let i = k * size in
    let inside : i + 2 < length parts = c.requires k (omega (arith, c.loop-k-test.true, c.loop-k.auto.k-end)) in
    let all : c.sum_of-all.result ≡ o.plus c.loop-k.all (entry o parts i) =
    c.sum_of-all.ensures ∙ ap (o.plus c.loop-k.all) (c.index-parts-i.is ∙ get_or_default parts i c.index-parts-i.result o.zero (omega (arith, inside))) in
    let even : c.sum_of-even.result ≡ o.plus c.loop-k.even (entry o parts (i + 1)) =
    c.sum_of-even.ensures ∙ ap (o.plus c.loop-k.even) (c.index-parts-i-in-loop-k.is ∙ get_or_default parts (i + 1) c.index-parts-i-in-loop-k.result o.zero (omega (arith, inside))) in
    let lead : c.sum_of-lead.result ≡ o.plus c.loop-k.lead (entry o parts (i + 2)) =
    c.sum_of-lead.ensures ∙ ap (o.plus c.loop-k.lead) (c.index-parts-i-in-loop-k-2.is ∙ get_or_default parts (i + 2) c.index-parts-i-in-loop-k-2.result o.zero inside) in
    let next : suc k ≡ k + 1 = omega arith in
    ap (λ x. round_at o (sums_of o x c.sum_of-even.result c.sum_of-lead.result) t) all
    ∙ ap (λ x. round_at o (sums_of o (o.plus c.loop-k.all (entry o parts i)) x c.sum_of-lead.result) t) even
    ∙ ap (λ x. round_at o (sums_of o (o.plus c.loop-k.all (entry o parts i)) (o.plus c.loop-k.even (entry o parts (i + 1))) x) t) lead
    ∙ round-plus o m.laws.ring c.loop-k.all c.loop-k.even c.loop-k.lead (entry o parts i) (entry o parts (i + 1)) (entry o parts (i + 2)) t
    ∙ ap (λ w. o.plus w (round_at o (sums_in o parts i) t)) (c.loop-k.invariant t)
    ∙ ap (λ n. sum_below o n (λ j. round_at o (sums_in o parts (j * size)) t)) next
