use Rattle.std.proofs.Common.{◌≡◌, ◌+◌, ◌*◌, ◌<◌, length, ap, ◌∙◌, arith, slice_set, get_or-set_other, get_or-set_same, below_more}
use Rattle.std.proofs.lemmas.List.{get_or_default}
use Rattle.lzk_field.specs.Sums.{entry, minus}
use Rattle.lzk_mle.proofs.TableLaws.{bound}
use Rattle.lzk_plain.proofs.binding.bind_first.Goals as goal

pub loop-i-preserved : goal.loop-i-preserved
loop-i-preserved g c =
    let o = g.F.Field.ops in
    let old = c.args.table.now in
    let table = c.loop-i.table in
    let i = c.loop-i.i in
    let r = c.args.r in
    let y = c.between.result in
    let inv = c.loop-i.invariant in
    let inside : 2 * i + 1 < length table = omega (arith, c.loop-i-test.true, c.loop-i.auto.table, c.requires) in
    let a : c.index-table-i.result ≡ entry o old (2 * i) = c.index-table-i.is ∙ get_or_default table (2 * i) c.index-table-i.result o.zero (omega (arith, inside)) ∙ inv.high (2 * i) (omega arith) in
    let b : c.index-table-i-in-loop-i.result ≡ entry o old (2 * i + 1) =
    c.index-table-i-in-loop-i.is ∙ get_or_default table (2 * i + 1) c.index-table-i-in-loop-i.result o.zero inside ∙ inv.high (2 * i + 1) (omega arith) in
    let here : y ≡ bound o r (entry o old) i =
    c.between.ensures ∙ ap (λ w. o.plus (o.times (minus o o.one r) w) (o.times r c.index-table-i-in-loop-i.result)) a ∙ ap (λ w. o.plus (o.times (minus o o.one r) (entry o old (2 * i))) (o.times r w)) b in
    record {
      low =
          below_more (λ k. entry o (slice_set table i y) k ≡ bound o r (entry o old) k) i (λ k h. get_or-set_other table i k y o.zero (omega (arith, h)) ∙ inv.low k h)
          (get_or-set_same table i y o.zero (omega (arith, inside)) ∙ here);
      high = λ k h. get_or-set_other table i k y o.zero (omega (arith, h)) ∙ inv.high k (omega (arith, h));
    }
