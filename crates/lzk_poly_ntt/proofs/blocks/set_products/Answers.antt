use Rattle.std.proofs.Common.{◌≡◌, ◌+◌, ◌-◌, ◌≤◌, ◌∙◌, arith, get_or-set_other}
use Rattle.lzk_field.specs.Sums.{entry}
use Rattle.lzk_poly_ntt.proofs.Writes.{both, read_at, written_more}
use Rattle.lzk_poly_ntt.proofs.blocks.set_products.Goals as goal

pub loop-k-preserved : goal.loop-k-preserved
loop-k-preserved g c =
    let o = g.F.Field.ops in
    let list = c.args.list.now in
    let factors = c.args.factors.now in
    let out = c.loop-k.out in
    let k = c.loop-k.k in
    let at = c.args.at in
    let first = c.args.first in
    let inv = c.loop-k.invariant in
    let x = entry o list (first + (k - at)) in
    let y = entry o factors k in
    let value : c.index-list-first.result ≡ x = read_at o list (first + (k - at)) c.index-list-first.result (omega (arith, c.loop-k-test.true, c.loop-k.auto.k, c.requires.enough)) c.index-list-first.is in
    let factor : c.index-factors-k.result ≡ y = read_at o factors k c.index-factors-k.result (omega (arith, c.loop-k-test.true, c.requires.factors)) c.index-factors-k.is in
    record {
      inside = λ j p h.
          written_more o (λ i z. at ≤ i → z ≡ o.times (entry o list (first + (i - at))) (entry o factors i)) out k c.mul.result (omega (arith, c.loop-k-test.true, c.requires.within, c.loop-k.auto.out)) (λ i l q. inv.inside i q l)
          (λ _. c.mul.ensures ∙ both o.times c.index-list-first.result c.index-factors-k.result x y value factor) j h p;
      before = λ j h. get_or-set_other out k j c.mul.result o.zero (omega (arith, h, c.loop-k.auto.k)) ∙ inv.before j h;
    }
