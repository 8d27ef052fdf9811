use Rattle.std.proofs.Common.{◌≡◌, ◌<◌, ◌≤◌, length, ◌∙◌, arith, get_or-set_other}
use Rattle.lzk_field.specs.Sums.{entry}
use Rattle.lzk_afft.proofs.Writes.{both, read_at, written_more, written_rest}
use Rattle.lzk_afft.proofs.butterflies.add_entries.Goals as goal

pub loop-i-preserved : goal.loop-i-preserved
loop-i-preserved g c =
    let o = g.F.Field.ops in
    let old = c.args.high.now in
    let low = c.args.low.now in
    let from = c.args.from in
    let high = c.loop-i.high in
    let i = c.loop-i.i in
    let inv = c.loop-i.invariant in
    let inside : i < length high = omega (arith, c.loop-i-test.true, c.loop-i.auto.high) in
    let a : c.index-high-i.result ≡ entry o old i = read_at o high i c.index-high-i.result inside c.index-high-i.is ∙ inv.rest i (omega arith) in
    let b : c.index-low-i.result ≡ entry o low i = read_at o low i c.index-low-i.result (omega (arith, c.loop-i-test.true, c.requires)) c.index-low-i.is in
    record {
      before = λ k h. get_or-set_other high i k c.add.result o.zero (omega (arith, h, c.loop-i.auto.i)) ∙ inv.before k h;
      after = λ k q h.
          written_more o (λ j z. from ≤ j → z ≡ o.plus (entry o old j) (entry o low j)) high i c.add.result inside (λ j l m. inv.after j m l)
          (λ _. c.add.ensures ∙ both o.plus c.index-high-i.result c.index-low-i.result (entry o old i) (entry o low i) a b) k h q;
      rest = written_rest o old high i c.add.result inv.rest;
    }
