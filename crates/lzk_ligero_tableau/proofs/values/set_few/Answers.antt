use Rattle.std.proofs.Common.{◌<◌, ◌+◌, ◌∙◌, ℕ, ap, arith, length}
use Rattle.lzk_ligero_tableau.specs.Tableau.{low_words}
use Rattle.lzk_ligero_tableau.proofs.FilledLaws.{filled_from, filled_more}
use Rattle.lzk_ligero_tableau.proofs.values.set_few.Goals as goal

pub returns : goal.returns
returns g c =
    let f = g.F.Field in
    filled_from f.ops.zero (λ i. f.coding.element (low_words (g.W.Words.at c.args.words.now) i)) c.args.first (length c.args.out.now) c.loop-i.out c.loop-i.auto.out (λ k h. c.loop-i.invariant k (omega (arith, h, c.loop-i-test.false)))

pub loop-i-init : goal.loop-i-init
loop-i-init g c = λ k h. absurd (omega (arith, h))

pub loop-i-preserved : goal.loop-i-preserved
loop-i-preserved g c =
    let f = g.F.Field in
    let l = c.loop-i in
    let there : l.i < length c.fill.new.out = omega (arith, c.loop-i-test.true, c.fill.auto.out, c.split_at_mut-together.ensures.front_len) in
    filled_more f.ops.zero (λ (k : ℕ). f.coding.element (low_words (g.W.Words.at c.args.words.now) (c.args.first + k))) l.i l.out c.of_word.result
    (omega (arith, c.loop-i-test.true, l.auto.out)) (c.of_word.ensures ∙ ap f.coding.element (c.fill.ensures l.i there)) l.invariant
