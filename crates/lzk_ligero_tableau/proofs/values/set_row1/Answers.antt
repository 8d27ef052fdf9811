use Rattle.lzk_profile.specs.Profile.{opened_count}
use Rattle.std.proofs.Common.{◌≡◌, ◌+◌, ◌-◌, length, ap, ◌∙◌, arith}
use Rattle.std.specs.Prelude.{slice_set}
use Rattle.lzk_field.specs.Sums.{sum_below}
use Rattle.lzk_ligero_tableau.specs.Tableau.{low_words, random, randoms, row1_words}
use Rattle.lzk_ligero_tableau.proofs.ValueLaws.{middle_sum}
use Rattle.lzk_ligero_tableau.proofs.values.set_row1.Goals as goal

pub returns : goal.returns
returns g c =
    let f = g.F.Field in
    let o = f.ops in
    let e = f.coding in
    let w = low_words (g.W.Words.at c.args.given.now.words.now) in
    let p = c.args.given.now.plan.now.params in
    let b = c.args.given.now.plan.now.bounded in
    let out = c.set_random.new.out in
    let is : out ≡ randoms o e w (row1_words p) p.dblock = c.set_random.ensures ∙ (ap (λ m. randoms o e w m (length c.args.values.now)) c.row1_first.ensures.first ∙ ap (randoms o e w (row1_words p)) c.requires.room) in
    let sum = middle_sum o f.laws.ring (random o e w) out (row1_words p) p.dblock (p.block - 1) is (omega (arith, b.block, b.dblock, b.wide)) (omega (arith, b.block, b.wide)) in
    ap (λ x. slice_set out (p.block - 1) x) (c.neg.ensures ∙ ap o.neg (c.sum_of-sum.ensures ∙ sum))
    ∙ ap (λ xs. slice_set xs (p.block - 1) (o.neg (sum_below o (p.block - 1 - opened_count) (λ i. random o e w (row1_words p + opened_count + i))))) is
