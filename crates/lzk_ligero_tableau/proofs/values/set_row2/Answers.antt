use Rattle.lzk_profile.specs.Profile.{opened_count}
use Rattle.std.proofs.Common.{◌≡◌, ◌+◌, ◌-◌, ◌++◌, length, sym, ap, ◌∙◌, arith, append_assoc}
use Rattle.std.specs.Prelude.{replicate}
use Rattle.lzk_ligero_tableau.specs.Tableau.{low_words, randoms, row2_words}
use Rattle.lzk_ligero_tableau.proofs.FilledLaws.{replicated}
use Rattle.lzk_ligero_tableau.proofs.values.set_row2.Goals as goal

pub returns : goal.returns
returns g c =
    let f = g.F.Field in
    let o = f.ops in
    let e = f.coding in
    let w = low_words (g.W.Words.at c.args.given.now.words.now) in
    let p = c.args.given.now.plan.now.params in
    let b = c.args.given.now.plan.now.bounded in
    let first = c.row2_first-first.ensures.first in
    let head : c.set_random.new.out ≡ randoms o e w (row2_words p) opened_count =
    c.set_random.ensures ∙ (ap (λ m. randoms o e w m (length c.split_at_mut-head.result.0.now)) first ∙ ap (randoms o e w (row2_words p)) c.split_at_mut-head.ensures.front_len) in
    let own : length c.clear.new.list ≡ p.block - opened_count = omega (arith, c.clear.ensures.length, c.split_at_mut-middle.ensures.front_len, b.block) in
    let middle : c.clear.new.list ≡ replicate (p.block - opened_count) o.zero = replicated o.zero (p.block - opened_count) o.zero c.clear.new.list own (λ k h. c.clear.ensures.entries k) in
    let rest : length c.split_at_mut-middle.result.1.now ≡ p.dblock - p.block =
    omega (arith, c.split_at_mut-middle.ensures.back_len, c.split_at_mut-head.ensures.back_len, b.block, b.dblock, c.requires.room) in
    let tail : c.set_random-2.new.out ≡ randoms o e w (row2_words p + p.block) (p.dblock - p.block) =
    c.set_random-2.ensures
    ∙ (ap (λ m. randoms o e w m (length c.split_at_mut-middle.result.1.now)) (omega (arith, first, c.from.ensures)) ∙ ap (randoms o e w (row2_words p + p.block)) rest) in
    ap (λ xs. xs ++ (c.clear.new.list ++ c.set_random-2.new.out)) head
    ∙ ap (λ xs. randoms o e w (row2_words p) opened_count ++ (xs ++ c.set_random-2.new.out)) middle
    ∙ ap (λ xs. randoms o e w (row2_words p) opened_count ++ (replicate (p.block - opened_count) o.zero ++ xs)) tail
    ∙ sym (append_assoc (randoms o e w (row2_words p) opened_count) (replicate (p.block - opened_count) o.zero) (randoms o e w (row2_words p + p.block) (p.dblock - p.block)))
