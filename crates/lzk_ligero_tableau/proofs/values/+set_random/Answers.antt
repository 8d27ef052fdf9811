use Rattle.std.proofs.Common.{◌≡◌, ◌+◌, ◌++◌, length, ap, ◌∙◌, arith}
use Rattle.lzk_ligero_tableau.specs.Tableau.{low_words, random, randoms}
use Rattle.lzk_ligero_tableau.proofs.FilledLaws.{from_parts}
use Rattle.lzk_ligero_tableau.proofs.values.+set_random.Goals as goal

pub returns-else-out-le-TOGETHER : goal.returns-else-out-le-TOGETHER
returns-else-out-le-TOGETHER g t c =
    let f = g.F.Field in
    let o = f.ops in
    let e = f.coding in
    let w = low_words (g.W.Words.at c.args.words.now) in
    let first = c.args.first in
    let back = c.split_at_mut-front.result.1.now in
    let head : c.set_few-else-out-le-TOGETHER.new.out ≡ randoms o e w first 128 = c.set_few-else-out-le-TOGETHER.ensures ∙ ap (randoms o e w first) c.split_at_mut-front.ensures.front_len in
    let all : 128 + length back ≡ length c.args.out.now = omega (arith, c.split_at_mut-front.ensures.back_len, c.if-out-le-TOGETHER.false) in
    ap (λ xs. xs ++ c.set_random.new.out) head
    ∙ ap (λ xs. randoms o e w first 128 ++ xs) c.set_random.ensures
    ∙ from_parts o.zero (random o e w) 128 (length back) first
    ∙ ap (randoms o e w first) all
