use Rattle.std.proofs.Common.{◌≡◌, ◌∙◌, ◌++◌, length, slice_index, sym, refl, arith}
use Rattle.std.proofs.lemmas.List.FromFn.{fill_by_all}
use Rattle.lzk_aes.proofs.columns.columns_of.Goals as goal

pub returns : goal.returns
returns c =
    let block = c.args.block in
    let long : length block ≡ 16 = omega arith in
    (λ i. c.word_of.ensures i ++ c.word_of-2.ensures i ++ c.word_of-3.ensures i ++ c.word_of-4.ensures i)
    ∙ sym (fill_by_all (λ k. slice_index block k) block 16 0 long (λ k lt. refl))
