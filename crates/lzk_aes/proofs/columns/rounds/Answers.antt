use Rattle.std.proofs.Common.{map, ◌∙◌, ap}
use Rattle.lzk_aes.specs.Words.{word_bytes}
use Rattle.lzk_aes.specs.Aes.{after_round, add_round_key}
use Rattle.lzk_aes.proofs.Rounds.{after_round-more}
use Rattle.lzk_aes.proofs.columns.rounds.Goals as goal

pub returns : goal.returns
unfolding after_round
returns c =
    let more = after_round-more (map word_bytes c.args.words.now) c.args.block in
    let s_0 = c.add_round_key-s.ensures ∙ ap (add_round_key (map word_bytes c.args.words.now) 0) c.columns_of.ensures in
    let s_1 = more _ _ 0 s_0 c.round-s.ensures in
    let s_2 = more _ _ 1 s_1 c.round-s-2.ensures in
    let s_3 = more _ _ 2 s_2 c.round-s-3.ensures in
    let s_4 = more _ _ 3 s_3 c.round-s-4.ensures in
    let s_5 = more _ _ 4 s_4 c.round-s-5.ensures in
    let s_6 = more _ _ 5 s_5 c.round-s-6.ensures in
    let s_7 = more _ _ 6 s_6 c.round-s-7.ensures in
    let s_8 = more _ _ 7 s_7 c.round-s-8.ensures in
    let s_9 = more _ _ 8 s_8 c.round-s-9.ensures in
    let s_10 = more _ _ 9 s_9 c.round-s-10.ensures in
    let s_11 = more _ _ 10 s_10 c.round-s-11.ensures in
    let s_12 = more _ _ 11 s_11 c.round-s-12.ensures in
    more _ _ 12 s_12 c.round.ensures
