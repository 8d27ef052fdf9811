use Rattle.std.proofs.Common.{map, ap, ◌∙◌}
use Rattle.lzk_aes.specs.Words.{word_bytes}
use Rattle.lzk_aes.specs.Aes.{add_round_key, shift_rows, sub_bytes}
use Rattle.lzk_aes.proofs.columns.encrypt.Goals as goal

pub returns : goal.returns
returns c =
    let ws = map word_bytes c.args.words.now in
    c.block_of.ensures ∙ c.add_round_key.ensures ∙ ap (add_round_key ws 14) (c.shift.ensures ∙ ap (λ s. shift_rows (sub_bytes s)) c.rounds-s.ensures)
