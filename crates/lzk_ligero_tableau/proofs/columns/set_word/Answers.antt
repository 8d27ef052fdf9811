use Rattle.std.proofs.Common.{◌∙◌}
use Rattle.lzk_ligero_tableau.proofs.Words.{to_le_bytes_16}
use Rattle.lzk_ligero_tableau.proofs.columns.set_word.Goals as goal

pub returns : goal.returns
returns c = c.copy_from_slice.ensures.after ∙ (c.to_le_bytes.ensures ∙ to_le_bytes_16 c.args.word)
