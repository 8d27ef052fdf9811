use Rattle.std.proofs.Common.{◌++◌, ap, ◌∙◌}
use Rattle.lzk_field.specs.Bytes.{bytes_of}
use Rattle.lzk_ligero_tableau.proofs.columns.nonce_of.Goals as goal

pub returns : goal.returns
returns c = ap (λ xs. xs ++ c.set_word-2.new.out) c.set_word.ensures ∙ ap (λ xs. bytes_of 16 c.args.low ++ xs) c.set_word-2.ensures
