use Rattle.std.proofs.Common.{ap, ◌∙◌, rules}
use Rattle.lzk_aes.specs.Aes.{aes}
use Rattle.lzk_field.specs.Bytes.{bytes_of, number_from}
use Rattle.lzk_transcript.specs.Tape.{TapeState, drawn}
use Rattle.lzk_transcript.proofs.Blocks.{block_number}
use Rattle.lzk_transcript.proofs.tape.Tape.draw_block.Goals as goal

pub returns-clause-value : goal.returns-clause-value
unfolding drawn
returns-clause-value c =
    block_number c.self.inside.cipher _ c.self.inside.counter _ _ (search rules) c.to_le_bytes.ensures c.encrypt-block.ensures c.from_le_bytes.ensures
    ∙ ap (λ (t : TapeState). number_from (aes t.seed (bytes_of 16 t.counter))) (c.self.view_is ∙ c.flush.ensures)
