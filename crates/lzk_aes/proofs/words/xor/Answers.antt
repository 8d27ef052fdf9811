use Rattle.lzk_aes.proofs.Xor.{word_bytes-xor}
use Rattle.lzk_aes.proofs.words.xor.Goals as goal

pub returns : goal.returns
returns c = word_bytes-xor c.args.a c.args.b
