use Rattle.std.proofs.Common.{arith}
use Rattle.lzk_aes.proofs.Entries.{sbox_at}
use Rattle.lzk_aes.proofs.words.sub_byte.Goals as goal

pub returns : goal.returns
returns c = sbox_at c.args.byte (omega arith)
