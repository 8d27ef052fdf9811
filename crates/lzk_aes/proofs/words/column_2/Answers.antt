use Rattle.std.proofs.Common.{arith}
use Rattle.lzk_aes.proofs.Entries.{column_2_at}
use Rattle.lzk_aes.proofs.words.column_2.Goals as goal

pub returns : goal.returns
returns c = column_2_at c.args.byte (omega arith)
