use Rattle.std.proofs.Common.{arith}
use Rattle.lzk_aes.proofs.Entries.{column_3_at}
use Rattle.lzk_aes.proofs.words.column_3.Goals as goal

pub returns : goal.returns
returns c = column_3_at c.args.byte (omega arith)
