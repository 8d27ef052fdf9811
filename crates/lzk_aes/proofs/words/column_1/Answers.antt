use Rattle.std.proofs.Common.{arith}
use Rattle.lzk_aes.proofs.Entries.{column_1_at}
use Rattle.lzk_aes.proofs.words.column_1.Goals as goal

pub returns : goal.returns
returns c = column_1_at c.args.byte (omega arith)
