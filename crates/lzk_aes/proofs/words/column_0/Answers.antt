use Rattle.std.proofs.Common.{arith}
use Rattle.lzk_aes.proofs.Entries.{column_0_at}
use Rattle.lzk_aes.proofs.words.column_0.Goals as goal

pub returns : goal.returns
returns c = column_0_at c.args.byte (omega arith)
