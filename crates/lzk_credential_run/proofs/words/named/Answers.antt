use Rattle.std.specs.Prelude.{string_bytes}
use Rattle.lzk_credential_run.proofs.Counts.{three_names}
use Rattle.lzk_credential_run.proofs.words.named.Goals as goal

pub returns-in-len3 : goal.returns-in-len3
returns-in-len3 c = three_names (λ w. string_bytes w) c.args.verb.now c.args.names.now c.in-len3.len_at_least c.in-len3.len_below
