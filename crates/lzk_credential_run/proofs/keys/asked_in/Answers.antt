use Rattle.std.specs.Prelude.{string_bytes}
use Rattle.lzk_credential_run.proofs.Counts.{too_many}
use Rattle.lzk_credential_run.proofs.keys.asked_in.Goals as goal

pub returns-in-len3-up : goal.returns-in-len3-up
returns-in-len3-up c = too_many (λ w. string_bytes w) c.args.words.now c.in-len3-up.len_at_least
