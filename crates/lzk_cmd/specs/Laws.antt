-- What holds of the ends of all runs.
use Rattle.lzk_cmd.specs.Accepted.{HashedIsAccepted, HashesAreSatisfied, ProvedIsAccepted}
use Rattle.lzk_cmd.specs.OneEnd.{OneEnd}
use Rattle.lzk_cmd.specs.SomeEnd.{SomeEnd}

-- Words, files and stop have one end, and have an end. What `prove` and `sha256` put is accepted. Over a circuit whose
-- checks are SHA-256's outputs, as one of `shacircuit`, every message satisfies.
pub record RunLaws : Type 0 where
  pub one_end : OneEnd
  pub some_end : SomeEnd
  pub honest : ProvedIsAccepted
  pub hashed : HashedIsAccepted
  pub satisfied : HashesAreSatisfied
