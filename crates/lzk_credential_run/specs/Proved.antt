-- The proof of inputs, with the random words of a seed that is read.
use Rattle.std.specs.Prelude.{◌≡◌, ◌⊎◌, ℕ, List, length, Vec, Result, Ok, Err}
use Rattle.std.specs.declared.alloc.Global.{Global}
use Rattle.lzk_cmd_files.specs.declared.ending.Halt.{Halt}
use Rattle.lzk_cmd_files.specs.declared.ending.Halt.TheVariants as halts
use Rattle.lzk_cmd_files.specs.Ends.{says}
use Rattle.lzk_cmd_files.specs.Lines.{proved_line}
use Rattle.lzk_cmd_files.specs.Walks.{IsEnding}
use Rattle.lzk_policy.specs.Policies.{Contents}
use Rattle.lzk_policy_inputs.specs.Both.{Inputs}
use Rattle.lzk_policy_texts.specs.Circuits.{PassesLimit}
use Rattle.lzk_credential_run.specs.Proofs.{IsPolicyProof}
use Rattle.lzk_credential_run.specs.Seeds.{IsSeed, SeedEnds}
use Rattle.lzk_credential_run.specs.Ends.{Way, Says, PutsFile}
use Rattle.lzk_credential_run.specs.Lines.{limit_line}
use Rattle.lzk_credential_run.specs.Orders.{Order}

-- it draws a seed: it ends at the file of random bytes, or goes on
abbrev pub Draws : (List ℕ → Way) → Way
Draws next old new e =
    (SeedEnds old new e × (new.files ≡ old.files)) ⊎ ((seed : List ℕ) × IsSeed old seed × next seed old new e)

-- what proving answers: the proof's bytes, or the end where the policy's circuit would pass a limit
abbrev pub MakesProof : Order → Contents → Inputs → List ℕ → Result (Vec ℕ Global) Halt → Type 0
MakesProof order p i seed (Ok v) = IsPolicyProof p order.session seed i v.items
MakesProof order p i seed (Err halts.Memory) = Unit {0}
MakesProof order p i seed (Err (halts.End e)) = PassesLimit p × IsEnding (says 3 (limit_line order.policy)) e

-- it has inputs and a seed: it puts the proof and tells its length, or the policy's circuit would pass a limit
abbrev pub PutsProof : Order → Contents → Inputs → List ℕ → Way
PutsProof order p i seed old new e =
    (PassesLimit p × Says (says 3 (limit_line order.policy)) old new e)
    ⊎ ((bytes : List ℕ) × IsPolicyProof p order.session seed i bytes
    × PutsFile order.proof bytes (proved_line order.proof (length bytes)) old new e)
