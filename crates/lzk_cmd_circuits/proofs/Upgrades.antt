-- The exits of `upgrade` behind its circuit.
use Rattle.std.proofs.Common.{◌≡◌, ℕ, List, length, Result, ap, subst}
use Rattle.lzk_circbytes.specs.declared.any.AnyCircuit.{AnyCircuit}
use Rattle.lzk_circbytes.specs.Files.{CircuitBytes}
use Rattle.lzk_circbytes.proofs.Sizes.{files_fit}
use Rattle.lzk_cmd_files.specs.declared.ending.Ending.{Ending}
use Rattle.lzk_cmd_files.specs.declared.ending.Halt.{Halt}
use Rattle.lzk_cmd_files.specs.Ends.{puts}
use Rattle.lzk_cmd_files.specs.Lines.{upgraded_line}
use Rattle.lzk_cmd_files.specs.Seen.{Seen}
use Rattle.lzk_cmd_files.specs.Walks.{Puts, WalksToPut}
use Rattle.lzk_cmd_files.proofs.Steps.{at_put}
use Rattle.lzk_level.specs.Upgraded.{upgraded_any}
use Rattle.lzk_cmd_circuits.specs.Upgraded.{PutsUpgraded}

pub puts_upgraded : (c : AnyCircuit) (name bytes given text : List ℕ) (old new : Seen) (r : Result Ending Halt) → CircuitBytes (upgraded_any c) bytes → text ≡ upgraded_line name (length bytes) → given ≡ bytes
    → Puts name given text old new r → WalksToPut (λ files. PutsUpgraded c name) 1 old new r
puts_upgraded c name bytes given text old new r file is same h =
    at_put (λ files. PutsUpgraded c name) 1 name bytes text old new r (λ files stop. (bytes, file, files_fit (upgraded_any c) bytes file, ap (puts stop name bytes) is))
    (subst (λ (bs : List ℕ). Puts name bs text old new r) same h)
