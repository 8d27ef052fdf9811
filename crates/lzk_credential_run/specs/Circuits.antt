-- What `circuit` does.
use Rattle.std.specs.Prelude.{◌⊎◌, ℕ, List, Vec, Result, Ok, Err}
use Rattle.std.specs.declared.alloc.Global.{Global}
use Rattle.lzk_cmd_files.specs.declared.ending.Halt.{Halt}
use Rattle.lzk_cmd_files.specs.declared.ending.Halt.TheVariants as halts
use Rattle.lzk_cmd_files.specs.Ends.{says}
use Rattle.lzk_cmd_files.specs.Walks.{IsEnding}
use Rattle.lzk_policy.specs.Policies.{Contents}
use Rattle.lzk_policy_texts.specs.Circuits.{IsPolicyFile, PassesLimit}
use Rattle.lzk_credential_run.specs.Ends.{Way, Says, Reads, PutsFile}
use Rattle.lzk_credential_run.specs.Files.{policy_files}
use Rattle.lzk_credential_run.specs.Lines.{limit_line, put_line}

-- such a file, or the end of a run whose policy's circuit would pass a limit
abbrev pub MakesFile : List ℕ → Contents → Result (Vec ℕ Global) Halt → Type 0
MakesFile policy p (Ok v) = IsPolicyFile p v.items
MakesFile policy p (Err halts.Memory) = Unit {0}
MakesFile policy p (Err (halts.End e)) =
    PassesLimit p × IsEnding (says 3 (limit_line policy)) e

-- the run has a policy: it puts the file of a circuit of it, or the circuit would pass a limit
abbrev pub PutsCircuit : List ℕ → List ℕ → Contents → Way
PutsCircuit policy circuit p old new e =
    (PassesLimit p × Says (says 3 (limit_line policy)) old new e)
    ⊎ ((bytes : List ℕ) × IsPolicyFile p bytes × PutsFile circuit bytes put_line old new e)

abbrev pub CircuitRun : List ℕ → List ℕ → Way
CircuitRun policy circuit = Reads policy_files policy (PutsCircuit policy circuit)
