-- What a run does.
use Rattle.std.specs.Prelude.{◌≡◌, ℕ, List, MatchOption}
use Rattle.lzk_outside.specs.Outside.{Files}
use Rattle.lzk_cmd_batch.specs.Batched.{BatchRun}
use Rattle.lzk_cmd_circuits.specs.Compiled.{CompileRun}
use Rattle.lzk_cmd_prove.specs.Demo.{DemoRun}
use Rattle.lzk_cmd_files.specs.Ends.{End, refused_words, Stop}
use Rattle.lzk_cmd_circuits.specs.Upgraded.{UpgradeRun}
use Rattle.lzk_cmd_circuits.specs.ShaCircuits.{ShaCircuitRun}
use Rattle.lzk_cmd_prove.specs.Hashed.{HashRun}
use Rattle.lzk_cmd_words.specs.Keys.{number_of}
use Rattle.lzk_cmd_prove.specs.Proved.{ProveRun}
use Rattle.lzk_cmd_words.specs.Digits.{seed_of}
use Rattle.lzk_cmd_verify.specs.Verified.{VerifyRun}
use Rattle.lzk_cmd_words.specs.Words.{Command, Eval, Compile, Upgrade, Show, Prove, Verify, Batch, Demo, ShaCircuit, Sha256, command_of}
use Rattle.lzk_cmd_circuits.specs.Evaluated.{EvalRun, ShowRun}

-- a run of this command
abbrev pub CommandRun : Command → Files → Stop → End → Type 0
CommandRun (Eval circuit public private) = EvalRun circuit public private
CommandRun (Compile source circuit version) = CompileRun version source circuit
CommandRun (Upgrade old new) = UpgradeRun old new
CommandRun (Show circuit) = ShowRun circuit
CommandRun (Prove circuit public private proof seed session) = ProveRun circuit public private proof seed session
CommandRun (Verify circuit public proof session) = VerifyRun circuit public proof session
CommandRun (Batch list) = BatchRun list
CommandRun (Demo count seed) = DemoRun (number_of count) (seed_of seed)
CommandRun (ShaCircuit count circuit) = ShaCircuitRun (number_of count) circuit
CommandRun (Sha256 circuit proof message seed session) = HashRun circuit proof message seed session

-- a run of these words over these files may end so
abbrev pub RunOf : List (List ℕ) → Files → Stop → End → Type 0
RunOf words files stop end =
    MatchOption (command_of words) (end ≡ refused_words) (λ command. CommandRun command files stop end)
