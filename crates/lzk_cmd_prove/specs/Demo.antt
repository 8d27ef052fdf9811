-- How a run ends that makes the demo.
use Rattle.std.specs.Prelude.{◌≡◌, ℕ, List, [], length, Result, Ok, Err}
use Rattle.lzk_circbytes.specs.declared.any.AnyCircuit.TheVariants.{Gold}
use Rattle.lzk_circuit.specs.Valid.{Wiring}
use Rattle.lzk_demo.specs.Demo.{demo_tree, demo_public, demo_private}
use Rattle.lzk_field.specs.Coding.{Coding}
use Rattle.lzk_field.specs.Ring.{Ops}
use Rattle.lzk_goldilocks.specs.declared.element.Gold.{Gold as GoldElement}
use Rattle.lzk_goldilocks.specs.Elements as gold
use Rattle.lzk_ligero_proof.specs.Proving.{IsProofFile, words_of}
use Rattle.lzk_outside.specs.Outside.{Files}
use Rattle.lzk_verify.specs.declared.verdict.Verdict.{Verdict}
use Rattle.lzk_verify.specs.declared.verdict.Verdict.TheVariants.{Accepted}
use Rattle.lzk_verify.specs.Verdict.{IsVerdict, IsOnlyVerdict}
use Rattle.lzk_level.specs.SomeCircuit.{IsCircuitOf}
use Rattle.lzk_cmd_files.specs.Ends.{End, says, Stop}
use Rattle.lzk_cmd_files.specs.declared.ending.Ending.{Ending}
use Rattle.lzk_cmd_files.specs.declared.ending.Halt.{Halt}
use Rattle.lzk_cmd_files.specs.declared.ending.Halt.TheVariants as halts
use Rattle.lzk_cmd_files.specs.Lines.{demo_line}
use Rattle.lzk_cmd_files.specs.Walks.{IsEnding}
use Rattle.lzk_cmd_prove.specs.Proved.{gold_word}
use Rattle.lzk_cmd_verify.specs.Verified.{gold_coding}

-- a circuit of the demo's source with n private inputs, the file of its one proof for the empty session and the seed's
-- words, and the verdict on it
pub record IsDemo (n : ℕ) (seed : List ℕ) (c : Wiring GoldElement) (bytes : List ℕ) : Type 0 where
  pub compiled : IsCircuitOf (demo_tree n) (Gold c)
  pub file : IsProofFile gold.ops gold_coding c [] (demo_public gold.ops n) (demo_private gold.ops n)
      (words_of (gold_word seed)) bytes
  pub accepted : IsVerdict gold.ops gold_coding c [] (demo_public gold.ops n) bytes Accepted

-- a proof of so many bytes of these inputs of a circuit, for the empty session and these random words, and this one
-- verdict on it
pub record HasVerdict {A : Type 0} (o : Ops A) (e : Coding A) (c : Wiring A) (publics privates : List A) (word : ℕ → ℕ)
    (len : ℕ) (verdict : Verdict A) : Type 0 where
  pub bytes : List ℕ
  pub long : length bytes ≡ len
  pub file : IsProofFile o e c [] publics privates (words_of word) bytes
  pub is : IsVerdict o e c [] publics bytes verdict
  pub only : IsOnlyVerdict o e c [] publics bytes verdict

-- the end that tells of them
abbrev pub demo_end : ℕ → Wiring GoldElement → List ℕ → End
demo_end n c bytes = says 0 (demo_line n (length c.layers) (length bytes))

-- The run tells of such a circuit, and of its proof that is accepted. It reads no file, and nothing stops it.
unfoldable pub DemoRun : ℕ → List ℕ → Files → Stop → End → Type 0
DemoRun n seed files stop end =
    (c : Wiring GoldElement) × (bytes : List ℕ) × IsDemo n seed c bytes × (end ≡ demo_end n c bytes)

-- the end of a demo, or there is no memory
abbrev pub TellsDemo : ℕ → List ℕ → Result Ending Halt → Type 0
TellsDemo n seed (Ok e) =
    (c : Wiring GoldElement) × (bytes : List ℕ) × IsDemo n seed c bytes × IsEnding (demo_end n c bytes) e
TellsDemo n seed (Err halts.Memory) = Unit {0}
TellsDemo n seed (Err (halts.End e)) = ⊥
