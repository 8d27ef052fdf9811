-- What the parts of `eval` and `compile` answer. No clause of `run` cites these words.
use Rattle.std.specs.Prelude.{◌≡◌, ℕ, List, length, Some, None, Vec, String, Result, Ok, Err, string_bytes}
use Rattle.std.specs.declared.alloc.Global.{Global}
use Rattle.lzk_circbytes.specs.declared.any.AnyCircuit.{AnyCircuit}
use Rattle.lzk_circbytes.specs.Files.{CircuitBytes}
use Rattle.lzk_expr.specs.Codes.{Coded, IsCodeOf}
use Rattle.lzk_expr.specs.CodeTexts.{IsCodeOfText}
use Rattle.lzk_expr.specs.Trees.{SourceTree}
use Rattle.lzk_field.specs.Ring.{Ops}
use Rattle.lzk_level.specs.declared.fault.LevelFault.{LevelFault}
use Rattle.lzk_cmd_files.specs.declared.ending.Ending.{Ending}
use Rattle.lzk_cmd_files.specs.declared.ending.Halt.{Halt}
use Rattle.lzk_cmd_files.specs.declared.ending.Halt.TheVariants as halts
use Rattle.lzk_cmd_circuits.specs.Compiled.{CompiledAs, compiled_text, limit_as}
use Rattle.lzk_cmd_files.specs.Decoded.{source_files, level_refused}
use Rattle.lzk_cmd_files.specs.Ends.{End as Ended}
use Rattle.lzk_cmd_circuits.specs.Evaluated.{Evaluated}
use Rattle.lzk_cmd_files.specs.Seen.{Seen}
use Rattle.lzk_cmd_files.specs.Walks.{IsEnding, Decodes, Gives}
use Rattle.lzk_cmd_words.specs.declared.words.Version.{Version}

-- the end of an evaluation, as the code has it
abbrev pub IsEvaluation : {A : Type 0} → Ops A → (A → ℕ) → List A → Ending → Type 0
IsEvaluation o number checks e = (end : Ended) × Evaluated o number checks end × IsEnding end e

-- such an end, or there is no memory
abbrev pub Evaluates : {A : Type 0} → Ops A → (A → ℕ) → List A → Result Ending Halt → Type 0
Evaluates o number checks (Ok e) = IsEvaluation o number checks e
Evaluates o number checks (Err halts.Memory) = Unit {0}
Evaluates o number checks (Err (halts.End e)) = ⊥

-- the code of the source that a text is, or the end at its first fault
abbrev pub DecodesCode : List ℕ → List ℕ → Result Coded Halt → Type 0
DecodesCode name text (Ok code) = IsCodeOfText text code
DecodesCode name text (Err halt) = Decodes source_files (λ (source : SourceTree). source) name text (Err halt)

-- the code of the source in a file, or the end at the file or at its first fault
abbrev pub GivesCode : Seen → Seen → List ℕ → Result Coded Halt → Type 0
GivesCode old new name (Ok code) =
    (source : SourceTree)
    × IsCodeOf code source
    × Gives source_files (λ (source : SourceTree). source) old new name (Ok source)
GivesCode old new name (Err halt) = Gives source_files (λ (source : SourceTree). source) old new name (Err halt)

-- the bytes are the file of a circuit of the source in this version, and the text tells of it
pub record IsCompiled (version : Version) (source : SourceTree) (circuit bytes text : List ℕ) : Type 0 where
  pub made : AnyCircuit
  pub compiled : CompiledAs version source made
  pub file : CircuitBytes made bytes
  pub within : limit_as version source ≡ None
  pub text_is : text ≡ compiled_text circuit made (length bytes)

-- such bytes and text, or the end at the limit that the source passes
abbrev pub Compiles : Version → List ℕ → List ℕ → SourceTree → Result (Vec ℕ Global × String Global) Halt → Type 0
Compiles version name circuit source (Ok made) = IsCompiled version source circuit made.0.items (string_bytes made.1)
Compiles version name circuit source (Err halts.Memory) = Unit {0}
Compiles version name circuit source (Err (halts.End e)) =
    (found : LevelFault) × (limit_as version source ≡ Some found) × IsEnding (level_refused name found) e
