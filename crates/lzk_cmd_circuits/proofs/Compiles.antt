-- The exits of `compile` at its source and behind it.
use Rattle.std.proofs.Common.{◌≡◌, ℕ, List, Result, Ok, Err, refl, ap, subst}
use Rattle.std.specs.Prelude.{String, Vec, string_bytes}
use Rattle.std.specs.declared.alloc.Global.{Global}
use Rattle.std.specs.Result.{IsErrAnd}
use Rattle.lzk_circbytes.proofs.Sizes.{files_fit}
use Rattle.lzk_expr.specs.Codes.{Coded}
use Rattle.lzk_expr.specs.Trees.{SourceTree}
use Rattle.lzk_cmd_files.specs.declared.ending.Ending.{Ending}
use Rattle.lzk_cmd_files.specs.declared.ending.Halt.{Halt}
use Rattle.lzk_cmd_files.specs.declared.ending.Halt.TheVariants as halts
use Rattle.lzk_cmd_circuits.specs.Compiled.{CompileTree}
use Rattle.lzk_cmd_files.specs.Decoded.{source_files, level_refused}
use Rattle.lzk_cmd_files.specs.Ends.{Stop, puts}
use Rattle.lzk_cmd_files.specs.Seen.{Seen}
use Rattle.lzk_cmd_circuits.specs.CircuitSteps.{IsCompiled, Compiles, DecodesCode, GivesCode}
use Rattle.lzk_cmd_files.specs.Walks.{HasBytes, GivesBytes, Puts, WalksToPut}
use Rattle.lzk_cmd_files.proofs.Laws.{level_quiet}
use Rattle.lzk_cmd_files.proofs.Sights.{where_told, no_step}
use Rattle.lzk_cmd_files.proofs.Steps.{handed_on, here, at_put, no_bytes, decoded}
use Rattle.lzk_cmd_words.specs.declared.words.Version.{Version}

module _ (version : Version) (source circuit : List ℕ) (s : SourceTree) where
  pub no_circuit : (old : Seen) (h : Halt) (r : Result Ending Halt) → Compiles version source circuit s (Err h) → IsErrAnd r (λ y. y ≡ h) → WalksToPut (λ files. CompileTree version source circuit s) 1 old old r
  no_circuit old h r a is = handed_on (WalksToPut (λ files. CompileTree version source circuit s) 1 old old) r h is (go h a)
    where
      go : (h : Halt) → Compiles version source circuit s (Err h) → WalksToPut (λ files. CompileTree version source circuit s) 1 old old (Err h)
      go halts.Memory a = where_told old.files _ (λ f at. at)
      go (halts.End e) (found, fault, ends) = here _ 1 (Unit {0}) old old (level_refused source found) e (no_step old) (level_quiet source found) ends (λ f at. rw fault refl)

  compiled_put : (bytes text : List ℕ) (stop : Stop) → IsCompiled version s circuit bytes text → CompileTree version source circuit s stop (puts stop circuit bytes text)
  compiled_put bytes text stop c =
      rw c.within (c.made, bytes, c.compiled, c.file, files_fit c.made bytes c.file, ap (puts stop circuit bytes) c.text_is)

  pub puts_circuit : (old new : Seen) (made : Vec ℕ Global × String Global) (given : List ℕ) (r : Result Ending Halt) → Compiles version source circuit s (Ok made) → given ≡ made.0.items
      → Puts circuit given (string_bytes made.1) old new r → WalksToPut (λ files. CompileTree version source circuit s) 1 old new r
  puts_circuit old new made given r c same h =
      at_put (λ files. CompileTree version source circuit s) 1 circuit made.0.items (string_bytes made.1) old new r (λ files stop. compiled_put made.0.items (string_bytes made.1) stop c)
      (subst (λ bytes. Puts circuit bytes (string_bytes made.1) old new r) same h)

-- a source that is read, by its bytes and their code
module _ (name : List ℕ) (old new : Seen) where
  abbrev same : SourceTree → SourceTree
  same s = s

  pub no_text : (h : Halt) (r : Result Coded Halt) → GivesBytes old new name source_files.limit (Err h) → IsErrAnd r (λ y. y ≡ h) → GivesCode old new name r
  no_text h r a is = handed_on (GivesCode old new name) r h is (no_bytes source_files same name old new (Err h) h a refl)

  pub code_given : (bytes given : List ℕ) (r : Result Coded Halt) → given ≡ bytes → HasBytes old name source_files.limit bytes → DecodesCode name given r → GivesCode old new name r
  code_given bytes given (Ok code) is has h = (h.source, h.code, decoded source_files same name old new (Ok h.source) bytes given is has h.reads)
  code_given bytes given (Err e) is has h = decoded source_files same name old new (Err e) bytes given is has h
