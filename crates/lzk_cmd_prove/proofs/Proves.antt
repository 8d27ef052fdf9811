-- The exits of `prove` behind its inputs.
use Rattle.std.proofs.Common.{◌≡◌, ◌≤◌, ℕ, List, length, Option, Some, None, Result, Ok, inl, refl, ap, lit≤}
use Rattle.std.specs.Result.{IsErrAnd}
use Rattle.lzk_circuit.specs.Checks.{checks_of}
use Rattle.lzk_circuit.specs.Valid.{Wiring}
use Rattle.lzk_circuit.specs.Wires.{inputs_of, IsFirstNonzero}
use Rattle.lzk_field.specs.Coding.{Coding}
use Rattle.lzk_field.specs.Ring.{Ops}
use Rattle.lzk_ligero_proof.specs.Proving.{IsProofFile, words_of}
use Rattle.lzk_outside.specs.Outside.{Files}
use Rattle.lzk_cmd_files.specs.declared.ending.Ending.{Ending}
use Rattle.lzk_cmd_files.specs.declared.ending.Halt.{Halt}
use Rattle.lzk_cmd_files.specs.declared.ending.Halt.TheVariants as halts
use Rattle.lzk_cmd_files.specs.Decoded.{proof_limit}
use Rattle.lzk_cmd_files.specs.Ends.{End, Stop, puts}
use Rattle.lzk_cmd_files.specs.Lines.{told_line}
use Rattle.lzk_cmd_prove.specs.Proved.{Proves, nonzero_end}
use Rattle.lzk_cmd_files.specs.Seen.{Seen}
use Rattle.lzk_cmd_files.specs.Walks.{IsEnding, Puts, WalksToPut}
use Rattle.lzk_cmd_files.proofs.Causes.{IsQuiet}
use Rattle.lzk_cmd_files.proofs.Sights.{where_told, no_step}
use Rattle.lzk_cmd_files.proofs.Steps.{handed_on, here, at_put}

nonzero_quiet : {A : Type 0} (number : A → ℕ) (first : ℕ × A) → IsQuiet (nonzero_end number first)
nonzero_quiet number first = record { put = refl; present = refl; cause = inl (lit≤ tt) }

module _ {A : Type 0} (o : Ops A) (e : Coding A) (c : Wiring A) (proof : List ℕ) (digest : Option (List ℕ)) (session : List ℕ) (word : ℕ → ℕ) where
  -- the walk that has the inputs
  abbrev pub WithInputs : List A → List A → Files → Stop → End → Type 0
  WithInputs publics privates files stop end = Proves o e c proof digest session word publics privates stop end

  module _ (publics privates : List A) where
    abbrev Whole : Files → Stop → End → Type 0
    Whole files = Proves o e c proof digest session word publics privates

    abbrev IsFirst : Option (ℕ × A) → Type 0
    IsFirst first = IsFirstNonzero o (checks_of o e.number c.layers (inputs_of o publics privates)) first

    -- there was no memory, and nothing was put
    pub no_memory : (old : Seen) (h : Halt) (r : Result Ending Halt) → h ≡ halts.Memory → IsErrAnd r (λ y. y ≡ h) → WalksToPut Whole 3 old old r
    no_memory old h r memory is = handed_on (WalksToPut Whole 3 old old) r halts.Memory (rw memory at is) (where_told old.files _ (λ f at. at))

    pub puts_proof : (old new : Seen) (bytes text : List ℕ) (r : Result Ending Halt) → IsFirst None → IsProofFile o e c session publics privates (words_of word) bytes → length bytes ≤ proof_limit
        → text ≡ told_line proof digest (length bytes) → Puts proof bytes text old new r → WalksToPut Whole 3 old new r
    puts_proof old new bytes text r first file fits is h = at_put Whole 3 proof bytes text old new r (λ files stop. (None, first, (bytes, file, fits, ap (puts stop proof bytes) is))) h

    pub tells_first : (old : Seen) (first : ℕ × A) (ending : Ending) → IsFirst (Some first) → IsEnding (nonzero_end e.number first) ending → WalksToPut Whole 3 old old (Ok ending)
    tells_first old first ending is ends = here Whole 3 (Unit {0}) old old (nonzero_end e.number first) ending (no_step old) (nonzero_quiet e.number first) ends (λ f at. (Some first, is, refl))
