-- The end of an evaluation.
use Rattle.std.proofs.Common.{ℕ, List, Option, Some, None, Result, Ok, Err, inl, refl, sym, subst, arith}
use Rattle.lzk_circuit.specs.Valid.{Wiring}
use Rattle.lzk_circuit.specs.Checks.{checks_of}
use Rattle.lzk_circuit.specs.Wires.{inputs_of}
use Rattle.lzk_field.specs.Ring.{Ops}
use Rattle.lzk_outside.specs.Outside.{Files}
use Rattle.lzk_cmd_files.specs.declared.ending.Ending.{Ending}
use Rattle.lzk_cmd_files.specs.declared.ending.Halt.{Halt}
use Rattle.lzk_cmd_files.specs.declared.ending.Halt.TheVariants as halts
use Rattle.lzk_cmd_files.specs.Ends.{End, Stop}
use Rattle.lzk_cmd_circuits.specs.Evaluated.{Evaluated, verdict}
use Rattle.lzk_cmd_files.specs.Seen.{Seen}
use Rattle.lzk_cmd_circuits.specs.CircuitSteps.{Evaluates}
use Rattle.lzk_cmd_files.specs.Walks.{Walks}
use Rattle.lzk_cmd_files.proofs.Causes.{IsQuiet}
use Rattle.lzk_cmd_files.proofs.Sights.{no_step, where_told}
use Rattle.lzk_cmd_files.proofs.Steps.{here}

verdict_quiet : {A : Type 0} (lines : List ℕ) (first : Option (ℕ × A)) → IsQuiet (verdict lines first)
verdict_quiet lines None = record { put = refl; present = refl; cause = inl (omega arith) }
verdict_quiet lines (Some first) = record { put = refl; present = refl; cause = inl (omega arith) }

module _ {A : Type 0} (o : Ops A) (number : A → ℕ) (c : Wiring A) where
  -- the walk that has the inputs
  abbrev pub WithInputs : List A → List A → Files → Stop → End → Type 0
  WithInputs publics privates files stop end = Evaluated o number (checks_of o number c.layers (inputs_of o publics privates)) end

  pub evaluates : (publics privates : List A) (new : Seen) (r : Result Ending Halt) → Evaluates o number (checks_of o number c.layers (inputs_of o publics privates)) r → Walks (WithInputs publics privates) 3 new new r
  evaluates publics privates new (Ok e) is =
      let evaluated = is.1 in
      here (WithInputs publics privates) 3 ⊥ new new is.0 e (no_step new) (subst IsQuiet (sym evaluated.2) (verdict_quiet _ evaluated.0)) is.2 (λ f at. evaluated)
  evaluates publics privates new (Err halts.Memory) is = where_told new.files _ (λ f at. at)
  evaluates publics privates new (Err (halts.End e)) is = absurd is
