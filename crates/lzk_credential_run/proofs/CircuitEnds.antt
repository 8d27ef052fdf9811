-- The ends of `circuit` behind its policy.
use Rattle.std.proofs.Common.{◌≡◌, ℕ, List, Result, Ok, Err, inl, inr, refl, subst}
use Rattle.std.specs.Result.{IsErrAnd}
use Rattle.lzk_cmd_files.specs.declared.ending.Ending.{Ending}
use Rattle.lzk_cmd_files.specs.declared.ending.Halt.{Halt}
use Rattle.lzk_cmd_files.specs.declared.ending.Halt.TheVariants as halts
use Rattle.lzk_cmd_files.specs.Ends.{says}
use Rattle.lzk_cmd_files.specs.Seen.{Seen}
use Rattle.lzk_cmd_files.specs.Walks.{Puts}
use Rattle.lzk_cmd_files.proofs.Steps.{handed_on}
use Rattle.lzk_policy.specs.Policies.{Contents}
use Rattle.lzk_credential_run.specs.Circuits.{MakesFile, PutsCircuit}
use Rattle.lzk_policy_texts.specs.Circuits.{IsPolicyFile}
use Rattle.lzk_credential_run.specs.Ends.{NothingPut, Settles}
use Rattle.lzk_credential_run.specs.Lines.{limit_line, put_line}
use Rattle.lzk_credential_run.proofs.Steps.{IsLate, says_later, puts_later}

pub puts_circuit_later : (policy circuit : List ℕ) (p : Contents) → IsLate (PutsCircuit policy circuit p)
puts_circuit_later policy circuit p old mid new e first (inl (cause, h)) = inl (cause, says_later (says 3 (limit_line policy)) old mid new e first h)
puts_circuit_later policy circuit p old mid new e first (inr (bytes, is, h)) = inr (bytes, is, puts_later circuit bytes put_line old mid new e first h)

module _ (policy circuit : List ℕ) (p : Contents) where
  -- no file is made
  pub no_file : (old : Seen) (h : Halt) (r : Result Ending Halt) → MakesFile policy p (Err h) → IsErrAnd r (λ y. y ≡ h) → Settles (PutsCircuit policy circuit p) NothingPut old old r
  no_file old h r made is = handed_on (Settles (PutsCircuit policy circuit p) NothingPut old old) r h is (go h made)
    where
      go : (h : Halt) → MakesFile policy p (Err h) → Settles (PutsCircuit policy circuit p) NothingPut old old (Err h)
      go halts.Memory made = refl
      go (halts.End e) (cause, is) = inl (cause, (is, refl))

  -- the file is put
  pub file_put : (bytes given text : List ℕ) (old new : Seen) (r : Result Ending Halt) → IsPolicyFile p bytes → given ≡ bytes → text ≡ put_line → Puts circuit given text old new r
      → Settles (PutsCircuit policy circuit p) NothingPut old new r
  file_put bytes given text old new r is same said puts =
      go r (subst (λ (t : List ℕ). Puts circuit bytes t old new r) said (subst (λ (bs : List ℕ). Puts circuit bs text old new r) same puts))
    where
      go : (r : Result Ending Halt) → Puts circuit bytes put_line old new r → Settles (PutsCircuit policy circuit p) NothingPut old new r
      go (Ok e) h = inr (bytes, is, h)
      go (Err halts.Memory) h = h
      go (Err (halts.End e)) h = absurd h
