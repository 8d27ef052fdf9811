-- What each call writes for a program in C: the outcome of an end that the call may have.
use Rattle.std.specs.Prelude.{◌≡◌, ℕ, List, Result}
use Rattle.lzk_calls.specs.declared.outcome.Outcome.{Outcome}
use Rattle.lzk_policy_calls.specs.declared.numbering.TextsPut.{TextsPut}
use Rattle.lzk_policy_calls.specs.declared.refusal.PolicyRefusal.{PolicyRefusal}
use Rattle.lzk_policy_calls.specs.Outcomes.{outcome_of, texts_outcome}
use Rattle.lzk_policy_calls.specs.Circuits as circuits
use Rattle.lzk_policy_calls.specs.Digests as digests
use Rattle.lzk_policy_calls.specs.Inputs as inputs
use Rattle.lzk_policy_calls.specs.Publics as publics
use Rattle.lzk_policy_calls.specs.Shows as shows
use Rattle.lzk_policy_calls.specs.Telling as telling

abbrev pub IsOutcome : (Result ℕ PolicyRefusal → Type 0) → Outcome → Type 0
IsOutcome Tells outcome = (told : Result ℕ PolicyRefusal) × Tells told × (outcome ≡ outcome_of told)

abbrev pub Shows : List ℕ → List ℕ → List ℕ → Outcome → Type 0
Shows text old new = IsOutcome (shows.Shows text old new)

abbrev pub MakesCircuit : List ℕ → List ℕ → List ℕ → Outcome → Type 0
MakesCircuit text old new = IsOutcome (circuits.MakesCircuit text old new)

abbrev pub MakesDigest : List ℕ → List ℕ → List ℕ → List ℕ → Outcome → Type 0
MakesDigest text m old new = IsOutcome (digests.MakesDigest text m old new)

abbrev pub MakesPublics : List ℕ → List ℕ → List ℕ → List ℕ → Outcome → Type 0
MakesPublics text shown old new = IsOutcome (publics.MakesPublics text shown old new)

module _ (text m values secret path old new : List ℕ) where
  abbrev pub MakesInputs : Outcome → Type 0
  MakesInputs outcome =
      (told : Result TextsPut PolicyRefusal) × inputs.MakesInputs text m values secret path old new told
      × (outcome ≡ texts_outcome told)

  abbrev pub TellsShown : Outcome → Type 0
  TellsShown = IsOutcome (telling.TellsShown text m values secret path old new)
