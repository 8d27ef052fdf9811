-- What acceptance is: a file of a proof whose answers pass for the draws of its own tape.
use Rattle.lzk_profile.specs.Profile.{opened_count}
use Rattle.std.specs.Prelude.{◌≡◌, ℕ, ◌<◌, List, length, slice_index}
use Rattle.lzk_field.specs.Coding.{Coding}
use Rattle.lzk_field.specs.Ring.{Ops}
use Rattle.lzk_circuit.specs.Valid.{Wiring, IsValid}
use Rattle.lzk_layout.specs.declared.proof.Proof.{Proof}
use Rattle.lzk_layout.specs.Sizes.{params_of}
use Rattle.lzk_accept.specs.Challenges.{Transcript}
use Rattle.lzk_verify.specs.declared.verdict.Verdict.TheVariants.{Accepted}
use Rattle.lzk_verify.specs.Verdict.{IsVerdict, OpensFile, given}
use Rattle.lzk_soundness.specs.Sumchecks.Passing.{Passes}

module _ {A : Type 0} (o : Ops A) (e : Coding A) (c : Wiring A) (session : List ℕ) (public : List A)
    (proof : Proof A) where
  -- what the proof's tape gives to it
  abbrev pub drawn : Transcript A
  drawn = given o e c session public proof

  -- 128 columns are opened, ascending
  pub record AreDrawn : Type 0 where
    pub count : length drawn.columns ≡ opened_count
    pub below : (k : ℕ) → k < length drawn.columns → slice_index drawn.columns k < (params_of c).mcol
    pub ascending : (i j : ℕ) → i < j → j < length drawn.columns
        → slice_index drawn.columns i < slice_index drawn.columns j

-- The bytes are the file of a proof that passes by the draws and at the columns that its own tape gives, which are
-- such as the count of `count` speaks of.
pub record PassesByTape {A : Type 0} (o : Ops A) (e : Coding A) (c : Wiring A) (session : List ℕ) (public : List A)
    (bytes : List ℕ) : Type 0 where
  pub proof : Proof A
  pub opens : OpensFile o e c session public bytes proof
  pub columns : AreDrawn o e c session public proof
  pub passes : Passes o e c public (given o e c session public proof).script
      (given o e c session public proof).challenges
      (given o e c session public proof).columns proof

-- Accepted bytes are so, and no others.
abbrev pub AcceptedPasses : {A : Type 0} → Ops A → Coding A → Type 0
AcceptedPasses {A} o e =
    (c : Wiring A) (session : List ℕ) (public : List A) (bytes : List ℕ) → IsValid o c
    → (IsVerdict o e c session public bytes Accepted → PassesByTape o e c session public bytes)
    × (PassesByTape o e c session public bytes → IsVerdict o e c session public bytes Accepted)
