-- What a verifier checks of a proof beside its file, its id and its tree: for any draws and columns.
use Rattle.lzk_profile.specs.Profile.{opened_count}
use Rattle.std.specs.Prelude.{◌≡◌, ℕ, ◌-◌, ◌*◌, List, length}
use Rattle.lzk_field.specs.Coding.{Coding}
use Rattle.lzk_field.specs.Ring.{Ops}
use Rattle.lzk_circuit.specs.Valid.{Wiring}
use Rattle.lzk_layout.specs.declared.proof.Proof.{Proof}
use Rattle.lzk_layout.specs.Sizes.{params_of}
use Rattle.lzk_sumcheck.specs.declared.script.Script.{Script}
use Rattle.lzk_accept.specs.declared.challenges.Challenges.{Challenges}
use Rattle.lzk_accept.specs.Checks.{IsLowDegree, HasLinearSum, IsLinear, IsQuadratic, AtEach, combined_row_of, wanted_of}

module _ {A : Type 0} (o : Ops A) (e : Coding A) (c : Wiring A) (public : List A) (s : Script A) (ch : Challenges A)
    (columns : List ℕ) where
  -- The sent elements, the answers and the opened columns are as long as the parameters say, and meet the last four
  -- of a verifier's eight checks. Nothing here depends on private inputs.
  pub record Passes (proof : Proof A) : Type 0 where
    pub messages : length proof.messages ≡ (params_of c).nsum
    pub ldt : length proof.ldt ≡ (params_of c).block
    pub dot : length proof.dot ≡ (params_of c).dblock
    pub quad_head : length proof.quad_head ≡ opened_count
    pub quad_tail : length proof.quad_tail ≡ (params_of c).dblock - (params_of c).block
    pub opened : length proof.columns ≡ length columns * (params_of c).nrow
    pub low_degree : AtEach columns (IsLowDegree o (params_of c) proof e.element columns ch.u)
    pub linear_sum : HasLinearSum o (params_of c) proof (wanted_of o e.element c public s proof.messages ch)
    pub linear : AtEach columns (IsLinear o (params_of c) proof e.element columns
        (combined_row_of o e.element c public s proof.messages ch))
    pub quadratic : AtEach columns (IsQuadratic o (params_of c) proof e.element columns ch.v)
