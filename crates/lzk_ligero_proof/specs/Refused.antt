-- Changed proofs: what is written for satisfying inputs, where one value of an answer was changed before the columns
-- were drawn, is refused.
use Rattle.lzk_profile.specs.Profile.{opened_count}
use Rattle.std.specs.Prelude.{◌≢◌, ℕ, cond, nat_lt, List, slice_index}
use Rattle.lzk_field.specs.Coding.{Coding}
use Rattle.lzk_field.specs.Ring.{Ops}
use Rattle.lzk_circuit.specs.Valid.{Wiring, IsValid}
use Rattle.lzk_circuit.specs.Wires.{inputs_of}
use Rattle.lzk_circuit.specs.Checks.{IsSatisfied}
use Rattle.lzk_layout.specs.declared.proof.Proof.{Proof}
use Rattle.lzk_layout.specs.Proofs.{ProofBytes}
use Rattle.lzk_layout.specs.Sizes.{params_of}
use Rattle.lzk_accept.specs.Challenges.{Transcript}
use Rattle.lzk_accept.specs.Checks.{AtEach}
use Rattle.lzk_ligero_proof.specs.declared.answer.Answer.{Answer}
use Rattle.lzk_ligero_proof.specs.declared.answer.Answer.TheVariants as answer
use Rattle.lzk_ligero_proof.specs.Changed.{IsSentPlace}
use Rattle.lzk_ligero_proof.specs.Proving.{HaveCounts, IsChangedFile}
use Rattle.lzk_verify.specs.declared.verdict.Verdict.{Verdict}
use Rattle.lzk_verify.specs.declared.verdict.Verdict.TheVariants.{LowDegree, LinearSum, Linear, Quadratic}
use Rattle.lzk_verify.specs.Verdict.{IsVerdict, LowDegreeAt, LinearAt, QuadraticAt, given, wanted_sum}

module _ {A : Type 0} (o : Ops A) (e : Coding A) (c : Wiring A) (public : List A) (proof : Proof A) (t : Transcript A)
  where
    -- the check of an answer at the k-th opened column
    abbrev pub AnswerAt : Answer → ℕ → Type 0
    AnswerAt answer.LowDegree k = LowDegreeAt o e c (params_of c) public proof t k
    AnswerAt answer.Dot k = LinearAt o e c (params_of c) public proof t k
    AnswerAt answer.Quad k = QuadraticAt o e c (params_of c) public proof t k

    -- The verdict where `by` was added to value n of an answer: its check fails at the least column. The linear
    -- answer's sum is checked before, and is by as much too large where the value is one of those at the points of a
    -- row's elements. The columns ascend.
    unfoldable pub refusal : Answer → ℕ → A → Verdict A
    refusal answer.LowDegree n by = LowDegree (slice_index t.columns 0)
    refusal answer.Dot n by =
        let wanted = wanted_sum o e c (params_of c) public proof t in
        let wrong = Linear (slice_index t.columns 0) in
        cond (nat_lt n opened_count) wrong
        (cond (nat_lt n (params_of c).block) (LinearSum (o.plus wanted by) wanted) wrong)
    refusal answer.Quad n by = Quadratic (slice_index t.columns 0)

-- The bytes are the file of a proof, and have this verdict. At no opened column does the check of the changed answer
-- hold.
pub record IsRefused {A : Type 0} (o : Ops A) (e : Coding A) (c : Wiring A) (session : List ℕ) (public : List A)
    (which : Answer) (n : ℕ) (by : A) (bytes : List ℕ) : Type 0 where
  pub proof : Proof A
  pub read : ProofBytes e.bytes e.number (params_of c) proof bytes
  pub verdict : IsVerdict o e c session public bytes
      (refusal o e c public proof (given o e c session public proof) which n by)
  pub everywhere : AtEach (given o e c session public proof).columns
      (λ k. ¬ AnswerAt o e c public proof (given o e c session public proof) which k)

-- The file of the proof of satisfying inputs is refused so, where what was added is not 0.
abbrev pub ChangedRefused : {A : Type 0} → Ops A → Coding A → Type 0
ChangedRefused {A} o e =
    (c : Wiring A) (session : List ℕ) (public private : List A) (word : ℕ → ℕ) (which : Answer) (n : ℕ) (by : A)
    (bytes : List ℕ)
    → IsValid o c → HaveCounts c public private → IsSatisfied o e.number c.layers (inputs_of o public private)
    → IsSentPlace (params_of c) which n → by ≢ o.zero → IsChangedFile o e c session public private word which n by bytes
    → IsRefused o e c session public which n by bytes
