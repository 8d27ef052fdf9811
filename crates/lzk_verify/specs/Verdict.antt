-- What a verifier answers to bytes.
use Rattle.std.specs.Prelude.{◌≡◌, ◌⊎◌, ◌↔◌, ℕ, List, length}
use Rattle.lzk_field.specs.Coding.{Coding}
use Rattle.lzk_field.specs.Ring.{Ops}
use Rattle.lzk_circuit.specs.Valid.{Wiring}
use Rattle.lzk_layout.specs.declared.fault.ProofFault.{ProofFault}
use Rattle.lzk_layout.specs.declared.params.Params.{Params}
use Rattle.lzk_layout.specs.declared.proof.Proof.{Proof}
use Rattle.lzk_layout.specs.Sizes.{params_of}
use Rattle.lzk_layout.specs.Proofs.{ProofBytes}
use Rattle.lzk_layout.specs.Fields.{shape, ProofFaultAt}
use Rattle.lzk_layout.specs.Files.{AreBytes}
use Rattle.lzk_accept.specs.Challenges.{Transcript, transcript}
use Rattle.lzk_accept.specs.Checks.{wanted_of, combined_row_of, found_sum, HasLinearSum, IsLowDegree, IsLinear, IsQuadratic, AtEach, FailsFirst}
use Rattle.lzk_verify.specs.declared.verdict.Verdict.{Verdict}
use Rattle.lzk_verify.specs.declared.verdict.Verdict.TheVariants.{Accepted, Format, CircuitId, PathCount, Root, LowDegree, LinearSum, Linear, Quadratic}
use Rattle.lzk_circbytes.specs.Files.{id_of}
use Rattle.lzk_verify.specs.Checks.{HasCircuitId, needed_digests, HasPathCount, found_root, HasRoot}

-- all that the tape gives to a proof, for a circuit, a session and public inputs
abbrev pub given : {A : Type 0} → Ops A → Coding A → Wiring A → List ℕ → List A → Proof A → Transcript A
given o e c session public proof = transcript o e c session (id_of e c) public proof

module _ {A : Type 0} (o : Ops A) (e : Coding A) (c : Wiring A) (p : Params) (public : List A) (proof : Proof A)
    (t : Transcript A) where
  -- at the k-th opened column, the low degree answer is what the rows give
  abbrev pub LowDegreeAt : ℕ → Type 0
  LowDegreeAt k = IsLowDegree o p proof e.element t.columns t.challenges.u k

  -- the sum that is wanted of the linear answer's values
  abbrev pub wanted_sum : A
  wanted_sum = wanted_of o e.element c public t.script proof.messages t.challenges

  -- the rows of combined coefficients
  abbrev pub combined_rows : ℕ → List A
  combined_rows = combined_row_of o e.element c public t.script proof.messages t.challenges

  -- at the k-th opened column, the linear answer is what the rows give
  abbrev pub LinearAt : ℕ → Type 0
  LinearAt k = IsLinear o p proof e.element t.columns combined_rows k

  -- at the k-th opened column, the quadratic answer is what the rows give
  abbrev pub QuadraticAt : ℕ → Type 0
  QuadraticAt k = IsQuadratic o p proof e.element t.columns t.challenges.v k

-- where the check fails, the one; where it holds, the other
abbrev pub Unless : Type 0 → Type 0 → Type 0 → Type 0
Unless Check failed next = (¬ Check × failed) ⊎ (Check × next)

-- where a check fails at a column, the one, of the least such column; where it fails at none, the other
abbrev pub UnlessAt : List ℕ → (ℕ → Type 0) → (ℕ → Type 0) → Type 0 → Type 0
UnlessAt columns CheckAt failed next =
    ((column : ℕ) × (FailsFirst columns CheckAt column × failed column)) ⊎ (AtEach columns CheckAt × next)

-- The verdict on a proof that has the circuit's id and leads to its root, for parameters p: the first check of its
-- answers that fails, with what was found, or that none fails.
abbrev pub AreAnswersJudged : {A : Type 0} → Ops A → Coding A → Wiring A → Params → List A → Proof A → Transcript A
    → Verdict A
    → Type 0
AreAnswersJudged o e c p public proof t v =
    UnlessAt t.columns (LowDegreeAt o e c p public proof t) (λ column. v ≡ LowDegree column) (Unless
    (HasLinearSum o p proof (wanted_sum o e c p public proof t))
    (v ≡ LinearSum (found_sum o p proof) (wanted_sum o e c p public proof t)) (UnlessAt t.columns
    (LinearAt o e c p public proof t) (λ column. v ≡ Linear column)
    (UnlessAt t.columns (QuadraticAt o e c p public proof t) (λ column. v ≡ Quadratic column) (v ≡ Accepted))))

-- the verdict on a proof that was read: the first check that fails, with what was found, or that none fails
unfoldable pub IsJudged : {A : Type 0} → Ops A → Coding A → Wiring A → Params → List A → Proof A → Transcript A
    → Verdict A
    → Type 0
IsJudged o e c p public proof t v =
    Unless (HasCircuitId e c proof) (v ≡ CircuitId proof.id)
    (Unless (HasPathCount p proof t.columns) (v ≡ PathCount (length proof.path.digests) (needed_digests p t.columns))
    (Unless (HasRoot o e p proof t.columns) (v ≡ Root (found_root o e p proof t.columns))
    (AreAnswersJudged o e c p public proof t v)))

-- the bytes are no proof's file, and this is their first fault
pub record HasFault {A : Type 0} (e : Coding A) (c : Wiring A) (bytes : List ℕ) (v : Verdict A) : Type 0 where
  pub fault : ProofFault
  pub first : ProofFaultAt (shape e.bytes e.size) (params_of c) bytes fault.offset fault.kind
  pub is : v ≡ Format fault

-- the bytes are the file of a proof, and this is the verdict on it
pub record HasProof {A : Type 0} (o : Ops A) (e : Coding A) (c : Wiring A) (session : List ℕ) (public : List A)
    (bytes : List ℕ) (v : Verdict A) : Type 0 where
  pub proof : Proof A
  pub read : ProofBytes e.bytes e.number (params_of c) proof bytes
  pub judged : IsJudged o e c (params_of c) public proof (given o e c session public proof) v

-- the verdict on bytes: the first check that they fail, beginning with those of the format, or that they fail none
unfoldable pub IsVerdict : {A : Type 0} → Ops A → Coding A → Wiring A → List ℕ → List A → List ℕ → Verdict A → Type 0
IsVerdict o e c session public bytes v = HasFault e c bytes v ⊎ HasProof o e c session public bytes v

-- the bytes are the file of this proof, over this circuit, with the digests and the root that its opened columns give
pub record OpensFile {A : Type 0} (o : Ops A) (e : Coding A) (c : Wiring A) (session : List ℕ) (public : List A)
    (bytes : List ℕ) (proof : Proof A) : Type 0 where
  pub format : ProofBytes e.bytes e.number (params_of c) proof bytes
  pub circuit_id : HasCircuitId e c proof
  pub path_count : HasPathCount (params_of c) proof (given o e c session public proof).columns
  pub root : HasRoot o e (params_of c) proof (given o e c session public proof).columns

-- at each opened column the three answers are what the rows give
pub record PassesColumns {A : Type 0} (o : Ops A) (e : Coding A) (c : Wiring A) (session : List ℕ) (public : List A)
    (proof : Proof A) : Type 0 where
  pub low_degree : AtEach (given o e c session public proof).columns
      (LowDegreeAt o e c (params_of c) public proof (given o e c session public proof))
  pub linear : AtEach (given o e c session public proof).columns
      (LinearAt o e c (params_of c) public proof (given o e c session public proof))
  pub quadratic : AtEach (given o e c session public proof).columns
      (QuadraticAt o e c (params_of c) public proof (given o e c session public proof))

-- All checks hold: what acceptance means.
pub record AllHold {A : Type 0} (o : Ops A) (e : Coding A) (c : Wiring A) (session : List ℕ) (public : List A)
    (bytes : List ℕ) : Type 0 where
  pub proof : Proof A
  pub opens : OpensFile o e c session public bytes proof
  pub sum : HasLinearSum o (params_of c) proof
      (wanted_sum o e c (params_of c) public proof (given o e c session public proof))
  pub columns : PassesColumns o e c session public proof

-- this verdict alone is that on the bytes
abbrev pub IsOnlyVerdict : {A : Type 0} → Ops A → Coding A → Wiring A → List ℕ → List A → List ℕ → Verdict A → Type 0
IsOnlyVerdict {A} o e c session public bytes v = (w : Verdict A) → IsVerdict o e c session public bytes w → w ≡ v

-- the bytes are accepted exactly where all checks hold
abbrev pub AcceptsExactly : {A : Type 0} → Ops A → Coding A → Wiring A → List ℕ → List A → List ℕ → Type 0
AcceptsExactly o e c session public bytes =
    IsVerdict o e c session public bytes Accepted ↔ AllHold o e c session public bytes

-- bytes have one verdict at most
abbrev pub OneVerdict : {A : Type 0} → Ops A → Coding A → Type 0
OneVerdict {A} o e =
    (c : Wiring A) (session : List ℕ) (public : List A) (bytes : List ℕ) (v w : Verdict A)
    → IsVerdict o e c session public bytes v → IsVerdict o e c session public bytes w
    → v ≡ w

-- bytes have a verdict
abbrev pub SomeVerdict : {A : Type 0} → Ops A → Coding A → Type 0
SomeVerdict {A} o e =
    (c : Wiring A) (session : List ℕ) (public : List A) (bytes : List ℕ) → AreBytes bytes
    → (v : Verdict A) × IsVerdict o e c session public bytes v
