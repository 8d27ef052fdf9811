-- What holds of all files of proofs.
use Rattle.std.specs.Prelude.{◌≡◌, ℕ, ◌<◌, List, length, slice_index_or, Bool, IsTrue}
use Rattle.lzk_layout.specs.declared.params.Params.{Params}
use Rattle.lzk_layout.specs.declared.proof.Proof.{Proof}
use Rattle.lzk_layout.specs.declared.fault.ProofKind.{ProofKind}
use Rattle.lzk_layout.specs.Proofs.{ProofBytes}
use Rattle.lzk_layout.specs.Fields.{Shape, shape, ProofFaultAt}

-- equal proofs, whatever room their paths have
pub record IsSameProof {A : Type 0} (q r : Proof A) : Type 0 where
  pub id : q.id ≡ r.id
  pub root : q.root ≡ r.root
  pub messages : q.messages ≡ r.messages
  pub ldt : q.ldt ≡ r.ldt
  pub dot : q.dot ≡ r.dot
  pub quad_head : q.quad_head ≡ r.quad_head
  pub quad_tail : q.quad_tail ≡ r.quad_tail
  pub nonces : q.nonces ≡ r.nonces
  pub columns : q.columns ≡ r.columns
  pub path : q.path.digests ≡ r.path.digests

-- a file is one proof's
abbrev pub OneProof : {A : Type 0} → ℕ → (A → ℕ) → Params → Type 0
OneProof {A} bytes number p =
    (file : List ℕ) (q r : Proof A) → ProofBytes bytes number p q file → ProofBytes bytes number p r file
    → IsSameProof q r

-- a proof has one file
abbrev pub OneFile : {A : Type 0} → ℕ → (A → ℕ) → Params → Type 0
OneFile {A} bytes number p =
    (q : Proof A) (xs ys : List ℕ) → ProofBytes bytes number p q xs → ProofBytes bytes number p q ys → xs ≡ ys

-- no proof has these bytes as its file
abbrev pub IsNoProof : {A : Type 0} → ℕ → (A → ℕ) → Params → List ℕ → Type 0
IsNoProof {A} bytes number p file = (q : Proof A) → ¬ ProofBytes bytes number p q file

-- bytes that are this proof's file are read as this proof
abbrev pub IsRead : {A : Type 0} → ℕ → (A → ℕ) → Params → Proof A → List ℕ → Bool → Type 0
IsRead {A} bytes number p read file ok =
    (q : Proof A) → ProofBytes bytes number p q file → IsTrue ok × IsSameProof q read

-- bytes have one first fault
abbrev pub OneFault : Shape → Params → Type 0
OneFault shape p =
    (file : List ℕ) (m n : ℕ) (k l : ProofKind) → ProofFaultAt shape p file m k → ProofFaultAt shape p file n l
    → (m ≡ n) × (k ≡ l)

-- no proof's file has a fault
abbrev pub NoFault : {A : Type 0} → ℕ → ℕ → (A → ℕ) → Params → Type 0
NoFault {A} bytes size number p =
    (q : Proof A) (file : List ℕ) (offset : ℕ) (kind : ProofKind) → ProofBytes bytes number p q file
    → ¬ ProofFaultAt (shape bytes size) p file offset kind

-- each number is a byte's
abbrev pub AreBytes : List ℕ → Type 0
AreBytes file = (k : ℕ) → k < length file → slice_index_or file k 0 < 256

-- some proof has these bytes as its file
pub record IsProofFile {A : Type 0} (bytes : ℕ) (number : A → ℕ) (p : Params) (file : List ℕ) : Type 0 where
  pub proof : Proof A
  pub is : ProofBytes bytes number p proof file

-- bytes that have no fault are some proof's file
abbrev pub SomeProof : {A : Type 0} → ℕ → ℕ → (A → ℕ) → Params → Type 0
SomeProof bytes size number p =
    (file : List ℕ) → AreBytes file
    → ((offset : ℕ) (kind : ProofKind) → ¬ ProofFaultAt (shape bytes size) p file offset kind)
    → IsProofFile bytes number p file
