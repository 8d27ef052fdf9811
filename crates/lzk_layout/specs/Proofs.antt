-- Proofs, and the bytes of their files.
use Rattle.lzk_profile.specs.Profile.{opened_count, most_digests, file_letter}
use Rattle.std.specs.Prelude.{◌≡◌, ℕ, ◌-◌, ◌*◌, ◌<◌, ◌≤◌, List, [], ◌∷◌, ◌++◌, length, map, take, drop, replicate, slice_index_or}
use Rattle.std.specs.Int.{w32, to_le_bytes}
use Rattle.lzk_field.specs.Ring.{Ops}
use Rattle.lzk_field.specs.Bytes.{bytes_of}
use Rattle.lzk_layout.specs.declared.params.Params.{Params}
use Rattle.lzk_layout.specs.declared.proof.Proof.{Proof}

-- fields one after the other
abbrev pub flat : List (List ℕ) → List ℕ
flat [] = []
flat (f ∷ fs) = f ++ flat fs

-- an element as a field
abbrev pub element_field : {A : Type 0} → ℕ → (A → ℕ) → A → List ℕ
element_field bytes number x = bytes_of bytes (number x)

-- the opened columns: to each nonce its column, of so many elements
abbrev pub opened_fields : {A : Type 0} → (A → List ℕ) → ℕ → List (List ℕ) → List A → List (List ℕ)
opened_fields field rows [] columns = []
opened_fields field rows (n ∷ ns) columns =
    n ∷ (map field (take rows columns) ++ opened_fields field rows ns (drop rows columns))

-- the bytes of the elements that are no columns'
abbrev pub answers_bytes : {A : Type 0} → (A → List ℕ) → Proof A → List ℕ
answers_bytes field proof =
    flat (map field proof.messages) ++ (flat (map field proof.ldt)
    ++ (flat (map field proof.dot) ++ (flat (map field proof.quad_head) ++ flat (map field proof.quad_tail))))

-- all fields of a proof's file: its first word (`LZP1` in LZK1), the circuit's id, the root, the elements sent, the
-- opened columns, and the path behind its count
abbrev pub fields_of : {A : Type 0} → (A → List ℕ) → ℕ → Proof A → List (List ℕ)
fields_of field rows proof =
    (76 ∷ file_letter ∷ 80 ∷ 49 ∷ []) ∷ proof.id ∷ proof.root ∷ (map field proof.messages ++ (map field proof.ldt
    ++ (map field proof.dot ++ (map field proof.quad_head ++ (map field proof.quad_tail
    ++ (opened_fields field rows proof.nonces proof.columns
    ++ (to_le_bytes w32 (length proof.path.digests) ∷ proof.path.digests)))))))

-- digests of 32 bytes each
abbrev pub AreDigests : List (List ℕ) → Type 0
AreDigests list = (k : ℕ) → k < length list → length (slice_index_or list k []) ≡ 32

-- a proof whose lists are as long as the parameters say
pub record HasLengths {A : Type 0} (p : Params) (proof : Proof A) : Type 0 where
  pub messages : length proof.messages ≡ p.nsum
  pub ldt : length proof.ldt ≡ p.block
  pub dot : length proof.dot ≡ p.dblock
  pub quad_head : length proof.quad_head ≡ opened_count
  pub quad_tail : length proof.quad_tail ≡ p.dblock - p.block
  pub nonces : length proof.nonces ≡ opened_count
  pub columns : length proof.columns ≡ opened_count * p.nrow

-- The bytes are the file of a proof, for elements of so many bytes: its fields in order, with the parameters' lengths
-- and no more digests than a path may have.
pub record ProofBytes {A : Type 0} (bytes : ℕ) (number : A → ℕ) (p : Params) (proof : Proof A)
    (file : List ℕ) : Type 0 where
  pub lengths : HasLengths p proof
  pub few : length proof.path.digests ≤ most_digests
  pub id : length proof.id ≡ 32
  pub root : length proof.root ≡ 32
  pub nonces : AreDigests proof.nonces
  pub path : AreDigests proof.path.digests
  pub are : file ≡ flat (fields_of (element_field bytes number) p.nrow proof)

abbrev pub zero_digest : List ℕ
zero_digest = replicate 32 0

-- all elements and bytes are zero, the path is empty, and there is room for as many digests as a path may have
abbrev pub zero_proof : {A : Type 0} → Ops A → Params → Proof A
zero_proof o p = record {
  id = zero_digest;
  root = zero_digest;
  messages = replicate p.nsum o.zero;
  ldt = replicate p.block o.zero;
  dot = replicate p.dblock o.zero;
  quad_head = replicate opened_count o.zero;
  quad_tail = replicate (p.dblock - p.block) o.zero;
  nonces = replicate opened_count zero_digest;
  columns = replicate (opened_count * p.nrow) o.zero;
  path = record { digests = []; room = most_digests };
}
