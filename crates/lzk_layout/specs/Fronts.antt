-- The front of a proof's file that was read: its whole fields, and the bytes of the next.
use Rattle.lzk_profile.specs.Profile.{most_digests, file_letter}
use Rattle.std.specs.Prelude.{◌≡◌, ◌≢◌, ℕ, ◌+◌, ◌-◌, ◌*◌, ◌<◌, List, [], ◌∷◌, ◌++◌, length, map, take, drop, replicate, Option, Some, None, option_map, unwrap_or, slice_get, slice_index_or}
use Rattle.std.specs.Int.{w32, to_le_bytes, from_le_bytes}
use Rattle.lzk_layout.specs.declared.params.Params.{Params}
use Rattle.lzk_layout.specs.declared.part.ProofPart.{ProofPart}
use Rattle.lzk_layout.specs.declared.part.ProofPart.TheVariants.{Magic, Id, Root, Message, Ldt, Dot, QuadHead, QuadTail, Nonce, Column, Count, Digest}
use Rattle.lzk_layout.specs.declared.cursor.CursorStep.{CursorStep}
use Rattle.lzk_layout.specs.declared.cursor.CursorStep.TheVariants.{Field}
use Rattle.lzk_layout.specs.declared.proof.Proof.{Proof}
use Rattle.lzk_layout.specs.declared.fault.ProofFault.{ProofFault}
use Rattle.lzk_layout.specs.declared.fault.ProofKind.TheVariants as kinds
use Rattle.lzk_layout.specs.Proofs.{flat, fields_of, element_field, ProofBytes}
use Rattle.lzk_layout.specs.Fields.{Shape, shape, IsField, AreFields, ProofFaultAt}
use Rattle.lzk_layout.specs.Files.{AreBytes}
use Rattle.lzk_layout.specs.Parts.{sort_of, part_width, parts, field_place, before_count, number_of, HasPart}

-- the number of digests, once its field is among these
abbrev pub digests_in : Params → List (List ℕ) → Option ℕ
digests_in p fields = option_map (from_le_bytes w32) (slice_get fields (before_count p))

-- the parts of a file, where so many digests are known
abbrev pub known_parts : Params → Option ℕ → List ProofPart
known_parts p digests = parts p (unwrap_or digests 0)

-- the part of the field behind these, where one comes
abbrev pub next_part : Params → List (List ℕ) → Option ProofPart
next_part p fields = slice_get (known_parts p (digests_in p fields)) (length fields)

-- bytes of this part that are not all of it, or none where no part comes
abbrev pub IsUnfinished : Shape → Option ProofPart → List ℕ → Type 0
IsUnfinished s None rest = rest ≡ []
IsUnfinished s (Some part) rest = length rest < part_width s part

-- The bytes are these fields and the rest. The fields are the first of a file's, they are whole and each passes its
-- check, and the field behind them is not whole. So the bytes have no fault but that they end too soon.
pub record IsFront (s : Shape) (p : Params) (bytes : List ℕ) (fields : List (List ℕ)) (rest : List ℕ) : Type 0 where
  pub are : bytes ≡ flat fields ++ rest
  pub pass : AreFields s (map sort_of (take (length fields) (known_parts p (digests_in p fields)))) fields
  pub unfinished : IsUnfinished s (next_part p fields) rest

-- the first fault of the bytes is this one, and not that they end
abbrev pub IsFaulty : Shape → Params → List ℕ → ProofFault → Type 0
IsFaulty s p bytes fault = ProofFaultAt s p bytes fault.offset fault.kind × (fault.kind ≢ kinds.Truncated)

-- This byte behind the bytes ends the field of this part, which passes its check. The block is the field's bytes,
-- followed by zeros, and n their number.
pub record EndsField (s : Shape) (p : Params) (bytes : List ℕ) (byte : ℕ) (part : ProofPart) (block : List ℕ)
    (n : ℕ) : Type 0 where
  pub fields : List (List ℕ)
  pub rest : List ℕ
  pub before : IsFront s p bytes fields rest
  pub next : next_part p fields ≡ Some part
  pub after : IsFront s p (bytes ++ byte ∷ []) (fields ++ (rest ++ byte ∷ []) ∷ []) []
  pub number : n ≡ length rest + 1
  pub is : block ≡ (rest ++ byte ∷ []) ++ replicate (32 - n) 0

-- this byte behind the bytes is one more of a field that is not whole
pub record EndsNone (s : Shape) (p : Params) (bytes : List ℕ) (byte : ℕ) : Type 0 where
  pub fields : List (List ℕ)
  pub rest : List ℕ
  pub before : IsFront s p bytes fields rest
  pub after : IsFront s p (bytes ++ byte ∷ []) fields (rest ++ byte ∷ [])

-- a field of these parameters that passes: its part is one that a file has, and its bytes are the first n of the block
pub record IsWholeField (s : Shape) (p : Params) (part : ProofPart) (block : List ℕ) (n : ℕ) : Type 0 where
  pub has : HasPart p most_digests part
  pub passes : IsField s (sort_of part) (take n block)

-- what holds of a field, where the step ends one
abbrev pub IfField : CursorStep → (ProofPart → List ℕ → ℕ → Type 0) → Type 0
IfField (Field part block n) P = P part block n
IfField _ P = Unit {0}

-- ---- what holds of all fronts

-- bytes have one front
abbrev pub OneFront : Shape → Params → Type 0
OneFront s p =
    (bytes : List ℕ) (fields gs : List (List ℕ)) (rest r : List ℕ) → IsFront s p bytes fields rest
    → IsFront s p bytes gs r
    → (fields ≡ gs) × (rest ≡ r)

-- bytes that are a front have no fault but that they end
abbrev pub FrontIsSound : Shape → Params → Type 0
FrontIsSound s p =
    (bytes : List ℕ) (fields : List (List ℕ)) (rest : List ℕ) (fault : ProofFault) → IsFront s p bytes fields rest
    → ¬ IsFaulty s p bytes fault

-- bytes with a fault that is not their end keep it, whatever comes behind them
abbrev pub FaultStays : Shape → Params → Type 0
FaultStays s p =
    (bytes more : List ℕ) (fault : ProofFault) → IsFaulty s p bytes fault → IsFaulty s p (bytes ++ more) fault

-- the fields of a front are the first of each longer front
abbrev pub FrontGrows : Shape → Params → Type 0
FrontGrows s p =
    (bytes more : List ℕ) (fields gs : List (List ℕ)) (rest r : List ℕ) → IsFront s p bytes fields rest
    → IsFront s p (bytes ++ more) gs r
    → fields ≡ take (length fields) gs

-- each field of a front stands at its place, and passes as its part
abbrev pub FieldsStand : Shape → Params → Type 0
FieldsStand s p =
    (bytes : List ℕ) (fields : List (List ℕ)) (rest : List ℕ) → IsFront s p bytes fields rest
    → (k : ℕ) (part : ProofPart) → k < length fields → slice_get (known_parts p (digests_in p fields)) k ≡ Some part
    → IsField s (sort_of part) (slice_index_or fields k [])
    × (slice_index_or fields k []
    ≡ take (part_width s part) (drop (field_place s p (unwrap_or (digests_in p fields) 0) k) bytes))

-- each part stands at its number, and no other
abbrev pub PartsStand : Params → Type 0
PartsStand p =
    (digests k : ℕ) (part : ProofPart) → slice_get (parts p digests) k ≡ Some part
    → (k ≡ number_of p part) × HasPart p digests part

-- the front of a proof's file is all its fields, and no part comes behind them
abbrev pub FileIsFront : {A : Type 0} → ℕ → ℕ → (A → ℕ) → Params → Type 0
FileIsFront {A} bytes size number p =
    (q : Proof A) (file : List ℕ) → ProofBytes bytes number p q file
    → let fields = fields_of (element_field bytes number) p.nrow q in
    IsFront (shape bytes size) p file fields [] × (next_part p fields ≡ None)

-- a front behind which no part comes is all fields of a proof whose file the bytes are
pub record IsFileOf {A : Type 0} (bytes : ℕ) (number : A → ℕ) (p : Params) (file : List ℕ)
    (fields : List (List ℕ)) : Type 0 where
  pub proof : Proof A
  pub is : ProofBytes bytes number p proof file
  pub fields_are : fields ≡ fields_of (element_field bytes number) p.nrow proof

abbrev pub FrontIsFile : {A : Type 0} → ℕ → ℕ → (A → ℕ) → Params → Type 0
FrontIsFile bytes size number p =
    (file : List ℕ) (fields : List (List ℕ)) (rest : List ℕ) → AreBytes file
    → IsFront (shape bytes size) p file fields rest → next_part p fields ≡ None
    → IsFileOf bytes number p file fields

-- this field is that part of the proof, whose columns have so many elements
abbrev pub IsPartOf : {A : Type 0} → (A → List ℕ) → ℕ → Proof A → ProofPart → List ℕ → Type 0
IsPartOf field rows q Magic f = f ≡ 76 ∷ file_letter ∷ 80 ∷ 49 ∷ []
IsPartOf field rows q Id f = f ≡ q.id
IsPartOf field rows q Root f = f ≡ q.root
IsPartOf field rows q (Message i) f = option_map field (slice_get q.messages i) ≡ Some f
IsPartOf field rows q (Ldt i) f = option_map field (slice_get q.ldt i) ≡ Some f
IsPartOf field rows q (Dot i) f = option_map field (slice_get q.dot i) ≡ Some f
IsPartOf field rows q (QuadHead i) f = option_map field (slice_get q.quad_head i) ≡ Some f
IsPartOf field rows q (QuadTail i) f = option_map field (slice_get q.quad_tail i) ≡ Some f
IsPartOf field rows q (Nonce k) f = slice_get q.nonces k ≡ Some f
IsPartOf field rows q (Column k i) f = option_map field (slice_get q.columns (k * rows + i)) ≡ Some f
IsPartOf field rows q Count f = f ≡ to_le_bytes w32 (length q.path.digests)
IsPartOf field rows q (Digest i) f = slice_get q.path.digests i ≡ Some f

-- the fields of a proof's file are the proof's parts, in their order
abbrev pub FieldsAreParts : {A : Type 0} → ℕ → (A → ℕ) → Params → Type 0
FieldsAreParts {A} bytes number p =
    (q : Proof A) (file : List ℕ) → ProofBytes bytes number p q file → (k : ℕ) (part : ProofPart) (f : List ℕ)
    → slice_get (parts p (length q.path.digests)) k ≡ Some part
    → slice_get (fields_of (element_field bytes number) p.nrow q) k ≡ Some f
    → IsPartOf (element_field bytes number) p.nrow q part f
