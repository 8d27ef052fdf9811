-- What goes with what is shown, and the public numbers of it.
use Rattle.std.specs.Prelude.{ℕ, ◌<◌, List, [], ◌∷◌, ◌++◌, map, Option, Some, None, slice_get, slice_index}
use Rattle.lzk_goldilocks.specs.Prime.{p}
use Rattle.lzk_goldilocks.specs.Elements.{of_number}
use Rattle.lzk_goldilocks.specs.declared.element.Gold.{Gold}
use Rattle.lzk_sha_circuit.specs.Digest.{digest_words}
use Rattle.lzk_policy.specs.declared.policy.RecordField.{RecordField}
use Rattle.lzk_policy.specs.declared.policy.Claim.{Claim}
use Rattle.lzk_policy.specs.declared.policy.Claim.TheVariants as claims
use Rattle.lzk_policy.specs.declared.policy.Show.{Show}
use Rattle.lzk_policy.specs.Policies.{Contents}
use Rattle.lzk_policy_circuit.specs.Meaning.{AreBytesOf, field_number, piece_number, tag_words, pseudonym_message, sealed_message}
use Rattle.lzk_policy_inputs.specs.declared.value.Value.{Value}
use Rattle.lzk_policy_inputs.specs.declared.value.Value.TheVariants as values

-- ---- kinds

-- a number of the field
abbrev pub IsNumber : Value → Type 0
IsNumber (values.Number n) = n < p
IsNumber (values.Tag tag) = ⊥
IsNumber (values.Sealed tag secret) = ⊥
IsNumber (values.Spelled numbers) = ⊥
IsNumber values.Own = ⊥

-- none is chosen
abbrev pub IsOwn : Value → Type 0
IsOwn (values.Number n) = ⊥
IsOwn (values.Tag tag) = ⊥
IsOwn (values.Sealed tag secret) = ⊥
IsOwn (values.Spelled numbers) = ⊥
IsOwn values.Own = Unit {0}

-- a number that is told, or the record's own
abbrev pub IsTold : Value → Type 0
IsTold (values.Number n) = n < p
IsTold (values.Tag tag) = ⊥
IsTold (values.Sealed tag secret) = ⊥
IsTold (values.Spelled numbers) = ⊥
IsTold values.Own = Unit {0}

abbrev pub IsTag : Value → Type 0
IsTag (values.Number n) = ⊥
IsTag (values.Tag tag) = AreBytesOf 16 tag
IsTag (values.Sealed tag secret) = ⊥
IsTag (values.Spelled numbers) = ⊥
IsTag values.Own = ⊥

-- a tag and a secret
abbrev pub IsSecret : Value → Type 0
IsSecret (values.Number n) = ⊥
IsSecret (values.Tag tag) = ⊥
IsSecret (values.Sealed tag secret) = AreBytesOf 16 tag × AreBytesOf 16 secret
IsSecret (values.Spelled numbers) = ⊥
IsSecret values.Own = ⊥

-- the numbers of a long text that is told, or the record's own
abbrev pub IsSpelling : Value → Type 0
IsSpelling (values.Number n) = ⊥
IsSpelling (values.Tag tag) = ⊥
IsSpelling (values.Sealed tag secret) = ⊥
IsSpelling (values.Spelled numbers) = Unit {0}
IsSpelling values.Own = Unit {0}

-- the value is of the kind that goes with what is shown
abbrev pub HasKind : Claim → Value → Type 0
HasKind (claims.AtMost name) v = IsNumber v
HasKind (claims.AtLeast name) v = IsNumber v
HasKind (claims.Equal name) v = IsTold v
HasKind (claims.Spelled name) v = IsSpelling v
HasKind (claims.OneOf texts) v = IsOwn v
HasKind (claims.Pseudonym name) v = IsTag v
HasKind (claims.Sealed name) v = IsSecret v

-- ---- public numbers

-- the number that is chosen, or the record's own
abbrev pub number_of : List ℕ → RecordField → Value → ℕ
number_of m f (values.Number n) = n
number_of m f (values.Tag tag) = field_number m f
number_of m f (values.Sealed tag secret) = field_number m f
number_of m f (values.Spelled numbers) = field_number m f
number_of m f values.Own = field_number m f

-- the tag that is chosen
abbrev pub tag_of : Value → List ℕ
tag_of (values.Number n) = []
tag_of (values.Tag tag) = tag
tag_of (values.Sealed tag secret) = tag
tag_of (values.Spelled numbers) = []
tag_of values.Own = []

-- the secret
abbrev pub secret_of : Value → List ℕ
secret_of (values.Number n) = []
secret_of (values.Tag tag) = []
secret_of (values.Sealed tag secret) = secret
secret_of (values.Spelled numbers) = []
secret_of values.Own = []

-- number k of the text that is chosen, or the record's own, and all five
abbrev pub piece_of : List ℕ → RecordField → Value → ℕ → ℕ
piece_of m f (values.Number n) k = piece_number m f k
piece_of m f (values.Tag tag) k = piece_number m f k
piece_of m f (values.Sealed tag secret) k = piece_number m f k
piece_of m f (values.Spelled numbers) k = slice_index numbers k
piece_of m f values.Own k = piece_number m f k

abbrev pub pieces_of : List ℕ → RecordField → Value → List ℕ
pieces_of m f v =
    piece_of m f v 0 ∷ piece_of m f v 1 ∷ piece_of m f v 2 ∷ piece_of m f v 3 ∷ piece_of m f v 4 ∷ []

-- those that go with what is shown of a field of the record m: the number, or the words of the tag and of the pseudonym
abbrev pub numbers_of : List ℕ → RecordField → Claim → Value → List Gold
numbers_of m f (claims.AtMost name) v = of_number (number_of m f v) ∷ []
numbers_of m f (claims.AtLeast name) v = of_number (number_of m f v) ∷ []
numbers_of m f (claims.Equal name) v = of_number (number_of m f v) ∷ []
numbers_of m f (claims.Spelled name) v = map of_number (pieces_of m f v)
numbers_of m f (claims.OneOf texts) v = []
numbers_of m f (claims.Pseudonym name) v =
    map of_number (tag_words (tag_of v)) ++ map of_number (digest_words (pseudonym_message m f (tag_of v)))
numbers_of m f (claims.Sealed name) v =
    map of_number (tag_words (tag_of v)) ++ map of_number (digest_words (sealed_message (secret_of v) (tag_of v)))

-- what a field gives, if there is one
abbrev pub of_field : Option RecordField → (RecordField → List Gold) → List Gold
of_field None g = []
of_field (Some f) g = g f

-- what all that is shown gives, in order, each thing with its field and its value
abbrev pub joined : (RecordField → Claim → Value → List Gold) → List RecordField → List Show → List Value → List Gold
joined g fields [] vs = []
joined g fields (s ∷ ss) [] = []
joined g fields (s ∷ ss) (v ∷ vs) = of_field (slice_get fields s.field) (λ f. g f s.claim v) ++ joined g fields ss vs

-- all public numbers: the words of the record's digest, and those of all that is shown
abbrev pub public_of : Contents → List ℕ → List Value → List Gold
public_of p m vs = map of_number (digest_words m) ++ joined (numbers_of m) p.fields p.shows vs
