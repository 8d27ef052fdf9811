-- What a policy says of a record and of public numbers.
use Rattle.std.specs.Prelude.{◌≡◌, ℕ, ◌+◌, ◌-◌, ◌*◌, ◌^◌, ◌<◌, ◌≤◌, List, [], ◌∷◌, ◌++◌, length, map, take, drop, codes, Contains, MatchOption, slice_get}
use Rattle.lzk_field.specs.Sums.{entry}
use Rattle.lzk_goldilocks.specs.Elements.{ops, of_number}
use Rattle.lzk_goldilocks.specs.declared.element.Gold.{Gold}
use Rattle.lzk_sha_circuit.specs.Digest.{AreBytes, digest_words}
use Rattle.lzk_policy.specs.declared.policy.RecordField.{RecordField}
use Rattle.lzk_policy.specs.declared.policy.Claim.{Claim}
use Rattle.lzk_policy.specs.declared.policy.Claim.TheVariants as claims
use Rattle.lzk_policy.specs.declared.policy.Show.{Show}
use Rattle.lzk_policy.specs.Lines.{number_at}
use Rattle.lzk_policy.specs.Policies.{Contents}

-- so many bytes
pub record AreBytesOf (size : ℕ) (bytes : List ℕ) : Type 0 where
  pub size_is : length bytes ≡ size
  pub bytes_are : AreBytes bytes

-- the number of a field of a record, the first byte worth most
abbrev pub field_number : List ℕ → RecordField → ℕ
field_number m f = number_at m f.place f.size

-- the bytes of a field
abbrev pub field_bytes : List ℕ → RecordField → List ℕ
field_bytes m f = take f.size (drop f.place m)

-- what a pseudonym's message begins with
abbrev pub label : List ℕ
label = codes "LZP1"

-- the message whose digest is the pseudonym for the service with a tag
abbrev pub pseudonym_message : List ℕ → RecordField → List ℕ → List ℕ
pseudonym_message m f tag = label ++ field_bytes m f ++ tag

-- what a seal's message begins with
abbrev pub seal_label : List ℕ
seal_label = codes "LZS1"

-- the message whose digest a sealed field is, and the one whose digest is the pseudonym for the service with a tag
abbrev pub seal_message : List ℕ → List ℕ
seal_message secret = seal_label ++ secret

abbrev pub sealed_message : List ℕ → List ℕ → List ℕ
sealed_message secret tag = label ++ secret ++ tag

-- the bytes of a sealed field as eight numbers, four bytes each
abbrev pub field_words : List ℕ → RecordField → List ℕ
field_words m f =
    number_at m f.place 4 ∷ number_at m (f.place + 4) 4 ∷ number_at m (f.place + 8) 4 ∷
    number_at m (f.place + 12) 4 ∷ number_at m (f.place + 16) 4 ∷ number_at m (f.place + 20) 4 ∷
    number_at m (f.place + 24) 4 ∷ number_at m (f.place + 28) 4 ∷ []

-- a tag of 16 bytes as four numbers
abbrev pub tag_words : List ℕ → List ℕ
tag_words tag = number_at tag 0 4 ∷ number_at tag 4 4 ∷ number_at tag 8 4 ∷ number_at tag 12 4 ∷ []

-- where piece k of a text begins, and how many bytes it has: seven, or as many as are left
abbrev pub piece_start : ℕ → ℕ → ℕ
piece_start size k = size - (size - 7 * k)

abbrev pub piece_size : ℕ → ℕ → ℕ
piece_size size k = size - piece_start size k - (size - piece_start size k - 7)

-- the number of piece k of a field
abbrev pub piece_number : List ℕ → RecordField → ℕ → ℕ
piece_number m f k = number_at m (f.place + piece_start f.size k) (piece_size f.size k)

-- a text of more than seven bytes as five numbers, its first bytes first
abbrev pub piece_numbers : List ℕ → RecordField → List ℕ
piece_numbers m f =
    piece_number m f 0 ∷ piece_number m f 1 ∷ piece_number m f 2 ∷ piece_number m f 3 ∷ piece_number m f 4 ∷ []

-- how many public numbers go with what is shown
abbrev pub value_count : Claim → ℕ
value_count (claims.AtMost value) = 1
value_count (claims.AtLeast value) = 1
value_count (claims.Equal value) = 1
value_count (claims.Spelled value) = 5
value_count (claims.OneOf texts) = 0
value_count (claims.Pseudonym value) = 12
value_count (claims.Sealed value) = 12

-- a service's tag, whose words are the first four numbers, and the digest of the message with this tag, whose words are
-- the other eight
pub record IsPseudonym (m : List ℕ) (f : RecordField) (values : List Gold) : Type 0 where
  pub tag : List ℕ
  pub is_tag : AreBytesOf 16 tag
  pub words : take 4 values ≡ map of_number (tag_words tag)
  pub digest : take 8 (drop 4 values) ≡ map of_number (digest_words (pseudonym_message m f tag))

-- a secret of 16 bytes whose digest with its label before it the field is, a service's tag, whose words are the first
-- four numbers, and the digest of the message of this secret and this tag, whose words are the other eight
pub record IsSealedBy (m : List ℕ) (f : RecordField) (secret : List ℕ) (values : List Gold) : Type 0 where
  pub is_secret : AreBytesOf 16 secret
  pub seal : field_words m f ≡ digest_words (seal_message secret)
  pub tag : List ℕ
  pub is_tag : AreBytesOf 16 tag
  pub words : take 4 values ≡ map of_number (tag_words tag)
  pub digest : take 8 (drop 4 values) ≡ map of_number (digest_words (sealed_message secret tag))

-- what is shown of a field of the record m is true with these public numbers; a date is below 2 ^ 32
abbrev pub IsTrueOf : List ℕ → RecordField → Claim → List Gold → Type 0
IsTrueOf m f (claims.AtMost value) values =
    (field_number m f ≤ (entry ops values 0).n) × ((entry ops values 0).n < 2 ^ 32)
IsTrueOf m f (claims.AtLeast value) values = (entry ops values 0).n ≤ field_number m f
IsTrueOf m f (claims.Equal value) values = (entry ops values 0).n ≡ field_number m f
IsTrueOf m f (claims.Spelled value) values = take 5 values ≡ map of_number (piece_numbers m f)
IsTrueOf m f (claims.OneOf texts) values = Contains texts (field_bytes m f)
IsTrueOf m f (claims.Pseudonym value) values = IsPseudonym m f values
IsTrueOf m f (claims.Sealed value) values = (secret : List ℕ) × IsSealedBy m f secret values

-- what is shown is true: the first public numbers go with what is shown first
abbrev pub AreTrueOf : List ℕ → List RecordField → List Show → List Gold → Type 0
AreTrueOf m fields [] public = Unit {0}
AreTrueOf m fields (s ∷ ss) public =
    MatchOption (slice_get fields s.field) ⊥ (λ f. IsTrueOf m f s.claim public) ×
    AreTrueOf m fields ss (drop (value_count s.claim) public)

-- how many public numbers go with all that is shown
abbrev pub values_of : List Show → ℕ
values_of [] = 0
values_of (s ∷ ss) = value_count s.claim + values_of ss

-- the words of the digest, and then those that go with what is shown
abbrev pub public_count : Contents → ℕ
public_count p = 8 + values_of p.shows

-- m is a record as the policy has it, the public numbers begin with the words of its digest, and all that is shown of
-- it is true with the others
pub record IsShown (p : Contents) (m : List ℕ) (public : List Gold) : Type 0 where
  pub bytes : AreBytesOf p.size m
  pub digest : take 8 public ≡ map of_number (digest_words m)
  pub lines : AreTrueOf m p.fields p.shows (drop 8 public)
