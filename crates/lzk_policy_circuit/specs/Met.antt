-- When inputs satisfy a policy's circuit, in terms of elements: what the statement asserts, and what the hashes do.
use Rattle.std.specs.Prelude.{◌≡◌, ℕ, ◌+◌, ◌*◌, List, [], ◌∷◌, ◌++◌, map, take, drop, slice_get, slice_index, MatchOption, zero, suc, length, nat_le, Bool, true, false}
use Rattle.lzk_field.specs.Sums.{entry}
use Rattle.lzk_goldilocks.specs.Elements.{ops, of_number}
use Rattle.lzk_goldilocks.specs.declared.element.Gold.{Gold}
use Rattle.lzk_gadgets.specs.Inverses.{difference, IsAmong}
use Rattle.lzk_gadgets.specs.Spelled.{worth, Spells}
use Rattle.lzk_sha_blocks.specs.Hashed.{AreHashing}
use Rattle.lzk_policy.specs.declared.policy.RecordField.{RecordField}
use Rattle.lzk_policy.specs.declared.policy.Claim.{Claim}
use Rattle.lzk_policy.specs.declared.policy.Claim.TheVariants as claims
use Rattle.lzk_policy.specs.declared.policy.Show.{Show}
use Rattle.lzk_policy.specs.Lines.{number_at}
use Rattle.lzk_policy.specs.Policies.{Contents}
use Rattle.lzk_policy_circuit.specs.declared.claims.Side.{Side}
use Rattle.lzk_policy_circuit.specs.declared.claims.Side.TheVariants as sides
use Rattle.lzk_policy_circuit.specs.Meaning.{label, seal_label, value_count, piece_start, piece_size}
use Rattle.lzk_policy_circuit.specs.Squares.{IsAtText}
use Rattle.lzk_policy_circuit.specs.Layout.{hash_rest, rest_of_hash, message_size, seal_size, secret_field, own_count, rest_of_claim, stated_count}

-- eight entries from a place on, the last one first
abbrev pub byte_entries : List Gold → ℕ → List Gold
byte_entries xs at =
    entry ops xs (at + 7) ∷ entry ops xs (at + 6) ∷ entry ops xs (at + 5) ∷ entry ops xs (at + 4) ∷
    entry ops xs (at + 3) ∷ entry ops xs (at + 2) ∷ entry ops xs (at + 1) ∷ entry ops xs at ∷ []

-- what they are worth
unfoldable pub byte_worth : List Gold → ℕ → Gold
byte_worth xs at = worth (byte_entries xs at)

-- what the entries of n bytes from a place on are worth, the first byte the most
unfoldable pub number_worth : List Gold → ℕ → ℕ → Gold
number_worth xs at zero = ops.zero
number_worth xs at (suc n) =
    ops.plus (ops.times ops.one (byte_worth xs (at + 8 * n))) (ops.times (of_number 256) (number_worth xs at n))

-- what they are worth one by one
abbrev pub byte_worths : List Gold → ℕ → ℕ → List Gold
byte_worths xs at zero = []
byte_worths xs at (suc n) = byte_worths xs at n ++ byte_worth xs (at + 8 * n) ∷ []

-- the entries of n bytes are worth as much, byte by byte, as those of another list
abbrev pub AreSameBytes : List Gold → ℕ → List Gold → ℕ → ℕ → Type 0
AreSameBytes xs at ys from zero = Unit {0}
AreSameBytes xs at ys from (suc n) =
    AreSameBytes xs at ys from n × (byte_worth xs (at + 8 * n) ≡ byte_worth ys (from + 8 * n))

-- the entries of four bytes are worth the bytes of the label
abbrev pub IsLabelled : List Gold → Type 0
IsLabelled own =
    (byte_worth own 0 ≡ of_number (slice_index label 0)) × (byte_worth own 8 ≡ of_number (slice_index label 1)) ×
    (byte_worth own 16 ≡ of_number (slice_index label 2)) × (byte_worth own 24 ≡ of_number (slice_index label 3))

-- and those of a seal's label
abbrev pub IsSealLabelled : List Gold → Type 0
IsSealLabelled own =
    (byte_worth own 0 ≡ of_number (slice_index seal_label 0)) ×
    (byte_worth own 8 ≡ of_number (slice_index seal_label 1)) ×
    (byte_worth own 16 ≡ of_number (slice_index seal_label 2)) ×
    (byte_worth own 24 ≡ of_number (slice_index seal_label 3))

-- the entries of n numbers of four bytes each are worth as many entries of another list
abbrev pub AreWordsOf : List Gold → ℕ → List Gold → ℕ → ℕ → Type 0
AreWordsOf xs at ys from zero = Unit {0}
AreWordsOf xs at ys from (suc n) =
    AreWordsOf xs at ys from n × (number_worth xs (at + 32 * n) 4 ≡ entry ops ys (from + n))

-- the entries of four numbers of four bytes each are worth the first four public numbers
abbrev pub IsTagged : List Gold → ℕ → List Gold → Type 0
IsTagged own at values =
    (number_worth own at 4 ≡ entry ops values 0) × (number_worth own (at + 32) 4 ≡ entry ops values 1) ×
    (number_worth own (at + 64) 4 ≡ entry ops values 2) × (number_worth own (at + 96) 4 ≡ entry ops values 3)

-- a pseudonym's message begins with the label, goes on with the field and ends with the tag
pub record IsComposed (bits : List Gold) (f : RecordField) (values own : List Gold) : Type 0 where
  pub label_is : IsLabelled own
  pub secret_is : AreSameBytes bits (8 * f.place) own 32 f.size
  pub tag_is : IsTagged own (32 + 8 * f.size) values

-- A seal's message begins with its label, and the words behind it are those of the field. A pseudonym's message stands
-- behind them, and the bytes of its secret are those of the seal's.
pub record IsSealComposed (bits : List Gold) (f : RecordField) (values own : List Gold) : Type 0 where
  pub label_is : IsSealLabelled own
  pub words_are : AreWordsOf bits (8 * f.place) own 160 8
  pub message_is : IsComposed own secret_field values (drop 168 own)

-- a difference is a number of 32 bits, and so is a public number
pub record IsOrdered (less : Gold) (value : Gold) (own : List Gold) : Type 0 where
  pub difference_is : Spells less.n (take 32 own)
  pub value_is : Spells value.n (take 32 (drop 32 own))

-- by how much the greater of a number and a public number passes the other
abbrev pub gap_of : Side → Gold → Gold → Gold
gap_of sides.AtMost number value = difference value number
gap_of sides.AtLeast number value = difference number value

abbrev pub field_worth : List Gold → RecordField → Gold
field_worth bits f = number_worth bits (8 * f.place) f.size

-- the entries of piece k of a field are worth public number k, and so are those of all five pieces
abbrev pub IsPiece : List Gold → RecordField → List Gold → ℕ → Type 0
IsPiece bits f values k =
    number_worth bits (8 * (f.place + piece_start f.size k)) (piece_size f.size k) ≡ entry ops values k

abbrev pub IsSpelledBy : List Gold → RecordField → List Gold → Type 0
IsSpelledBy bits f values =
    IsPiece bits f values 0 × IsPiece bits f values 1 × IsPiece bits f values 2 × IsPiece bits f values 3 ×
    IsPiece bits f values 4

-- the number of a text's bytes as an element
abbrev pub text_element : List ℕ → Gold
text_element text = of_number (number_at text 0 (length text))

-- The entries of n bytes from a place on are worth one of some texts: up to seven bytes by their number, and more by
-- their distance from the text.
abbrev pub IsOneOfBy : Bool → List Gold → ℕ → ℕ → List (List ℕ) → Type 0
IsOneOfBy true bits at n texts = IsAmong (number_worth bits at n) (map text_element texts)
IsOneOfBy false bits at n texts = IsAtText (byte_worths bits at n) texts

abbrev pub IsOneOf : List Gold → ℕ → ℕ → List (List ℕ) → Type 0
IsOneOf bits at n texts = IsOneOfBy (nat_le n 7) bits at n texts

-- what the statement asserts of what is shown of a field
abbrev pub IsStated : List Gold → RecordField → Claim → List Gold → List Gold → Type 0
IsStated bits f (claims.AtMost value) values own =
    IsOrdered (difference (entry ops values 0) (field_worth bits f)) (entry ops values 0) own
IsStated bits f (claims.AtLeast value) values own =
    IsOrdered (difference (field_worth bits f) (entry ops values 0)) (entry ops values 0) own
IsStated bits f (claims.Equal value) values own = field_worth bits f ≡ entry ops values 0
IsStated bits f (claims.Spelled value) values own = IsSpelledBy bits f values
IsStated bits f (claims.OneOf texts) values own = IsOneOf bits (8 * f.place) f.size texts
IsStated bits f (claims.Pseudonym value) values own = IsComposed bits f values own
IsStated bits f (claims.Sealed value) values own = IsSealComposed bits f values own

-- of all that is shown: the first public numbers and the first own inputs go with what is shown first
abbrev pub AreStated : List Gold → List RecordField → List Show → List Gold → List Gold → Type 0
AreStated bits fields [] public own = Unit {0}
AreStated bits fields (s ∷ ss) public own =
    MatchOption (slice_get fields s.field) ⊥ (λ f. IsStated bits f s.claim public own) ×
    AreStated bits fields ss (drop (value_count s.claim) public) (drop (own_count fields s) own)

-- the hash of a seal's message, whose digest's words stand behind its bits, and that of the message of its secret
pub record AreSealHashed (values own rests : List Gold) : Type 0 where
  pub seal : AreHashing ops of_number seal_size (take 8 (drop 160 own))
      (take (8 * seal_size) own ++ take hash_rest rests)
  pub message : AreHashing ops of_number (message_size secret_field) (take 8 (drop 4 values))
      (take (8 * message_size secret_field) (drop 168 own) ++ take hash_rest (drop hash_rest rests))

-- the hash of a pseudonym's message
abbrev pub IsHashed : RecordField → Claim → List Gold → List Gold → List Gold → Type 0
IsHashed f (claims.Pseudonym value) values own rests =
    AreHashing ops of_number (message_size f) (take 8 (drop 4 values))
    (take (8 * message_size f) own ++ take hash_rest rests)
IsHashed f (claims.Sealed value) values own rests = AreSealHashed values own rests
IsHashed f (claims.AtMost value) values own rests = Unit {0}
IsHashed f (claims.AtLeast value) values own rests = Unit {0}
IsHashed f (claims.Equal value) values own rests = Unit {0}
IsHashed f (claims.Spelled value) values own rests = Unit {0}
IsHashed f (claims.OneOf texts) values own rests = Unit {0}

abbrev pub AreHashed : List RecordField → List Show → List Gold → List Gold → List Gold → Type 0
AreHashed fields [] public own rests = Unit {0}
AreHashed fields (s ∷ ss) public own rests =
    MatchOption (slice_get fields s.field) ⊥ (λ f. IsHashed f s.claim public own rests) ×
    AreHashed fields ss (drop (value_count s.claim) public) (drop (own_count fields s) own)
    (drop (rest_of_claim s.claim) rests)

-- the inputs satisfy the policy's circuit; of the private ones the first are the statement's
pub record Satisfy (p : Contents) (public private : List Gold) : Type 0 where
  pub stated : AreStated (take (stated_count p) private) p.fields p.shows (drop 8 public)
      (drop (8 * p.size) (take (stated_count p) private))
  pub hashed : AreHashing ops of_number p.size (take 8 public)
      (take (8 * p.size) (take (stated_count p) private) ++
      take (rest_of_hash p.size) (drop (stated_count p) private))
  pub pseudonyms : AreHashed p.fields p.shows (drop 8 public)
      (drop (8 * p.size) (take (stated_count p) private)) (drop (stated_count p + rest_of_hash p.size) private)
