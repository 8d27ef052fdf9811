-- Where the private inputs of a policy's circuit stand. In order: the bits of the record, the highest of a byte first;
-- for what is shown, one after another, bits of differences and of dates, the lowest first, and those of a pseudonym's
-- message, before which, where the field is sealed, those of the seal's message stand and the words of its digest; the
-- rest of the record's hash; the rests of the pseudonyms' hashes, a seal's first.
use Rattle.std.specs.Prelude.{ℕ, ◌+◌, ◌-◌, ◌*◌, nat_lt, max, if◌then◌else◌, List, [], ◌∷◌, slice_get, Option, Some, None}
use Rattle.lzk_policy.specs.declared.policy.FieldKind.TheVariants as kinds
use Rattle.lzk_policy.specs.declared.policy.RecordField.{RecordField}
use Rattle.lzk_policy.specs.declared.policy.Claim.{Claim}
use Rattle.lzk_policy.specs.declared.policy.Claim.TheVariants as claims
use Rattle.lzk_policy.specs.declared.policy.Show.{Show}
use Rattle.lzk_policy.specs.Policies.{Contents}
use Rattle.lzk_sha_blocks.specs.Layout.{blocks}

-- the private inputs of a hash of one block beside the bits of its message
abbrev pub hash_rest : ℕ
hash_rest = 6376

-- and of a hash of so many bytes: as many for each block, and between two blocks the words of the state
abbrev pub rest_of_hash : ℕ → ℕ
rest_of_hash size = 6384 * blocks size - 8

-- the bytes of a pseudonym's message: label, secret and tag
abbrev pub message_size : RecordField → ℕ
message_size f = 4 + f.size + 16

-- the field that the secret is in a seal's message
abbrev pub secret_field : RecordField
secret_field = record { name = []; kind = kinds.Bytes; place = 4; size = 16 }

-- the bytes of a seal's message: label and secret
abbrev pub seal_size : ℕ
seal_size = 20

-- the bits that go with what is shown of a field
abbrev pub own_of_claim : RecordField → Claim → ℕ
own_of_claim f (claims.AtMost value) = 64
own_of_claim f (claims.AtLeast value) = 64
own_of_claim f (claims.Equal value) = 0
own_of_claim f (claims.Spelled value) = 0
own_of_claim f (claims.OneOf texts) = 0
own_of_claim f (claims.Pseudonym value) = 8 * message_size f
own_of_claim f (claims.Sealed value) = 8 * seal_size + 8 + 8 * message_size secret_field

abbrev pub rest_of_claim : Claim → ℕ
rest_of_claim (claims.Pseudonym value) = hash_rest
rest_of_claim (claims.Sealed value) = 2 * hash_rest
rest_of_claim (claims.AtMost value) = 0
rest_of_claim (claims.AtLeast value) = 0
rest_of_claim (claims.Equal value) = 0
rest_of_claim (claims.Spelled value) = 0
rest_of_claim (claims.OneOf texts) = 0

-- a count that goes with what is shown of a field, and of all that is shown
abbrev pub count_of : (RecordField → Claim → ℕ) → Option RecordField → Claim → ℕ
count_of each None claim = 0
count_of each (Some f) claim = each f claim

abbrev pub total_of : (RecordField → Claim → ℕ) → List RecordField → List Show → ℕ
total_of each fields [] = 0
total_of each fields (s ∷ ss) = count_of each (slice_get fields s.field) s.claim + total_of each fields ss

abbrev pub own_of : Option RecordField → Claim → ℕ
own_of = count_of own_of_claim

abbrev pub own_count : List RecordField → Show → ℕ
own_count fields s = own_of (slice_get fields s.field) s.claim

abbrev pub owns_of : List RecordField → List Show → ℕ
owns_of = total_of own_of_claim

abbrev pub rests_of : List Show → ℕ
rests_of [] = 0
rests_of (s ∷ ss) = rest_of_claim s.claim + rests_of ss

-- how many private inputs the statement has, and how many have a meaning
abbrev pub stated_count : Contents → ℕ
stated_count p = 8 * p.size + owns_of p.fields p.shows

abbrev pub needed_count : Contents → ℕ
needed_count p = stated_count p + (rest_of_hash p.size + rests_of p.shows)

-- With idle ones behind them, where these make a proof shorter: past 16384 committed numbers a row has 256 of them and
-- not 128, so that there are half as many rows.
unfoldable pub padded : ℕ → ℕ
padded needed = if nat_lt needed 9000 then needed else max needed 16384

-- how many private inputs the whole circuit has
abbrev pub private_count : Contents → ℕ
private_count p = padded (needed_count p)

-- how many of them are idle
abbrev pub idle_count : Contents → ℕ
idle_count p = private_count p - needed_count p

-- how many asserts the statement has for what is shown of a field, and for all
abbrev pub asserts_of_claim : RecordField → Claim → ℕ
asserts_of_claim f (claims.AtMost value) = 66
asserts_of_claim f (claims.AtLeast value) = 66
asserts_of_claim f (claims.Equal value) = 1
asserts_of_claim f (claims.Spelled value) = 5
asserts_of_claim f (claims.OneOf texts) = 1
asserts_of_claim f (claims.Pseudonym value) = 8 + f.size
asserts_of_claim f (claims.Sealed value) = 36

abbrev pub asserts_of_field : Option RecordField → Claim → ℕ
asserts_of_field = count_of asserts_of_claim

abbrev pub asserts_of : List RecordField → List Show → ℕ
asserts_of = total_of asserts_of_claim
