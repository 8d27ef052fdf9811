-- The private inputs, in the order of docs/POLICY.md.
use Rattle.std.specs.Prelude.{replicate, ℕ, ◌-◌, ◌*◌, ◌/◌, ◌%◌, List, [], ◌∷◌, ◌++◌, map, take, drop, zero, suc}
use Rattle.lzk_goldilocks.specs.Elements.{ops, of_number}
use Rattle.lzk_goldilocks.specs.declared.element.Gold.{Gold}
use Rattle.lzk_sha_circuit.specs.Digest.{digest_words}
use Rattle.lzk_sha_blocks.specs.Witness.{digest_private}
use Rattle.lzk_policy.specs.declared.policy.RecordField.{RecordField}
use Rattle.lzk_policy.specs.declared.policy.Claim.{Claim}
use Rattle.lzk_policy.specs.declared.policy.Claim.TheVariants as claims
use Rattle.lzk_policy.specs.Policies.{Contents}
use Rattle.lzk_policy_circuit.specs.Meaning.{field_number, pseudonym_message, seal_message, sealed_message}
use Rattle.lzk_policy_circuit.specs.Layout.{message_size, seal_size, secret_field, idle_count}
use Rattle.lzk_policy_inputs.specs.declared.value.Value.{Value}
use Rattle.lzk_policy_inputs.specs.Chosen.{number_of, tag_of, secret_of, joined}

-- so many bits of a number, the lowest first
unfoldable pub low_bits : ℕ → ℕ → List Gold
low_bits zero n = []
low_bits (suc k) n = of_number (n % 2) ∷ low_bits k (n / 2)

-- the bits of a difference and of a value
abbrev pub order_bits : ℕ → ℕ → List Gold
order_bits difference value = low_bits 32 difference ++ low_bits 32 value

-- the bits of a message, and the other private inputs of its hash
abbrev pub front_of : ℕ → List ℕ → List Gold
front_of size message = take (8 * size) (digest_private of_number message)

abbrev pub rest_of : ℕ → List ℕ → List Gold
rest_of size message = drop (8 * size) (digest_private of_number message)

-- what goes with what is shown of a field of the record m: bits of a difference and of the value, or of a message,
-- before which, where the field is sealed, those of the seal's message stand and the words of its digest
abbrev pub own_of : List ℕ → RecordField → Claim → Value → List Gold
own_of m f (claims.AtMost name) v = order_bits (number_of m f v - field_number m f) (number_of m f v)
own_of m f (claims.AtLeast name) v = order_bits (field_number m f - number_of m f v) (number_of m f v)
own_of m f (claims.Equal name) v = []
own_of m f (claims.Spelled name) v = []
own_of m f (claims.OneOf texts) v = []
own_of m f (claims.Pseudonym name) v = front_of (message_size f) (pseudonym_message m f (tag_of v))
own_of m f (claims.Sealed name) v =
    (front_of seal_size (seal_message (secret_of v)) ++ map of_number (digest_words (seal_message (secret_of v))))
    ++ front_of (message_size secret_field) (sealed_message (secret_of v) (tag_of v))

-- the rest of a pseudonym's hash, and before it that of a seal's
abbrev pub hashed_of : List ℕ → RecordField → Claim → Value → List Gold
hashed_of m f (claims.AtMost name) v = []
hashed_of m f (claims.AtLeast name) v = []
hashed_of m f (claims.Equal name) v = []
hashed_of m f (claims.Spelled name) v = []
hashed_of m f (claims.OneOf texts) v = []
hashed_of m f (claims.Pseudonym name) v = rest_of (message_size f) (pseudonym_message m f (tag_of v))
hashed_of m f (claims.Sealed name) v =
    rest_of seal_size (seal_message (secret_of v))
    ++ rest_of (message_size secret_field) (sealed_message (secret_of v) (tag_of v))

-- as many zeros as inputs are idle
abbrev pub idle_of : Contents → List Gold
idle_of p = replicate (idle_count p) ops.zero

-- those that have a meaning
abbrev pub meant_of : Contents → List ℕ → List Value → List Gold
meant_of p m vs =
    (front_of p.size m ++ joined (own_of m) p.fields p.shows vs)
    ++ (rest_of p.size m ++ joined (hashed_of m) p.fields p.shows vs)

-- all private inputs
abbrev pub private_of : Contents → List ℕ → List Value → List Gold
private_of p m vs = meant_of p m vs ++ idle_of p
