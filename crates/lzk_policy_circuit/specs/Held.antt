-- Whoever has private inputs that satisfy a policy's circuit has a record, and the secrets that it seals as far as a
-- pseudonym is shown of them: they stand in the inputs.
use Rattle.std.specs.Prelude.{◌≡◌, ℕ, ◌*◌, List, [], ◌∷◌, length, map, take, drop, slice_get, MatchOption}
use Rattle.lzk_goldilocks.specs.Elements.{of_number}
use Rattle.lzk_goldilocks.specs.declared.element.Gold.{Gold}
use Rattle.lzk_sha_circuit.specs.Digest.{message_bits}
use Rattle.lzk_policy.specs.declared.policy.RecordField.{RecordField}
use Rattle.lzk_policy.specs.declared.policy.Claim.{Claim}
use Rattle.lzk_policy.specs.declared.policy.Claim.TheVariants as claims
use Rattle.lzk_policy.specs.declared.policy.Show.{Show}
use Rattle.lzk_policy.specs.Policies.{Contents, IsPolicy}
use Rattle.lzk_policy_circuit.specs.Layout.{private_count, own_count, seal_size, stated_count}
use Rattle.lzk_policy_circuit.specs.Meaning.{public_count, seal_message, value_count, IsShown, IsSealedBy}
use Rattle.lzk_policy_circuit.specs.Met.{Satisfy}

-- the own inputs begin with the bits of LZS1 and a secret, and it is the secret of the pseudonym
pub record HoldsSecret (m : List ℕ) (f : RecordField) (values own : List Gold) : Type 0 where
  pub secret : List ℕ
  pub sealed : IsSealedBy m f secret values
  pub bits : take (8 * seal_size) own ≡ map of_number (message_bits (seal_message secret))

-- the own inputs of what is shown of a field hold the secret, where it is sealed
abbrev pub IsSecretHeld : List ℕ → RecordField → Claim → List Gold → List Gold → Type 0
IsSecretHeld m f (claims.Sealed value) values own = HoldsSecret m f values own
IsSecretHeld m f (claims.Pseudonym value) values own = Unit {0}
IsSecretHeld m f (claims.AtMost value) values own = Unit {0}
IsSecretHeld m f (claims.AtLeast value) values own = Unit {0}
IsSecretHeld m f (claims.Equal value) values own = Unit {0}
IsSecretHeld m f (claims.Spelled value) values own = Unit {0}
IsSecretHeld m f (claims.OneOf texts) values own = Unit {0}

-- and so do those of all that is shown
abbrev pub AreSecretsHeld : List ℕ → List RecordField → List Show → List Gold → List Gold → Type 0
AreSecretsHeld m fields [] public own = Unit {0}
AreSecretsHeld m fields (s ∷ ss) public own =
    MatchOption (slice_get fields s.field) ⊥ (λ f. IsSecretHeld m f s.claim public own) ×
    AreSecretsHeld m fields ss (drop (value_count s.claim) public) (drop (own_count fields s) own)

-- The private inputs begin with the bits of m, byte by byte, and m is a record with the public digest of which all that
-- is shown is true. The bits of two records are not the same, so it is the only one. Behind them stand those of the
-- sealed secrets of which a pseudonym is shown.
pub record HoldsRecord (p : Contents) (public private : List Gold) : Type 0 where
  pub m : List ℕ
  pub shown : IsShown p m public
  pub bits : take (8 * p.size) private ≡ map of_number (message_bits m)
  pub secrets : AreSecretsHeld m p.fields p.shows (drop 8 public) (drop (8 * p.size) (take (stated_count p) private))

-- private inputs that satisfy the circuit hold a record
abbrev pub RecordsAreHeld : Type 0
RecordsAreHeld =
    (p : Contents) (public private : List Gold) → IsPolicy p → length public ≡ public_count p
    → length private ≡ private_count p → Satisfy p public private → HoldsRecord p public private
