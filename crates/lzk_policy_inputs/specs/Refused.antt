-- When there are no inputs, and why.
use Rattle.std.specs.Prelude.{◌≡◌, ◌≢◌, ℕ, ◌<◌, List, [], ◌∷◌, length, slice_get, MatchOption}
use Rattle.lzk_policy.specs.declared.policy.RecordField.{RecordField}
use Rattle.lzk_sha_circuit.specs.Digest.{digest_words}
use Rattle.lzk_policy.specs.declared.policy.Claim.{Claim}
use Rattle.lzk_policy.specs.declared.policy.Claim.TheVariants as claims
use Rattle.lzk_policy.specs.declared.policy.Show.{Show}
use Rattle.lzk_policy.specs.Policies.{Contents}
use Rattle.lzk_policy_circuit.specs.Meaning.{field_words, piece_number, seal_message, IsTrueOf}
use Rattle.lzk_policy_inputs.specs.declared.value.Value.{Value}
use Rattle.lzk_policy_inputs.specs.declared.error.InputsError.{InputsError}
use Rattle.lzk_policy_inputs.specs.declared.error.InputsError.TheVariants as errors
use Rattle.lzk_policy_inputs.specs.Chosen.{HasKind, numbers_of, piece_of, secret_of}

-- something is shown at this place, of a field and with a value, for which it is so
abbrev pub AtPlace : (RecordField → Claim → Value → Type 0) → List RecordField → List Show → List Value → ℕ → Type 0
AtPlace P fields ss vs k =
    MatchOption (slice_get ss k) ⊥ (λ s. MatchOption (slice_get fields s.field) ⊥ (λ f. MatchOption (slice_get vs k) ⊥
    (λ v. P f s.claim v)))

-- it is so for all that is shown, each thing with its field and its value
abbrev pub AtAll : (RecordField → Claim → Value → Type 0) → List RecordField → List Show → List Value → Type 0
AtAll P fields [] vs = Unit {0}
AtAll P fields (s ∷ ss) [] = ⊥
AtAll P fields (s ∷ ss) (v ∷ vs) =
    MatchOption (slice_get fields s.field) ⊥ (λ f. P f s.claim v) × AtAll P fields ss vs

-- a field of the record m is the seal of a secret
abbrev pub IsSealOf : List ℕ → RecordField → List ℕ → Type 0
IsSealOf m f secret = field_words m f ≡ digest_words (seal_message secret)

-- number k of a field's text is the one that is chosen, and so are all five
abbrev pub IsOwnPiece : List ℕ → RecordField → Value → ℕ → Type 0
IsOwnPiece m f v k = piece_of m f v k ≡ piece_number m f k

abbrev pub AreOwnPieces : List ℕ → RecordField → Value → Type 0
AreOwnPieces m f v =
    IsOwnPiece m f v 0 × IsOwnPiece m f v 1 × IsOwnPiece m f v 2 × IsOwnPiece m f v 3 × IsOwnPiece m f v 4

-- what is shown of a field of the record m is true with a value; a sealed field is the seal of the secret that is given
abbrev pub IsTrueWith : List ℕ → RecordField → Claim → Value → Type 0
IsTrueWith m f (claims.AtMost name) v = IsTrueOf m f (claims.AtMost name) (numbers_of m f (claims.AtMost name) v)
IsTrueWith m f (claims.AtLeast name) v = IsTrueOf m f (claims.AtLeast name) (numbers_of m f (claims.AtLeast name) v)
IsTrueWith m f (claims.Equal name) v = IsTrueOf m f (claims.Equal name) (numbers_of m f (claims.Equal name) v)
IsTrueWith m f (claims.Spelled name) v = AreOwnPieces m f v
IsTrueWith m f (claims.OneOf texts) v = IsTrueOf m f (claims.OneOf texts) (numbers_of m f (claims.OneOf texts) v)
IsTrueWith m f (claims.Pseudonym name) v =
    IsTrueOf m f (claims.Pseudonym name) (numbers_of m f (claims.Pseudonym name) v)
IsTrueWith m f (claims.Sealed name) v = IsSealOf m f (secret_of v)

-- the value is of its kind, and what is shown is true of the record m with it
abbrev pub IsRight : List ℕ → RecordField → Claim → Value → Type 0
IsRight m f c v = HasKind c v × IsTrueWith m f c v

-- its value is of its kind
abbrev pub IsKindAt : Contents → List Value → ℕ → Type 0
IsKindAt p vs k = AtPlace (λ f c v. HasKind c v) p.fields p.shows vs k

-- it is true of the record m with its value
abbrev pub IsTrueAt : Contents → List ℕ → List Value → ℕ → Type 0
IsTrueAt p m vs k = AtPlace (λ f c v. IsTrueWith m f c v) p.fields p.shows vs k

-- the record has the policy's size, there is a value for each thing shown, and before a place each is of its kind and
-- true
pub record IsRightBefore (p : Contents) (m : List ℕ) (vs : List Value) (k : ℕ) : Type 0 where
  pub size : length m ≡ p.size
  pub count : length vs ≡ length p.shows
  pub kinds : (j : ℕ) → j < k → IsKindAt p vs j
  pub truths : (j : ℕ) → j < k → IsTrueAt p m vs j

-- another size; another number of values; the first place at which a value is of another kind; the first place at which
-- what is shown is not true; or memory ran out
abbrev pub IsRefused : Contents → List ℕ → List Value → InputsError → Type 0
IsRefused p m vs errors.Record = length m ≢ p.size
IsRefused p m vs errors.Count = (length m ≡ p.size) × (length vs ≢ length p.shows)
IsRefused p m vs (errors.Kind k) = (k < length p.shows) × IsRightBefore p m vs k × (¬ IsKindAt p vs k)
IsRefused p m vs (errors.False k) =
    (k < length p.shows) × IsRightBefore p m vs k × IsKindAt p vs k × (¬ IsTrueAt p m vs k)
IsRefused p m vs errors.OutOfMemory = Unit {0}
