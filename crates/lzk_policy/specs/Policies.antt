-- Policies, and the texts that are some.
use Rattle.std.specs.Prelude.{◌≡◌, ℕ, ◌+◌, ◌≤◌, nat_lt, nat_le, ◌==◌, ◌&&◌, ◌||◌, Bool, true, false, not, IsTrue, List, [], ◌∷◌, ◌++◌, length, Option, Some, None, Result, Ok, Err, slice_get, is_some, if◌then◌else◌}
use Rattle.std.specs.Str.{bytes_eq}
use Rattle.std.specs.List.{list_all, AllByRecursion}
use Rattle.lzk_profile.specs.Profile.{most_levels}
use Rattle.lzk_expr.specs.Texts.{lines}
use Rattle.lzk_policy.specs.declared.policy.FieldKind.{FieldKind}
use Rattle.lzk_policy.specs.declared.policy.FieldKind.TheVariants as kinds
use Rattle.lzk_policy.specs.declared.policy.RecordField.{RecordField}
use Rattle.lzk_policy.specs.declared.policy.Claim.{Claim}
use Rattle.lzk_policy.specs.declared.policy.Claim.TheVariants as claims
use Rattle.lzk_policy.specs.declared.policy.Show.{Show}
use Rattle.lzk_policy.specs.declared.line.Line.{Line}
use Rattle.lzk_policy.specs.declared.line.Line.TheVariants as lines
use Rattle.lzk_policy.specs.declared.fault.PolicyKind.{PolicyKind}
use Rattle.lzk_policy.specs.declared.fault.PolicyKind.TheVariants as faults
use Rattle.lzk_policy.specs.declared.fault.PolicyFault.{PolicyFault}
use Rattle.lzk_policy.specs.declared.fault.PolicyError.{PolicyError}
use Rattle.lzk_policy.specs.declared.fault.PolicyError.TheVariants as whole_errors
use Rattle.lzk_policy.specs.declared.fault.LineError.{LineError}
use Rattle.lzk_policy.specs.declared.fault.LineError.TheVariants as errors
use Rattle.lzk_policy.specs.declared.draft.Draft.{Draft}
use Rattle.lzk_policy.specs.Lines.{line_of, is_skipped, most_texts}

-- what a policy says: how many bytes a record has, how many levels the root that is shown stands above its digest
-- (none, where the digest is shown), where its fields stand, and what else is shown of it
pub record Contents : Type 0 where
  pub size : ℕ
  pub depth : ℕ
  pub fields : List RecordField
  pub shows : List Show

-- ---- what may stand in a policy

-- a record is one block of SHA-256 or two, and a pseudonym's message one
abbrev pub most_bytes : ℕ
most_bytes = 119

abbrev pub most_message : ℕ
most_message = 55

-- a date has four bytes, a text one to 32, other bytes one or more, a sealed secret the 32 of its digest
abbrev pub has_size : FieldKind → ℕ → Bool
has_size kinds.Date size = size == 4
has_size kinds.Text size = nat_le 1 size && nat_le size 32
has_size kinds.Bytes size = nat_le 1 size
has_size kinds.Sealed size = size == 32

-- the field's bytes are bytes of the record
abbrev pub lies_within : ℕ → RecordField → Bool
lies_within size f = nat_le (f.place + f.size) size

abbrev pub is_date : FieldKind → Bool
is_date kinds.Date = true
is_date kinds.Text = false
is_date kinds.Bytes = false
is_date kinds.Sealed = false

abbrev pub is_text : FieldKind → Bool
is_text kinds.Text = true
is_text kinds.Date = false
is_text kinds.Bytes = false
is_text kinds.Sealed = false

abbrev pub is_bytes : FieldKind → Bool
is_bytes kinds.Bytes = true
is_bytes kinds.Date = false
is_bytes kinds.Text = false
is_bytes kinds.Sealed = false

abbrev pub is_sealed : FieldKind → Bool
is_sealed kinds.Sealed = true
is_sealed kinds.Date = false
is_sealed kinds.Text = false
is_sealed kinds.Bytes = false

-- a text whose bytes are one number, and one whose bytes are several
abbrev pub is_short : RecordField → Bool
is_short f = is_text f.kind && nat_le f.size 7

abbrev pub is_long : RecordField → Bool
is_long f = is_text f.kind && nat_lt 7 f.size

-- bytes, so many of them, and texts of so many each
abbrev pub are_bytes : List ℕ → Bool
are_bytes text = list_all (λ b. nat_lt b 256) text

abbrev pub is_text_of : ℕ → List ℕ → Bool
is_text_of size text = (length text == size) && are_bytes text

abbrev pub are_texts_of : ℕ → List (List ℕ) → Bool
are_texts_of size texts = list_all (is_text_of size) texts

-- the bytes of a pseudonym's label, and those of a service's tag
abbrev pub label_size : ℕ
label_size = 4

abbrev pub tag_size : ℕ
tag_size = 16

-- A date is compared, a date or a text is told, a text is one of some of its size, and a pseudonym is made of bytes
-- that are one block together with label and tag, or of the secret of a sealed field.
abbrev pub suits : RecordField → Claim → Bool
suits f (claims.AtMost value) = is_date f.kind
suits f (claims.AtLeast value) = is_date f.kind
suits f (claims.Equal value) = is_date f.kind || is_short f
suits f (claims.Spelled value) = is_long f
suits f (claims.OneOf texts) = is_text f.kind && nat_le (length texts) most_texts && are_texts_of f.size texts
suits f (claims.Pseudonym value) = is_bytes f.kind && nat_le (label_size + f.size + tag_size) most_message
suits f (claims.Sealed value) = is_sealed f.kind && (f.size == 32)

-- what a line shows of a sealed field: a pseudonym is that of the secret
abbrev pub sealed_claim : Claim → Claim
sealed_claim (claims.AtMost value) = claims.AtMost value
sealed_claim (claims.AtLeast value) = claims.AtLeast value
sealed_claim (claims.Equal value) = claims.Equal value
sealed_claim (claims.Spelled value) = claims.Spelled value
sealed_claim (claims.OneOf texts) = claims.OneOf texts
sealed_claim (claims.Pseudonym value) = claims.Sealed value
sealed_claim (claims.Sealed value) = claims.Sealed value

-- and of a text, which is short or is not: one that is not is spelled
abbrev pub text_claim : Bool → Claim → Claim
text_claim true claim = claim
text_claim false (claims.AtMost value) = claims.AtMost value
text_claim false (claims.AtLeast value) = claims.AtLeast value
text_claim false (claims.Equal value) = claims.Spelled value
text_claim false (claims.Spelled value) = claims.Spelled value
text_claim false (claims.OneOf texts) = claims.OneOf texts
text_claim false (claims.Pseudonym value) = claims.Pseudonym value
text_claim false (claims.Sealed value) = claims.Sealed value

-- what a line shows of a field of this kind and size
abbrev pub claim_for : FieldKind → ℕ → Claim → Claim
claim_for kinds.Date size claim = claim
claim_for kinds.Text size claim = text_claim (nat_le size 7) claim
claim_for kinds.Bytes size claim = claim
claim_for kinds.Sealed size claim = sealed_claim claim

-- a field of a record of so many bytes
abbrev pub IsField : ℕ → RecordField → Type 0
IsField size f = IsTrue (has_size f.kind f.size) × IsTrue (lies_within size f)

-- what is shown suits a field of the policy
abbrev pub IsShowOf : List RecordField → Show → Type 0
IsShowOf fields s = (f : RecordField) × (slice_get fields s.field ≡ Some f) × IsTrue (suits f s.claim)

abbrev pub most_shows : ℕ
most_shows = 8

-- what holds of each policy
pub record IsPolicy (p : Contents) : Type 0 where
  pub some : 1 ≤ p.size
  pub block : p.size ≤ most_bytes
  pub levels : p.depth ≤ most_levels
  pub fields : AllByRecursion (IsField p.size) p.fields
  pub shown : 1 ≤ length p.shows
  pub few : length p.shows ≤ most_shows
  pub shows : AllByRecursion (IsShowOf p.fields) p.shows

-- ---- a policy line by line

-- what the lines so far say: how many bytes a record has, if one said so, the fields, whether the digest is shown or a
-- root, how many levels above it, and what else is shown
pub record Partial : Type 0 where
  pub size : Option ℕ
  pub fields : List RecordField
  pub digest : Bool
  pub depth : ℕ
  pub shows : List Show

abbrev pub nothing : Partial
nothing = record { size = None; fields = []; digest = false; depth = 0; shows = [] }

abbrev pub most_fields : ℕ
most_fields = 32

-- what holds of what the lines so far say
pub record IsPartial (p : Partial) : Type 0 where
  pub some : (n : ℕ) → p.size ≡ Some n → (1 ≤ n) × (n ≤ most_bytes) × AllByRecursion (IsField n) p.fields
  pub none : p.size ≡ None → p.fields ≡ []
  pub fields : length p.fields ≤ most_fields
  pub few : length p.shows ≤ most_shows
  pub levels : p.depth ≤ most_levels
  pub shown : p.digest ≡ false → p.shows ≡ []
  pub shows : AllByRecursion (IsShowOf p.fields) p.shows

-- the number of the field with this name, counted from k on
unfoldable pub field_from : ℕ → List ℕ → List RecordField → Option ℕ
field_from k name [] = None
field_from k name (f ∷ fs) = if bytes_eq f.name name then Some k else field_from (k + 1) name fs

abbrev pub field_number : List RecordField → List ℕ → Option ℕ
field_number fields name = field_from 0 name fields

-- a record line comes first, and once
unfoldable pub with_size : Partial → ℕ → Result Partial PolicyKind
with_size p n =
    if is_some p.size then Err faults.Order else
    (if nat_le 1 n && nat_le n most_bytes then Ok (record p { size = Some n }) else Err faults.Size)

-- a field of a record of so many bytes
unfoldable pub with_new_field : Partial → ℕ → RecordField → Result Partial PolicyKind
with_new_field p size f =
    if is_some (field_number p.fields f.name) then Err faults.Repeated else
    (if not (has_size f.kind f.size) then Err faults.Size else
    (if not (lies_within size f) then Err faults.Place else
    (if nat_lt (length p.fields) most_fields then Ok (record p { fields = p.fields ++ f ∷ [] }) else Err faults.Limit)))

unfoldable pub with_field_behind : Partial → RecordField → Option ℕ → Result Partial PolicyKind
with_field_behind p f None = Err faults.Order
with_field_behind p f (Some size) = with_new_field p size f

-- fields come behind the record line and before all that is shown
unfoldable pub with_field : Partial → RecordField → Result Partial PolicyKind
with_field p f = if p.digest then Err faults.Order else with_field_behind p f p.size

-- the digest is shown first, and once
unfoldable pub with_digest : Partial → Result Partial PolicyKind
with_digest p =
    if is_some p.size && not p.digest then Ok (record p { digest = true; depth = 0 }) else Err faults.Order

-- or a root above it
unfoldable pub with_root : Partial → ℕ → Result Partial PolicyKind
with_root p n =
    if not (is_some p.size) || p.digest then Err faults.Order else
    (if nat_le 1 n && nat_le n most_levels then Ok (record p { digest = true; depth = n }) else Err faults.Limit)

-- what is shown of the field with this number
abbrev pub with_suited : Partial → ℕ → RecordField → Claim → Result Partial PolicyKind
with_suited p k f claim =
    if not (suits f claim) then Err faults.Claim else
    (if nat_lt (length p.shows) most_shows
    then Ok (record p { shows = p.shows ++ record { field = k; claim = claim } ∷ [] }) else Err faults.Limit)

unfoldable pub with_claim : Partial → ℕ → Option RecordField → Claim → Result Partial PolicyKind
with_claim p k None claim = Err faults.Unknown
with_claim p k (Some f) claim = with_suited p k f (claim_for f.kind f.size claim)

unfoldable pub with_number : Partial → Option ℕ → Claim → Result Partial PolicyKind
with_number p None claim = Err faults.Unknown
with_number p (Some k) claim = with_claim p k (slice_get p.fields k) claim

-- all else is shown behind it
unfoldable pub with_show : Partial → List ℕ → Claim → Result Partial PolicyKind
with_show p name claim = if p.digest then with_number p (field_number p.fields name) claim else Err faults.Order

abbrev pub with_said : Partial → Line → Result Partial PolicyKind
with_said p (lines.Record n) = with_size p n
with_said p (lines.Field f) = with_field p f
with_said p lines.Digest = with_digest p
with_said p (lines.Under n) = with_root p n
with_said p (lines.Show name claim) = with_show p name claim

unfoldable pub with_line : Partial → Option Line → Result Partial PolicyKind
with_line p None = Err faults.Syntax
with_line p (Some line) = with_said p line

abbrev pub at_line : {A : Type 0} → ℕ → Result A PolicyKind → Result A PolicyFault
at_line line (Ok x) = Ok x
at_line line (Err kind) = Err (record { line = line; kind = kind })

-- what the lines say together with one more
unfoldable pub with_bytes : ℕ → Partial → List ℕ → Result Partial PolicyFault
with_bytes line p bytes = if is_skipped bytes then Ok p else at_line line (with_line p (line_of bytes))

-- the whole: the digest or a root, and something else, is shown
unfoldable pub whole_of : ℕ → Partial → Option ℕ → Result Contents PolicyFault
whole_of line p None = Err (record { line = line; kind = faults.Missing })
whole_of line p (Some size) =
    if p.digest && nat_le 1 (length p.shows)
    then Ok (record { size = size; depth = p.depth; fields = p.fields; shows = p.shows })
    else Err (record { line = line; kind = faults.Missing })

abbrev pub whole : ℕ → Partial → Result Contents PolicyFault
whole line p = whole_of line p p.size

abbrev pub if_read : {A B : Type 0} → Result A PolicyFault → (A → Result B PolicyFault) → Result B PolicyFault
if_read (Ok x) f = f x
if_read (Err e) f = Err e

unfoldable pub policy_from : ℕ → Partial → List (List ℕ) → Result Contents PolicyFault
policy_from line p [] = whole line p
policy_from line p (bytes ∷ others) = if_read (with_bytes line p bytes) (λ more. policy_from (line + 1) more others)

-- the policy that a text is, or its first fault
unfoldable pub policy_of : List ℕ → Result Contents PolicyFault
policy_of text = policy_from 1 nothing (lines text)

-- ---- in memory

abbrev pub partial_of : Draft → Partial
partial_of d = record {
  size = d.size;
  fields = d.fields.items;
  digest = d.is_digest_shown;
  depth = d.depth;
  shows = d.shows.items;
}

-- the kind of a refusal, or memory ran out
abbrev pub Refuses : {A : Type 0} → LineError → Result A PolicyKind → Type 0
Refuses (errors.Kind kind) said = said ≡ Err kind
Refuses errors.OutOfMemory said = Unit {0}

-- the first fault of a text, or memory ran out
abbrev pub Fails : {A : Type 0} → PolicyError → Result A PolicyFault → Type 0
Fails (whole_errors.Fault fault) read = read ≡ Err fault
Fails whole_errors.OutOfMemory read = Unit {0}
