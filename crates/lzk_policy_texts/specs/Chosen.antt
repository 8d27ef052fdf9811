-- What is chosen where a record is shown: a value for each thing that is shown, by the lines of a text.
use Rattle.std.specs.Prelude.{ℕ, ◌+◌, ◌-◌, ◌*◌, nat_lt, nat_le, ◌==◌, ◌&&◌, Bool, true, false, List, [], ◌∷◌, ◌++◌, length, slice_get, Option, Some, None, Result, Ok, Err, if◌then◌else◌}
use Rattle.std.specs.Str.{bytes_eq}
use Rattle.hex.specs.Hex.{decode_sized}
use Rattle.lzk_policy.specs.Lines.{number_at, and_then, is_digit}
use Rattle.lzk_policy.specs.declared.policy.FieldKind.{FieldKind}
use Rattle.lzk_policy.specs.declared.policy.FieldKind.TheVariants as kinds
use Rattle.lzk_policy.specs.declared.policy.RecordField.{RecordField}
use Rattle.lzk_policy.specs.declared.policy.Claim.{Claim}
use Rattle.lzk_policy.specs.declared.policy.Claim.TheVariants as claims
use Rattle.lzk_policy.specs.declared.policy.Show.{Show}
use Rattle.lzk_policy.specs.Policies.{Contents}
use Rattle.lzk_policy_circuit.specs.Meaning.{piece_start, piece_size}
use Rattle.lzk_policy_inputs.specs.declared.value.Value.{Value}
use Rattle.lzk_policy_inputs.specs.declared.value.Value.TheVariants as values
use Rattle.lzk_policy_texts.specs.declared.entries.Entry.{Entry}
use Rattle.lzk_policy_texts.specs.declared.entries.ValuesKind.TheVariants as rules
use Rattle.lzk_policy_texts.specs.declared.entries.ValuesFault.{ValuesFault}
use Rattle.lzk_policy_texts.specs.declared.entries.ValuesFault.TheVariants as faults
use Rattle.lzk_policy_texts.specs.Entries.{breaks, if_read, entries_of}

-- ---- words

-- the number that decimal digits make behind those that made have; no number has more than ten digits but zeros
unfoldable pub number_from : ℕ → List ℕ → Option ℕ
number_from have [] = Some have
number_from have (b ∷ bs) =
    if is_digit b && nat_lt have 1000000000 then number_from (10 * have + (b - 48)) bs else None

-- a date as a number
unfoldable pub date_of : List ℕ → Option Value
date_of word = and_then (number_from 0 word) (λ n. Some (values.Number n))

-- a text of so many bytes
unfoldable pub text_of : ℕ → List ℕ → Option Value
text_of size word =
    if (length word == size) && nat_le size 7 then Some (values.Number (number_at word 0 size)) else None

-- a text of so many bytes, more than seven, as five numbers
unfoldable pub spelled_of : ℕ → List ℕ → Option Value
spelled_of size word =
    if length word == size then Some (values.Spelled (
    number_at word (piece_start size 0) (piece_size size 0) ∷
    number_at word (piece_start size 1) (piece_size size 1) ∷
    number_at word (piece_start size 2) (piece_size size 2) ∷
    number_at word (piece_start size 3) (piece_size size 3) ∷
    number_at word (piece_start size 4) (piece_size size 4) ∷ [])) else None

-- a service's tag as 32 hexadecimal digits
abbrev pub tag_in : {E : Type 0} → Result (List ℕ) E → Option Value
tag_in (Ok tag) = Some (values.Tag tag)
tag_in (Err e) = None

unfoldable pub tag_of : List ℕ → Option Value
tag_of word = tag_in (decode_sized word 16)

-- a tag beside the secret that a field seals, which has 16 bytes; with no secret, as a verifier has none, the tag alone
abbrev pub sealed_in : {E : Type 0} → List ℕ → Result (List ℕ) E → Option Value
sealed_in secret (Ok tag) = Some (values.Sealed tag secret)
sealed_in secret (Err e) = None

unfoldable pub sealed_of : List ℕ → List ℕ → Option Value
sealed_of secret word =
    if length secret == 0 then tag_of word else
    (if length secret == 16 then sealed_in secret (decode_sized word 16) else None)

-- what a word stands for where a field of this kind and size is told
abbrev pub told_of : FieldKind → ℕ → List ℕ → Option Value
told_of kinds.Date size word = date_of word
told_of kinds.Text size word = text_of size word
told_of kinds.Bytes size word = None
told_of kinds.Sealed size word = None

-- what a word stands for where this is shown of a field, beside a secret
abbrev pub value_of : List ℕ → RecordField → Claim → List ℕ → Option Value
value_of secret f (claims.AtMost name) word = date_of word
value_of secret f (claims.AtLeast name) word = date_of word
value_of secret f (claims.Equal name) word = told_of f.kind f.size word
value_of secret f (claims.Spelled name) word = spelled_of f.size word
value_of secret f (claims.OneOf texts) word = None
value_of secret f (claims.Pseudonym name) word = tag_of word
value_of secret f (claims.Sealed name) word = sealed_of secret word

-- ---- names

abbrev pub is_named : List ℕ → Entry → Bool
is_named name e = bytes_eq e.name name

-- what is shown has a value of this name
abbrev pub asks : List ℕ → Claim → Bool
asks name (claims.AtMost value) = bytes_eq value name
asks name (claims.AtLeast value) = bytes_eq value name
asks name (claims.Equal value) = bytes_eq value name
asks name (claims.Spelled value) = bytes_eq value name
asks name (claims.OneOf texts) = false
asks name (claims.Pseudonym value) = bytes_eq value name
asks name (claims.Sealed value) = bytes_eq value name

unfoldable pub is_asked : List Show → List ℕ → Bool
is_asked [] name = false
is_asked (s ∷ ss) name = if asks name s.claim then true else is_asked ss name

-- no line has a name that nothing asks for; the first such line is named
unfoldable pub none_stray : List Show → List Entry → Result (Unit {0}) ValuesFault
none_stray shows [] = Ok tt
none_stray shows (e ∷ es) = if is_asked shows e.name then none_stray shows es else breaks e.line rules.Unknown

-- a line has this name
unfoldable pub has_name : List ℕ → List Entry → Bool
has_name name [] = false
has_name name (e ∷ es) = if is_named name e then true else has_name name es

-- the line of a name, if it is the only one
unfoldable pub entry_for : List Entry → List ℕ → Result (Option Entry) ValuesFault
entry_for [] name = Ok None
entry_for (e ∷ es) name =
    if is_named name e then (if has_name name es then breaks e.line rules.Repeated else Ok (Some e))
    else entry_for es name

-- ---- all that is shown

abbrev pub with_value : ℕ → Option Value → Result Value ValuesFault
with_value line None = breaks line rules.Value
with_value line (Some v) = Ok v

-- what is told may be left out: it is the record's own
abbrev pub without : ℕ → Claim → Result Value ValuesFault
without place (claims.AtMost name) = Err (faults.Missing place)
without place (claims.AtLeast name) = Err (faults.Missing place)
without place (claims.Equal name) = Ok values.Own
without place (claims.Spelled name) = Ok values.Own
without place (claims.OneOf texts) = Ok values.Own
without place (claims.Pseudonym name) = Err (faults.Missing place)
without place (claims.Sealed name) = Err (faults.Missing place)

-- the value of what is shown of a field, by the line of its name
abbrev pub by_entry : List ℕ → ℕ → RecordField → Claim → Option Entry → Result Value ValuesFault
by_entry secret place f claim None = without place claim
by_entry secret place f claim (Some e) = with_value e.line (value_of secret f claim e.word)

abbrev pub by_name : List ℕ → ℕ → RecordField → Claim → List Entry → List ℕ → Result Value ValuesFault
by_name secret place f claim entries name = if_read (entry_for entries name) (by_entry secret place f claim)

-- the value of what is shown of a field, at this place
unfoldable pub chosen_of : List ℕ → ℕ → RecordField → Claim → List Entry → Result Value ValuesFault
chosen_of secret place f (claims.AtMost name) entries = by_name secret place f (claims.AtMost name) entries name
chosen_of secret place f (claims.AtLeast name) entries = by_name secret place f (claims.AtLeast name) entries name
chosen_of secret place f (claims.Equal name) entries = by_name secret place f (claims.Equal name) entries name
chosen_of secret place f (claims.Spelled name) entries = by_name secret place f (claims.Spelled name) entries name
chosen_of secret place f (claims.OneOf texts) entries = Ok values.Own
chosen_of secret place f (claims.Pseudonym name) entries = by_name secret place f (claims.Pseudonym name) entries name
chosen_of secret place f (claims.Sealed name) entries = by_name secret place f (claims.Sealed name) entries name

abbrev pub chosen_at : List ℕ → ℕ → Option RecordField → Claim → List Entry → Result Value ValuesFault
chosen_at secret place None claim entries = Err (faults.Missing place)
chosen_at secret place (Some f) claim entries = chosen_of secret place f claim entries

-- the values of all that is shown from a place on, behind those before
unfoldable pub chosen_from :
    List ℕ → ℕ → List Value → List RecordField → List Show → List Entry → Result (List Value) ValuesFault
chosen_from secret place have fields [] entries = Ok have
chosen_from secret place have fields (s ∷ ss) entries =
    if_read (chosen_at secret place (slice_get fields s.field) s.claim entries)
    (λ v. chosen_from secret (place + 1) (have ++ v ∷ []) fields ss entries)

-- the values of a policy by lines, beside a secret: none has a name that nothing asks for, and all that is shown has a
-- value
unfoldable pub values_for : Contents → List ℕ → List Entry → Result (List Value) ValuesFault
values_for p secret entries =
    if_read (none_stray p.shows entries) (λ _. chosen_from secret 0 [] p.fields p.shows entries)

-- The values of a policy by the lines of a text, beside a secret; or its first fault: a line that is no name and a
-- word, then one whose name nothing asks for, then the first thing shown that has no value, or two lines, or a word
-- that is no value.
unfoldable pub values_of : Contents → List ℕ → List ℕ → Result (List Value) ValuesFault
values_of p secret text = if_read (entries_of text) (values_for p secret)
