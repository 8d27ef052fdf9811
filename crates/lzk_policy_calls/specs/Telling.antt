-- The text of what is shown, by its public numbers.
use Rattle.std.specs.Prelude.{◌≡◌, ◌≤◌, ◌+◌, ◌-◌, ◌⊎◌, ℕ, List, [], ◌∷◌, ◌++◌, length, map, take, drop, codes, slice_get, Option, Some, None, Result, Ok, if◌then◌else◌}
use Rattle.std.specs.Fmt.{decimal}
use Rattle.std.specs.Int.{w128, to_be_bytes}
use Rattle.std.specs.List.{flat_map}
use Rattle.hex.specs.Hex.{encode_lower}
use Rattle.lzk_goldilocks.specs.Elements.{number}
use Rattle.lzk_goldilocks.specs.declared.element.Gold.{Gold}
use Rattle.lzk_policy.specs.declared.policy.Claim.{Claim}
use Rattle.lzk_policy.specs.declared.policy.Claim.TheVariants as claims
use Rattle.lzk_policy.specs.declared.policy.FieldKind.{FieldKind}
use Rattle.lzk_policy.specs.declared.policy.FieldKind.TheVariants as kinds
use Rattle.lzk_policy.specs.declared.policy.RecordField.{RecordField}
use Rattle.lzk_policy.specs.declared.policy.Show.{Show}
use Rattle.lzk_policy.specs.Policies.{Contents}
use Rattle.lzk_policy_circuit.specs.Meaning.{value_count, piece_size}
use Rattle.lzk_policy_inputs.specs.Both.{Inputs}
use Rattle.lzk_policy_texts.specs.Chosen.{is_asked}
use Rattle.lzk_policy_texts.specs.Numbers.{number_lines}
use Rattle.lzk_policy_texts.specs.Told.{head_name}
use Rattle.lzk_policy_calls.specs.declared.refusal.PolicyRefusal.{PolicyRefusal}
use Rattle.lzk_policy_calls.specs.declared.refusal.PolicyRefusal.TheVariants.{Unsaid, OutOfMemory}
use Rattle.lzk_policy_calls.specs.Inputs.{AreInputs, LacksInputs}
use Rattle.lzk_policy_calls.specs.Policies.{IsPolicyText, most_text}
use Rattle.lzk_policy_calls.specs.Publics.{PublicsOf}
use Rattle.lzk_policy_calls.specs.Room.{Tells}

-- ---- lines

-- a name and what it stands for
abbrev pub entry_line : List ℕ → List ℕ → List ℕ
entry_line name word = name ++ codes " " ++ word ++ codes "\n"

-- words of four bytes in hexadecimal digits
abbrev pub word_digits : Gold → List ℕ
word_digits n = encode_lower (drop 12 (to_be_bytes w128 (number n)))

abbrev pub digits : List Gold → List ℕ
digits ns = flat_map word_digits ns

-- a pseudonym, behind the words of its tag
abbrev pub pseudonym_line : Claim → List Gold → List ℕ
pseudonym_line (claims.Pseudonym name) ns = entry_line (codes "pseudonym") (digits (take 8 (drop 4 ns)))
pseudonym_line (claims.Sealed name) ns = entry_line (codes "pseudonym") (digits (take 8 (drop 4 ns)))
pseudonym_line (claims.AtMost name) ns = []
pseudonym_line (claims.AtLeast name) ns = []
pseudonym_line (claims.Equal name) ns = []
pseudonym_line (claims.Spelled name) ns = []
pseudonym_line (claims.OneOf texts) ns = []

-- those of all that is shown, by the numbers that go with it
abbrev pub pseudonym_lines : List Show → List Gold → List ℕ
pseudonym_lines [] ns = []
pseudonym_lines (s ∷ ss) ns = pseudonym_line s.claim ns ++ pseudonym_lines ss (drop (value_count s.claim) ns)

-- a date as a number, and a text of so many bytes as it stands
abbrev pub date_word : List Gold → List ℕ
date_word [] = []
date_word (n ∷ ns) = decimal (number n)

abbrev pub text_word : ℕ → List Gold → List ℕ
text_word size [] = []
text_word size (n ∷ ns) = drop (16 - size) (to_be_bytes w128 (number n))

abbrev pub field_word : FieldKind → ℕ → List Gold → List ℕ
field_word kinds.Date size ns = date_word ns
field_word kinds.Text size ns = text_word size ns
field_word kinds.Bytes size ns = []
field_word kinds.Sealed size ns = []

abbrev pub told_word : Option RecordField → List Gold → List ℕ
told_word None ns = []
told_word (Some f) ns = field_word f.kind f.size ns

-- a text of so many bytes, more than seven, by its five numbers
abbrev pub pieces_word : ℕ → List Gold → List ℕ
pieces_word size ns =
    text_word (piece_size size 0) ns ++ text_word (piece_size size 1) (drop 1 ns) ++
    text_word (piece_size size 2) (drop 2 ns) ++ text_word (piece_size size 3) (drop 3 ns) ++
    text_word (piece_size size 4) (drop 4 ns)

abbrev pub spelled_word : Option RecordField → List Gold → List ℕ
spelled_word None ns = []
spelled_word (Some f) ns = pieces_word f.size ns

-- the line of a name for which no line stands behind what is shown before
abbrev pub first_line : List Show → List ℕ → List ℕ → List ℕ
first_line before name word = if is_asked before name then [] else entry_line name word

-- the line of the value of what is shown of a field
abbrev pub value_line : List Show → Option RecordField → Claim → List Gold → List ℕ
value_line before f (claims.AtMost name) ns = first_line before name (date_word ns)
value_line before f (claims.AtLeast name) ns = first_line before name (date_word ns)
value_line before f (claims.Equal name) ns = first_line before name (told_word f ns)
value_line before f (claims.Spelled name) ns = first_line before name (spelled_word f ns)
value_line before f (claims.OneOf texts) ns = []
value_line before f (claims.Pseudonym name) ns = first_line before name (digits (take 4 ns))
value_line before f (claims.Sealed name) ns = first_line before name (digits (take 4 ns))

-- those of all that is shown from a place on, where so much is shown before
abbrev pub value_lines : List RecordField → List Show → ℕ → List Show → List Gold → List ℕ
value_lines fields all place [] ns = []
value_lines fields all place (s ∷ ss) ns =
    value_line (take place all) (slice_get fields s.field) s.claim ns
    ++ value_lines fields all (1 + place) ss (drop (value_count s.claim) ns)

-- The text of what is shown: the digest or the root, then the pseudonyms, then a line for each name.
abbrev pub told_text : Contents → List Gold → List ℕ
told_text p ns =
    entry_line (head_name p.depth) (digits (take 8 ns)) ++ pseudonym_lines p.shows (drop 8 ns)
    ++ value_lines p.fields p.shows 0 p.shows (drop 8 ns)

-- ---- what is told

-- a text says these public numbers: the text of those that it says is theirs
abbrev pub Says : Contents → List Gold → List ℕ → Type 0
Says p publics text = (length text ≤ most_text) × PublicsOf p text (number_lines (map number publics))

-- this is the text, and it says the numbers
abbrev pub SaysNumbers : Contents → List Gold → List ℕ → Type 0
SaysNumbers p publics text = (text ≡ told_text p publics) × Says p publics text

-- a text does not say them, or there is no memory
abbrev pub IsUnsaidBy : Contents → List Gold → List ℕ → PolicyRefusal → Type 0
IsUnsaidBy p publics text Unsaid = ¬ Says p publics text
IsUnsaidBy p publics text OutOfMemory = Unit {0}
IsUnsaidBy p publics text other = ⊥

-- the one that is to say them does not
abbrev pub IsUnsaid : Contents → List Gold → PolicyRefusal → Type 0
IsUnsaid p publics = IsUnsaidBy p publics (told_text p publics)

module _ (text m values secret path : List ℕ) where
  -- the bytes say the public inputs of what is given
  abbrev pub TellsGiven : List ℕ → Type 0
  TellsGiven bytes = (p : Contents) × (i : Inputs) × IsPolicyText text p
      × AreInputs text m values secret path i × SaysNumbers p i.public bytes

  -- why there are no such bytes: there are no inputs, or no text says the public ones
  abbrev pub LacksTold : PolicyRefusal → Type 0
  LacksTold refusal = LacksInputs text m values secret path refusal
      ⊎ ((p : Contents) × (i : Inputs) × IsPolicyText text p × AreInputs text m values secret path i
      × IsUnsaid p i.public refusal)

  abbrev pub TellsShown : List ℕ → List ℕ → Result ℕ PolicyRefusal → Type 0
  TellsShown = Tells TellsGiven LacksTold
