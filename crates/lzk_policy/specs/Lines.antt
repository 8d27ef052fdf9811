-- The lines of a policy: what each one says, by its words.
use Rattle.std.specs.Prelude.{ℕ, ◌+◌, ◌-◌, ◌*◌, nat_lt, nat_le, ◌==◌, ◌&&◌, Bool, List, [], ◌∷◌, ◌++◌, length, slice_index, codes, Option, Some, None, zero, suc, if◌then◌else◌}
use Rattle.std.specs.Str.{bytes_eq}
use Rattle.std.specs.List.{list_all}
use Rattle.lzk_expr.specs.Texts.{content, runs, is_plain, is_blank}
use Rattle.lzk_policy.specs.declared.policy.FieldKind.{FieldKind}
use Rattle.lzk_policy.specs.declared.policy.FieldKind.TheVariants as kinds
use Rattle.lzk_policy.specs.declared.policy.Claim.{Claim}
use Rattle.lzk_policy.specs.declared.policy.Claim.TheVariants as claims
use Rattle.lzk_policy.specs.declared.line.Line.{Line}
use Rattle.lzk_policy.specs.declared.line.Line.TheVariants as lines

-- the number of n bytes from a place on, the first byte worth most
abbrev pub number_at : List ℕ → ℕ → ℕ → ℕ
number_at bytes place zero = 0
number_at bytes place (suc n) = 256 * number_at bytes place n + slice_index bytes (place + n)

-- what follows from a value, if there is one
abbrev pub and_then : {A B : Type 0} → Option A → (A → Option B) → Option B
and_then None f = None
and_then (Some x) f = f x

-- the word is this one
abbrev pub is_word : List ℕ → List ℕ → Bool
is_word name word = bytes_eq word name

-- the only word of some
abbrev pub only : List (List ℕ) → Option (List ℕ)
only (word ∷ []) = Some word
only words = None

-- ---- numbers and names

abbrev pub is_digit : ℕ → Bool
is_digit b = nat_le 48 b && nat_le b 57

-- the number that decimal digits make behind those that made have; no number has more than three digits but zeros
unfoldable pub number_from : ℕ → List ℕ → Option ℕ
number_from have [] = Some have
number_from have (b ∷ bs) = if is_digit b && nat_lt have 100 then number_from (10 * have + (b - 48)) bs else None

unfoldable pub number_of : List ℕ → Option ℕ
number_of word = if nat_lt 0 (length word) then number_from 0 word else None

unfoldable pub only_number : List (List ℕ) → Option ℕ
only_number words = and_then (only words) number_of

-- a name has at most 32 bytes
unfoldable pub name_of : List ℕ → Option (List ℕ)
name_of word = if nat_le 1 (length word) && nat_le (length word) 32 then Some word else None

unfoldable pub only_name : List (List ℕ) → Option (List ℕ)
only_name words = and_then (only words) name_of

-- ---- texts

-- a text has one to 32 bytes, and a line at most 16 texts
abbrev pub most_text : ℕ
most_text = 32

abbrev pub most_texts : ℕ
most_texts = 16

-- words of this size behind those that stand before
unfoldable pub texts_behind : ℕ → List (List ℕ) → List (List ℕ) → Option (List (List ℕ))
texts_behind size have [] = Some have
texts_behind size have (word ∷ words) =
    if (length word == size) && nat_lt (length have) most_texts
    then texts_behind size (have ++ word ∷ []) words else None

-- the texts that words are: all of one size
unfoldable pub texts_of : List (List ℕ) → Option (List (List ℕ))
texts_of [] = None
texts_of (word ∷ words) =
    if nat_le 1 (length word) && nat_le (length word) most_text
    then texts_behind (length word) [] (word ∷ words) else None

-- ---- record N

unfoldable pub record_line : List (List ℕ) → Option Line
record_line words = and_then (only_number words) (λ n. Some (lines.Record n))

-- ---- field NAME date at PLACE, field NAME text SIZE at PLACE, field NAME bytes SIZE at PLACE,
-- field NAME sealed at PLACE

abbrev pub field_with : List ℕ → FieldKind → ℕ → ℕ → Line
field_with name kind place size = lines.Field (record { name = name; kind = kind; place = place; size = size })

-- at PLACE
unfoldable pub place_of : List (List ℕ) → Option ℕ
place_of [] = None
place_of (at ∷ words) = if is_word (codes "at") at then only_number words else None

-- SIZE at PLACE
unfoldable pub sized_line : List ℕ → FieldKind → List (List ℕ) → Option Line
sized_line name kind [] = None
sized_line name kind (size ∷ words) =
    and_then (number_of size) (λ n. and_then (place_of words) (λ p. Some (field_with name kind p n)))

-- a date has four bytes, and a sealed secret the 32 of its digest
unfoldable pub kind_line : List ℕ → List ℕ → List (List ℕ) → Option Line
kind_line name kind words =
    if is_word (codes "date") kind then and_then (place_of words) (λ p. Some (field_with name kinds.Date p 4)) else
    (if is_word (codes "text") kind then sized_line name kinds.Text words else
    (if is_word (codes "bytes") kind then sized_line name kinds.Bytes words else
    (if is_word (codes "sealed") kind then and_then (place_of words) (λ p. Some (field_with name kinds.Sealed p 32))
    else None)))

-- KIND ..
unfoldable pub named_line : List ℕ → List (List ℕ) → Option Line
named_line name [] = None
named_line name (kind ∷ words) = kind_line name kind words

unfoldable pub field_line : List (List ℕ) → Option Line
field_line [] = None
field_line (name ∷ words) = and_then (name_of name) (λ n. named_line n words)

-- ---- show ..

-- behind show NAME at: most VALUE, least VALUE
unfoldable pub order_claim : List (List ℕ) → Option Claim
order_claim [] = None
order_claim (way ∷ words) =
    if is_word (codes "most") way then and_then (only_name words) (λ v. Some (claims.AtMost v)) else
    (if is_word (codes "least") way then and_then (only_name words) (λ v. Some (claims.AtLeast v)) else None)

-- behind show NAME one: of TEXT ..
unfoldable pub text_claim : List (List ℕ) → Option Claim
text_claim [] = None
text_claim (of ∷ words) =
    if is_word (codes "of") of then and_then (texts_of words) (λ t. Some (claims.OneOf t)) else None

-- behind show NAME as: VALUE
unfoldable pub told_claim : List (List ℕ) → Option Claim
told_claim words = and_then (only_name words) (λ v. Some (claims.Equal v))

-- behind show NAME: at most VALUE, at least VALUE, as VALUE, one of TEXT ..
unfoldable pub claim_of : List (List ℕ) → Option Claim
claim_of [] = None
claim_of (way ∷ words) =
    if is_word (codes "at") way then order_claim words else
    (if is_word (codes "as") way then told_claim words else
    (if is_word (codes "one") way then text_claim words else None))

-- behind show pseudonym of NAME: for VALUE
unfoldable pub service_of : List (List ℕ) → Option (List ℕ)
service_of [] = None
service_of («for» ∷ words) = if is_word (codes "for") «for» then only_name words else None

-- behind show pseudonym of: NAME for VALUE
unfoldable pub secret_line : List (List ℕ) → Option Line
secret_line [] = None
secret_line (name ∷ words) =
    and_then (name_of name) (λ n. and_then (service_of words) (λ v. Some (lines.Show n (claims.Pseudonym v))))

-- behind show pseudonym: of NAME for VALUE
unfoldable pub pseudonym_line : List (List ℕ) → Option Line
pseudonym_line [] = None
pseudonym_line (of ∷ words) = if is_word (codes "of") of then secret_line words else None

-- show digest
abbrev pub digest_line : List (List ℕ) → Option Line
digest_line [] = Some lines.Digest
digest_line words = None

-- behind show under root: DEPTH
unfoldable pub depth_line : List (List ℕ) → Option Line
depth_line words = and_then (only_number words) (λ n. Some (lines.Under n))

-- show NAME ..
unfoldable pub claim_line : List ℕ → List (List ℕ) → Option Line
claim_line name words = and_then (name_of name) (λ n. and_then (claim_of words) (λ c. Some (lines.Show n c)))

-- behind show under: root DEPTH, or what is shown of a field of this name
unfoldable pub under_line : List ℕ → List (List ℕ) → Option Line
under_line name [] = None
under_line name (root ∷ words) =
    if is_word (codes "root") root then depth_line words else claim_line name (root ∷ words)

unfoldable pub show_line : List (List ℕ) → Option Line
show_line [] = None
show_line (first ∷ words) =
    if is_word (codes "digest") first then digest_line words else
    (if is_word (codes "pseudonym") first then pseudonym_line words else
    (if is_word (codes "under") first then under_line first words else claim_line first words))

-- ---- a line

-- what the words of a line say, if they are of one of these forms
unfoldable pub words_line : List (List ℕ) → Option Line
words_line [] = None
words_line (first ∷ words) =
    if is_word (codes "record") first then record_line words else
    (if is_word (codes "field") first then field_line words else
    (if is_word (codes "show") first then show_line words else None))

-- what a line says before its comment
unfoldable pub line_of : List ℕ → Option Line
line_of line = words_line (runs is_plain (content line))

-- a line of blanks and a comment says nothing
abbrev pub is_skipped : List ℕ → Bool
is_skipped line = list_all is_blank (content line)
