-- What a verifier was shown, as a text: the digest of the record or the root, then the pseudonyms, then values.
use Rattle.std.specs.Prelude.{ℕ, ◌+◌, ◌*◌, nat_lt, ◌==◌, List, [], ◌∷◌, ◌++◌, length, map, take, drop, codes, Option, Some, None, Result, Ok, Err, if◌then◌else◌, slice_index}
use Rattle.std.specs.Str.{bytes_eq}
use Rattle.lzk_expr.specs.Texts.{lines, content, runs, is_plain}
use Rattle.lzk_goldilocks.specs.Elements.{of_number}
use Rattle.lzk_goldilocks.specs.declared.element.Gold.{Gold}
use Rattle.lzk_policy.specs.Lines.{only, is_skipped}
use Rattle.lzk_policy.specs.declared.policy.Claim.{Claim}
use Rattle.lzk_policy.specs.declared.policy.Claim.TheVariants as claims
use Rattle.lzk_policy.specs.declared.policy.Show.{Show}
use Rattle.lzk_policy.specs.Policies.{Contents}
use Rattle.lzk_policy_circuit.specs.Meaning.{tag_words}
use Rattle.lzk_policy_inputs.specs.declared.value.Value.{Value}
use Rattle.lzk_policy_inputs.specs.declared.value.Value.TheVariants as values
use Rattle.lzk_policy_texts.specs.declared.entries.Entry.{Entry}
use Rattle.lzk_policy_texts.specs.declared.entries.ValuesKind.TheVariants as kinds
use Rattle.lzk_policy_texts.specs.declared.entries.ValuesFault.{ValuesFault}
use Rattle.lzk_policy_texts.specs.declared.entries.ValuesFault.TheVariants as faults
use Rattle.lzk_policy_texts.specs.declared.told.Told as told
use Rattle.lzk_policy_texts.specs.Chosen.{values_for}
use Rattle.lzk_policy_texts.specs.Entries.{breaks, if_read, lines_from}
use Rattle.lzk_policy_texts.specs.Entries as entries
use Rattle.lzk_policy_texts.specs.Paths.{node_of}

-- ---- lines

-- what lines said so far: the words of digests, eight each, and lines of values
pub record Partial : Type 0 where
  pub words : List ℕ
  pub entries : List Entry

abbrev pub nothing : Partial
nothing = record { words = []; entries = [] }

abbrev pub partial_of : told.Told → Partial
partial_of t = record { words = t.words.items; entries = t.entries.items }

abbrev pub pseudonyms_of_claim : Claim → ℕ
pseudonyms_of_claim (claims.Pseudonym value) = 1
pseudonyms_of_claim (claims.Sealed value) = 1
pseudonyms_of_claim (claims.AtMost value) = 0
pseudonyms_of_claim (claims.AtLeast value) = 0
pseudonyms_of_claim (claims.Equal value) = 0
pseudonyms_of_claim (claims.Spelled value) = 0
pseudonyms_of_claim (claims.OneOf texts) = 0

abbrev pub pseudonyms_of : List Show → ℕ
pseudonyms_of [] = 0
pseudonyms_of (s ∷ ss) = pseudonyms_of_claim s.claim + pseudonyms_of ss

-- how many words the digests have: those of the record or the root, and those of each pseudonym
abbrev pub word_count : Contents → ℕ
word_count p = 8 + 8 * pseudonyms_of p.shows

-- the name of the first digest
abbrev pub head_name : ℕ → List ℕ
head_name depth = if depth == 0 then codes "digest" else codes "root"

-- the name of the digest behind so many words
abbrev pub digest_name : Contents → ℕ → List ℕ
digest_name p count = if count == 0 then head_name p.depth else codes "pseudonym"

-- the word behind this name, where the line is both and no more
unfoldable pub named_word : List ℕ → List (List ℕ) → Option (List ℕ)
named_word name [] = None
named_word name (first ∷ words) = if bytes_eq first name then only words else None

unfoldable pub named_in : List ℕ → List ℕ → Option (List ℕ)
named_in name bytes = named_word name (runs is_plain (content bytes))

abbrev pub with_words : ℕ → List ℕ → Option (List ℕ) → Result (List ℕ) ValuesFault
with_words line have None = breaks line kinds.Value
with_words line have (Some words) = Ok (have ++ words)

abbrev pub with_digits : ℕ → List ℕ → Option (List ℕ) → Result (List ℕ) ValuesFault
with_digits line have None = breaks line kinds.Syntax
with_digits line have (Some word) = with_words line have (node_of word)

-- the words so far together with a line of a digest of this name; one of blanks and a comment says nothing
unfoldable pub with_digest : List ℕ → ℕ → List ℕ → List ℕ → Result (List ℕ) ValuesFault
with_digest name line have bytes = if is_skipped bytes then Ok have else with_digits line have (named_in name bytes)

abbrev pub and_words : Partial → Result (List ℕ) ValuesFault → Result Partial ValuesFault
and_words have (Ok words) = Ok (record { words = words; entries = have.entries })
and_words have (Err fault) = Err fault

abbrev pub and_entries : Partial → Result (List Entry) ValuesFault → Result Partial ValuesFault
and_entries have (Ok entries) = Ok (record { words = have.words; entries = entries })
and_entries have (Err fault) = Err fault

-- what the lines so far say together with one more: first come the digests, and then values
unfoldable pub with_line : Contents → ℕ → Partial → List ℕ → Result Partial ValuesFault
with_line p line have bytes =
    if nat_lt (length have.words) (word_count p)
    then and_words have (with_digest (digest_name p (length have.words)) line have.words bytes)
    else and_entries have (entries.with_line line have.entries bytes)

abbrev pub all_lines : Contents → List ℕ → Result Partial ValuesFault
all_lines p text = lines_from (with_line p) 1 nothing (lines text)

-- ---- public numbers

-- a number that is told, behind those before; it cannot be left out, since there is no record
abbrev pub with_number : ℕ → List Gold → Value → Result (List Gold) ValuesFault
with_number place have (values.Number n) = Ok (have ++ of_number n ∷ [])
with_number place have (values.Tag tag) = Err (faults.Missing place)
with_number place have (values.Sealed tag secret) = Err (faults.Missing place)
with_number place have (values.Spelled numbers) = Err (faults.Missing place)
with_number place have values.Own = Err (faults.Missing place)

-- the five numbers of a long text that is told
abbrev pub five_of : List ℕ → List Gold
five_of numbers =
    of_number (slice_index numbers 0) ∷ of_number (slice_index numbers 1) ∷ of_number (slice_index numbers 2) ∷
    of_number (slice_index numbers 3) ∷ of_number (slice_index numbers 4) ∷ []

abbrev pub with_spelled : ℕ → List Gold → Value → Result (List Gold) ValuesFault
with_spelled place have (values.Number n) = Err (faults.Missing place)
with_spelled place have (values.Tag tag) = Err (faults.Missing place)
with_spelled place have (values.Sealed tag secret) = Err (faults.Missing place)
with_spelled place have (values.Spelled numbers) = Ok (have ++ five_of numbers)
with_spelled place have values.Own = Err (faults.Missing place)

-- the words of a tag and of the next pseudonym
abbrev pub with_pseudonym : ℕ → List Gold → Value → List ℕ → Result (List Gold) ValuesFault
with_pseudonym place have (values.Number n) words = Err (faults.Missing place)
with_pseudonym place have (values.Tag tag) words =
    if nat_lt (length words) 8 then Err (faults.Missing place)
    else Ok (have ++ (map of_number (tag_words tag) ++ map of_number (take 8 words)))
with_pseudonym place have (values.Sealed tag secret) words = Err (faults.Missing place)
with_pseudonym place have (values.Spelled numbers) words = Err (faults.Missing place)
with_pseudonym place have values.Own words = Err (faults.Missing place)

-- those that go with what is shown at a place
abbrev pub with_claim : ℕ → List Gold → Claim → Value → List ℕ → Result (List Gold) ValuesFault
with_claim place have (claims.AtMost name) v words = with_number place have v
with_claim place have (claims.AtLeast name) v words = with_number place have v
with_claim place have (claims.Equal name) v words = with_number place have v
with_claim place have (claims.Spelled name) v words = with_spelled place have v
with_claim place have (claims.OneOf texts) v words = Ok have
with_claim place have (claims.Pseudonym name) v words = with_pseudonym place have v words
with_claim place have (claims.Sealed name) v words = with_pseudonym place have v words

-- those of all that is shown from a place on, with a value each, and the words of the pseudonyms
unfoldable pub numbers_from : ℕ → List Gold → List Show → List Value → List ℕ → Result (List Gold) ValuesFault
numbers_from place have [] vs words = Ok have
numbers_from place have (s ∷ ss) [] words = Err (faults.Missing place)
numbers_from place have (s ∷ ss) (v ∷ vs) words =
    if_read (with_claim place have s.claim v words)
    (λ more. numbers_from (place + 1) more ss vs (drop (8 * pseudonyms_of_claim s.claim) words))

-- the first digest, and what is shown with these values
unfoldable pub numbers_of : Contents → List ℕ → List Value → Result (List Gold) ValuesFault
numbers_of p words vs = numbers_from 0 (map of_number (take 8 words)) p.shows vs (drop 8 words)

-- The public numbers of what lines say, or their first fault: there is no digest, then those of values, then the first
-- thing shown whose number or pseudonym is left out. What is missing is named by its place, and the digest or the root
-- by the place behind the last.
unfoldable pub numbers_in : Contents → Partial → Result (List Gold) ValuesFault
numbers_in p t =
    if nat_lt (length t.words) 8 then Err (faults.Missing (length p.shows)) else
    if_read (values_for p [] t.entries) (numbers_of p t.words)

-- the public numbers that a text says, or its first fault
unfoldable pub publics_of : Contents → List ℕ → Result (List Gold) ValuesFault
publics_of p text = if_read (all_lines p text) (numbers_in p)
