-- The list of a batch.
use Rattle.std.specs.Prelude.{◌≡◌, ℕ, ◌+◌, ◌≤◌, ◌&&◌, nat_lt, nat_le, Bool, not, string_bytes, List, [], ◌∷◌, ◌++◌, length, take, drop, map, filter, Option, Some, None, Result, Ok, Err, cond, codes, if◌then◌else◌}
use Rattle.std.specs.List.{list_all}
use Rattle.std.specs.Str.{is_utf8, bytes_eq}
use Rattle.hex.specs.Hex.{decode_of}
use Rattle.lzk_expr.specs.Texts.{lines, runs, is_plain, is_blank}
use Rattle.lzk_batch.specs.declared.entry.Entry.{Entry}
use Rattle.lzk_batch.specs.declared.list_fault.ListKind.{ListKind}
use Rattle.lzk_batch.specs.declared.list_fault.ListKind.TheVariants.{Syntax, Limit}
use Rattle.lzk_batch.specs.declared.list_fault.ListFault.{ListFault}
use Rattle.lzk_batch.specs.declared.list_fault.ListError.{ListError}
use Rattle.lzk_batch.specs.declared.list_fault.ListError.TheVariants as errors

-- a job of a list: the names of its files, and the bytes of its session
pub record Listed : Type 0 where
  pub circuit : List ℕ
  pub public : List ℕ
  pub proof : List ℕ
  pub session : List ℕ

abbrev pub listed : List ℕ → List ℕ → List ℕ → List ℕ → Listed
listed circuit public proof session = record { circuit = circuit; public = public; proof = proof; session = session }

-- the most jobs of a list
abbrev pub most_entries : ℕ
most_entries = 256

-- the most digits of a session
abbrev pub most_digits : ℕ
most_digits = 128

-- what follows from a value, if there is one
abbrev pub and_then : {A B : Type 0} → Option A → (A → Option B) → Option B
and_then None f = None
and_then (Some x) f = f x

abbrev pub if_ok : {A E : Type 0} → Result A E → Option A
if_ok (Ok x) = Some x
if_ok (Err e) = None

-- what stands behind a front, if the word has it
abbrev pub behind : List ℕ → List ℕ → Option (List ℕ)
behind front word =
    cond (nat_le (length front) (length word) && bytes_eq (take (length front) word) front)
    (Some (drop (length front) word)) None

-- the bytes of a session: those of its hexadecimal digits, of either case, if they are an even number of them and no
-- more than the most
abbrev pub session_bytes : List ℕ → Option (List ℕ)
session_bytes digits = cond (nat_le (length digits) most_digits) (if_ok (decode_of digits)) None

-- the bytes of the session of the words behind the names, if they are one word of a session, or none
abbrev pub session_of : List (List ℕ) → Option (List ℕ)
session_of [] = Some []
session_of (word ∷ []) = and_then (behind (codes "session=") word) session_bytes
session_of words = None

-- the job of the words of a line, if they are three names and then at most a session
abbrev pub entry_of : List (List ℕ) → Option Listed
entry_of (circuit ∷ public ∷ proof ∷ others) =
    and_then (session_of others) (λ session. Some (listed circuit public proof session))
entry_of words = None

-- the job of a line, if it is UTF-8 and has one
unfoldable pub line_entry : List ℕ → Option Listed
line_entry line = cond (is_utf8 line) (entry_of (runs is_plain line)) None

-- a line of blanks alone is skipped
abbrev pub is_skipped : List ℕ → Bool
is_skipped line = list_all is_blank line

abbrev pub breaks : {A : Type 0} → ℕ → ListKind → Result A ListFault
breaks line kind = Err (record { line = line; kind = kind })

abbrev pub one_more : ℕ → List Listed → Option Listed → Result (List Listed) ListFault
one_more line have None = breaks line Syntax
one_more line have (Some entry) = Ok (have ++ entry ∷ [])

-- The jobs with that of one more line. That there are as many as may be is said before the line is read.
abbrev pub with_line : ℕ → List ℕ → List Listed → Result (List Listed) ListFault
with_line line bytes have =
    if is_skipped bytes then Ok have else
    (if nat_lt (length have) most_entries then one_more line have (line_entry bytes) else breaks line Limit)

abbrev pub if_read : {A B : Type 0} → Result A ListFault → (A → Result B ListFault) → Result B ListFault
if_read (Ok x) f = f x
if_read (Err e) f = Err e

unfoldable pub entries_to : ℕ → List (List ℕ) → List Listed → Result (List Listed) ListFault
entries_to line [] have = Ok have
entries_to line (bytes ∷ others) have = if_read (with_line line bytes have) (λ more. entries_to (line + 1) others more)

-- the jobs of a list, or its first fault
unfoldable pub entries_of : List ℕ → Result (List Listed) ListFault
entries_of text = entries_to 1 (lines text) []

-- The text is a list of these jobs: each line that is not skipped has one, in this order, and they are no more than may
-- be.
pub record ListText (text : List ℕ) (entries : List Listed) : Type 0 where
  pub jobs : map line_entry (filter (λ line. not (is_skipped line)) (lines text)) ≡ map Some entries
  pub few : length entries ≤ most_entries

-- what a fault tells, or that memory ran out
abbrev pub Fails : {A : Type 0} → ListError → Result A ListFault → Type 0
Fails errors.OutOfMemory read = Unit {0}
Fails (errors.Fault fault) read = read ≡ Err fault

-- The text is no such list, and this is its first fault.
abbrev pub IsListFault : List ℕ → ListFault → Type 0
IsListFault text fault = entries_of text ≡ Err fault

-- the first fault of the text; or memory ran out
abbrev pub IsFirstFault : List ℕ → ListError → Type 0
IsFirstFault text errors.OutOfMemory = Unit {0}
IsFirstFault text (errors.Fault fault) = IsListFault text fault

abbrev pub entry_view : Entry → Listed
entry_view entry =
    listed (string_bytes entry.circuit) (string_bytes entry.public) (string_bytes entry.proof) entry.session.items
