-- Jobs, line after line.
use Rattle.std.proofs.Common.{◌≡◌, ℕ, ◌+◌, ◌<◌, ◌≤◌, true, false, List, [], ◌∷◌, length, Option, Some, None, Ok, Err, Bor, MatchOption, refl, sym, ap, ◌∙◌, arith}
use Rattle.std.specs.Prelude.{codes}
use Rattle.std.specs.Option.{option_map, is_some}
use Rattle.std.specs.Str.{IsUtf8, is_utf8}
use Rattle.std.proofs.lemmas.Bool.{false_from_ne_true, lt-ltb, le-ltb}
use Rattle.std.proofs.lemmas.Str.{IsUtf8-from_is_utf8, is_utf8-from_IsUtf8}
use Rattle.lzk_expr.specs.Texts.{lines, runs, is_plain, IsRun}
use Rattle.lzk_expr.proofs.Taking.{lines_left, left_size, IsNext}
use Rattle.lzk_batch.specs.declared.list_fault.ListFault.{ListFault}
use Rattle.lzk_batch.specs.declared.list_fault.ListError.{ListError}
use Rattle.lzk_batch.specs.declared.list_fault.ListError.TheVariants as errors
use Rattle.lzk_batch.specs.declared.list_fault.ListKind.TheVariants.{Limit}
use Rattle.lzk_batch.specs.Lists.{Listed, most_entries, and_then, behind, session_bytes, session_of, line_entry, entry_of, is_skipped, breaks, one_more, with_line, entries_to, entries_of, Fails}

-- ---- a line

pub not_utf8 : (line : List ℕ) → ¬ IsUtf8 line → None ≡ line_entry line
unfolding line_entry
not_utf8 line not_so =
    let fails : is_utf8 line ≡ false = false_from_ne_true (is_utf8 line) (λ e. not_so (IsUtf8-from_is_utf8 line e)) in
    rw fails refl

pub from_words : (line text : List ℕ) (words : List (List ℕ)) (o : Option Listed) → text ≡ line → IsUtf8 line → runs is_plain text ≡ words → entry_of words ≡ o → o ≡ line_entry line
unfolding line_entry
from_words line text words o same utf8 are is =
    let passes : is_utf8 line ≡ true = is_utf8-from_IsUtf8 line utf8 in
    let all : runs is_plain line ≡ words = ap (runs is_plain) (sym same) ∙ are in
    rw (passes, all) (sym is)

-- ---- the jobs with that of one more line

pub skips : (line : ℕ) (bytes : List ℕ) (have : List Listed) → is_skipped bytes ≡ true → with_line line bytes have ≡ Ok have
skips line bytes have e = rw e refl

module _ (line : ℕ) (bytes : List ℕ) (have : List Listed) (stands : is_skipped bytes ≡ false) where
  pub full : most_entries ≤ length have → with_line line bytes have ≡ breaks line Limit
  full le = rw (stands, le-ltb (length have) most_entries le) refl

  pub takes : length have < most_entries → (o : Option Listed) → line_entry bytes ≡ o → with_line line bytes have ≡ one_more line have o
  takes less o e = rw (stands, lt-ltb (length have) most_entries less) (ap (one_more line have) e)

-- ---- the session behind the names

-- words behind that of a session are none of it
pub too_many : (word : List ℕ) (words : List (List ℕ)) (text : List ℕ) (o : Option (Bor (List ℕ) × Bor (List ℕ))) → words ≡ word ∷ runs is_plain text → MatchOption o (runs is_plain text ≡ []) (λ x. IsRun is_plain text x.0.now x.1.now) → is_some o ≡ true
    → None ≡ session_of words
too_many word words text None are run some = absurd cc
too_many word words text (Some x) are run some = rw (are, run.runs_are) refl

-- one word is that of a session, or of none
pub one_word : (word : List ℕ) (words : List (List ℕ)) (text : List ℕ) (o : Option (Bor (List ℕ) × Bor (List ℕ))) → words ≡ word ∷ runs is_plain text → MatchOption o (runs is_plain text ≡ []) (λ x. IsRun is_plain text x.0.now x.1.now) → is_some o ≡ false
    → session_of words ≡ and_then (behind (codes "session=") word) session_bytes
one_word word words text None are run none = rw (are, run) refl
one_word word words text (Some x) are run none = absurd cc

-- ---- line after line

-- what is left of a list at a line
pub record Left (line : ℕ) (text : List ℕ) (left : Option (Bor (List ℕ))) (have : List Listed) : Type 0 where
  pub room : line + left_size left ≤ 2 + length text
  pub read : entries_of text ≡ entries_to line (lines_left left) have

pub left_first : (text : Bor (List ℕ)) → Left 1 text.now (Some text) []
unfolding entries_of
left_first text = record { room = omega arith; read = refl }

step : (line : ℕ) (now : List ℕ) (later : List (List ℕ)) (have more : List Listed) → with_line line now have ≡ Ok more → entries_to line (now ∷ later) have ≡ entries_to (line + 1) later more
unfolding entries_to
step line now later have more e = rw e refl

stop : (line : ℕ) (now : List ℕ) (later : List (List ℕ)) (have : List Listed) (f : ListFault) → with_line line now have ≡ Err f → entries_to line (now ∷ later) have ≡ Err f
unfolding entries_to
stop line now later have f e = rw e refl

pub left_next : (line : ℕ) (text now : List ℕ) (have more : List Listed) (behind : Bor (List ℕ)) (after : Option (Bor (List ℕ))) → IsNext behind.now now after → Left line text (Some behind) have
    → with_line line now have ≡ Ok more → Left (line + 1) text after more
left_next line text now have more behind None next h e = record {
  room = omega (arith, h.room);
  read = h.read ∙ (ap (λ ls. entries_to line ls have) next ∙ step line now [] have more e);
}
left_next line text now have more behind (Some rest) next h e = record {
  room = omega (arith, h.room, next.shorter);
  read = h.read ∙ (ap (λ ls. entries_to line ls have) next.lines_are ∙ step line now (lines rest.now) have more e);
}

pub left_stop : (line : ℕ) (text now : List ℕ) (have : List Listed) (behind : Bor (List ℕ)) (after : Option (Bor (List ℕ))) (e : ListError) → IsNext behind.now now after → Left line text (Some behind) have
    → Fails e (with_line line now have) → Fails e (entries_of text)
left_stop line text now have behind after errors.OutOfMemory next h e = tt
left_stop line text now have behind None (errors.Fault f) next h e = h.read ∙ (ap (λ ls. entries_to line ls have) next ∙ stop line now [] have f e)
left_stop line text now have behind (Some rest) (errors.Fault f) next h e = h.read ∙ (ap (λ ls. entries_to line ls have) next.lines_are ∙ stop line now (lines rest.now) have f e)

pub left_done : (line : ℕ) (text : List ℕ) (have : List Listed) → Left line text None have → entries_of text ≡ Ok have
unfolding entries_to
left_done line text have h = h.read

-- what a session that was read is
pub is_session : {A B : Type 0} (f : A → B) (o : Option A) (p : Option B) → option_map f o ≡ p → MatchOption o (p ≡ None) (λ v. p ≡ Some (f v))
is_session f None p e = sym e
is_session f (Some v) p e = sym e

none_of : {A : Type 0} (P : Type 0) (Q : A → Type 0) (o : Option A) → MatchOption o P Q → ((x : A) → o ≡ Some x → ⊥) → P
none_of P Q None h no_some = h
none_of P Q (Some x) h no_some = absurd (no_some x refl)

pub no_session : {A B : Type 0} (f : A → B) (o : Option A) (p : Option B) → option_map f o ≡ p → ((x : A) → o ≡ Some x → ⊥) → p ≡ None
no_session f o p e no_some = none_of (p ≡ None) (λ v. p ≡ Some (f v)) o (is_session f o p e) no_some
