-- The lines of a text of values: each is a name and a word.
use Rattle.std.specs.Prelude.{◌≡◌, ℕ, ◌+◌, List, [], ◌∷◌, ◌++◌, Option, Some, None, Result, Ok, Err, if◌then◌else◌}
use Rattle.lzk_expr.specs.Texts.{lines, content, runs, is_plain}
use Rattle.lzk_policy.specs.Lines.{and_then, only, is_skipped}
use Rattle.lzk_policy.specs.Lines as policies
use Rattle.lzk_policy_texts.specs.declared.entries.Entry.{Entry}
use Rattle.lzk_policy_texts.specs.declared.entries.ValuesKind.{ValuesKind}
use Rattle.lzk_policy_texts.specs.declared.entries.ValuesKind.TheVariants as kinds
use Rattle.lzk_policy_texts.specs.declared.entries.ValuesFault.{ValuesFault}
use Rattle.lzk_policy_texts.specs.declared.entries.ValuesFault.TheVariants as faults
use Rattle.lzk_policy_texts.specs.declared.entries.ValuesError.{ValuesError}
use Rattle.lzk_policy_texts.specs.declared.entries.ValuesError.TheVariants as errors

-- a word of 1 to 32 bytes
abbrev pub name_of : List ℕ → Option (List ℕ)
name_of = policies.name_of

-- two words: a name and what it stands for
unfoldable pub entry_words : ℕ → List (List ℕ) → Option Entry
entry_words line [] = None
entry_words line (name ∷ words) =
    and_then (name_of name) (λ n. and_then (only words) (λ word. and_then (name_of word) (λ w.
    Some (record { line = line; name = n; word = w }))))

unfoldable pub entry_of : ℕ → List ℕ → Option Entry
entry_of line bytes = entry_words line (runs is_plain (content bytes))

abbrev pub breaks : {A : Type 0} → ℕ → ValuesKind → Result A ValuesFault
breaks line kind = Err (faults.Line line kind)

abbrev pub with_entry : ℕ → List Entry → Option Entry → Result (List Entry) ValuesFault
with_entry line have None = breaks line kinds.Syntax
with_entry line have (Some e) = Ok (have ++ e ∷ [])

-- what the lines so far say together with one more; one of blanks and a comment says nothing
unfoldable pub with_line : ℕ → List Entry → List ℕ → Result (List Entry) ValuesFault
with_line line have bytes = if is_skipped bytes then Ok have else with_entry line have (entry_of line bytes)

abbrev pub if_read : {A B : Type 0} → Result A ValuesFault → (A → Result B ValuesFault) → Result B ValuesFault
if_read (Ok x) f = f x
if_read (Err e) f = Err e

-- what the lines of a text from this number on say, line after line, behind what those before them said
unfoldable pub lines_from :
    {A : Type 0} → (ℕ → A → List ℕ → Result A ValuesFault) → ℕ → A → List (List ℕ) → Result A ValuesFault
lines_from takes line have [] = Ok have
lines_from takes line have (bytes ∷ others) =
    if_read (takes line have bytes) (λ more. lines_from takes (line + 1) more others)

-- the lines of a text, or its first fault
unfoldable pub entries_of : List ℕ → Result (List Entry) ValuesFault
entries_of text = lines_from with_line 1 [] (lines text)

-- that fault, or memory ran out
abbrev pub Fails : {A : Type 0} → ValuesError → Result A ValuesFault → Type 0
Fails (errors.Fault fault) read = read ≡ Err fault
Fails errors.OutOfMemory read = Unit {0}
