-- The numbers of a text, and the first rule that it breaks.
use Rattle.std.specs.Prelude.{◌≡◌, ℕ, ◌+◌, ◌<◌, List, [], ◌∷◌, ◌++◌, length, map, Option, Some, None, Result, Ok, Err, nat_lt, if◌then◌else◌}
use Rattle.std.specs.List.{AllByRecursion, flat_map}
use Rattle.lzk_expr.specs.Texts.{lines, content, runs, is_plain, number_of}
use Rattle.lzk_expr.specs.declared.fault.NumberKind.{NumberKind}
use Rattle.lzk_expr.specs.declared.fault.NumberKind.TheVariants.{Syntax, TooLarge, TooFew, TooMany}
use Rattle.lzk_expr.specs.declared.fault.NumberFault.{NumberFault}
use Rattle.lzk_expr.specs.declared.fault.NumberError.{NumberError}
use Rattle.lzk_expr.specs.declared.fault.NumberError.TheVariants as errors

infixl 10 ◌>>=◌
abbrev pub ◌>>=◌ : {A B : Type 0} → Result A NumberFault → (A → Result B NumberFault) → Result B NumberFault
(Ok x) >>= f = f x
(Err e) >>= f = Err e

abbrev pub breaks : {A : Type 0} → ℕ → NumberKind → Result A NumberFault
breaks line kind = Err (record { line = line; kind = kind })

-- a word as one more number, where fewer than count are there
abbrev pub word_as : ℕ → ℕ → ℕ → List ℕ → Option ℕ → Result (List ℕ) NumberFault
word_as size count line have None = breaks line Syntax
word_as size count line have (Some n) =
    if nat_lt (length have) count then (if nat_lt n size then Ok (have ++ n ∷ []) else breaks line TooLarge) else breaks
    line TooMany

unfoldable pub words_to : ℕ → ℕ → ℕ → List (List ℕ) → List ℕ → Result (List ℕ) NumberFault
words_to size count line [] have = Ok have
words_to size count line (w ∷ ws) have = do
  more ← word_as size count line have (number_of w)
  words_to size count line ws more

unfoldable pub lines_to : ℕ → ℕ → ℕ → List (List ℕ) → List ℕ → Result (List ℕ) NumberFault
lines_to size count line [] have = Ok have
lines_to size count line (l ∷ ls) have = do
  more ← words_to size count line (runs is_plain (content l)) have
  lines_to size count (line + 1) ls more

-- The numbers of the text, or its fault. There is one line more than there are line feeds.
unfoldable pub numbers_of : ℕ → ℕ → List ℕ → Result (List ℕ) NumberFault
numbers_of size count text = do
  have ← lines_to size count 1 (lines text) []
  if nat_lt (length have) count then breaks (length (lines text)) TooFew else Ok have

abbrev pub words_of : List ℕ → List (List ℕ)
words_of text = flat_map (λ line. runs is_plain (content line)) (lines text)

-- The text's words are these numbers, each below size.
pub record NumberText (size count : ℕ) (text list : List ℕ) : Type 0 where
  pub words : map number_of (words_of text) ≡ map Some list
  pub number : length list ≡ count
  pub below : AllByRecursion (λ n. n < size) list

abbrev pub Fails : {Y : Type 0} → NumberError → Result Y NumberFault → Type 0
Fails errors.OutOfMemory read = Unit {0}
Fails (errors.Fault f) read = read ≡ Err f

-- The text is no list of numbers. The fault is on the line of the first token that breaks a rule, and is the first rule
-- that it breaks.
abbrev pub IsNumberFault : ℕ → ℕ → List ℕ → NumberFault → Type 0
IsNumberFault size count text fault = numbers_of size count text ≡ Err fault

-- the first fault of the text; or memory ran out
abbrev pub IsFirstFault : ℕ → ℕ → List ℕ → NumberError → Type 0
IsFirstFault size count text errors.OutOfMemory = Unit {0}
IsFirstFault size count text (errors.Fault f) = IsNumberFault size count text f
