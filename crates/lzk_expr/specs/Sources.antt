-- What a text reads as: its source, or the first rule that it breaks.
use Rattle.std.specs.Prelude.{◌≡◌, ℕ, ◌+◌, ◌-◌, ◌≤◌, List, [], ◌∷◌, ◌++◌, length, nat_le, nat_lt, ◌&&◌, ◌||◌, not, Bool, true, false, Option, Some, None, is_some, Result, Ok, Err, if◌then◌else◌, count_by}
use Rattle.std.specs.List.{list_all, list_any}
use Rattle.lzk_expr.specs.Texts.{lines, content}
use Rattle.lzk_expr.specs.Tokens.{Token, tokens, keeps_characters, is_empty_line}
use Rattle.lzk_expr.specs.Tokens as token
use Rattle.lzk_expr.specs.declared.tokens.Keyword.{Keyword}
use Rattle.lzk_expr.specs.declared.tokens.Keyword.TheVariants as keys
use Rattle.std.specs.Str.{bytes_eq}
use Rattle.lzk_profile.specs.Profile.{prime, most_privates}
use Rattle.lzk_expr.specs.Grammar.{Line, FieldLine, PublicLine, PrivateLine, LetLine, AssertLine, IsForm, sum_names, sum_numbers}
use Rattle.lzk_expr.specs.Trees.{Statement, SourceTree, is_public, is_private, is_assertion, name_of, line_means}
use Rattle.lzk_expr.specs.declared.source_fault.SourceKind.{SourceKind}
use Rattle.lzk_expr.specs.declared.source_fault.SourceKind.TheVariants as kinds
use Rattle.lzk_expr.specs.declared.source_fault.SourceFault.{SourceFault}
use Rattle.lzk_expr.specs.declared.source_fault.SourceError.{SourceError}
use Rattle.lzk_expr.specs.declared.source_fault.SourceError.TheVariants as errors
use Rattle.lzk_expr.specs.declared.ast.FieldId.{FieldId}
use Rattle.lzk_expr.specs.declared.ast.FieldId.TheVariants as fields

-- what was read before a line
pub record Before : Type 0 where
  pub field_is : Option FieldId
  pub statements : List Statement

abbrev pub nothing_yet : Before
nothing_yet = record { field_is = None; statements = [] }

-- ---- the rules of a statement line

abbrev pub first_keyword : List Token → Option Keyword
first_keyword (token.Key k ∷ ts) = Some k
first_keyword _ = None

abbrev pub is_field : Keyword → Bool
is_field keys.Field = true
is_field _ = false

-- names have at most 32 bytes
abbrev pub is_short : Token → Bool
is_short (token.Name w) = nat_le (length w) 32
is_short _ = true

-- at most 64 parentheses are open at any place, where so many are open before
abbrev pub is_shallow : ℕ → List Token → Bool
is_shallow n [] = true
is_shallow n (token.Open ∷ ts) = nat_lt n 64 && is_shallow (n + 1) ts
is_shallow n (token.Close ∷ ts) = is_shallow (n - 1) ts
is_shallow n (_ ∷ ts) = is_shallow n ts

-- The counts of names and asserts keep their bounds. Each token behind public or private counts as a name.
abbrev pub is_few : List Statement → Keyword → ℕ → Bool
is_few ss keys.Public more = nat_le (count_by is_public ss + more) 65535
is_few ss keys.Private more = nat_le (count_by is_private ss + more) most_privates
is_few ss keys.Assert more = nat_lt (count_by is_assertion ss) 131072
is_few ss _ more = true

abbrev pub keeps_limits : List Statement → Keyword → List Token → Bool
keeps_limits ss k ts = list_all is_short ts && (is_shallow 0 ts && is_few ss k (length ts - 1))

-- no name of the list is declared, or stands in it twice
abbrev pub are_new : List Statement → List (List ℕ) → Bool
are_new ss [] = true
are_new ss (w ∷ ws) = not (is_some (name_of ss w)) && (not (list_any (bytes_eq w) ws) && are_new ss ws)

abbrev pub is_new : Before → Line → Bool
is_new b (FieldLine f) = not (is_some b.field_is)
is_new b (PublicLine w ws) = are_new b.statements (w ∷ ws)
is_new b (PrivateLine w ws) = are_new b.statements (w ∷ ws)
is_new b (LetLine w s) = are_new b.statements (w ∷ [])
is_new b (AssertLine s t) = true

-- the names and the numbers of a line's expressions
abbrev pub line_names : Line → List (List ℕ)
line_names (LetLine w s) = sum_names s
line_names (AssertLine s t) = sum_names s ++ sum_names t
line_names _ = []

abbrev pub line_numbers : Line → List ℕ
line_numbers (LetLine w s) = sum_numbers s
line_numbers (AssertLine s t) = sum_numbers s ++ sum_numbers t
line_numbers _ = []

abbrev pub field_size : FieldId → ℕ
field_size fields.Goldilocks = prime
field_size fields.Gf2_128 = 340282366920938463463374607431768211456

abbrev pub is_below : Option FieldId → ℕ → Bool
is_below None n = false
is_below (Some f) n = nat_lt n (field_size f)

abbrev pub after : Before → Line → Before
after b (FieldLine f) = record { field_is = Some f; statements = b.statements }
after b line = record { field_is = b.field_is; statements = b.statements ++ line_means b.statements line }

-- how it goes on behind a line with this form: the rules Syntax, Twice, Unknown and TooLarge
abbrev pub form_read : Before → Option Line → Result Before SourceKind
form_read b None = Err kinds.Syntax
form_read b (Some line) =
    if is_new b line then
    (if list_all (λ w. is_some (name_of b.statements w)) (line_names line) then
    (if list_all (is_below b.field_is) (line_numbers line) then Ok (after b line) else Err kinds.TooLarge)
    else Err kinds.Unknown)
    else Err kinds.Twice

-- the rules NoField and Limit
abbrev pub keyword_read : Before → List Token → Option Line → Option Keyword → Result Before SourceKind
keyword_read b ts form None = Err kinds.Keyword
keyword_read b ts form (Some k) =
    if is_some b.field_is || is_field k then
    (if keeps_limits b.statements k ts then form_read b form else Err kinds.Limit)
    else Err kinds.NoField

-- all rules of a statement line, in their order
abbrev pub line_read : Before → List ℕ → Option Line → Result Before SourceKind
line_read b bytes form =
    if keeps_characters bytes then keyword_read b (tokens bytes) form (first_keyword (tokens bytes)) else Err
    kinds.Character

-- What was read before is followed by this, where the line holds these bytes before its comment.
pub record LineReads (b : Before) (bytes : List ℕ) (read : Result Before SourceKind) : Type 0 where
  pub form : Option Line
  pub is_form : IsForm (tokens bytes) form
  pub read_is : line_read b bytes form ≡ read

-- ---- a text

-- what follows a line that has this number, where rest says how the lines behind it are read
abbrev pub LineThen : ℕ → Result Before SourceFault → (Before → Type 0) → Result Before SourceKind → Type 0
LineThen n read rest (Err kind) = read ≡ Err (record { line = n; kind = kind })
LineThen n read rest (Ok b) = rest b

-- a line is skipped where it holds nothing before its comment, and is a statement line else
abbrev pub LineAt : ℕ → Before → List ℕ → Result Before SourceFault → (Before → Type 0) → Bool → Type 0
LineAt n b bytes read rest true = rest b
LineAt n b bytes read rest false =
    (step : Result Before SourceKind) × LineReads b bytes step × LineThen n read rest step

-- the lines from a number on, read behind what was read before
unfoldable pub LinesRead : ℕ → Before → List (List ℕ) → Result Before SourceFault → Type 0
LinesRead n b [] read = read ≡ Ok b
LinesRead n b (l ∷ ls) read =
    LineAt n b (content l) read (λ next. LinesRead (n + 1) next ls read) (is_empty_line (content l))

-- at the end, which is in the line with this number: a field line and an assert are there
abbrev pub ended : ℕ → Before → Option FieldId → Result SourceTree SourceFault
ended n b None = Err (record { line = n; kind = kinds.NoField })
ended n b (Some f) =
    if list_any is_assertion b.statements then Ok (record { field_is = f; statements = b.statements })
    else Err (record { line = n; kind = kinds.NoAssert })

abbrev pub ended_read : ℕ → Result Before SourceFault → Result SourceTree SourceFault
ended_read n (Err fault) = Err fault
ended_read n (Ok b) = ended n b b.field_is

-- The text reads as this source, or breaks a rule first in this line. There is one line more than there are line feeds.
pub record TextReads (text : List ℕ) (read : Result SourceTree SourceFault) : Type 0 where
  pub all : Result Before SourceFault
  pub lines_read : LinesRead 1 nothing_yet (lines text) all
  pub read_is : ended_read (length (lines text)) all ≡ read

-- The text is this source.
abbrev pub SourceText : List ℕ → SourceTree → Type 0
SourceText text source = TextReads text (Ok source)

-- The text is no source, and this is its first fault.
abbrev pub IsSourceFault : List ℕ → SourceFault → Type 0
IsSourceFault text fault = TextReads text (Err fault)

-- the first fault of the text; or memory ran out
abbrev pub IsFirstSourceFault : List ℕ → SourceError → Type 0
IsFirstSourceFault text errors.OutOfMemory = Unit {0}
IsFirstSourceFault text (errors.Fault f) = IsSourceFault text f

-- A source is well formed: some text of at most 4 MiB is it.
pub record IsWellFormed (source : SourceTree) : Type 0 where
  pub text : List ℕ
  pub short : length text ≤ 4194304
  pub reads : SourceText text source

-- a source that is well formed, with its counts of public inputs, private inputs and asserts
pub record IsSource (source : SourceTree) (publics privates asserts : ℕ) : Type 0 where
  pub formed : IsWellFormed source
  pub publics_are : publics ≡ count_by is_public source.statements
  pub privates_are : privates ≡ count_by is_private source.statements
  pub asserts_are : asserts ≡ count_by is_assertion source.statements
