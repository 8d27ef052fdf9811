-- What was read of a source, as code in memory.
use Rattle.std.specs.Prelude.{◌≡◌, ℕ, ◌+◌, List, [], ◌∷◌, ◌++◌, Bool, true, false, Option, Some, None, Ok, length, count_by, nat_le, nat_lt}
use Rattle.lzk_profile.specs.Profile.{most_privates}
use Rattle.lzk_expr.specs.declared.ast.FieldId.{FieldId}
use Rattle.lzk_expr.specs.declared.coder.Coder.{Coder}
use Rattle.lzk_expr.specs.declared.coder.Input.{Input}
use Rattle.lzk_expr.specs.declared.coder.Input.TheVariants as inputs
use Rattle.lzk_expr.specs.declared.tokens.Keyword.{Keyword}
use Rattle.lzk_expr.specs.declared.tokens.Keyword.TheVariants as keys
use Rattle.lzk_expr.specs.declared.tokens.Symbol.{Symbol}
use Rattle.lzk_expr.specs.declared.source_fault.SourceKind.{SourceKind}
use Rattle.lzk_expr.specs.declared.source_fault.SourceKind.TheVariants as kinds
use Rattle.lzk_expr.specs.Texts.{lines, content}
use Rattle.lzk_expr.specs.Tokens.{Token, Key, is_empty_line}
use Rattle.lzk_expr.specs.TokenReadings.{AreTold}
use Rattle.lzk_expr.specs.Trees.{Statement, name_of, is_public, is_private, is_assertion}
use Rattle.lzk_expr.specs.Sources.{Before, nothing_yet, LineReads, LinesRead}
use Rattle.lzk_expr.specs.Table.{found}
use Rattle.lzk_expr.specs.Codes.{AreCodeOf, Coded, code_words}
use Rattle.lzk_expr.specs.Readers.{named, is_define, step_of, FormReads, StepReads}

-- This was read: the table has the declared names, the counts are those of the statements, and the words are their
-- code, whatever numbers are added behind those that are there.
pub record IsCoder (c : Coder) (b : Before) : Type 0 where
  pub field_is : c.field ≡ b.field_is
  pub names_are : (w : List ℕ) → named (found c.names.table w) ≡ name_of b.statements w
  pub publics_are : c.publics ≡ count_by is_public b.statements
  pub privates_are : c.privates ≡ count_by is_private b.statements
  pub lets_are : c.lets ≡ count_by is_define b.statements
  pub asserts_are : c.asserts ≡ count_by is_assertion b.statements
  pub words_are : (more : List ℕ) → AreCodeOf b.statements (code_words (c.numbers.items ++ more) c.words.items)

-- with one more statement
abbrev pub with_statement : Before → Statement → Before
with_statement b s = record { field_is = b.field_is; statements = b.statements ++ s ∷ [] }

-- The tokens of a line are taken behind what was read, or break a rule.
pub record TakesCode (b : Before) (new : Coder) (ts : List Token) (broken : Option SourceKind) : Type 0 where
  pub after : Before
  pub reads : FormReads b ts (step_of broken after)
  pub holds : broken ≡ None → IsCoder new after

-- The symbols behind a keyword are taken with it, or break a rule.
abbrev pub TakesSymbols : Coder → Coder → Keyword → List Symbol → Option SourceKind → Type 0
TakesSymbols old new keyword symbols broken =
    (b : Before) (ts : List Token) → IsCoder old b → AreTold symbols ts → TakesCode b new (Key keyword ∷ ts) broken

-- A line is taken, or breaks a rule.
pub record TakesCodeLine (b : Before) (new : Coder) (bytes : List ℕ) (broken : Option SourceKind) : Type 0 where
  pub after : Before
  pub reads : LineReads b bytes (step_of broken after)
  pub holds : broken ≡ None → IsCoder new after

-- A line of a text is taken, or breaks a rule. One with nothing before its comment is skipped.
pub record TakesTextLine (b : Before) (new : Coder) (line : List ℕ) (broken : Option SourceKind) : Type 0 where
  pub after : Before
  pub reads : StepReads b (content line) (step_of broken after) (is_empty_line (content line))
  pub holds : broken ≡ None → IsCoder new after

-- All lines of a text were taken, the last of which has this number.
pub record TakesText (text : List ℕ) (last : ℕ) (c : Coder) : Type 0 where
  pub after : Before
  pub last_is : last ≡ length (lines text)
  pub reads : LinesRead 1 nothing_yet (lines text) (Ok after)
  pub holds : IsCoder c after

-- the code in memory, in this field
abbrev pub coded : FieldId → Coder → Coded
coded f c = record {
  field_is = f;
  publics = c.publics;
  privates = c.privates;
  words = c.words.items;
  numbers = c.numbers.items;
}

abbrev pub input_count : Input → Coder → ℕ
input_count inputs.Public c = c.publics
input_count inputs.Private c = c.privates

-- how many let names and numbers there are, which no rule bounds: each has a token of its own
abbrev pub used : Coder → ℕ
used c = c.lets + length c.numbers.items

-- whether the counts keep their bounds with a line of this keyword and of so many tokens behind it
abbrev pub has_room : Coder → Keyword → ℕ → Bool
has_room c keys.Public more = nat_le (c.publics + more) 65535
has_room c keys.Private more = nat_le (c.privates + more) most_privates
has_room c keys.Assert more = nat_lt c.asserts 131072
has_room c _ more = true

-- the first rule that a line with an expression breaks: whether that is one, whether a name is declared again, and
-- whether the names are known and the numbers are below the field's size
abbrev pub broken_by : Bool → Bool → Bool → Bool → Option SourceKind
broken_by false twice known below = Some kinds.Syntax
broken_by true true known below = Some kinds.Twice
broken_by true false false below = Some kinds.Unknown
broken_by true false true false = Some kinds.TooLarge
broken_by true false true true = None

-- the first rule that a line of names breaks: whether there is none, and whether one is declared again
abbrev pub names_broken_by : Bool → Bool → Option SourceKind
names_broken_by true twice = Some kinds.Syntax
names_broken_by false true = Some kinds.Twice
names_broken_by false false = None

-- the rule that a line breaks before its form is looked at: whether its keyword may stand here, and whether the limits
-- are kept
abbrev pub refused_by : Bool → Bool → Option SourceKind
refused_by false kept = Some kinds.NoField
refused_by true false = Some kinds.Limit
refused_by true true = None
