-- A source as code: the steps of its expressions in the order of the text, and where each of them ends.
use Rattle.std.specs.Prelude.{◌≡◌, ℕ, List, [], ◌∷◌, ◌++◌, map, Option, Some, None, slice_index_or, count_by}
use Rattle.lzk_expr.specs.declared.ast.FieldId.{FieldId}
use Rattle.lzk_expr.specs.declared.code.Word.{Word}
use Rattle.lzk_expr.specs.declared.code.Word.TheVariants as words
use Rattle.lzk_expr.specs.Trees.{Expr, Statement, SourceTree, is_public, is_private}
use Rattle.lzk_expr.specs.Trees as tree
use Rattle.lzk_expr.specs.Meanings.{Step, Reads, nothing_read, next, ends, then_reads, ends_of}
use Rattle.lzk_expr.specs.Meanings as meaning
use Rattle.lzk_expr.specs.Sources.{IsWellFormed}

-- ---- words

-- a step of an expression; or the end of the expression of a let, of an assert's left side, of its right side
pub data CodeWord : Type 0 where
  Item : Step → CodeWord
  Define : CodeWord
  Left : CodeWord
  Right : CodeWord

-- a word in memory, where numbers stand in a list
abbrev pub code_word : List ℕ → Word → CodeWord
code_word numbers (words.Number i) = Item (meaning.Atom (tree.Number (slice_index_or numbers i 0)))
code_word numbers (words.Public i) = Item (meaning.Atom (tree.PublicInput i))
code_word numbers (words.Private i) = Item (meaning.Atom (tree.PrivateInput i))
code_word numbers (words.Named i) = Item (meaning.Atom (tree.Named i))
code_word numbers words.Plus = Item meaning.Plus
code_word numbers words.Minus = Item meaning.Minus
code_word numbers words.Times = Item meaning.Times
code_word numbers words.Open = Item meaning.Open
code_word numbers words.Close = Item meaning.Close
code_word numbers words.Define = Define
code_word numbers words.Left = Left
code_word numbers words.Right = Right

abbrev pub code_words : List ℕ → List Word → List CodeWord
code_words numbers ws = map (code_word numbers) ws

-- Behind the old words and numbers stand those of these steps, whatever numbers come behind.
pub record AddsSteps (steps : List Step) (old_words new_words : List Word) (old_numbers new_numbers : List ℕ) :
    Type 0 where
  pub words : List Word
  pub words_are : new_words ≡ old_words ++ words
  pub numbers : List ℕ
  pub numbers_are : new_numbers ≡ old_numbers ++ numbers
  pub steps_are : (behind : List ℕ) → code_words (new_numbers ++ behind) words ≡ map Item steps

-- ---- what code says

-- a statement without its name
pub data Nameless : Type 0 where
  Definition : Expr → Nameless
  Equation : Expr → Expr → Nameless

-- a declaration has no code
abbrev pub nameless : List Statement → List Nameless
nameless [] = []
nameless (tree.DeclarePublic w ∷ ss) = nameless ss
nameless (tree.DeclarePrivate w ∷ ss) = nameless ss
nameless (tree.Define w e ∷ ss) = Definition e ∷ nameless ss
nameless (tree.Assertion e f ∷ ss) = Equation e f ∷ nameless ss

-- What was read of code: the expression that is read, the left side of an equation, and the statements before.
pub record CodeReads : Type 0 where
  pub reads : Reads
  pub left : Option Expr
  pub done : List Nameless

-- code of whole statements was read
abbrev pub code_done : List Nameless → CodeReads
code_done ss = record { reads = nothing_read; left = None; done = ss }

abbrev pub nothing_coded : CodeReads
nothing_coded = code_done []

abbrev pub expression_goes_on : CodeReads → Option Reads → Option CodeReads
expression_goes_on r None = None
expression_goes_on r (Some reads) = Some (record { reads = reads; left = r.left; done = r.done })

-- the expression that ended here, and the left side before, if there is one
abbrev pub definition_ends : CodeReads → Option Expr → Option Expr → Option CodeReads
definition_ends r None (Some e) = Some (code_done (r.done ++ Definition e ∷ []))
definition_ends r _ _ = None

abbrev pub left_ends : CodeReads → Option Expr → Option Expr → Option CodeReads
left_ends r None (Some e) = Some (record { reads = nothing_read; left = Some e; done = r.done })
left_ends r _ _ = None

abbrev pub right_ends : CodeReads → Option Expr → Option Expr → Option CodeReads
right_ends r (Some e) (Some f) = Some (code_done (r.done ++ Equation e f ∷ []))
right_ends r _ _ = None

abbrev pub next_word : CodeReads → CodeWord → Option CodeReads
next_word r (Item s) = expression_goes_on r (next r.reads s)
next_word r Define = definition_ends r r.left (ends r.reads)
next_word r Left = left_ends r r.left (ends r.reads)
next_word r Right = right_ends r r.left (ends r.reads)

abbrev pub then_words : Option CodeReads → (CodeReads → Option CodeReads) → Option CodeReads
then_words None f = None
then_words (Some r) f = f r

-- the reading of code
unfoldable pub words_read : CodeReads → List CodeWord → Option CodeReads
words_read r [] = Some r
words_read r (w ∷ ws) = then_words (next_word r w) (λ more. words_read more ws)

-- the reading of an expression's steps
unfoldable pub steps_read : Reads → List Step → Option Reads
steps_read r [] = Some r
steps_read r (s ∷ ss) = then_reads (next r s) (λ more. steps_read more ss)

-- the expression that steps are, if they are one
abbrev pub steps_mean : List Step → Option Expr
steps_mean ss = ends_of (steps_read nothing_read ss)

-- the code of these statements
abbrev pub AreCodeOf : List Statement → List CodeWord → Type 0
AreCodeOf ss ws = words_read nothing_coded ws ≡ Some (code_done (nameless ss))

-- ---- a source as code

pub record Coded : Type 0 where
  pub field_is : FieldId
  pub publics : ℕ
  pub privates : ℕ
  pub words : List Word
  pub numbers : List ℕ

-- the code of this source
pub record IsCodeOf (c : Coded) (source : SourceTree) : Type 0 where
  pub field_is : c.field_is ≡ source.field_is
  pub publics_are : c.publics ≡ count_by is_public source.statements
  pub privates_are : c.privates ≡ count_by is_private source.statements
  pub words_are : AreCodeOf source.statements (code_words c.numbers c.words)

-- the code of some source
pub record IsSomeCode (c : Coded) : Type 0 where
  pub source : SourceTree
  pub formed : IsWellFormed source
  pub is : IsCodeOf c source
