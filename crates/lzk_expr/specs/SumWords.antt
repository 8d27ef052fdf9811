-- The words of an expression's tokens.
use Rattle.std.specs.Prelude.{◌≡◌, ℕ, List, [], ◌∷◌, ◌++◌, map, length, Bool, ◌&&◌}
use Rattle.std.specs.HashMap.{HashMap}
use Rattle.lzk_expr.specs.declared.ast.FieldId.{FieldId}
use Rattle.lzk_expr.specs.declared.names.Binding.{Binding}
use Rattle.lzk_expr.specs.declared.code.Word.{Word}
use Rattle.lzk_expr.specs.declared.code.Word.TheVariants as words
use Rattle.lzk_expr.specs.declared.sum_words.TokenWord.{TokenWord}
use Rattle.lzk_expr.specs.Tokens.{Token}
use Rattle.lzk_expr.specs.Trees.{Expr}
use Rattle.lzk_expr.specs.Meanings.{Step, token_step}
use Rattle.lzk_expr.specs.Table.{bound, held_number, token_known, token_below, IsSum}
use Rattle.lzk_expr.specs.Codes.{Item, code_word, AddsSteps}

-- what a token adds, where the table says what names stand for
abbrev pub step_in : {S : Type 0} → HashMap (List ℕ) Binding S → Token → Step
step_in m t = token_step held_number (bound m) t

-- the number that comes with a word, if it is a number's
abbrev pub numbers_of : Word → ℕ → List ℕ
numbers_of (words.Number i) n = n ∷ []
numbers_of _ n = []

-- The word of a token, whatever numbers come behind; and whether its name is known and its number is below the field's
-- size, as those before it are.
pub record IsWordOf {S : Type 0} (f : FieldId) (m : HashMap (List ℕ) Binding S) (t : Token) (place : ℕ)
    (known below : Bool) (x : TokenWord) : Type 0 where
  pub word_is : (old behind : List ℕ) → length old ≡ place
      → code_word ((old ++ numbers_of x.word x.number) ++ behind) x.word ≡ Item (step_in m t)
  pub known_is : (token_known m t && known) ≡ x.known
  pub below_is : (token_below f t && below) ≡ x.below

-- Behind the old words and numbers stand those of the tokens.
abbrev pub AreWordsOf :
    {S : Type 0} → HashMap (List ℕ) Binding S → List Token → List Word → List Word → List ℕ → List ℕ → Type 0
AreWordsOf m ts old_words new_words old_numbers new_numbers =
    AddsSteps (map (step_in m) ts) old_words new_words old_numbers new_numbers

-- The tokens are an expression, and its words were added with this end.
pub record IsCoded {S : Type 0} (f : FieldId) (m : HashMap (List ℕ) Binding S) (ts : List Token) (end : Word)
    (old_words new_words : List Word) (old_numbers new_numbers : List ℕ) (known below : Bool) : Type 0 where
  pub expr : Expr
  pub sum : IsSum f m ts expr known below
  pub ended : List Word
  pub ended_is : new_words ≡ ended ++ end ∷ []
  pub added : AreWordsOf m ts old_words ended old_numbers new_numbers
