-- The grammar of a statement line: a tree for each way to write it, and its tokens.
use Rattle.std.specs.Prelude.{◌≡◌, ℕ, List, [], ◌∷◌, ◌++◌, map, codes, Option, Some, None}
use Rattle.lzk_profile.specs.Profile.{field_word}
use Rattle.lzk_expr.specs.Tokens.{Token}
use Rattle.lzk_expr.specs.Tokens as token
use Rattle.lzk_expr.specs.declared.tokens.Keyword.TheVariants as keys
use Rattle.lzk_expr.specs.declared.ast.FieldId.{FieldId}
use Rattle.lzk_expr.specs.declared.ast.FieldId.TheVariants as fields

mutual
  -- sum = product {("+" | "-") product}
  pub data Sum : Type 0 where
    Single : Product → Sum
    Plus : Sum → Product → Sum
    Less : Sum → Product → Sum

  -- product = factor {"*" factor}
  pub data Product : Type 0 where
    Lone : Factor → Product
    Times : Product → Factor → Product

  -- factor = ["-"] atom
  pub data Factor : Type 0 where
    Plain : Atom → Factor
    Minus : Atom → Factor

  -- atom = number | name | "(" sum ")"
  pub data Atom : Type 0 where
    Number : ℕ → Atom
    Name : List ℕ → Atom
    Group : Sum → Atom

abbrev mutual
  pub sum_tokens : Sum → List Token
  sum_tokens (Single p) = product_tokens p
  sum_tokens (Plus s p) = sum_tokens s ++ (token.Plus ∷ product_tokens p)
  sum_tokens (Less s p) = sum_tokens s ++ (token.Minus ∷ product_tokens p)

  pub product_tokens : Product → List Token
  product_tokens (Lone f) = factor_tokens f
  product_tokens (Times p f) = product_tokens p ++ (token.Times ∷ factor_tokens f)

  pub factor_tokens : Factor → List Token
  factor_tokens (Plain a) = atom_tokens a
  factor_tokens (Minus a) = token.Minus ∷ atom_tokens a

  pub atom_tokens : Atom → List Token
  atom_tokens (Number n) = token.Number n ∷ []
  atom_tokens (Name w) = token.Name w ∷ []
  atom_tokens (Group s) = token.Open ∷ (sum_tokens s ++ (token.Close ∷ []))

-- the names in a sum
abbrev mutual
  pub sum_names : Sum → List (List ℕ)
  sum_names (Single p) = product_names p
  sum_names (Plus s p) = sum_names s ++ product_names p
  sum_names (Less s p) = sum_names s ++ product_names p

  pub product_names : Product → List (List ℕ)
  product_names (Lone f) = factor_names f
  product_names (Times p f) = product_names p ++ factor_names f

  pub factor_names : Factor → List (List ℕ)
  factor_names (Plain a) = atom_names a
  factor_names (Minus a) = atom_names a

  pub atom_names : Atom → List (List ℕ)
  atom_names (Number n) = []
  atom_names (Name w) = w ∷ []
  atom_names (Group s) = sum_names s

-- the numbers in a sum
abbrev mutual
  pub sum_numbers : Sum → List ℕ
  sum_numbers (Single p) = product_numbers p
  sum_numbers (Plus s p) = sum_numbers s ++ product_numbers p
  sum_numbers (Less s p) = sum_numbers s ++ product_numbers p

  pub product_numbers : Product → List ℕ
  product_numbers (Lone f) = factor_numbers f
  product_numbers (Times p f) = product_numbers p ++ factor_numbers f

  pub factor_numbers : Factor → List ℕ
  factor_numbers (Plain a) = atom_numbers a
  factor_numbers (Minus a) = atom_numbers a

  pub atom_numbers : Atom → List ℕ
  atom_numbers (Number n) = n ∷ []
  atom_numbers (Name w) = []
  atom_numbers (Group s) = sum_numbers s

-- a statement line as it is written; a declaration has a first name and others
pub data Line : Type 0 where
  FieldLine : FieldId → Line
  PublicLine : List ℕ → List (List ℕ) → Line
  PrivateLine : List ℕ → List (List ℕ) → Line
  LetLine : List ℕ → Sum → Line
  AssertLine : Sum → Sum → Line

abbrev pub field_name : FieldId → List ℕ
field_name fields.Goldilocks = field_word
field_name fields.Gf2_128 = codes "gf2_128"

abbrev pub line_tokens : Line → List Token
line_tokens (FieldLine f) = token.Key keys.Field ∷ token.Name (field_name f) ∷ []
line_tokens (PublicLine w ws) = token.Key keys.Public ∷ token.Name w ∷ map token.Name ws
line_tokens (PrivateLine w ws) = token.Key keys.Private ∷ token.Name w ∷ map token.Name ws
line_tokens (LetLine w s) = token.Key keys.Let ∷ token.Name w ∷ token.Equals ∷ sum_tokens s
line_tokens (AssertLine s t) = token.Key keys.Assert ∷ (sum_tokens s ++ (token.Equals ∷ sum_tokens t))

-- the line that the tokens are by the grammar, where they are one
abbrev pub IsForm : List Token → Option Line → Type 0
IsForm ts (Some line) = ts ≡ line_tokens line
IsForm ts None = (line : Line) → ts ≡ line_tokens line → ⊥
