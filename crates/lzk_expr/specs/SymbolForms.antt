-- What the form of a statement line asks of its tokens, where symbols are the tokens behind.
use Rattle.std.specs.Prelude.{◌≡◌, ℕ, List, [], ◌∷◌, Option, Some, None, Bool, true, false}
use Rattle.lzk_expr.specs.Tokens.{Token, Key, Name, tokens, keeps_characters}
use Rattle.lzk_expr.specs.TokenReadings.{AreTold}
use Rattle.lzk_expr.specs.Readers.{IsDefinition, IsSplit, keeps_bounds}
use Rattle.lzk_expr.specs.declared.tokens.Keyword.{Keyword}
use Rattle.lzk_expr.specs.declared.tokens.Symbol.{Symbol}
use Rattle.lzk_expr.specs.declared.tokens.Symbol.TheVariants as symbol
use Rattle.lzk_expr.specs.declared.rules.Depth.{Depth}
use Rattle.lzk_expr.specs.declared.rules.Scan.{Scan}

-- a keyword first, and these symbols behind it
pub record IsKeyed (ts : List Token) (k : Keyword) (rest : List Symbol) : Type 0 where
  pub behind : List Token
  pub keyed : ts ≡ Key k ∷ behind
  pub told : AreTold rest behind

-- no name alone
abbrev pub IsNoLoneName : List Token → Type 0
IsNoLoneName ts = (w : List ℕ) → ts ≡ Name w ∷ [] → ⊥

-- a name with a sign = behind it, and then these symbols
pub record Defines (ts : List Token) (w : List ℕ) (rest : List Symbol) : Type 0 where
  pub behind : List Token
  pub defines : IsDefinition ts w behind
  pub told : AreTold rest behind

-- these symbols before the first sign =, and these behind it
pub record AreHalves (ts : List Token) (before behind : List Symbol) : Type 0 where
  pub left : List Token
  pub right : List Token
  pub split : IsSplit ts left right
  pub left_told : AreTold before left
  pub right_told : AreTold behind right

-- the names among symbols
abbrev pub with_name : Symbol → List (List ℕ) → List (List ℕ)
with_name (symbol.Name w) ws = w.now ∷ ws
with_name _ ws = ws

abbrev pub symbol_names : List Symbol → List (List ℕ)
symbol_names [] = []
symbol_names (s ∷ ss) = with_name s (symbol_names ss)

abbrev pub is_name_symbol : Symbol → Bool
is_name_symbol (symbol.Name w) = true
is_name_symbol _ = false

abbrev pub is_equals_symbol : Symbol → Bool
is_equals_symbol symbol.Equals = true
is_equals_symbol _ = false

-- whether the tokens behind keep the bounds, where those before left this depth, or broke them
abbrev pub left_bounds : Option Depth → List Token → Bool
left_bounds None ts = false
left_bounds (Some depth) ts = keeps_bounds depth.count ts

-- what a line keeps, and its tokens, where each byte is a blank or of a token
pub record IsScanOf (scan : Scan) (bytes : List ℕ) (symbols : List Symbol) : Type 0 where
  pub clean_is : scan.clean ≡ keeps_characters bytes
  pub bounded_is : scan.clean ≡ true → scan.bounded ≡ keeps_bounds 0 (tokens bytes)
  pub told : scan.clean ≡ true → AreTold symbols (tokens bytes)
