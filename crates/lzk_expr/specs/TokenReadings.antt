-- Pieces and tokens of a line, as they are read.
use Rattle.std.specs.Prelude.{◌≡◌, ℕ, ◌≤◌, ◌^◌, List, [], ◌∷◌, Bool, true}
use Rattle.lzk_expr.specs.Tokens.{Piece, Token, tokens, is_sign}
use Rattle.lzk_expr.specs.Tokens as token
use Rattle.lzk_expr.specs.declared.tokens.Symbol.{Symbol}
use Rattle.lzk_expr.specs.declared.tokens.Symbol.TheVariants as symbol

-- no byte that is of no token
abbrev pub is_clean : Piece → Bool
is_clean (token.Word w) = true
is_clean (token.Sign b) = is_sign b

-- A symbol is this token. Numbers from 2 ^ 128 on are large.
abbrev pub Tells : Symbol → Token → Type 0
Tells (symbol.Number n) t = t ≡ token.Number n
Tells symbol.Large t = (n : ℕ) × (t ≡ token.Number n) × (2 ^ 128 ≤ n)
Tells (symbol.Name w) t = t ≡ token.Name w.now
Tells (symbol.Key k) t = t ≡ token.Key k
Tells symbol.Misspelt t = t ≡ token.Misspelt
Tells symbol.Plus t = t ≡ token.Plus
Tells symbol.Minus t = t ≡ token.Minus
Tells symbol.Times t = t ≡ token.Times
Tells symbol.Open t = t ≡ token.Open
Tells symbol.Close t = t ≡ token.Close
Tells symbol.Equals t = t ≡ token.Equals

-- symbols are these tokens, one by one
abbrev pub AreTold : List Symbol → List Token → Type 0
AreTold [] [] = Unit {0}
AreTold [] (t ∷ ts) = ⊥
AreTold (s ∷ ss) [] = ⊥
AreTold (s ∷ ss) (t ∷ ts) = Tells s t × AreTold ss ts
