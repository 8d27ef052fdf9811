-- The tokens of a line of a source text.
use Rattle.std.specs.Prelude.{ℕ, List, [], ◌∷◌, map, codes, nat_le, ◌==◌, ◌&&◌, ◌||◌, Bool, true, false, Option, Some, None, if◌then◌else◌}
use Rattle.std.specs.List.{list_all}
use Rattle.std.specs.Str.{bytes_eq}
use Rattle.lzk_expr.specs.Texts.{is_blank, begins, number_of}
use Rattle.lzk_expr.specs.declared.tokens.Keyword.{Keyword}
use Rattle.lzk_expr.specs.declared.tokens.Keyword.TheVariants as keys

abbrev pub is_letter : ℕ → Bool
is_letter b = (nat_le 65 b && nat_le b 90) || (nat_le 97 b && nat_le b 122)

abbrev pub is_digit : ℕ → Bool
is_digit b = nat_le 48 b && nat_le b 57

-- letters, digits and _
abbrev pub in_word : ℕ → Bool
in_word b = is_letter b || (is_digit b || (b == 95))

-- + - * ( ) =
abbrev pub is_sign : ℕ → Bool
is_sign b = (b == 43) || ((b == 45) || ((b == 42) || ((b == 40) || ((b == 41) || (b == 61)))))

-- each byte is a blank or of a token
abbrev pub keeps_characters : List ℕ → Bool
keeps_characters line = list_all (λ b. in_word b || (is_blank b || is_sign b)) line

abbrev pub is_empty_line : List ℕ → Bool
is_empty_line line = list_all is_blank line

-- a word, or a byte that is in no word and no blank
pub data Piece : Type 0 where
  Word : List ℕ → Piece
  Sign : ℕ → Piece

-- a byte of a word before the pieces behind it; it is of the first one where it touches a word
abbrev pub onto : ℕ → Bool → List Piece → List Piece
onto b false ps = Word (b ∷ []) ∷ ps
onto b true [] = Word (b ∷ []) ∷ []
onto b true (Word w ∷ ps) = Word (b ∷ w) ∷ ps
onto b true (Sign c ∷ ps) = Word (b ∷ []) ∷ Sign c ∷ ps

-- words are longest runs
unfoldable pub pieces : List ℕ → List Piece
pieces [] = []
pieces (b ∷ bs) =
    if in_word b then onto b (begins in_word bs) (pieces bs) else (if is_blank b then pieces bs else Sign b ∷ pieces bs)

-- ---- what a piece is

-- a number, a name, a word that is neither, a sign, or another byte
pub data Token : Type 0 where
  Number : ℕ → Token
  Name : List ℕ → Token
  Key : Keyword → Token
  Misspelt : Token
  Plus : Token
  Minus : Token
  Times : Token
  Open : Token
  Close : Token
  Equals : Token
  Other : Token

abbrev pub number_token : Option ℕ → Token
number_token None = Misspelt
number_token (Some n) = Number n

-- a word that is no keyword
abbrev pub plain_token : List ℕ → Token
plain_token w = if begins is_digit w then number_token (number_of w) else Name w

unfoldable pub word_token : List ℕ → Token
word_token w =
    if bytes_eq w (codes "field") then Key keys.Field else
    (if bytes_eq w (codes "public") then Key keys.Public else
    (if bytes_eq w (codes "private") then Key keys.Private else
    (if bytes_eq w (codes "let") then Key keys.Let else
    (if bytes_eq w (codes "assert") then Key keys.Assert else
    plain_token w))))

abbrev pub sign_token : ℕ → Token
sign_token b =
    if b == 43 then Plus else
    (if b == 45 then Minus else
    (if b == 42 then Times else
    (if b == 40 then Open else
    (if b == 41 then Close else
    (if b == 61 then Equals else Other)))))

abbrev pub token_of : Piece → Token
token_of (Word w) = word_token w
token_of (Sign b) = sign_token b

abbrev pub tokens : List ℕ → List Token
tokens line = map token_of (pieces line)
