-- What statements are without their expressions.
use Rattle.std.specs.Prelude.{ℕ, List, [], ◌∷◌, map, length, Bool, true, nat_le, ◌&&◌}
use Rattle.lzk_source.specs.declared.heads.Head.{Head}
use Rattle.lzk_source.specs.declared.heads.Head.TheVariants as heads
use Rattle.lzk_source.specs.declared.heads.Input.{Input}
use Rattle.lzk_source.specs.declared.heads.Input.TheVariants as inputs
use Rattle.lzk_expr.specs.declared.tokens.Keyword.TheVariants as keys
use Rattle.lzk_expr.specs.declared.tokens.Symbol.{Symbol}
use Rattle.lzk_expr.specs.declared.tokens.Symbol.TheVariants as symbol
use Rattle.lzk_expr.specs.SymbolForms.{symbol_names}
use Rattle.lzk_expr.specs.Trees.{Statement, DeclarePublic, DeclarePrivate, Define, Assertion}

-- a declaration with its name, a let with its name, or an assert
pub data Heading : Type 0 where
  OfPublic : List ℕ → Heading
  OfPrivate : List ℕ → Heading
  OfLet : List ℕ → Heading
  OfAssert : Heading

abbrev pub heading : Statement → Heading
heading (DeclarePublic w) = OfPublic w
heading (DeclarePrivate w) = OfPrivate w
heading (Define w e) = OfLet w
heading (Assertion e f) = OfAssert

abbrev pub headings : List Statement → List Heading
headings ss = map heading ss

-- in memory
abbrev pub head_of : Head → Heading
head_of (heads.Public w) = OfPublic w
head_of (heads.Private w) = OfPrivate w
head_of (heads.Let w) = OfLet w
head_of heads.Assert = OfAssert

abbrev pub heads_of : List Head → List Heading
heads_of hs = map head_of hs

abbrev pub input_heading : Input → List ℕ → Heading
input_heading inputs.Public w = OfPublic w
input_heading inputs.Private w = OfPrivate w

-- the name that the symbols begin with
abbrev pub let_headings : List Symbol → List Heading
let_headings (symbol.Name w ∷ ss) = OfLet w.now ∷ []
let_headings _ = []

-- what a line with these symbols adds
abbrev pub symbol_headings : List Symbol → List Heading
symbol_headings (symbol.Key keys.Public ∷ ss) = map (input_heading inputs.Public) (symbol_names ss)
symbol_headings (symbol.Key keys.Private ∷ ss) = map (input_heading inputs.Private) (symbol_names ss)
symbol_headings (symbol.Key keys.Let ∷ ss) = let_headings ss
symbol_headings (symbol.Key keys.Assert ∷ ss) = OfAssert ∷ []
symbol_headings _ = []

-- a name has 1 to 32 bytes
abbrev pub is_fair : Symbol → Bool
is_fair (symbol.Name w) = nat_le 1 (length w.now) && nat_le (length w.now) 32
is_fair _ = true
