-- The text of a source: one statement a line, one space between tokens, but parentheses and a minus before an atom
-- stand close.
use Rattle.std.specs.Prelude.{ℕ, List, [], ◌∷◌, ◌++◌, Bool, true, false, codes, decimal, slice_index_or}
use Rattle.std.specs.List.{flat_map}
use Rattle.lzk_expr.specs.declared.place.Place.{Place}
use Rattle.lzk_expr.specs.declared.place.Place.TheVariants as place
use Rattle.lzk_expr.specs.Grammar.{field_name}
use Rattle.lzk_expr.specs.Trees.{Expr, Number, PublicInput, PrivateInput, Named, Neg, Added, Multiplied, Parts, NoPart, part, Exprs, NoExpr, factor, Statement, DeclarePublic, DeclarePrivate, Define, Assertion, SourceTree}

-- the names of inputs and lets, by their numbers
pub record Names : Type 0 where
  pub publics : List (List ℕ)
  pub privates : List (List ℕ)
  pub lets : List (List ℕ)

abbrev pub public_names : List Statement → List (List ℕ)
public_names [] = []
public_names (DeclarePublic w ∷ ss) = w ∷ public_names ss
public_names (_ ∷ ss) = public_names ss

abbrev pub private_names : List Statement → List (List ℕ)
private_names [] = []
private_names (DeclarePrivate w ∷ ss) = w ∷ private_names ss
private_names (_ ∷ ss) = private_names ss

abbrev pub let_names : List Statement → List (List ℕ)
let_names [] = []
let_names (Define w e ∷ ss) = w ∷ let_names ss
let_names (_ ∷ ss) = let_names ss

abbrev pub names_of : List Statement → Names
names_of ss = record { publics = public_names ss; privates = private_names ss; lets = let_names ss }

-- A sum is in parentheses as a part, as a factor and under a minus; a product as a factor and under a minus; a negative
-- under a minus.
abbrev pub closed_sum : Place → Bool
closed_sum place.Alone = false
closed_sum _ = true

abbrev pub closed_product : Place → Bool
closed_product place.Factor = true
closed_product place.UnderMinus = true
closed_product _ = false

abbrev pub closed_negative : Place → Bool
closed_negative place.UnderMinus = true
closed_negative _ = false

abbrev pub in_parentheses : Bool → List ℕ → List ℕ
in_parentheses false text = text
in_parentheses true text = 40 ∷ (text ++ (41 ∷ []))

abbrev pub sign_text : Bool → List ℕ
sign_text false = codes " + "
sign_text true = codes " - "

abbrev mutual
  pub expr_text : Names → Place → Expr → List ℕ
  expr_text names at (Number n) = decimal n
  expr_text names at (PublicInput i) = slice_index_or names.publics i []
  expr_text names at (PrivateInput i) = slice_index_or names.privates i []
  expr_text names at (Named i) = slice_index_or names.lets i []
  expr_text names at (Neg e) = in_parentheses (closed_negative at) (45 ∷ expr_text names place.UnderMinus e)
  expr_text names at (Added ps) = in_parentheses (closed_sum at) (sum_text names ps)
  expr_text names at (Multiplied es) = in_parentheses (closed_product at) (product_text names es)

  pub sum_text : Names → Parts → List ℕ
  sum_text names NoPart = []
  sum_text names (part m e ps) = expr_text names place.Part e ++ parts_text names ps

  pub parts_text : Names → Parts → List ℕ
  parts_text names NoPart = []
  parts_text names (part m e ps) = sign_text m ++ (expr_text names place.Part e ++ parts_text names ps)

  pub product_text : Names → Exprs → List ℕ
  product_text names NoExpr = []
  product_text names (factor e es) = expr_text names place.Factor e ++ factors_text names es

  pub factors_text : Names → Exprs → List ℕ
  factors_text names NoExpr = []
  factors_text names (factor e es) = codes " * " ++ (expr_text names place.Factor e ++ factors_text names es)

abbrev pub statement_text : Names → Statement → List ℕ
statement_text names (DeclarePublic w) = codes "public " ++ w
statement_text names (DeclarePrivate w) = codes "private " ++ w
statement_text names (Define w e) = codes "let " ++ (w ++ (codes " = " ++ expr_text names place.Alone e))
statement_text names (Assertion e f) =
    codes "assert " ++ (expr_text names place.Alone e ++ (codes " = " ++ expr_text names place.Alone f))

abbrev pub statement_line : Names → Statement → List ℕ
statement_line names s = statement_text names s ++ (10 ∷ [])

unfoldable pub source_text : SourceTree → List ℕ
source_text s =
    codes "field " ++ (field_name s.field_is ++ (10 ∷ flat_map (statement_line (names_of s.statements)) s.statements))
