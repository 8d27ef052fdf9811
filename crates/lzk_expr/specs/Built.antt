-- Sources that some text is: statements that fit behind each other, an assert among them.
use Rattle.std.specs.Prelude.{◌≡◌, ℕ, ◌+◌, ◌≤◌, ◌<◌, Bool, true, false, List, [], ◌∷◌, ◌++◌, length, max, nat_le, nat_lt, count_by, Some, None}
use Rattle.std.specs.List.{list_all, list_any}
use Rattle.lzk_profile.specs.Profile.{most_privates}
use Rattle.lzk_expr.specs.declared.ast.FieldId.{FieldId}
use Rattle.lzk_expr.specs.declared.place.Place.{Place}
use Rattle.lzk_expr.specs.declared.place.Place.TheVariants as place
use Rattle.lzk_expr.specs.Texts.{begins}
use Rattle.lzk_expr.specs.Tokens.{word_token, in_word}
use Rattle.lzk_expr.specs.Tokens as token
use Rattle.lzk_expr.specs.Trees.{Expr, Number, PublicInput, PrivateInput, Named, Neg, Added, Multiplied, Parts, NoPart, part, Exprs, NoExpr, factor, Statement, DeclarePublic, DeclarePrivate, Define, Assertion, SourceTree, name_of, is_public, is_private, is_assertion}
use Rattle.lzk_expr.specs.Sources.{field_size}
use Rattle.lzk_expr.specs.Printing.{closed_sum, closed_product, closed_negative}

-- ---- names

-- a word that reads as a name
pub record IsNameWord (w : List ℕ) : Type 0 where
  pub some : begins in_word w ≡ true
  pub all : list_all in_word w ≡ true
  pub token_is : word_token w ≡ token.Name w

-- a name of at most 32 bytes that is new behind the statements
pub record NewName (ss : List Statement) (w : List ℕ) : Type 0 where
  pub word : IsNameWord w
  pub short : nat_le (length w) 32 ≡ true
  pub new : name_of ss w ≡ None

-- ---- expressions

-- two parts or more, of which the first is added
abbrev pub sum_shape : Parts → Bool
sum_shape (part false e (part n f ps)) = true
sum_shape _ = false

-- two factors or more
abbrev pub product_shape : Exprs → Bool
product_shape (factor e (factor f es)) = true
product_shape _ = false

-- what holds of each leaf, where sums and products have their shape
abbrev mutual
  pub Good : (Expr → Type 0) → Expr → Type 0
  Good R (Number n) = R (Number n)
  Good R (PublicInput i) = R (PublicInput i)
  Good R (PrivateInput i) = R (PrivateInput i)
  Good R (Named i) = R (Named i)
  Good R (Neg e) = Good R e
  Good R (Added ps) = (sum_shape ps ≡ true) × GoodParts R ps
  Good R (Multiplied es) = (product_shape es ≡ true) × GoodFactors R es

  pub GoodParts : (Expr → Type 0) → Parts → Type 0
  GoodParts R NoPart = Unit {0}
  GoodParts R (part m e ps) = Good R e × GoodParts R ps

  pub GoodFactors : (Expr → Type 0) → Exprs → Type 0
  GoodFactors R NoExpr = Unit {0}
  GoodFactors R (factor e es) = Good R e × GoodFactors R es

-- a number below the field's size, or what a declared name stands for
abbrev pub Leaf : FieldId → List Statement → Expr → Type 0
Leaf f ss (Number n) = nat_lt n (field_size f) ≡ true
Leaf f ss (PublicInput i) = (w : List ℕ) × (name_of ss w ≡ Some (PublicInput i))
Leaf f ss (PrivateInput i) = (w : List ℕ) × (name_of ss w ≡ Some (PrivateInput i))
Leaf f ss (Named i) = (w : List ℕ) × (name_of ss w ≡ Some (Named i))
Leaf f ss _ = Unit {0}

abbrev pub closed_depth : Bool → ℕ → ℕ
closed_depth false n = n
closed_depth true n = n + 1

-- how many parentheses are open at most in the text of an expression at this place
abbrev mutual
  pub expr_depth : Place → Expr → ℕ
  expr_depth at (Number n) = 0
  expr_depth at (PublicInput i) = 0
  expr_depth at (PrivateInput i) = 0
  expr_depth at (Named i) = 0
  expr_depth at (Neg e) = closed_depth (closed_negative at) (expr_depth place.UnderMinus e)
  expr_depth at (Added ps) = closed_depth (closed_sum at) (parts_depth ps)
  expr_depth at (Multiplied es) = closed_depth (closed_product at) (factors_depth es)

  pub parts_depth : Parts → ℕ
  parts_depth NoPart = 0
  parts_depth (part m e ps) = max (expr_depth place.Part e) (parts_depth ps)

  pub factors_depth : Exprs → ℕ
  factors_depth NoExpr = 0
  factors_depth (factor e es) = max (expr_depth place.Factor e) (factors_depth es)

-- an expression that a line behind the statements may hold
pub record GoodExpr (f : FieldId) (ss : List Statement) (e : Expr) : Type 0 where
  pub leaves : Good (Leaf f ss) e
  pub shallow : expr_depth place.Alone e ≤ 64

-- ---- statements

-- the statement may stand behind these
abbrev pub Fits : FieldId → List Statement → Statement → Type 0
Fits f ss (DeclarePublic w) = NewName ss w × (count_by is_public ss + 1 ≤ 65535)
Fits f ss (DeclarePrivate w) = NewName ss w × (count_by is_private ss + 1 ≤ most_privates)
Fits f ss (Define w e) = NewName ss w × GoodExpr f ss e
Fits f ss (Assertion e d) = GoodExpr f ss e × GoodExpr f ss d × (count_by is_assertion ss < 131072)

-- each of the second statements fits behind the first and those before it
abbrev pub BuiltFrom : FieldId → List Statement → List Statement → Type 0
BuiltFrom f ss [] = Unit {0}
BuiltFrom f ss (t ∷ ts) = Fits f ss t × BuiltFrom f (ss ++ (t ∷ [])) ts

-- the source that its own text is, whatever the length of the text
pub record IsBuilt (s : SourceTree) : Type 0 where
  pub built : BuiltFrom s.field_is [] s.statements
  pub some : list_any is_assertion s.statements ≡ true
