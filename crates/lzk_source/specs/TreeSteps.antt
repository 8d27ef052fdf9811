-- The steps of a tree, as its text has them: in parentheses where it is part of more and would be read otherwise.
use Rattle.std.specs.Prelude.{◌≡◌, ℕ, Bool, true, false, List, [], ◌∷◌, ◌++◌}
use Rattle.lzk_expr.specs.declared.place.Place.{Place}
use Rattle.lzk_expr.specs.declared.place.Place.TheVariants as place
use Rattle.lzk_expr.specs.declared.code.Word.{Word}
use Rattle.lzk_source.specs.declared.tree_code.Written.{Written}
use Rattle.lzk_expr.specs.Trees.{Expr, Number, PublicInput, PrivateInput, Named, Neg, Added, Multiplied, Parts, NoPart, part, Exprs, NoExpr, factor, Statement, DeclarePublic, DeclarePrivate, Define, Assertion}
use Rattle.lzk_expr.specs.Meanings.{Step, Atom, Plus, Minus, Times, Open, Close}
use Rattle.lzk_expr.specs.Printing.{closed_sum, closed_product, closed_negative}
use Rattle.lzk_expr.specs.Built.{Good}
use Rattle.lzk_expr.specs.Codes.{AddsSteps, AreCodeOf, code_words}

abbrev pub open_steps : Bool → List Step
open_steps false = []
open_steps true = Open ∷ []

abbrev pub close_steps : Bool → List Step
close_steps false = []
close_steps true = Close ∷ []

abbrev pub in_parentheses : Bool → List Step → List Step
in_parentheses closed steps = open_steps closed ++ (steps ++ close_steps closed)

abbrev pub sign_step : Bool → Step
sign_step false = Plus
sign_step true = Minus

abbrev mutual
  pub expr_steps : Place → Expr → List Step
  expr_steps at (Number n) = Atom (Number n) ∷ []
  expr_steps at (PublicInput i) = Atom (PublicInput i) ∷ []
  expr_steps at (PrivateInput i) = Atom (PrivateInput i) ∷ []
  expr_steps at (Named i) = Atom (Named i) ∷ []
  expr_steps at (Neg e) = in_parentheses (closed_negative at) (Minus ∷ expr_steps place.UnderMinus e)
  expr_steps at (Added ps) = in_parentheses (closed_sum at) (sum_steps ps)
  expr_steps at (Multiplied es) = in_parentheses (closed_product at) (product_steps es)

  pub sum_steps : Parts → List Step
  sum_steps NoPart = []
  sum_steps (part m e ps) = expr_steps place.Part e ++ parts_steps ps

  pub parts_steps : Parts → List Step
  parts_steps NoPart = []
  parts_steps (part m e ps) = sign_step m ∷ (expr_steps place.Part e ++ parts_steps ps)

  pub product_steps : Exprs → List Step
  product_steps NoExpr = []
  product_steps (factor e es) = expr_steps place.Factor e ++ factors_steps es

  pub factors_steps : Exprs → List Step
  factors_steps NoExpr = []
  factors_steps (factor e es) = Times ∷ (expr_steps place.Factor e ++ factors_steps es)

-- what stands before a part and before a factor
abbrev pub between_parts : Bool → Bool → List Step
between_parts true minus = []
between_parts false minus = sign_step minus ∷ []

abbrev pub between_factors : Bool → List Step
between_factors true = []
between_factors false = Times ∷ []

-- the parts from one on, which may be the first
abbrev pub sum_rest : Bool → Parts → List Step
sum_rest true ps = sum_steps ps
sum_rest false ps = parts_steps ps

abbrev pub product_rest : Bool → Exprs → List Step
product_rest true es = product_steps es
product_rest false es = factors_steps es

-- ---- in memory

-- a word that is put down only where it is wanted
abbrev pub wanted_word : Bool → Word → List Word
wanted_word false w = []
wanted_word true w = w ∷ []

-- These words were put down, or something was lost.
abbrev pub Puts : List Word → Written → Written → Type 0
Puts words old new = new.lost ≡ false
    → (old.lost ≡ false) × (new.words.items ≡ old.words.items ++ words) × (new.numbers.items ≡ old.numbers.items)

-- These steps were put down, or something was lost.
abbrev pub Adds : List Step → Written → Written → Type 0
Adds steps old new = new.lost ≡ false
    → (old.lost ≡ false) × AddsSteps steps old.words.items new.words.items old.numbers.items new.numbers.items

-- The words are the code of these statements, whatever numbers come behind, or something was lost.
abbrev pub HoldsCode : Written → List Statement → Type 0
HoldsCode w ss = w.lost ≡ false → (behind : List ℕ)
    → AreCodeOf ss (code_words (w.numbers.items ++ behind) w.words.items)

-- sums have two parts or more, of which the first is added, and products two factors or more
abbrev pub HasShape : Expr → Type 0
HasShape e = Good (λ x. Unit {0}) e

abbrev pub HasShapes : Statement → Type 0
HasShapes (DeclarePublic w) = Unit {0}
HasShapes (DeclarePrivate w) = Unit {0}
HasShapes (Define w e) = HasShape e
HasShapes (Assertion e f) = HasShape e × HasShape f
