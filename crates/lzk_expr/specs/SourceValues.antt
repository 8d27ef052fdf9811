-- The values of a source's asserts.
use Rattle.std.specs.Prelude.{ℕ, Bool, true, false, List, [], ◌∷◌, ◌++◌}
use Rattle.lzk_field.specs.Ring.{Ops}
use Rattle.lzk_field.specs.Sums.{minus, entry}
use Rattle.lzk_expr.specs.Trees.{Expr, Number, PublicInput, PrivateInput, Named, Neg, Added, Multiplied, Parts, NoPart, part, Exprs, NoExpr, factor, Statement, DeclarePublic, DeclarePrivate, Define, Assertion}

-- what the leaves of an expression stand for: the element of a number, the inputs, and the values of the let names so
-- far
pub record Given (A : Type 0) : Type 0 where
  pub ops : Ops A
  pub element : ℕ → A
  pub publics : List A
  pub privates : List A
  pub lets : List A

abbrev pub signed : {A : Type 0} → Ops A → Bool → A → A
signed o false x = x
signed o true x = o.neg x

-- The value of an expression, by recursion on it.
abbrev mutual
  pub value_of : {A : Type 0} → Given A → Expr → A
  value_of g (Number n) = g.element n
  value_of g (PublicInput i) = entry g.ops g.publics i
  value_of g (PrivateInput i) = entry g.ops g.privates i
  value_of g (Named i) = entry g.ops g.lets i
  value_of g (Neg e) = g.ops.neg (value_of g e)
  value_of g (Added ps) = parts_value g ps
  value_of g (Multiplied es) = factors_value g es

  pub parts_value : {A : Type 0} → Given A → Parts → A
  parts_value g NoPart = g.ops.zero
  parts_value g (part m e ps) = g.ops.plus (signed g.ops m (value_of g e)) (parts_value g ps)

  pub factors_value : {A : Type 0} → Given A → Exprs → A
  factors_value g NoExpr = g.ops.one
  factors_value g (factor e es) = g.ops.times (value_of g e) (factors_value g es)

abbrev pub with_let : {A : Type 0} → Given A → A → Given A
with_let g x = record {
  ops = g.ops;
  element = g.element;
  publics = g.publics;
  privates = g.privates;
  lets = g.lets ++ x ∷ [];
}

-- Left minus right, for each assert in order.
abbrev pub assert_values : {A : Type 0} → Given A → List Statement → List A
assert_values g [] = []
assert_values g (DeclarePublic w ∷ ss) = assert_values g ss
assert_values g (DeclarePrivate w ∷ ss) = assert_values g ss
assert_values g (Define w e ∷ ss) = assert_values (with_let g (value_of g e)) ss
assert_values g (Assertion e f ∷ ss) = minus g.ops (value_of g e) (value_of g f) ∷ assert_values g ss

abbrev pub given : {A : Type 0} → Ops A → (ℕ → A) → List A → List A → List A → Given A
given o element publics privates lets = record {
  ops = o;
  element = element;
  publics = publics;
  privates = privates;
  lets = lets;
}

-- the value of a source at these inputs
abbrev pub source_value : {A : Type 0} → Ops A → (ℕ → A) → List A → List A → List Statement → List A
source_value o element publics privates ss = assert_values (given o element publics privates []) ss
