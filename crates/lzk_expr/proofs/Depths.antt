-- Open parentheses: what is printed has no more of them than what was read.
use Rattle.std.proofs.Common.{◌≡◌, ℕ, ◌+◌, ◌-◌, ◌≤◌, ◌<◌, Bool, true, false, ◌&&◌, List, [], ◌∷◌, ◌++◌, Option, Some, refl, sym, ◌∙◌, ap, append_assoc, arith, ltb-true, cond, bytes_eq}
use Rattle.std.specs.Prelude.{nat_lt, max}
use Rattle.std.proofs.lemmas.Bool.{and_parts, lt-ltb}
use Rattle.lzk_expr.specs.Tokens.{Token}
use Rattle.lzk_expr.specs.Tokens as token
use Rattle.lzk_expr.specs.Grammar as g
use Rattle.lzk_expr.specs.Trees.{Expr, Number, PublicInput, PrivateInput, Named, Neg, Added, Multiplied, Parts, NoPart, part, Exprs, NoExpr, factor, add_part, add_factor, sum_means, sum_parts, product_means, product_factors, factor_means, atom_means, Statement, DeclarePublic, DeclarePrivate, Define, Assertion, declared_from, meaning, or_zero}
use Rattle.lzk_expr.specs.Sources.{is_shallow}
use Rattle.lzk_expr.specs.declared.place.Place.{Place}
use Rattle.lzk_expr.specs.declared.place.Place.TheVariants as place
use Rattle.lzk_expr.specs.Printing.{Names, closed_sum, closed_product, closed_negative}
use Rattle.lzk_expr.specs.Built.{closed_depth, expr_depth, parts_depth, factors_depth}
use Rattle.lzk_expr.proofs.Canonical.{Forms, from_atom, from_factor, from_product, from_sum, forms, first_sum, sum_onto, first_product, product_onto, signed}

-- how many parentheses are open at most
abbrev mutual
  pub sum_depth : g.Sum → ℕ
  sum_depth (g.Single p) = product_depth p
  sum_depth (g.Plus s p) = max (sum_depth s) (product_depth p)
  sum_depth (g.Less s p) = max (sum_depth s) (product_depth p)

  pub product_depth : g.Product → ℕ
  product_depth (g.Lone f) = factor_depth f
  product_depth (g.Times p f) = max (product_depth p) (factor_depth f)

  pub factor_depth : g.Factor → ℕ
  factor_depth (g.Plain a) = atom_depth a
  factor_depth (g.Minus a) = atom_depth a

  pub atom_depth : g.Atom → ℕ
  atom_depth (g.Number n) = 0
  atom_depth (g.Name w) = 0
  atom_depth (g.Group s) = sum_depth s + 1

-- ---- tokens of a depth

shallow_append : (n : ℕ) (xs ys rest : List Token) (b : Bool) → is_shallow n (xs ++ (ys ++ rest)) ≡ b → is_shallow n ((xs ++ ys) ++ rest) ≡ b
shallow_append n xs ys rest b h = ap (is_shallow n) (append_assoc xs ys rest) ∙ h

at_one_less : (n : ℕ) (ts : List Token) → is_shallow (n + 1 - 1) ts ≡ is_shallow n ts
at_one_less n ts = let e : n + 1 - 1 ≡ n = omega arith in ap (λ m. is_shallow m ts) e

open_at : (n : ℕ) (b : Bool) → n < 64 → (nat_lt n 64 && b) ≡ b
open_at n b h = ap (λ (t : Bool). t && b) (lt-ltb n 64 h)

mutual
  pub sum_shallow : (s : g.Sum) (n : ℕ) (rest : List Token) → n + sum_depth s ≤ 64 → is_shallow n (g.sum_tokens s ++ rest) ≡ is_shallow n rest
  sum_shallow (g.Single p) n rest h = product_shallow p n rest h
  sum_shallow (g.Plus s p) n rest h = shallow_append n (g.sum_tokens s) (token.Plus ∷ g.product_tokens p) rest _ (sum_shallow s n (token.Plus ∷ (g.product_tokens p ++ rest)) (omega arith) ∙ product_shallow p n rest (omega arith))
  sum_shallow (g.Less s p) n rest h = shallow_append n (g.sum_tokens s) (token.Minus ∷ g.product_tokens p) rest _ (sum_shallow s n (token.Minus ∷ (g.product_tokens p ++ rest)) (omega arith) ∙ product_shallow p n rest (omega arith))

  product_shallow : (p : g.Product) (n : ℕ) (rest : List Token) → n + product_depth p ≤ 64 → is_shallow n (g.product_tokens p ++ rest) ≡ is_shallow n rest
  product_shallow (g.Lone f) n rest h = factor_shallow f n rest h
  product_shallow (g.Times p f) n rest h = shallow_append n (g.product_tokens p) (token.Times ∷ g.factor_tokens f) rest _ (product_shallow p n (token.Times ∷ (g.factor_tokens f ++ rest)) (omega arith) ∙ factor_shallow f n rest (omega arith))

  factor_shallow : (f : g.Factor) (n : ℕ) (rest : List Token) → n + factor_depth f ≤ 64 → is_shallow n (g.factor_tokens f ++ rest) ≡ is_shallow n rest
  factor_shallow (g.Plain a) n rest h = atom_shallow a n rest h
  factor_shallow (g.Minus a) n rest h = atom_shallow a n rest h

  atom_shallow : (a : g.Atom) (n : ℕ) (rest : List Token) → n + atom_depth a ≤ 64 → is_shallow n (g.atom_tokens a ++ rest) ≡ is_shallow n rest
  atom_shallow (g.Number m) n rest h = refl
  atom_shallow (g.Name w) n rest h = refl
  atom_shallow (g.Group s) n rest h =
      open_at n (is_shallow (n + 1) ((g.sum_tokens s ++ (token.Close ∷ [])) ++ rest)) (omega arith)
      ∙ shallow_append (n + 1) (g.sum_tokens s) (token.Close ∷ []) rest _ (sum_shallow s (n + 1) (token.Close ∷ rest) (omega arith)) ∙ at_one_less n rest

abbrev Fits : ℕ → ℕ → Bool → Type 0
Fits n depth rest = (n + depth ≤ 64) × (rest ≡ true)

mutual
  pub sum_fits : (s : g.Sum) (n : ℕ) (rest : List Token) → n ≤ 64 → is_shallow n (g.sum_tokens s ++ rest) ≡ true → Fits n (sum_depth s) (is_shallow n rest)
  sum_fits (g.Single p) n rest le h = product_fits p n rest le h
  sum_fits (g.Plus s p) n rest le h =
      let a = sum_fits s n (token.Plus ∷ (g.product_tokens p ++ rest)) le (sym (ap (is_shallow n) (append_assoc (g.sum_tokens s) (token.Plus ∷ g.product_tokens p) rest)) ∙ h) in
      let b = product_fits p n rest le a.1 in
      (omega (arith, a.0, b.0), b.1)
  sum_fits (g.Less s p) n rest le h =
      let a = sum_fits s n (token.Minus ∷ (g.product_tokens p ++ rest)) le (sym (ap (is_shallow n) (append_assoc (g.sum_tokens s) (token.Minus ∷ g.product_tokens p) rest)) ∙ h) in
      let b = product_fits p n rest le a.1 in
      (omega (arith, a.0, b.0), b.1)

  product_fits : (p : g.Product) (n : ℕ) (rest : List Token) → n ≤ 64 → is_shallow n (g.product_tokens p ++ rest) ≡ true → Fits n (product_depth p) (is_shallow n rest)
  product_fits (g.Lone f) n rest le h = factor_fits f n rest le h
  product_fits (g.Times p f) n rest le h =
      let a = product_fits p n (token.Times ∷ (g.factor_tokens f ++ rest)) le (sym (ap (is_shallow n) (append_assoc (g.product_tokens p) (token.Times ∷ g.factor_tokens f) rest)) ∙ h) in
      let b = factor_fits f n rest le a.1 in
      (omega (arith, a.0, b.0), b.1)

  factor_fits : (f : g.Factor) (n : ℕ) (rest : List Token) → n ≤ 64 → is_shallow n (g.factor_tokens f ++ rest) ≡ true → Fits n (factor_depth f) (is_shallow n rest)
  factor_fits (g.Plain a) n rest le h = atom_fits a n rest le h
  factor_fits (g.Minus a) n rest le h = atom_fits a n rest le h

  atom_fits : (a : g.Atom) (n : ℕ) (rest : List Token) → n ≤ 64 → is_shallow n (g.atom_tokens a ++ rest) ≡ true → Fits n (atom_depth a) (is_shallow n rest)
  atom_fits (g.Number m) n rest le h = (omega arith, h)
  atom_fits (g.Name w) n rest le h = (omega arith, h)
  atom_fits (g.Group s) n rest le h =
      let p = and_parts (nat_lt n 64) (is_shallow (n + 1) ((g.sum_tokens s ++ (token.Close ∷ [])) ++ rest)) h in
      let lt = ltb-true n 64 p.0 in
      let a = sum_fits s (n + 1) (token.Close ∷ rest) (omega (arith, lt)) (sym (ap (is_shallow (n + 1)) (append_assoc (g.sum_tokens s) (token.Close ∷ []) rest)) ∙ p.1) in
      (omega (arith, a.0), sym (at_one_less n rest) ∙ a.1)

-- ---- the printed tree is as deep as its expression

abbrev form_depth : Place → Forms → ℕ
form_depth place.Alone f = sum_depth f.sum
form_depth place.Part f = product_depth f.product
form_depth place.Factor f = factor_depth f.factor
form_depth place.UnderMinus f = atom_depth f.atom

atom_form : (at : Place) (a : g.Atom) → form_depth at (from_atom a) ≡ atom_depth a
atom_form place.Alone a = refl
atom_form place.Part a = refl
atom_form place.Factor a = refl
atom_form place.UnderMinus a = refl

factor_form : (at : Place) (f : g.Factor) → form_depth at (from_factor f) ≡ closed_depth (closed_negative at) (factor_depth f)
factor_form place.Alone f = refl
factor_form place.Part f = refl
factor_form place.Factor f = refl
factor_form place.UnderMinus f = refl

product_form : (at : Place) (p : g.Product) → form_depth at (from_product p) ≡ closed_depth (closed_product at) (product_depth p)
product_form place.Alone p = refl
product_form place.Part p = refl
product_form place.Factor p = refl
product_form place.UnderMinus p = refl

sum_form : (at : Place) (s : g.Sum) → form_depth at (from_sum s) ≡ closed_depth (closed_sum at) (sum_depth s)
sum_form place.Alone s = refl
sum_form place.Part s = refl
sum_form place.Factor s = refl
sum_form place.UnderMinus s = refl

signed_depth : (s : g.Sum) (m : Bool) (p : g.Product) → sum_depth (signed s m p) ≡ max (sum_depth s) (product_depth p)
signed_depth s true p = refl
signed_depth s false p = refl

module _ (names : Names) where
  mutual
    form_same : (at : Place) (e : Expr) → form_depth at (forms names e) ≡ expr_depth at e
    form_same at (Number n) = atom_form at _
    form_same at (PublicInput i) = atom_form at _
    form_same at (PrivateInput i) = atom_form at _
    form_same at (Named i) = atom_form at _
    form_same at (Neg e) = factor_form at _ ∙ ap (closed_depth (closed_negative at)) (form_same place.UnderMinus e)
    form_same at (Added ps) = sum_form at _ ∙ ap (closed_depth (closed_sum at)) (first_same ps)
    form_same at (Multiplied es) = product_form at _ ∙ ap (closed_depth (closed_product at)) (first_factor_same es)

    first_same : (ps : Parts) → sum_depth (first_sum names ps) ≡ parts_depth ps
    first_same NoPart = refl
    first_same (part m e ps) = omega (arith, onto_same ps (g.Single (forms names e).product), form_same place.Part e)

    onto_same : (ps : Parts) (s : g.Sum) → sum_depth (sum_onto names s ps) ≡ max (sum_depth s) (parts_depth ps)
    onto_same NoPart s = omega arith
    onto_same (part m e ps) s = omega (arith, onto_same ps (signed s m (forms names e).product), signed_depth s m (forms names e).product, form_same place.Part e)

    first_factor_same : (es : Exprs) → product_depth (first_product names es) ≡ factors_depth es
    first_factor_same NoExpr = refl
    first_factor_same (factor e es) = omega (arith, onto_factors_same es (g.Lone (forms names e).factor), form_same place.Factor e)

    onto_factors_same : (es : Exprs) (p : g.Product) → product_depth (product_onto names p es) ≡ max (product_depth p) (factors_depth es)
    onto_factors_same NoExpr p = omega arith
    onto_factors_same (factor e es) p = omega (arith, onto_factors_same es (g.Times p (forms names e).factor), form_same place.Factor e)

pub form_shallow : (names : Names) (e : Expr) → expr_depth place.Alone e ≤ 64 → sum_depth (forms names e).sum ≤ 64
form_shallow names e h = omega (arith, h, form_same names place.Alone e)

-- ---- an expression that was read is printed no deeper than it was written

parts_more : (ps : Parts) (m : Bool) (e : Expr) → parts_depth (add_part ps m e) ≤ max (parts_depth ps) (expr_depth place.Part e)
parts_more NoPart m e = omega arith
parts_more (part n f ps) m e = omega (arith, parts_more ps m e)

factors_more : (es : Exprs) (e : Expr) → factors_depth (add_factor es e) ≤ max (factors_depth es) (expr_depth place.Factor e)
factors_more NoExpr e = omega arith
factors_more (factor f es) e = omega (arith, factors_more es e)

-- as a sum it is no deeper than as a product, and so on
sum_product : (e : Expr) → expr_depth place.Alone e ≤ expr_depth place.Part e
sum_product (Number n) = omega arith
sum_product (PublicInput i) = omega arith
sum_product (PrivateInput i) = omega arith
sum_product (Named i) = omega arith
sum_product (Neg e) = omega arith
sum_product (Added ps) = omega arith
sum_product (Multiplied es) = omega arith

product_factor : (e : Expr) → expr_depth place.Part e ≤ expr_depth place.Factor e
product_factor (Number n) = omega arith
product_factor (PublicInput i) = omega arith
product_factor (PrivateInput i) = omega arith
product_factor (Named i) = omega arith
product_factor (Neg e) = omega arith
product_factor (Added ps) = omega arith
product_factor (Multiplied es) = omega arith

factor_atom : (e : Expr) → expr_depth place.Factor e ≤ expr_depth place.UnderMinus e
factor_atom (Number n) = omega arith
factor_atom (PublicInput i) = omega arith
factor_atom (PrivateInput i) = omega arith
factor_atom (Named i) = omega arith
factor_atom (Neg e) = omega arith
factor_atom (Added ps) = omega arith
factor_atom (Multiplied es) = omega arith

atom_sum : (e : Expr) → expr_depth place.UnderMinus e ≤ expr_depth place.Alone e + 1
atom_sum (Number n) = omega arith
atom_sum (PublicInput i) = omega arith
atom_sum (PrivateInput i) = omega arith
atom_sum (Named i) = omega arith
atom_sum (Neg e) = omega arith
atom_sum (Added ps) = omega arith
atom_sum (Multiplied es) = omega arith

module _ (name : List ℕ → Expr) (leaf : (w : List ℕ) → expr_depth place.UnderMinus (name w) ≡ 0) where
  mutual
    sum_least : (s : g.Sum) → expr_depth place.Alone (sum_means Number name s) ≤ sum_depth s
    sum_least (g.Single p) = omega (arith, sum_product (product_means Number name p), product_least p)
    sum_least (g.Plus s p) = omega (arith, parts_more (sum_parts Number name s) false (product_means Number name p), parts_least s, product_least p)
    sum_least (g.Less s p) = omega (arith, parts_more (sum_parts Number name s) true (product_means Number name p), parts_least s, product_least p)

    parts_least : (s : g.Sum) → parts_depth (sum_parts Number name s) ≤ sum_depth s
    parts_least (g.Single p) = omega (arith, product_least p)
    parts_least (g.Plus s p) = omega (arith, parts_more (sum_parts Number name s) false (product_means Number name p), parts_least s, product_least p)
    parts_least (g.Less s p) = omega (arith, parts_more (sum_parts Number name s) true (product_means Number name p), parts_least s, product_least p)

    product_least : (p : g.Product) → expr_depth place.Part (product_means Number name p) ≤ product_depth p
    product_least (g.Lone f) = omega (arith, product_factor (factor_means Number name f), factor_least f)
    product_least (g.Times p f) = omega (arith, factors_more (product_factors Number name p) (factor_means Number name f), factors_least p, factor_least f)

    factors_least : (p : g.Product) → factors_depth (product_factors Number name p) ≤ product_depth p
    factors_least (g.Lone f) = omega (arith, factor_least f)
    factors_least (g.Times p f) = omega (arith, factors_more (product_factors Number name p) (factor_means Number name f), factors_least p, factor_least f)

    factor_least : (f : g.Factor) → expr_depth place.Factor (factor_means Number name f) ≤ factor_depth f
    factor_least (g.Plain a) = omega (arith, factor_atom (atom_means Number name a), atom_least a)
    factor_least (g.Minus a) = atom_least a

    atom_least : (a : g.Atom) → expr_depth place.UnderMinus (atom_means Number name a) ≤ atom_depth a
    atom_least (g.Number n) = omega arith
    atom_least (g.Name w) = omega (arith, leaf w)
    atom_least (g.Group s) = omega (arith, atom_sum (sum_means Number name s), sum_least s)

leaf_at : (b : Bool) (x : Expr) (o : Option Expr) → expr_depth place.UnderMinus x ≡ 0 → expr_depth place.UnderMinus (or_zero o) ≡ 0 → expr_depth place.UnderMinus (or_zero (cond b (Some x) o)) ≡ 0
leaf_at true x o h k = h
leaf_at false x o h k = k

leaf_from : (p q l : ℕ) (ss : List Statement) (w : List ℕ) → expr_depth place.UnderMinus (or_zero (declared_from p q l ss w)) ≡ 0
leaf_from p q l [] w = refl
leaf_from p q l (DeclarePublic v ∷ ss) w = leaf_at (bytes_eq v w) (PublicInput p) (declared_from (p + 1) q l ss w) refl (leaf_from (p + 1) q l ss w)
leaf_from p q l (DeclarePrivate v ∷ ss) w = leaf_at (bytes_eq v w) (PrivateInput q) (declared_from p (q + 1) l ss w) refl (leaf_from p (q + 1) l ss w)
leaf_from p q l (Define v e ∷ ss) w = leaf_at (bytes_eq v w) (Named l) (declared_from p q (l + 1) ss w) refl (leaf_from p q (l + 1) ss w)
leaf_from p q l (Assertion e f ∷ ss) w = leaf_from p q l ss w

pub printed_depth : (ss : List Statement) (s : g.Sum) → expr_depth place.Alone (sum_means Number (meaning ss) s) ≤ sum_depth s
printed_depth ss s = sum_least (meaning ss) (leaf_from 0 0 0 ss) s
