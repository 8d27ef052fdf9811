-- The tree that is printed of an expression.
use Rattle.std.proofs.Common.{◌≡◌, ℕ, Bool, true, false, List, [], ◌∷◌, ◌++◌, refl, sym, ◌∙◌, ap, ap₂, append_assoc}
use Rattle.std.specs.Prelude.{slice_index_or, codes}
use Rattle.std.specs.List.{list_all}
use Rattle.std.proofs.lemmas.List.{append-nil}
use Rattle.std.proofs.lemmas.List.Folds.{list_all-append}
use Rattle.std.proofs.lemmas.Bool.{and_parts}
use Rattle.lzk_expr.specs.declared.place.Place.{Place}
use Rattle.lzk_expr.specs.declared.place.Place.TheVariants as place
use Rattle.lzk_expr.specs.Grammar as g
use Rattle.lzk_expr.specs.Trees.{Expr, Number, PublicInput, PrivateInput, Named, Neg, Added, Multiplied, Parts, NoPart, part, Exprs, NoExpr, factor, add_part, add_factor, sum_means, sum_parts, product_means, product_factors, factor_means, atom_means}
use Rattle.lzk_expr.specs.Printing.{Names, expr_text, parts_text, factors_text, in_parentheses, closed_sum, closed_product, closed_negative}
use Rattle.lzk_expr.specs.Printing as printing
pub use Rattle.lzk_expr.specs.Built.{sum_shape, product_shape, Good, GoodParts, GoodFactors}
use Rattle.lzk_expr.proofs.Lexed.{sum_text, product_text, factor_text, atom_text, SumHas, ProductHas, FactorHas, AtomHas}

-- an expression as a sum, a product, a factor and an atom
pub record Forms : Type 0 where
  pub sum : g.Sum
  pub product : g.Product
  pub factor : g.Factor
  pub atom : g.Atom

abbrev pub from_atom : g.Atom → Forms
from_atom a = record { sum = g.Single (g.Lone (g.Plain a)); product = g.Lone (g.Plain a); factor = g.Plain a; atom = a }

abbrev pub from_factor : g.Factor → Forms
from_factor f = record { sum = g.Single (g.Lone f); product = g.Lone f; factor = f; atom = g.Group (g.Single (g.Lone f)) }

abbrev pub from_product : g.Product → Forms
from_product p = record { sum = g.Single p; product = p; factor = g.Plain (g.Group (g.Single p)); atom = g.Group (g.Single p) }

abbrev pub from_sum : g.Sum → Forms
from_sum s = record { sum = s; product = g.Lone (g.Plain (g.Group s)); factor = g.Plain (g.Group s); atom = g.Group s }

abbrev pub signed : g.Sum → Bool → g.Product → g.Sum
signed s false p = g.Plus s p
signed s true p = g.Less s p

abbrev mutual
  pub forms : Names → Expr → Forms
  forms names (Number n) = from_atom (g.Number n)
  forms names (PublicInput i) = from_atom (g.Name (slice_index_or names.publics i []))
  forms names (PrivateInput i) = from_atom (g.Name (slice_index_or names.privates i []))
  forms names (Named i) = from_atom (g.Name (slice_index_or names.lets i []))
  forms names (Neg e) = from_factor (g.Minus (forms names e).atom)
  forms names (Added ps) = from_sum (first_sum names ps)
  forms names (Multiplied es) = from_product (first_product names es)

  pub first_sum : Names → Parts → g.Sum
  first_sum names NoPart = g.Single (g.Lone (g.Plain (g.Number 0)))
  first_sum names (part m e ps) = sum_onto names (g.Single (forms names e).product) ps

  pub sum_onto : Names → g.Sum → Parts → g.Sum
  sum_onto names s NoPart = s
  sum_onto names s (part m e ps) = sum_onto names (signed s m (forms names e).product) ps

  pub first_product : Names → Exprs → g.Product
  first_product names NoExpr = g.Lone (g.Plain (g.Number 0))
  first_product names (factor e es) = product_onto names (g.Lone (forms names e).factor) es

  pub product_onto : Names → g.Product → Exprs → g.Product
  product_onto names p NoExpr = p
  product_onto names p (factor e es) = product_onto names (g.Times p (forms names e).factor) es

-- ---- expressions that a text may stand for

module _ (R S : Expr → Type 0) (more : (x : Expr) → R x → S x) where
  mutual
    pub good_map : (e : Expr) → Good R e → Good S e
    good_map (Number n) h = more (Number n) h
    good_map (PublicInput i) h = more (PublicInput i) h
    good_map (PrivateInput i) h = more (PrivateInput i) h
    good_map (Named i) h = more (Named i) h
    good_map (Neg e) h = good_map e h
    good_map (Added ps) h = (h.0, parts_map ps h.1)
    good_map (Multiplied es) h = (h.0, factors_map es h.1)

    parts_map : (ps : Parts) → GoodParts R ps → GoodParts S ps
    parts_map NoPart h = tt
    parts_map (part m e ps) h = (good_map e h.0, parts_map ps h.1)

    factors_map : (es : Exprs) → GoodFactors R es → GoodFactors S es
    factors_map NoExpr h = tt
    factors_map (factor e es) h = (good_map e h.0, factors_map es h.1)

-- ---- its text

abbrev pub place_text : Place → Forms → List ℕ
place_text place.Alone f = sum_text f.sum
place_text place.Part f = product_text f.product
place_text place.Factor f = factor_text f.factor
place_text place.UnderMinus f = atom_text f.atom

signed_text : (s : g.Sum) (m : Bool) (p : g.Product) (rest : List ℕ) → sum_text (signed s m p) ++ rest ≡ sum_text s ++ (printing.sign_text m ++ (product_text p ++ rest))
signed_text s false p rest = append_assoc (sum_text s) (32 ∷ 43 ∷ 32 ∷ product_text p) rest
signed_text s true p rest = append_assoc (sum_text s) (32 ∷ 45 ∷ 32 ∷ product_text p) rest

closed_at : (at : Place) (text : List ℕ) (s : g.Sum) → text ≡ sum_text s → in_parentheses (closed_sum at) text ≡ place_text at (from_sum s)
closed_at place.Alone text s e = e
closed_at place.Part text s e = ap (λ (l : List ℕ). 40 ∷ (l ++ (41 ∷ []))) e
closed_at place.Factor text s e = ap (λ (l : List ℕ). 40 ∷ (l ++ (41 ∷ []))) e
closed_at place.UnderMinus text s e = ap (λ (l : List ℕ). 40 ∷ (l ++ (41 ∷ []))) e

closed_product_at : (at : Place) (text : List ℕ) (p : g.Product) → text ≡ product_text p → in_parentheses (closed_product at) text ≡ place_text at (from_product p)
closed_product_at place.Alone text p e = e
closed_product_at place.Part text p e = e
closed_product_at place.Factor text p e = ap (λ (l : List ℕ). 40 ∷ (l ++ (41 ∷ []))) e
closed_product_at place.UnderMinus text p e = ap (λ (l : List ℕ). 40 ∷ (l ++ (41 ∷ []))) e

closed_negative_at : (at : Place) (text : List ℕ) (f : g.Factor) → text ≡ factor_text f → in_parentheses (closed_negative at) text ≡ place_text at (from_factor f)
closed_negative_at place.Alone text f e = e
closed_negative_at place.Part text f e = e
closed_negative_at place.Factor text f e = e
closed_negative_at place.UnderMinus text f e = ap (λ (l : List ℕ). 40 ∷ (l ++ (41 ∷ []))) e

atom_at : (at : Place) (a : g.Atom) → atom_text a ≡ place_text at (from_atom a)
atom_at place.Alone a = refl
atom_at place.Part a = refl
atom_at place.Factor a = refl
atom_at place.UnderMinus a = refl

module _ (names : Names) (R : Expr → Type 0) where
  mutual
    pub expr_printed : (e : Expr) (at : Place) → Good R e → expr_text names at e ≡ place_text at (forms names e)
    expr_printed (Number n) at h = atom_at at (g.Number n)
    expr_printed (PublicInput i) at h = atom_at at (g.Name (slice_index_or names.publics i []))
    expr_printed (PrivateInput i) at h = atom_at at (g.Name (slice_index_or names.privates i []))
    expr_printed (Named i) at h = atom_at at (g.Name (slice_index_or names.lets i []))
    expr_printed (Neg e) at h = closed_negative_at at (45 ∷ expr_text names place.UnderMinus e) (g.Minus (forms names e).atom) (ap (λ (l : List ℕ). 45 ∷ l) (expr_printed e place.UnderMinus h))
    expr_printed (Added ps) at h = closed_at at (printing.sum_text names ps) (first_sum names ps) (sum_printed ps h.0 h.1)
    expr_printed (Multiplied es) at h = closed_product_at at (printing.product_text names es) (first_product names es) (product_printed es h.0 h.1)

    sum_printed : (ps : Parts) → sum_shape ps ≡ true → GoodParts R ps → printing.sum_text names ps ≡ sum_text (first_sum names ps)
    sum_printed NoPart e h = absurd cc
    sum_printed (part m x ps) e h = ap (λ (l : List ℕ). l ++ parts_text names ps) (expr_printed x place.Part h.0) ∙ sym (parts_printed ps (g.Single (forms names x).product) h.1)

    parts_printed : (ps : Parts) (s : g.Sum) → GoodParts R ps → sum_text (sum_onto names s ps) ≡ sum_text s ++ parts_text names ps
    parts_printed NoPart s h = sym (append-nil (sum_text s))
    parts_printed (part m x ps) s h =
        parts_printed ps (signed s m (forms names x).product) h.1 ∙ signed_text s m (forms names x).product (parts_text names ps)
        ∙ ap (λ (l : List ℕ). sum_text s ++ (printing.sign_text m ++ (l ++ parts_text names ps))) (sym (expr_printed x place.Part h.0))

    product_printed : (es : Exprs) → product_shape es ≡ true → GoodFactors R es → printing.product_text names es ≡ product_text (first_product names es)
    product_printed NoExpr e h = absurd cc
    product_printed (factor x es) e h = ap (λ (l : List ℕ). l ++ factors_text names es) (expr_printed x place.Factor h.0) ∙ sym (factors_printed es (g.Lone (forms names x).factor) h.1)

    factors_printed : (es : Exprs) (p : g.Product) → GoodFactors R es → product_text (product_onto names p es) ≡ product_text p ++ factors_text names es
    factors_printed NoExpr p h = sym (append-nil (product_text p))
    factors_printed (factor x es) p h =
        factors_printed es (g.Times p (forms names x).factor) h.1 ∙ append_assoc (product_text p) (32 ∷ 42 ∷ 32 ∷ factor_text (forms names x).factor) (factors_text names es)
        ∙ ap (λ (l : List ℕ). product_text p ++ (codes " * " ++ (l ++ factors_text names es))) (sym (expr_printed x place.Factor h.0))

-- ---- what its names and numbers are

signed_has : (P : List ℕ → Type 0) (Q : ℕ → Type 0) (s : g.Sum) (m : Bool) (p : g.Product) → SumHas P Q s → ProductHas P Q p → SumHas P Q (signed s m p)
signed_has P Q s false p h k = (h, k)
signed_has P Q s true p h k = (h, k)

product_has : (P : List ℕ → Type 0) (Q : ℕ → Type 0) (names : Names) (e : Expr) → AtomHas P Q (forms names e).atom → ProductHas P Q (forms names e).product
product_has P Q names (Number n) h = h
product_has P Q names (PublicInput i) h = h
product_has P Q names (PrivateInput i) h = h
product_has P Q names (Named i) h = h
product_has P Q names (Neg e) h = h
product_has P Q names (Added ps) h = h
product_has P Q names (Multiplied es) h = h

factor_has : (P : List ℕ → Type 0) (Q : ℕ → Type 0) (names : Names) (e : Expr) → AtomHas P Q (forms names e).atom → FactorHas P Q (forms names e).factor
factor_has P Q names (Number n) h = h
factor_has P Q names (PublicInput i) h = h
factor_has P Q names (PrivateInput i) h = h
factor_has P Q names (Named i) h = h
factor_has P Q names (Neg e) h = h
factor_has P Q names (Added ps) h = h
factor_has P Q names (Multiplied es) h = h

pub sum_has : (P : List ℕ → Type 0) (Q : ℕ → Type 0) (names : Names) (e : Expr) → AtomHas P Q (forms names e).atom → SumHas P Q (forms names e).sum
sum_has P Q names (Number n) h = h
sum_has P Q names (PublicInput i) h = h
sum_has P Q names (PrivateInput i) h = h
sum_has P Q names (Named i) h = h
sum_has P Q names (Neg e) h = h
sum_has P Q names (Added ps) h = h
sum_has P Q names (Multiplied es) h = h

module _ (P : List ℕ → Type 0) (Q : ℕ → Type 0) (names : Names) (R : Expr → Type 0) (number : (n : ℕ) → R (Number n) → Q n) (public : (i : ℕ) → R (PublicInput i) → P (slice_index_or names.publics i []))
    (private : (i : ℕ) → R (PrivateInput i) → P (slice_index_or names.privates i [])) (named : (i : ℕ) → R (Named i) → P (slice_index_or names.lets i [])) where
  mutual
    pub atom_has : (e : Expr) → Good R e → AtomHas P Q (forms names e).atom
    atom_has (Number n) h = number n h
    atom_has (PublicInput i) h = public i h
    atom_has (PrivateInput i) h = private i h
    atom_has (Named i) h = named i h
    atom_has (Neg e) h = atom_has e h
    atom_has (Added ps) h = first_has ps h.0 h.1
    atom_has (Multiplied es) h = first_factor_has es h.0 h.1

    first_has : (ps : Parts) → sum_shape ps ≡ true → GoodParts R ps → SumHas P Q (first_sum names ps)
    first_has NoPart e h = absurd cc
    first_has (part m x ps) e h = onto_has ps (g.Single (forms names x).product) (product_has P Q names x (atom_has x h.0)) h.1

    onto_has : (ps : Parts) (s : g.Sum) → SumHas P Q s → GoodParts R ps → SumHas P Q (sum_onto names s ps)
    onto_has NoPart s k h = k
    onto_has (part m x ps) s k h = onto_has ps (signed s m (forms names x).product) (signed_has P Q s m (forms names x).product k (product_has P Q names x (atom_has x h.0))) h.1

    first_factor_has : (es : Exprs) → product_shape es ≡ true → GoodFactors R es → ProductHas P Q (first_product names es)
    first_factor_has NoExpr e h = absurd cc
    first_factor_has (factor x es) e h = factors_has es (g.Lone (forms names x).factor) (factor_has P Q names x (atom_has x h.0)) h.1

    factors_has : (es : Exprs) (p : g.Product) → ProductHas P Q p → GoodFactors R es → ProductHas P Q (product_onto names p es)
    factors_has NoExpr p k h = k
    factors_has (factor x es) p k h = factors_has es (g.Times p (forms names x).factor) (k, factor_has P Q names x (atom_has x h.0)) h.1

-- ---- what it means

abbrev joined : Parts → Parts → Parts
joined NoPart qs = qs
joined (part m e ps) qs = part m e (joined ps qs)

joined_none : (ps : Parts) → joined ps NoPart ≡ ps
joined_none NoPart = refl
joined_none (part m e ps) = ap (part m e) (joined_none ps)

joined_part : (ps : Parts) (m : Bool) (e : Expr) (qs : Parts) → joined (add_part ps m e) qs ≡ joined ps (part m e qs)
joined_part NoPart m e qs = refl
joined_part (part n f ps) m e qs = ap (part n f) (joined_part ps m e qs)

abbrev joined_factors : Exprs → Exprs → Exprs
joined_factors NoExpr fs = fs
joined_factors (factor e es) fs = factor e (joined_factors es fs)

joined_no_factor : (es : Exprs) → joined_factors es NoExpr ≡ es
joined_no_factor NoExpr = refl
joined_no_factor (factor e es) = ap (factor e) (joined_no_factor es)

joined_factor : (es : Exprs) (e : Expr) (fs : Exprs) → joined_factors (add_factor es e) fs ≡ joined_factors es (factor e fs)
joined_factor NoExpr e fs = refl
joined_factor (factor f es) e fs = ap (factor f) (joined_factor es e fs)

module _ (names : Names) (name : List ℕ → Expr) where
  signed_parts : (s : g.Sum) (m : Bool) (p : g.Product) → sum_parts Number name (signed s m p) ≡ add_part (sum_parts Number name s) m (product_means Number name p)
  signed_parts s false p = refl
  signed_parts s true p = refl

  signed_added : (s : g.Sum) (m : Bool) (p : g.Product) → sum_means Number name (signed s m p) ≡ Added (sum_parts Number name (signed s m p))
  signed_added s false p = refl
  signed_added s true p = refl

  onto_added : (ps : Parts) (s : g.Sum) → sum_means Number name s ≡ Added (sum_parts Number name s) → sum_means Number name (sum_onto names s ps) ≡ Added (sum_parts Number name (sum_onto names s ps))
  onto_added NoPart s e = e
  onto_added (part m x ps) s e = onto_added ps (signed s m (forms names x).product) (signed_added s m (forms names x).product)

  onto_multiplied : (es : Exprs) (p : g.Product) → product_means Number name p ≡ Multiplied (product_factors Number name p) → product_means Number name (product_onto names p es) ≡ Multiplied (product_factors Number name (product_onto names p es))
  onto_multiplied NoExpr p e = e
  onto_multiplied (factor x es) p e = onto_multiplied es (g.Times p (forms names x).factor) refl

  same_product : (e : Expr) → product_means Number name (forms names e).product ≡ atom_means Number name (forms names e).atom
  same_product (Number n) = refl
  same_product (PublicInput i) = refl
  same_product (PrivateInput i) = refl
  same_product (Named i) = refl
  same_product (Neg e) = refl
  same_product (Added ps) = refl
  same_product (Multiplied es) = refl

  same_factor : (e : Expr) → factor_means Number name (forms names e).factor ≡ atom_means Number name (forms names e).atom
  same_factor (Number n) = refl
  same_factor (PublicInput i) = refl
  same_factor (PrivateInput i) = refl
  same_factor (Named i) = refl
  same_factor (Neg e) = refl
  same_factor (Added ps) = refl
  same_factor (Multiplied es) = refl

  pub same_sum : (e : Expr) → sum_means Number name (forms names e).sum ≡ atom_means Number name (forms names e).atom
  same_sum (Number n) = refl
  same_sum (PublicInput i) = refl
  same_sum (PrivateInput i) = refl
  same_sum (Named i) = refl
  same_sum (Neg e) = refl
  same_sum (Added ps) = refl
  same_sum (Multiplied es) = refl

  module _ (R : Expr → Type 0) (public : (i : ℕ) → R (PublicInput i) → name (slice_index_or names.publics i []) ≡ PublicInput i) (private : (i : ℕ) → R (PrivateInput i) → name (slice_index_or names.privates i []) ≡ PrivateInput i)
      (named : (i : ℕ) → R (Named i) → name (slice_index_or names.lets i []) ≡ Named i) where
    mutual
      pub atom_is : (e : Expr) → Good R e → atom_means Number name (forms names e).atom ≡ e
      atom_is (Number n) h = refl
      atom_is (PublicInput i) h = public i h
      atom_is (PrivateInput i) h = private i h
      atom_is (Named i) h = named i h
      atom_is (Neg e) h = ap Neg (atom_is e h)
      atom_is (Added ps) h = first_is ps h.0 h.1
      atom_is (Multiplied es) h = first_factor_is es h.0 h.1

      first_is : (ps : Parts) → sum_shape ps ≡ true → GoodParts R ps → sum_means Number name (first_sum names ps) ≡ Added ps
      first_is NoPart e h = absurd cc
      first_is (part true x ps) e h = absurd cc
      first_is (part false x NoPart) e h = absurd cc
      first_is (part false x (part n y ps)) e h =
          let s = g.Single (forms names x).product in
          onto_added ps (signed s n (forms names y).product) (signed_added s n (forms names y).product)
          ∙ ap Added (onto_is ps (signed s n (forms names y).product) h.1.1 ∙ ap (λ (qs : Parts). joined qs ps) (signed_parts s n (forms names y).product)
          ∙ ap₂ (λ (a b : Expr). part false a (part n b ps)) (same_product x ∙ atom_is x h.0) (same_product y ∙ atom_is y h.1.0))

      onto_is : (ps : Parts) (s : g.Sum) → GoodParts R ps → sum_parts Number name (sum_onto names s ps) ≡ joined (sum_parts Number name s) ps
      onto_is NoPart s h = sym (joined_none (sum_parts Number name s))
      onto_is (part m x ps) s h =
          onto_is ps (signed s m (forms names x).product) h.1 ∙ ap (λ (qs : Parts). joined qs ps) (signed_parts s m (forms names x).product)
          ∙ joined_part (sum_parts Number name s) m (product_means Number name (forms names x).product) ps ∙ ap (λ (a : Expr). joined (sum_parts Number name s) (part m a ps)) (same_product x ∙ atom_is x h.0)

      first_factor_is : (es : Exprs) → product_shape es ≡ true → GoodFactors R es → product_means Number name (first_product names es) ≡ Multiplied es
      first_factor_is NoExpr e h = absurd cc
      first_factor_is (factor x NoExpr) e h = absurd cc
      first_factor_is (factor x (factor y es)) e h =
          let p = g.Lone (forms names x).factor in
          onto_multiplied es (g.Times p (forms names y).factor) refl
          ∙ ap Multiplied (factors_is es (g.Times p (forms names y).factor) h.1.1
          ∙ ap₂ (λ (a b : Expr). factor a (factor b es)) (same_factor x ∙ atom_is x h.0) (same_factor y ∙ atom_is y h.1.0))

      factors_is : (es : Exprs) (p : g.Product) → GoodFactors R es → product_factors Number name (product_onto names p es) ≡ joined_factors (product_factors Number name p) es
      factors_is NoExpr p h = sym (joined_no_factor (product_factors Number name p))
      factors_is (factor x es) p h =
          factors_is es (g.Times p (forms names x).factor) h.1
          ∙ joined_factor (product_factors Number name p) (factor_means Number name (forms names x).factor) es ∙ ap (λ (a : Expr). joined_factors (product_factors Number name p) (factor a es)) (same_factor x ∙ atom_is x h.0)

-- ---- a tree that was read stands for such an expression

abbrev first_plain : Parts → Bool
first_plain (part false e ps) = true
first_plain _ = false

abbrev some_factor : Exprs → Bool
some_factor NoExpr = false
some_factor (factor e es) = true

shape_more : (ps : Parts) (m : Bool) (e : Expr) → sum_shape (add_part ps m e) ≡ first_plain ps
shape_more NoPart m e = none_shape m e
  where
    none_shape : (m : Bool) (e : Expr) → sum_shape (part m e NoPart) ≡ false
    none_shape true e = refl
    none_shape false e = refl
shape_more (part true f ps) m e = refl
shape_more (part false f NoPart) m e = refl
shape_more (part false f (part n x ps)) m e = refl

plain_more : (ps : Parts) (m : Bool) (e : Expr) → first_plain ps ≡ true → first_plain (add_part ps m e) ≡ true
plain_more NoPart m e h = absurd cc
plain_more (part true f ps) m e h = absurd cc
plain_more (part false f ps) m e h = refl

factor_shape_more : (es : Exprs) (e : Expr) → product_shape (add_factor es e) ≡ some_factor es
factor_shape_more NoExpr e = refl
factor_shape_more (factor f NoExpr) e = refl
factor_shape_more (factor f (factor x es)) e = refl

some_more : (es : Exprs) (e : Expr) → some_factor (add_factor es e) ≡ true
some_more NoExpr e = refl
some_more (factor f es) e = refl

good_part : (R : Expr → Type 0) (ps : Parts) (m : Bool) (e : Expr) → GoodParts R ps → Good R e → GoodParts R (add_part ps m e)
good_part R NoPart m e h k = (k, tt)
good_part R (part n f ps) m e h k = (h.0, good_part R ps m e h.1 k)

good_factor : (R : Expr → Type 0) (es : Exprs) (e : Expr) → GoodFactors R es → Good R e → GoodFactors R (add_factor es e)
good_factor R NoExpr e h k = (k, tt)
good_factor R (factor f es) e h k = (h.0, good_factor R es e h.1 k)

parted : {X : Type 0} (p : X → Bool) (xs ys : List X) → list_all p (xs ++ ys) ≡ true → (list_all p xs ≡ true) × (list_all p ys ≡ true)
parted p xs ys h = and_parts (list_all p xs) (list_all p ys) (sym (list_all-append p xs ys) ∙ h)

module _ (R : Expr → Type 0) (name : List ℕ → Expr) (known : List ℕ → Bool) (fits : ℕ → Bool) (number : (n : ℕ) → fits n ≡ true → R (Number n)) (good_name : (w : List ℕ) → known w ≡ true → Good R (name w)) where
  mutual
    pub sum_good : (s : g.Sum) → list_all known (g.sum_names s) ≡ true → list_all fits (g.sum_numbers s) ≡ true → Good R (sum_means Number name s)
    sum_good (g.Single p) h k = product_good p h k
    sum_good (g.Plus s p) h k =
        let a = parted known (g.sum_names s) (g.product_names p) h in
        let b = parted fits (g.sum_numbers s) (g.product_numbers p) k in
        let q = parts_good s a.0 b.0 in
        (shape_more (sum_parts Number name s) false (product_means Number name p) ∙ q.0, good_part R (sum_parts Number name s) false (product_means Number name p) q.1 (product_good p a.1 b.1))
    sum_good (g.Less s p) h k =
        let a = parted known (g.sum_names s) (g.product_names p) h in
        let b = parted fits (g.sum_numbers s) (g.product_numbers p) k in
        let q = parts_good s a.0 b.0 in
        (shape_more (sum_parts Number name s) true (product_means Number name p) ∙ q.0, good_part R (sum_parts Number name s) true (product_means Number name p) q.1 (product_good p a.1 b.1))

    parts_good : (s : g.Sum) → list_all known (g.sum_names s) ≡ true → list_all fits (g.sum_numbers s) ≡ true → (first_plain (sum_parts Number name s) ≡ true) × GoodParts R (sum_parts Number name s)
    parts_good (g.Single p) h k = (refl, (product_good p h k, tt))
    parts_good (g.Plus s p) h k =
        let a = parted known (g.sum_names s) (g.product_names p) h in
        let b = parted fits (g.sum_numbers s) (g.product_numbers p) k in
        let q = parts_good s a.0 b.0 in
        (plain_more (sum_parts Number name s) false (product_means Number name p) q.0, good_part R (sum_parts Number name s) false (product_means Number name p) q.1 (product_good p a.1 b.1))
    parts_good (g.Less s p) h k =
        let a = parted known (g.sum_names s) (g.product_names p) h in
        let b = parted fits (g.sum_numbers s) (g.product_numbers p) k in
        let q = parts_good s a.0 b.0 in
        (plain_more (sum_parts Number name s) true (product_means Number name p) q.0, good_part R (sum_parts Number name s) true (product_means Number name p) q.1 (product_good p a.1 b.1))

    product_good : (p : g.Product) → list_all known (g.product_names p) ≡ true → list_all fits (g.product_numbers p) ≡ true → Good R (product_means Number name p)
    product_good (g.Lone f) h k = factor_good f h k
    product_good (g.Times p f) h k =
        let a = parted known (g.product_names p) (g.factor_names f) h in
        let b = parted fits (g.product_numbers p) (g.factor_numbers f) k in
        let q = factors_good p a.0 b.0 in
        (factor_shape_more (product_factors Number name p) (factor_means Number name f) ∙ q.0, good_factor R (product_factors Number name p) (factor_means Number name f) q.1 (factor_good f a.1 b.1))

    factors_good : (p : g.Product) → list_all known (g.product_names p) ≡ true → list_all fits (g.product_numbers p) ≡ true → (some_factor (product_factors Number name p) ≡ true) × GoodFactors R (product_factors Number name p)
    factors_good (g.Lone f) h k = (refl, (factor_good f h k, tt))
    factors_good (g.Times p f) h k =
        let a = parted known (g.product_names p) (g.factor_names f) h in
        let b = parted fits (g.product_numbers p) (g.factor_numbers f) k in
        let q = factors_good p a.0 b.0 in
        (some_more (product_factors Number name p) (factor_means Number name f), good_factor R (product_factors Number name p) (factor_means Number name f) q.1 (factor_good f a.1 b.1))

    factor_good : (f : g.Factor) → list_all known (g.factor_names f) ≡ true → list_all fits (g.factor_numbers f) ≡ true → Good R (factor_means Number name f)
    factor_good (g.Plain a) h k = atom_good a h k
    factor_good (g.Minus a) h k = atom_good a h k

    atom_good : (a : g.Atom) → list_all known (g.atom_names a) ≡ true → list_all fits (g.atom_numbers a) ≡ true → Good R (atom_means Number name a)
    atom_good (g.Number n) h k = number n (and_parts (fits n) true k).0
    atom_good (g.Name w) h k = good_name w (and_parts (known w) true h).0
    atom_good (g.Group s) h k = sum_good s h k
