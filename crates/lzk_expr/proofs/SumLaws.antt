-- What is read of a sum's tokens, as the grammar says it.
use Rattle.std.proofs.Common.{◌≡◌, ℕ, Bool, true, false, ◌&&◌, List, [], ◌∷◌, ◌++◌, Option, Some, None, is_some, refl, sym, ◌∙◌, ap, ap₂}
use Rattle.std.specs.Option.{option_map}
use Rattle.std.specs.Prelude.{nat_lt}
use Rattle.std.specs.List.{list_all}
use Rattle.std.proofs.lemmas.List.Folds.{list_all-append}
use Rattle.std.specs.HashMap.{HashMap}
use Rattle.lzk_expr.specs.declared.ast.FieldId.{FieldId}
use Rattle.lzk_expr.specs.declared.names.Binding.{Binding}
use Rattle.lzk_expr.specs.Tokens.{Token}
use Rattle.lzk_expr.specs.Tokens as token
use Rattle.lzk_expr.specs.Grammar as g
use Rattle.lzk_expr.specs.Trees.{Expr, add_part, add_factor, part, factor, NoPart, NoExpr, Added, Multiplied, Neg, sum_means, sum_parts, product_means, product_factors, factor_means, atom_means, Parts, Exprs}
use Rattle.lzk_expr.specs.Sources.{field_size}
use Rattle.lzk_expr.specs.Meanings.{sum_read}
use Rattle.lzk_expr.specs.Table.{found, token_known, token_below}
use Rattle.lzk_expr.proofs.Machine.{sum_of}
use Rattle.lzk_expr.proofs.Whole.{sum_again, sum_takes}
use Rattle.lzk_expr.proofs.Meaning.{sum_of_is}

both : {a b c d : Bool} → a ≡ b → c ≡ d → (a && c) ≡ (b && d)
both e f = ap₂ (λ (x y : Bool). x && y) e f

and_true : (b : Bool) → (b && true) ≡ b
and_true true = refl
and_true false = refl

-- the names of a sum are known where its tokens are
mutual
  pub sum_known : {S : Type 0} (m : HashMap (List ℕ) Binding S) (s : g.Sum) → list_all (token_known m) (g.sum_tokens s) ≡ list_all (λ w. is_some (found m w)) (g.sum_names s)
  sum_known m (g.Single p) = product_known m p
  sum_known m (g.Plus s p) = list_all-append (token_known m) (g.sum_tokens s) (token.Plus ∷ g.product_tokens p) ∙ both (sum_known m s) (product_known m p) ∙ sym (list_all-append (λ w. is_some (found m w)) (g.sum_names s) (g.product_names p))
  sum_known m (g.Less s p) = list_all-append (token_known m) (g.sum_tokens s) (token.Minus ∷ g.product_tokens p) ∙ both (sum_known m s) (product_known m p) ∙ sym (list_all-append (λ w. is_some (found m w)) (g.sum_names s) (g.product_names p))

  pub product_known : {S : Type 0} (m : HashMap (List ℕ) Binding S) (p : g.Product) → list_all (token_known m) (g.product_tokens p) ≡ list_all (λ w. is_some (found m w)) (g.product_names p)
  product_known m (g.Lone f) = factor_known m f
  product_known m (g.Times p f) = list_all-append (token_known m) (g.product_tokens p) (token.Times ∷ g.factor_tokens f) ∙ both (product_known m p) (factor_known m f) ∙ sym (list_all-append (λ w. is_some (found m w)) (g.product_names p) (g.factor_names f))

  pub factor_known : {S : Type 0} (m : HashMap (List ℕ) Binding S) (f : g.Factor) → list_all (token_known m) (g.factor_tokens f) ≡ list_all (λ w. is_some (found m w)) (g.factor_names f)
  factor_known m (g.Plain a) = atom_known m a
  factor_known m (g.Minus a) = atom_known m a

  pub atom_known : {S : Type 0} (m : HashMap (List ℕ) Binding S) (a : g.Atom) → list_all (token_known m) (g.atom_tokens a) ≡ list_all (λ w. is_some (found m w)) (g.atom_names a)
  atom_known m (g.Number n) = refl
  atom_known m (g.Name w) = refl
  atom_known m (g.Group s) = list_all-append (token_known m) (g.sum_tokens s) (token.Close ∷ []) ∙ and_true (list_all (token_known m) (g.sum_tokens s)) ∙ sum_known m s

-- the numbers of a sum are below the field's size where its tokens are
mutual
  pub sum_below : (f : FieldId) (s : g.Sum) → list_all (token_below f) (g.sum_tokens s) ≡ list_all (λ n. nat_lt n (field_size f)) (g.sum_numbers s)
  sum_below f (g.Single p) = product_below f p
  sum_below f (g.Plus s p) = list_all-append (token_below f) (g.sum_tokens s) (token.Plus ∷ g.product_tokens p) ∙ both (sum_below f s) (product_below f p) ∙ sym (list_all-append (λ n. nat_lt n (field_size f)) (g.sum_numbers s) (g.product_numbers p))
  sum_below f (g.Less s p) = list_all-append (token_below f) (g.sum_tokens s) (token.Minus ∷ g.product_tokens p) ∙ both (sum_below f s) (product_below f p) ∙ sym (list_all-append (λ n. nat_lt n (field_size f)) (g.sum_numbers s) (g.product_numbers p))

  pub product_below : (f : FieldId) (p : g.Product) → list_all (token_below f) (g.product_tokens p) ≡ list_all (λ n. nat_lt n (field_size f)) (g.product_numbers p)
  product_below f (g.Lone x) = factor_below f x
  product_below f (g.Times p x) = list_all-append (token_below f) (g.product_tokens p) (token.Times ∷ g.factor_tokens x) ∙ both (product_below f p) (factor_below f x) ∙ sym (list_all-append (λ n. nat_lt n (field_size f)) (g.product_numbers p) (g.factor_numbers x))

  pub factor_below : (f : FieldId) (x : g.Factor) → list_all (token_below f) (g.factor_tokens x) ≡ list_all (λ n. nat_lt n (field_size f)) (g.factor_numbers x)
  factor_below f (g.Plain a) = atom_below f a
  factor_below f (g.Minus a) = atom_below f a

  pub atom_below : (f : FieldId) (a : g.Atom) → list_all (token_below f) (g.atom_tokens a) ≡ list_all (λ n. nat_lt n (field_size f)) (g.atom_numbers a)
  atom_below f (g.Number n) = refl
  atom_below f (g.Name w) = refl
  atom_below f (g.Group s) = list_all-append (token_below f) (g.sum_tokens s) (token.Close ∷ []) ∙ and_true (list_all (token_below f) (g.sum_tokens s)) ∙ sum_below f s

and_first : (a b : Bool) → (a && b) ≡ true → a ≡ true
and_first true b h = refl
and_first false b h = h

and_second : (a b : Bool) → (a && b) ≡ true → b ≡ true
and_second true b h = h
and_second false b h = absurd cc

-- number and other agree on the numbers of a sum
module _ (number other : ℕ → Expr) (name : List ℕ → Expr) (fits : ℕ → Bool) (agree : (n : ℕ) → fits n ≡ true → number n ≡ other n) where
  parted : (xs ys : List ℕ) → list_all fits (xs ++ ys) ≡ true → (list_all fits xs ≡ true) × (list_all fits ys ≡ true)
  parted xs ys h = let e : (list_all fits xs && list_all fits ys) ≡ true = sym (list_all-append fits xs ys) ∙ h in (and_first _ _ e, and_second (list_all fits xs) _ e)

  mutual
    pub sum_same : (s : g.Sum) → list_all fits (g.sum_numbers s) ≡ true → sum_means number name s ≡ sum_means other name s
    sum_same (g.Single p) h = product_same p h
    sum_same (g.Plus s p) h = let q = parted (g.sum_numbers s) (g.product_numbers p) h in ap₂ (λ (ps : Parts) (e : Expr). Added (add_part ps false e)) (parts_same s q.0) (product_same p q.1)
    sum_same (g.Less s p) h = let q = parted (g.sum_numbers s) (g.product_numbers p) h in ap₂ (λ (ps : Parts) (e : Expr). Added (add_part ps true e)) (parts_same s q.0) (product_same p q.1)

    parts_same : (s : g.Sum) → list_all fits (g.sum_numbers s) ≡ true → sum_parts number name s ≡ sum_parts other name s
    parts_same (g.Single p) h = ap (λ (e : Expr). part false e NoPart) (product_same p h)
    parts_same (g.Plus s p) h = let q = parted (g.sum_numbers s) (g.product_numbers p) h in ap₂ (λ (ps : Parts) (e : Expr). add_part ps false e) (parts_same s q.0) (product_same p q.1)
    parts_same (g.Less s p) h = let q = parted (g.sum_numbers s) (g.product_numbers p) h in ap₂ (λ (ps : Parts) (e : Expr). add_part ps true e) (parts_same s q.0) (product_same p q.1)

    product_same : (p : g.Product) → list_all fits (g.product_numbers p) ≡ true → product_means number name p ≡ product_means other name p
    product_same (g.Lone f) h = factor_same f h
    product_same (g.Times p f) h = let q = parted (g.product_numbers p) (g.factor_numbers f) h in ap₂ (λ (es : Exprs) (e : Expr). Multiplied (add_factor es e)) (factors_same p q.0) (factor_same f q.1)

    factors_same : (p : g.Product) → list_all fits (g.product_numbers p) ≡ true → product_factors number name p ≡ product_factors other name p
    factors_same (g.Lone f) h = ap (λ (e : Expr). factor e NoExpr) (factor_same f h)
    factors_same (g.Times p f) h = let q = parted (g.product_numbers p) (g.factor_numbers f) h in ap₂ (λ (es : Exprs) (e : Expr). add_factor es e) (factors_same p q.0) (factor_same f q.1)

    factor_same : (f : g.Factor) → list_all fits (g.factor_numbers f) ≡ true → factor_means number name f ≡ factor_means other name f
    factor_same (g.Plain a) h = atom_same a h
    factor_same (g.Minus a) h = ap (λ (e : Expr). Neg e) (atom_same a h)

    atom_same : (a : g.Atom) → list_all fits (g.atom_numbers a) ≡ true → atom_means number name a ≡ atom_means other name a
    atom_same (g.Number n) h = agree n (and_first (fits n) true h)
    atom_same (g.Name w) h = refl
    atom_same (g.Group s) h = sum_same s h

-- ---- a sum is read where the grammar has one

some_from : (number : ℕ → Expr) (name : List ℕ → Expr) (o : Option g.Sum) (e : Expr) → option_map (sum_means number name) o ≡ Some e → (s : g.Sum) × (o ≡ Some s) × (sum_means number name s ≡ e)
some_from number name None e h = absurd cc
some_from number name (Some s) e h = (s, refl, cc)

none_from : (number : ℕ → Expr) (name : List ℕ → Expr) (o : Option g.Sum) → option_map (sum_means number name) o ≡ None → o ≡ None
none_from number name None h = refl
none_from number name (Some s) h = absurd cc

pub sum_was_read : (number : ℕ → Expr) (name : List ℕ → Expr) (ts : List Token) (e : Expr) → sum_read number name ts ≡ Some e → (s : g.Sum) × (ts ≡ g.sum_tokens s) × (sum_means number name s ≡ e)
sum_was_read number name ts e h =
    let r = some_from number name (sum_of ts) e (sum_of_is number name ts ∙ h) in
    (r.0, sum_takes ts r.0 r.1, r.2)

pub no_sum : (number : ℕ → Expr) (name : List ℕ → Expr) (ts : List Token) → sum_read number name ts ≡ None → (s : g.Sum) → ts ≡ g.sum_tokens s → ⊥
no_sum number name ts h s e =
    let none : sum_of ts ≡ None = none_from number name (sum_of ts) (sum_of_is number name ts ∙ h) in
    let some : sum_of ts ≡ Some s = ap sum_of e ∙ sum_again s in
    absurd cc
