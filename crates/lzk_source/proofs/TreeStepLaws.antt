-- A tree's steps read as the tree.
use Rattle.std.proofs.Common.{◌≡◌, Bool, true, false, List, [], ◌∷◌, ◌++◌, Some, refl, sym, ◌∙◌, ap}
use Rattle.std.proofs.lemmas.List.{append-nil}
use Rattle.lzk_expr.specs.declared.place.Place.TheVariants as place
use Rattle.lzk_expr.specs.Trees.{Expr, Number, PublicInput, PrivateInput, Named, Neg, Added, Multiplied, Parts, NoPart, part, Exprs, NoExpr, factor, add_part, add_factor}
use Rattle.lzk_expr.specs.Meanings.{Half, Reads, Step, Atom, Minus, Times, Open, Close, empty, multiplied, added, with_atom, parts_of_half, next_part, next, ends_of}
use Rattle.lzk_expr.specs.Built.{sum_shape, product_shape, Good, GoodParts, GoodFactors}
use Rattle.lzk_expr.specs.Codes.{steps_read, steps_mean}
use Rattle.lzk_source.specs.TreeSteps.{in_parentheses, sign_step, expr_steps, sum_steps, parts_steps, product_steps, factors_steps}
use Rattle.lzk_expr.proofs.CodeLaws.{steps_none, steps_first, steps_behind}

-- ---- single steps

-- an atom is to come
abbrev waits : List Half → Half → Reads
waits outer h = record { outer = outer; now = h; ready = false }

-- a product is there
abbrev has : List Half → Half → Reads
has outer h = record { outer = outer; now = h; ready = true }

abbrev half : Parts → Bool → Exprs → Half
half parts minus factors = record { parts = parts; minus = minus; factors = factors; negated = false }

abbrev behind_minus : Parts → Bool → Exprs → Half
behind_minus parts minus factors = record { parts = parts; minus = minus; factors = factors; negated = true }

next_atom : (outer : List Half) (h : Half) (e : Expr) → next (waits outer h) (Atom e) ≡ Some (has outer (with_atom h e))
unfolding next
next_atom outer h e = refl

next_open : (outer : List Half) (h : Half) → next (waits outer h) Open ≡ Some (waits (h ∷ outer) empty)
unfolding next
next_open outer h = refl

next_minus : (outer : List Half) (ps : Parts) (m : Bool) (fs : Exprs) → next (waits outer (half ps m fs)) Minus ≡ Some (waits outer (behind_minus ps m fs))
unfolding next
next_minus outer ps m fs = refl

next_times : (outer : List Half) (h : Half) → next (has outer h) Times ≡ Some (waits outer h)
unfolding next
next_times outer h = refl

next_sign : (outer : List Half) (h : Half) (m : Bool) → next (has outer h) (sign_step m) ≡ Some (waits outer (next_part h m))
unfolding next
next_sign outer h true = refl
next_sign outer h false = refl

next_close : (outer : List Half) (h now : Half) → next (has (h ∷ outer) now) Close ≡ Some (has outer (with_atom h (added (parts_of_half now))))
unfolding next
next_close outer h now = refl

one_atom : (outer : List Half) (h : Half) (e : Expr) → steps_read (waits outer h) (Atom e ∷ []) ≡ Some (has outer (with_atom h e))
one_atom outer h e = steps_first (waits outer h) (has outer (with_atom h e)) (Atom e) [] (next_atom outer h e) ∙ steps_none (has outer (with_atom h e))

-- ---- parentheses

-- steps that are an expression behind nothing
record Inside (outer : List Half) (steps : List Step) (e : Expr) : Type 0 where
  pub now : Half
  pub read : steps_read (waits outer empty) steps ≡ Some (has outer now)
  pub is : added (parts_of_half now) ≡ e

closed : (steps : List Step) (e : Expr) → ((outer : List Half) → Inside outer steps e) → (outer : List Half) (h : Half) → steps_read (waits outer h) (in_parentheses true steps) ≡ Some (has outer (with_atom h e))
closed steps e inside outer h =
    let i = inside (h ∷ outer) in
    let after = has outer (with_atom h (added (parts_of_half i.now))) in
    steps_first (waits outer h) (waits (h ∷ outer) empty) Open (steps ++ Close ∷ []) (next_open outer h)
    ∙ steps_behind (waits (h ∷ outer) empty) (has (h ∷ outer) i.now) steps (Close ∷ []) i.read
    ∙ steps_first (has (h ∷ outer) i.now) after Close [] (next_close outer h i.now)
    ∙ steps_none after ∙ ap (λ x. Some (has outer (with_atom h x))) i.is

plain : (steps : List Step) (r : Reads) → steps_read r (in_parentheses false steps) ≡ steps_read r steps
plain steps r = ap (steps_read r) (append-nil steps)

-- ---- lists of parts and of factors

abbrev joined : Parts → Parts → Parts
joined NoPart qs = qs
joined (part m e ps) qs = part m e (joined ps qs)

joined_none : (ps : Parts) → joined ps NoPart ≡ ps
joined_none NoPart = refl
joined_none (part m e ps) = ap (part m e) (joined_none ps)

joined_part : (ps : Parts) (m : Bool) (e : Expr) (qs : Parts) → joined (add_part ps m e) qs ≡ joined ps (part m e qs)
joined_part NoPart m e qs = refl
joined_part (part n f ps) m e qs = ap (part n f) (joined_part ps m e qs)

abbrev joined_factors : Exprs → Exprs → Exprs
joined_factors NoExpr fs = fs
joined_factors (factor e es) fs = factor e (joined_factors es fs)

joined_no_factor : (es : Exprs) → joined_factors es NoExpr ≡ es
joined_no_factor NoExpr = refl
joined_no_factor (factor e es) = ap (factor e) (joined_no_factor es)

joined_factor : (es : Exprs) (e : Expr) (fs : Exprs) → joined_factors (add_factor es e) fs ≡ joined_factors es (factor e fs)
joined_factor NoExpr e fs = refl
joined_factor (factor f es) e fs = ap (factor f) (joined_factor es e fs)

-- the factors that an expression has as a part of a sum
abbrev factors_in : Expr → Exprs
factors_in (Number n) = factor (Number n) NoExpr
factors_in (PublicInput i) = factor (PublicInput i) NoExpr
factors_in (PrivateInput i) = factor (PrivateInput i) NoExpr
factors_in (Named i) = factor (Named i) NoExpr
factors_in (Neg e) = factor (Neg e) NoExpr
factors_in (Added ps) = factor (Added ps) NoExpr
factors_in (Multiplied es) = es

many_factors : (es : Exprs) → product_shape es ≡ true → multiplied es ≡ Multiplied es
many_factors NoExpr h = absurd cc
many_factors (factor e NoExpr) h = absurd cc
many_factors (factor e (factor f es)) h = refl

-- a negative, where its expression is read as an atom
negative : (e : Expr) (outer : List Half) (ps : Parts) (m : Bool) (fs : Exprs)
    → steps_read (waits outer (behind_minus ps m fs)) (expr_steps place.UnderMinus e) ≡ Some (has outer (half ps m (add_factor fs (Neg e))))
    → steps_read (waits outer (half ps m fs)) (Minus ∷ expr_steps place.UnderMinus e) ≡ Some (has outer (half ps m (add_factor fs (Neg e))))
negative e outer ps m fs h = steps_first (waits outer (half ps m fs)) (waits outer (behind_minus ps m fs)) Minus (expr_steps place.UnderMinus e) (next_minus outer ps m fs) ∙ h

inside_negative : (e : Expr) (outer : List Half)
    → steps_read (waits outer (behind_minus NoPart false NoExpr)) (expr_steps place.UnderMinus e) ≡ Some (has outer (half NoPart false (factor (Neg e) NoExpr)))
    → Inside outer (Minus ∷ expr_steps place.UnderMinus e) (Neg e)
inside_negative e outer h = record { now = half NoPart false (factor (Neg e) NoExpr); read = negative e outer NoPart false NoExpr h; is = refl }

inside_product : (es : Exprs) → product_shape es ≡ true → (outer : List Half) → steps_read (waits outer empty) (product_steps es) ≡ Some (has outer (half NoPart false es)) → Inside outer (product_steps es) (Multiplied es)
inside_product es s outer h = record { now = half NoPart false es; read = h; is = many_factors es s }

module _ (R : Expr → Type 0) where
  multiplied_in : (e : Expr) → Good R e → multiplied (factors_in e) ≡ e
  multiplied_in (Number n) g = refl
  multiplied_in (PublicInput i) g = refl
  multiplied_in (PrivateInput i) g = refl
  multiplied_in (Named i) g = refl
  multiplied_in (Neg e) g = refl
  multiplied_in (Added ps) g = refl
  multiplied_in (Multiplied es) g = many_factors es g.0

  -- the parts behind one that is read
  record Behind (outer : List Half) (done : Parts) (m : Bool) (fs : Exprs) (ps : Parts) : Type 0 where
    pub now : Half
    pub read : steps_read (has outer (half done m fs)) (parts_steps ps) ≡ Some (has outer now)
    pub is : parts_of_half now ≡ joined (add_part done m (multiplied fs)) ps

  mutual
    -- under a minus
    as_atom : (e : Expr) → Good R e → (outer : List Half) (h : Half) → steps_read (waits outer h) (expr_steps place.UnderMinus e) ≡ Some (has outer (with_atom h e))
    as_atom (Number n) g outer h = one_atom outer h (Number n)
    as_atom (PublicInput i) g outer h = one_atom outer h (PublicInput i)
    as_atom (PrivateInput i) g outer h = one_atom outer h (PrivateInput i)
    as_atom (Named i) g outer h = one_atom outer h (Named i)
    as_atom (Neg e) g outer h = closed (Minus ∷ expr_steps place.UnderMinus e) (Neg e) (λ o. inside_negative e o (as_atom e g o (behind_minus NoPart false NoExpr))) outer h
    as_atom (Added ps) g outer h = closed (sum_steps ps) (Added ps) (λ o. inside_sum ps g.0 g.1 o) outer h
    as_atom (Multiplied es) g outer h = closed (product_steps es) (Multiplied es) (λ o. inside_product es g.0 o (product es g.0 g.1 o NoPart false)) outer h

    as_factor : (e : Expr) → Good R e → (outer : List Half) (ps : Parts) (m : Bool) (fs : Exprs) → steps_read (waits outer (half ps m fs)) (expr_steps place.Factor e) ≡ Some (has outer (half ps m (add_factor fs e)))
    as_factor (Number n) g outer ps m fs = one_atom outer (half ps m fs) (Number n)
    as_factor (PublicInput i) g outer ps m fs = one_atom outer (half ps m fs) (PublicInput i)
    as_factor (PrivateInput i) g outer ps m fs = one_atom outer (half ps m fs) (PrivateInput i)
    as_factor (Named i) g outer ps m fs = one_atom outer (half ps m fs) (Named i)
    as_factor (Neg e) g outer ps m fs = plain (Minus ∷ expr_steps place.UnderMinus e) (waits outer (half ps m fs)) ∙ negative e outer ps m fs (as_atom e g outer (behind_minus ps m fs))
    as_factor (Added qs) g outer ps m fs = closed (sum_steps qs) (Added qs) (λ o. inside_sum qs g.0 g.1 o) outer (half ps m fs)
    as_factor (Multiplied es) g outer ps m fs = closed (product_steps es) (Multiplied es) (λ o. inside_product es g.0 o (product es g.0 g.1 o NoPart false)) outer (half ps m fs)

    as_part : (e : Expr) → Good R e → (outer : List Half) (ps : Parts) (m : Bool) → steps_read (waits outer (half ps m NoExpr)) (expr_steps place.Part e) ≡ Some (has outer (half ps m (factors_in e)))
    as_part (Number n) g outer ps m = one_atom outer (half ps m NoExpr) (Number n)
    as_part (PublicInput i) g outer ps m = one_atom outer (half ps m NoExpr) (PublicInput i)
    as_part (PrivateInput i) g outer ps m = one_atom outer (half ps m NoExpr) (PrivateInput i)
    as_part (Named i) g outer ps m = one_atom outer (half ps m NoExpr) (Named i)
    as_part (Neg e) g outer ps m = plain (Minus ∷ expr_steps place.UnderMinus e) (waits outer (half ps m NoExpr)) ∙ negative e outer ps m NoExpr (as_atom e g outer (behind_minus ps m NoExpr))
    as_part (Added qs) g outer ps m = closed (sum_steps qs) (Added qs) (λ o. inside_sum qs g.0 g.1 o) outer (half ps m NoExpr)
    as_part (Multiplied es) g outer ps m = plain (product_steps es) (waits outer (half ps m NoExpr)) ∙ product es g.0 g.1 outer ps m

    product : (es : Exprs) → product_shape es ≡ true → GoodFactors R es → (outer : List Half) (ps : Parts) (m : Bool) → steps_read (waits outer (half ps m NoExpr)) (product_steps es) ≡ Some (has outer (half ps m es))
    product NoExpr s g outer ps m = absurd cc
    product (factor e es) s g outer ps m =
        steps_behind (waits outer (half ps m NoExpr)) (has outer (half ps m (factor e NoExpr))) (expr_steps place.Factor e) (factors_steps es) (as_factor e g.0 outer ps m NoExpr)
        ∙ factors es g.1 outer ps m (factor e NoExpr)

    factors : (es : Exprs) → GoodFactors R es → (outer : List Half) (ps : Parts) (m : Bool) (fs : Exprs) → steps_read (has outer (half ps m fs)) (factors_steps es) ≡ Some (has outer (half ps m (joined_factors fs es)))
    factors NoExpr g outer ps m fs = steps_none (has outer (half ps m fs)) ∙ ap (λ x. Some (has outer (half ps m x))) (sym (joined_no_factor fs))
    factors (factor e es) g outer ps m fs =
        steps_first (has outer (half ps m fs)) (waits outer (half ps m fs)) Times (expr_steps place.Factor e ++ factors_steps es) (next_times outer (half ps m fs))
        ∙ steps_behind (waits outer (half ps m fs)) (has outer (half ps m (add_factor fs e))) (expr_steps place.Factor e) (factors_steps es) (as_factor e g.0 outer ps m fs)
        ∙ factors es g.1 outer ps m (add_factor fs e)
        ∙ ap (λ x. Some (has outer (half ps m x))) (joined_factor fs e es)

    parts : (ps : Parts) → GoodParts R ps → (outer : List Half) (done : Parts) (m : Bool) (fs : Exprs) → Behind outer done m fs ps
    parts NoPart g outer done m fs = record {
      now = half done m fs;
      read = steps_none (has outer (half done m fs));
      is = sym (joined_none (add_part done m (multiplied fs)));
    }
    parts (part n e ps) g outer done m fs =
        let more = add_part done m (multiplied fs) in
        let rest = parts ps g.1 outer more n (factors_in e) in
        record {
          now = rest.now;
          read =
              steps_first (has outer (half done m fs)) (waits outer (half more n NoExpr)) (sign_step n) (expr_steps place.Part e ++ parts_steps ps) (next_sign outer (half done m fs) n)
              ∙ steps_behind (waits outer (half more n NoExpr)) (has outer (half more n (factors_in e))) (expr_steps place.Part e) (parts_steps ps) (as_part e g.0 outer more n)
              ∙ rest.read;
          is = rest.is ∙ ap (λ x. joined (add_part more n x) ps) (multiplied_in e g.0) ∙ joined_part more n e ps;
        }

    inside_sum : (ps : Parts) → sum_shape ps ≡ true → GoodParts R ps → (outer : List Half) → Inside outer (sum_steps ps) (Added ps)
    inside_sum NoPart s g outer = absurd cc
    inside_sum (part true e ps) s g outer = absurd cc
    inside_sum (part false e NoPart) s g outer = absurd cc
    inside_sum (part false e (part n f ps)) s g outer =
        let rest = parts (part n f ps) g.1 outer NoPart false (factors_in e) in
        record {
          now = rest.now;
          read =
              steps_behind (waits outer empty) (has outer (half NoPart false (factors_in e))) (expr_steps place.Part e) (parts_steps (part n f ps)) (as_part e g.0 outer NoPart false)
              ∙ rest.read;
          is = ap added (rest.is ∙ ap (λ x. part false x (part n f ps)) (multiplied_in e g.0));
        }

  inside_plain : (outer : List Half) (steps : List Step) (e : Expr) → Inside outer steps e → Inside outer (in_parentheses false steps) e
  inside_plain outer steps e i = record { now = i.now; read = plain steps (waits outer empty) ∙ i.read; is = i.is }

  inside_atom : (outer : List Half) (e : Expr) → Inside outer (Atom e ∷ []) e
  inside_atom outer e = record { now = with_atom empty e; read = one_atom outer empty e; is = refl }

  inside : (e : Expr) → Good R e → (outer : List Half) → Inside outer (expr_steps place.Alone e) e
  inside (Number n) g outer = inside_atom outer (Number n)
  inside (PublicInput i) g outer = inside_atom outer (PublicInput i)
  inside (PrivateInput i) g outer = inside_atom outer (PrivateInput i)
  inside (Named i) g outer = inside_atom outer (Named i)
  inside (Neg e) g outer = inside_plain outer (Minus ∷ expr_steps place.UnderMinus e) (Neg e) (inside_negative e outer (as_atom e g outer (behind_minus NoPart false NoExpr)))
  inside (Added ps) g outer = inside_plain outer (sum_steps ps) (Added ps) (inside_sum ps g.0 g.1 outer)
  inside (Multiplied es) g outer = inside_plain outer (product_steps es) (Multiplied es) (inside_product es g.0 outer (product es g.0 g.1 outer NoPart false))

  pub tree_read : (e : Expr) → Good R e → steps_mean (expr_steps place.Alone e) ≡ Some e
  tree_read e g = let i = inside e g [] in ap ends_of i.read ∙ ap (λ (x : Expr). Some x) i.is
