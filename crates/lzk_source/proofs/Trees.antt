-- A tree, level by level.
use Rattle.std.proofs.Common.{◌≡◌, ℕ, ◌+◌, ◌<◌, Bool, false, List, [], ◌∷◌, ◌++◌, drop, drop-cons, get_or, refl, sym, ap, ap₂, ◌∙◌, rules, Vec, Box, length, length-append, add-one, arith}
use Rattle.std.specs.declared.alloc.Global.{Global}
use Rattle.lzk_expr.specs.Trees.{Added, Multiplied, add_part, add_factor, part, factor, Parts, Exprs}
use Rattle.lzk_expr.specs.Trees as tree
use Rattle.lzk_expr.specs.Meanings.{Half, multiplied, added, negated}
use Rattle.lzk_expr.specs.View.{expr_of, part_of, part_list, expr_list, statement_of, statements_of}
use Rattle.lzk_expr.specs.declared.ast.Part.{Part}
use Rattle.lzk_expr.specs.declared.ast.Expr.{Expr, the_lemmas}
use Rattle.lzk_expr.specs.declared.ast.Statement.{Statement}
use Rattle.lzk_expr.specs.declared.ast.Expr.TheVariants.{Number, Public, Private, Named, Neg, Sum, Product}

pub part_is : (p : Part) → part_of p ≡ (p.minus, expr_of p.expr)
part_is p = search (rules, the_lemmas)

pub number_is : (n : ℕ) → expr_of (Number n) ≡ tree.Number n
number_is n = search (rules, the_lemmas)

pub public_is : (i : ℕ) → expr_of (Public i) ≡ tree.PublicInput i
public_is i = search (rules, the_lemmas)

pub private_is : (i : ℕ) → expr_of (Private i) ≡ tree.PrivateInput i
private_is i = search (rules, the_lemmas)

pub named_is : (i : ℕ) → expr_of (Named i) ≡ tree.Named i
named_is i = search (rules, the_lemmas)

pub neg_is : (b : Box Expr Global) → expr_of (Neg b) ≡ tree.Neg (expr_of b.value)
neg_is b = search (rules, the_lemmas)

pub sum_is : (v : Vec Part Global) → expr_of (Sum v) ≡ Added (part_list v.items)
sum_is v = search (rules, the_lemmas)

pub product_is : (v : Vec Expr Global) → expr_of (Product v) ≡ Multiplied (expr_list v.items)
product_is v = search (rules, the_lemmas)

pub part_pushed : (ps : List Part) (m : Bool) (e : Expr) → part_list (ps ++ record { minus = m; expr = e } ∷ []) ≡ add_part (part_list ps) m (expr_of e)
part_pushed [] m e = search (rules, the_lemmas)
part_pushed (q ∷ ps) m e = ap (part (part_of q).0 (part_of q).1) (part_pushed ps m e)

pub expr_pushed : (es : List Expr) (e : Expr) → expr_list (es ++ e ∷ []) ≡ add_factor (expr_list es) (expr_of e)
expr_pushed [] e = refl
expr_pushed (f ∷ es) e = ap (factor (expr_of f)) (expr_pushed es e)

pub not_alone : (es : List Expr) → (length es ≡ 1 → ⊥) → Multiplied (expr_list es) ≡ multiplied (expr_list es)
not_alone [] h = refl
not_alone (e ∷ []) h = absurd (h refl)
not_alone (e ∷ f ∷ es) h = refl

pub alone : (es front : List Expr) (e : Expr) → length es ≡ 1 → es ≡ front ++ e ∷ [] → expr_of e ≡ multiplied (expr_list es)
alone es [] e one same = sym (ap (λ xs. multiplied (expr_list xs)) same)
alone es (f ∷ front) e one same = absurd (omega (arith, one, ap length same, length-append front (e ∷ [])))

abbrev pub half' : Parts → Bool → Exprs → Half
half' parts minus factors = record { parts = parts; minus = minus; factors = factors; negated = false }

pub atom_taken : (parts : Parts) (minus neg : Bool) (before after : Exprs) (e value : tree.Expr) → e ≡ negated neg value → after ≡ add_factor before e
    → half' parts minus after ≡ half' parts minus (add_factor before (negated neg value))
atom_taken parts minus neg before after e value h k = ap (half' parts minus) (k ∙ ap (add_factor before) h)

pub product_ended : (ps : List Part) (minus next : Bool) (fs rest : Exprs) (e : Expr) → expr_of e ≡ multiplied fs → rest ≡ tree.NoExpr
    → half' (part_list (ps ++ record { minus = minus; expr = e } ∷ [])) next rest ≡ half' (add_part (part_list ps) minus (multiplied fs)) next tree.NoExpr
product_ended ps minus next fs rest e h none = ap (λ x. half' x next rest) (part_pushed ps minus e ∙ ap (add_part (part_list ps) minus) h) ∙ ap (half' (add_part (part_list ps) minus (multiplied fs)) next) none

many_parts : (qs : Parts) (m n : Bool) (e f : tree.Expr) → added (part m e (add_part qs n f)) ≡ Added (part m e (add_part qs n f))
many_parts tree.NoPart m n e f = refl
many_parts (part o h qs) m n e f = refl

more_parts : (ps : List Part) (m : Bool) (f : tree.Expr) → (length ps ≡ 0 → ⊥) → Added (add_part (part_list ps) m f) ≡ added (add_part (part_list ps) m f)
more_parts [] m f some = absurd (some refl)
more_parts (q ∷ ps) m f some = sym (many_parts (part_list ps) (part_of q).0 m (part_of q).1 f)

pub sum_ended : (ps : List Part) (minus : Bool) (fs : Exprs) (e : Expr) (v : Vec Part Global) → (length ps ≡ 0 → ⊥) → expr_of e ≡ multiplied fs → v.items ≡ ps ++ record { minus = minus; expr = e } ∷ []
    → expr_of (Sum v) ≡ added (add_part (part_list ps) minus (multiplied fs))
sum_ended ps minus fs e v some h same =
    sum_is v ∙ ap (λ l. Added (part_list l)) same ∙ ap Added (part_pushed ps minus e) ∙ ap (λ x. Added (add_part (part_list ps) minus x)) h ∙ more_parts ps minus (multiplied fs) some

-- ---- the first of those that are left

pub parts_at : (ps : List Part) (i : ℕ) (p : Part) → i < length ps → p ≡ get_or ps i p → part_list (drop i ps) ≡ part p.minus (expr_of p.expr) (part_list (drop (i + 1) ps))
parts_at ps i p l is =
    ap part_list (drop-cons ps i p l ∙ ap₂ (λ (q : Part) qs. q ∷ qs) (sym is) (ap (λ k. drop k ps) (sym (add-one i))))
    ∙ ap (λ q. part q.0 q.1 (part_list (drop (i + 1) ps))) (part_is p)

pub factors_at : (es : List Expr) (i : ℕ) (e : Expr) → i < length es → e ≡ get_or es i e → expr_list (drop i es) ≡ factor (expr_of e) (expr_list (drop (i + 1) es))
factors_at es i e l is = ap expr_list (drop-cons es i e l ∙ ap₂ (λ (x : Expr) xs. x ∷ xs) (sym is) (ap (λ k. drop k es) (sym (add-one i))))

pub statements_at : (ms : List Statement) (i : ℕ) (m : Statement) → i < length ms → m ≡ get_or ms i m → statements_of (drop i ms) ≡ statement_of m ∷ statements_of (drop (i + 1) ms)
statements_at ms i m l is = ap statements_of (drop-cons ms i m l ∙ ap₂ (λ (x : Statement) xs. x ∷ xs) (sym is) (ap (λ k. drop k ms) (sym (add-one i))))
