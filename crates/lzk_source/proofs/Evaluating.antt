-- The values of expressions, part by part and factor by factor from the last one on.
use Rattle.std.proofs.Common.{◌≡◌, ℕ, ◌+◌, ◌-◌, ◌<◌, ◌≤◌, List, [], ◌++◌, drop, get_or, ◌∷◌, append_assoc, sym, ap, ap₂, ◌∙◌, length, arith, Vec, Box}
use Rattle.std.proofs.lemmas.List.{drop_all, append-nil}
use Rattle.std.specs.declared.alloc.Global.{Global}
use Rattle.lzk_expr.specs.declared.ast.Expr.{Expr}
use Rattle.lzk_expr.specs.declared.ast.Expr.TheVariants.{Neg, Sum, Product}
use Rattle.lzk_expr.specs.declared.ast.Part.{Part}
use Rattle.lzk_expr.specs.declared.ast.Statement.{Statement}
use Rattle.lzk_field.specs.Ring.{Ops}
use Rattle.lzk_field.specs.Sums.{minus}
use Rattle.lzk_expr.specs.Trees as tree
use Rattle.lzk_expr.specs.SourceValues.{Given, given, signed, value_of, parts_value, factors_value, assert_values}
use Rattle.lzk_expr.specs.View.{expr_of, part_list, expr_list, statement_of, statements_of}
use Rattle.lzk_source.proofs.Trees.{neg_is, sum_is, product_is, parts_at, factors_at, statements_at}

-- ---- one expression

pub valued : {A : Type 0} (g : Given A) (e f : Expr) (t : tree.Expr) (v : A) → e ≡ f → expr_of f ≡ t → v ≡ value_of g t → v ≡ value_of g (expr_of e)
valued g e f t v same is h = h ∙ sym (ap (value_of g) (ap expr_of same ∙ is))

pub neg_valued : {A : Type 0} (g : Given A) (e inner : Expr) (b : Box Expr Global) (x v : A) → e ≡ Neg b → inner ≡ b.value → x ≡ value_of g (expr_of inner) → v ≡ g.ops.neg x → v ≡ value_of g (expr_of e)
neg_valued g e inner b x v same lent h made = valued g e (Neg b) _ v same (neg_is b) (made ∙ ap g.ops.neg (h ∙ ap (λ y. value_of g (expr_of y)) lent))

pub sum_valued : {A : Type 0} (g : Given A) (e : Expr) (ps : Vec Part Global) (lent : List Part) (v : A) → e ≡ Sum ps → lent ≡ ps.items → v ≡ parts_value g (part_list lent) → v ≡ value_of g (expr_of e)
sum_valued g e ps lent v same is h = valued g e (Sum ps) _ v same (sum_is ps) (h ∙ ap (λ l. parts_value g (part_list l)) is)

pub product_valued : {A : Type 0} (g : Given A) (e : Expr) (es : Vec Expr Global) (lent : List Expr) (v : A) → e ≡ Product es → lent ≡ es.items → v ≡ factors_value g (expr_list lent) → v ≡ value_of g (expr_of e)
product_valued g e es lent v same is h = valued g e (Product es) _ v same (product_is es) (h ∙ ap (λ l. factors_value g (expr_list l)) is)

-- ---- from the last one on

one_back : (i : ℕ) → 0 < i → (i - 1) + 1 ≡ i
one_back i some = omega arith

-- with the factor before
pub factor_before : {A : Type 0} (g : Given A) (es : List Expr) (i : ℕ) (e : Expr) (x total next : A) → 0 < i → i ≤ length es → e ≡ get_or es (i - 1) e
    → x ≡ value_of g (expr_of e) → total ≡ factors_value g (expr_list (drop i es)) → next ≡ g.ops.times x total → next ≡ factors_value g (expr_list (drop (i - 1) es))
factor_before g es i e x total next some within is value before made =
    made ∙ ap₂ g.ops.times value (before ∙ ap (λ k. factors_value g (expr_list (drop k es))) (sym (one_back i some)))
    ∙ sym (ap (factors_value g) (factors_at es (i - 1) e (omega arith) is))

-- with the part before
pub part_before : {A : Type 0} (g : Given A) (ps : List Part) (i : ℕ) (p : Part) (v x total next : A) → 0 < i → i ≤ length ps → p ≡ get_or ps (i - 1) p
    → v ≡ value_of g (expr_of p.expr) → x ≡ signed g.ops p.minus v → total ≡ parts_value g (part_list (drop i ps)) → next ≡ g.ops.plus x total → next ≡ parts_value g (part_list (drop (i - 1) ps))
part_before g ps i p v x total next some within is value with_sign before made =
    made ∙ ap₂ g.ops.plus (with_sign ∙ ap (signed g.ops p.minus) value) (before ∙ ap (λ k. parts_value g (part_list (drop k ps))) (sym (one_back i some)))
    ∙ sym (ap (parts_value g) (parts_at ps (i - 1) p (omega arith) is))

-- one more let name's value
pub let_taken : {A : Type 0} (o : Ops A) (element : ℕ → A) (ps qs found lets seen new : List A) (x : A) (w : List ℕ) (e : tree.Expr) (behind : List tree.Statement)
    → seen ≡ lets → x ≡ value_of (given o element ps qs seen) e → new ≡ lets ++ x ∷ []
    → found ++ assert_values (given o element ps qs new) behind ≡ found ++ assert_values (given o element ps qs lets) (tree.Define w e ∷ behind)
let_taken o element ps qs found lets seen new x w e behind same value pushed =
    ap (λ ls. found ++ assert_values (given o element ps qs ls) behind)
    (pushed ∙ ap (λ v. lets ++ v ∷ []) (value ∙ ap (λ ls. value_of (given o element ps qs ls) e) same))

-- one more assert's
pub assert_taken : {A : Type 0} (o : Ops A) (element : ℕ → A) (ps qs found lets seen also new : List A) (x y d : A) (e f : tree.Expr) (behind : List tree.Statement)
    → seen ≡ lets → also ≡ lets → x ≡ value_of (given o element ps qs seen) e → y ≡ value_of (given o element ps qs also) f → d ≡ minus o x y → new ≡ found ++ d ∷ []
    → new ++ assert_values (given o element ps qs lets) behind ≡ found ++ assert_values (given o element ps qs lets) (tree.Assertion e f ∷ behind)
assert_taken o element ps qs found lets seen also new x y d e f behind same too left right less pushed =
    let rest = assert_values (given o element ps qs lets) behind in
    ap (λ l. l ++ rest) pushed ∙ append_assoc found (d ∷ []) rest
    ∙ ap (λ v. found ++ v ∷ rest) (less ∙ ap₂ (minus o) (left ∙ ap (λ ls. value_of (given o element ps qs ls) e) same) (right ∙ ap (λ ls. value_of (given o element ps qs ls) f) too))

-- what was found behind one more statement
pub one_taken : {A : Type 0} (g h : Given A) (found new whole : List A) (ms : List Statement) (i : ℕ) (m : Statement) → i < length ms → m ≡ get_or ms i m
    → ((behind : List tree.Statement) → new ++ assert_values h behind ≡ found ++ assert_values g (statement_of m ∷ behind))
    → found ++ assert_values g (statements_of (drop i ms)) ≡ whole → new ++ assert_values h (statements_of (drop (i + 1) ms)) ≡ whole
one_taken g h found new whole ms i m lt is taken before =
    taken (statements_of (drop (i + 1) ms)) ∙ ap (λ ss. found ++ assert_values g ss) (sym (statements_at ms i m lt is)) ∙ before

pub all_asserts : {A : Type 0} (g : Given A) (found whole : List A) (ms : List Statement) (i : ℕ) → length ms ≤ i → found ++ assert_values g (statements_of (drop i ms)) ≡ whole → found ≡ whole
all_asserts g found whole ms i le e = sym (append-nil found) ∙ ap (λ (l : List Statement). found ++ assert_values g (statements_of l)) (sym (drop_all i ms le)) ∙ e
