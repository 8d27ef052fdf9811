-- Statements from the last one on, by their heads and by the expressions that ended.
use Rattle.std.proofs.Common.{◌≡◌, ℕ, List, [], ◌∷◌, ◌++◌, reverse, refl, sym, ◌∙◌, ap, ap₂, append_assoc}
use Rattle.std.proofs.lemmas.List.{append-nil, map_push, reverse-append}
use Rattle.lzk_source.specs.declared.heads.Head.{Head}
use Rattle.lzk_expr.specs.declared.ast.Expr.{Expr}
use Rattle.lzk_expr.specs.declared.ast.Statement as memory
use Rattle.lzk_expr.specs.Trees.{Statement, DeclarePublic, DeclarePrivate, Define, Assertion}
use Rattle.lzk_expr.specs.Trees as tree
use Rattle.lzk_expr.specs.View.{expr_of, statement_of, statements_of}
use Rattle.lzk_expr.specs.Codes.{nameless}
use Rattle.lzk_source.specs.Heads.{Heading, OfPublic, OfPrivate, OfLet, OfAssert, head_of, heads_of, heading, headings}
use Rattle.lzk_source.specs.Growing.{all_exprs, exprs_of, exprs_in}
use Rattle.lzk_expr.proofs.CodeLaws.{nameless_append}
use Rattle.lzk_source.proofs.GrowthLaws.{exprs_append}

-- a list with a last statement
pub record HasLast (ss : List Statement) (hs : List Heading) (h : Heading) : Type 0 where
  pub front : List Statement
  pub last : Statement
  pub split : ss ≡ front ++ last ∷ []
  pub front_is : headings front ≡ hs
  pub last_is : heading last ≡ h

no_headings : (ss : List Statement) → headings ss ≡ [] → ss ≡ []
no_headings [] e = refl
no_headings (s ∷ ss) e = absurd cc

pub last_of : (ss : List Statement) (hs : List Heading) (h : Heading) → headings ss ≡ hs ++ h ∷ [] → HasLast ss hs h
last_of [] [] h e = absurd cc
last_of [] (x ∷ hs) h e = absurd cc
last_of (s ∷ ss) [] h e =
    let rest : headings ss ≡ [] = cc in
    let first : heading s ≡ h = cc in
    record { front = []; last = s; split = ap (λ (l : List Statement). s ∷ l) (no_headings ss rest); front_is = refl; last_is = first }
last_of (s ∷ ss) (x ∷ hs) h e =
    let rest : headings ss ≡ hs ++ h ∷ [] = cc in
    let first : heading s ≡ x = cc in
    let l = last_of ss hs h rest in
    record {
      front = s ∷ l.front;
      last = l.last;
      split = ap (λ (xs : List Statement). s ∷ xs) l.split;
      front_is = ap (λ (xs : List Heading). heading s ∷ xs) l.front_is ∙ ap (λ (y : Heading). y ∷ hs) first;
      last_is = l.last_is;
    }

-- what is left to make of the statements, the first ones
pub record StatementsLeft (ss : List Statement) (heads : List Head) (ended : List Expr) (made : List memory.Statement) : Type 0 where
  pub left : List Statement
  pub split : ss ≡ left ++ reverse (statements_of made)
  pub heads_are : heads_of heads ≡ headings left
  pub ended_are : all_exprs ended ≡ exprs_in left

pub all_left : (ss : List Statement) (heads : List Head) (ended : List Expr) (made : List memory.Statement) → made ≡ [] → heads_of heads ≡ headings ss → all_exprs ended ≡ exprs_in ss → StatementsLeft ss heads ended made
all_left ss heads ended made none h e = record {
  left = ss;
  split = sym (ap (λ (l : List memory.Statement). ss ++ reverse (statements_of l)) none ∙ append-nil ss);
  heads_are = h;
  ended_are = e;
}

-- the last one that is left
pub next_last : (ss : List Statement) (heads rest : List Head) (ended : List Expr) (made : List memory.Statement) (head : Head) (l : StatementsLeft ss heads ended made) → heads ≡ rest ++ head ∷ [] → HasLast l.left (heads_of rest) (head_of head)
next_last ss heads rest ended made head l e = last_of l.left (heads_of rest) (head_of head) (sym l.heads_are ∙ ap heads_of e ∙ map_push head_of rest head)

pub last_ended : (ss : List Statement) (heads : List Head) (ended : List Expr) (made : List memory.Statement) (hs : List Heading) (h : Heading) (l : StatementsLeft ss heads ended made) (k : HasLast l.left hs h)
    → all_exprs ended ≡ exprs_in k.front ++ exprs_in (k.last ∷ [])
last_ended ss heads ended made hs h l k =
    l.ended_are ∙ ap exprs_in k.split ∙ ap exprs_of (nameless_append k.front (k.last ∷ [])) ∙ exprs_append (nameless k.front) (nameless (k.last ∷ []))

reversed_more : (made : List memory.Statement) (st : memory.Statement) → reverse (statements_of (made ++ st ∷ [])) ≡ statement_of st ∷ reverse (statements_of made)
reversed_more made st = ap reverse (map_push statement_of made st) ∙ reverse-append (statements_of made) (statement_of st ∷ [])

pub one_made : (ss : List Statement) (heads rest : List Head) (ended left : List Expr) (made new : List memory.Statement) (head : Head) (st : memory.Statement) (l : StatementsLeft ss heads ended made) (k : HasLast l.left (heads_of rest) (head_of head))
    → statement_of st ≡ k.last → all_exprs left ≡ exprs_in k.front → new ≡ made ++ st ∷ [] → StatementsLeft ss rest left new
one_made ss heads rest ended left made new head st l k same before e = record {
  left = k.front;
  split = l.split ∙ ap (λ (x : List Statement). x ++ reverse (statements_of made)) k.split ∙ append_assoc k.front (k.last ∷ []) (reverse (statements_of made))
      ∙ ap (λ (s : Statement). k.front ++ (s ∷ reverse (statements_of made))) (sym same)
      ∙ ap (λ (x : List Statement). k.front ++ x) (sym (reversed_more made st) ∙ ap (λ (x : List memory.Statement). reverse (statements_of x)) (sym e));
  heads_are = sym k.front_is;
  ended_are = before;
}

reversed : (ms : List memory.Statement) → statements_of (reverse ms) ≡ reverse (statements_of ms)
reversed [] = refl
reversed (m ∷ ms) =
    ap statements_of (reverse-append (m ∷ []) ms) ∙ map_push statement_of (reverse ms) m ∙ ap (λ (l : List Statement). l ++ statement_of m ∷ []) (reversed ms)
    ∙ sym (reverse-append (statement_of m ∷ []) (statements_of ms))

pub none_left : (ss : List Statement) (heads : List Head) (ended : List Expr) (made new : List memory.Statement) → StatementsLeft ss heads ended made → heads ≡ [] → new ≡ reverse made → statements_of new ≡ ss
none_left ss heads ended made new l none e =
    let nothing : l.left ≡ [] = no_headings l.left (sym l.heads_are ∙ ap heads_of none) in
    ap statements_of e ∙ reversed made ∙ sym (l.split ∙ ap (λ (x : List Statement). x ++ reverse (statements_of made)) nothing)

-- ---- the last of a list

no_last : {X : Type 0} (xs : List X) (x : X) → [] ≡ xs ++ x ∷ [] → ⊥
no_last [] x e = cc
no_last (y ∷ xs) x e = cc

last_same : {X : Type 0} (xs ys : List X) (x y : X) → xs ++ x ∷ [] ≡ ys ++ y ∷ [] → (x ≡ y) × (xs ≡ ys)
last_same [] [] x y e = (cc, refl)
last_same [] (b ∷ ys) x y e = let rest : [] ≡ ys ++ y ∷ [] = cc in absurd (no_last ys y rest)
last_same (a ∷ xs) [] x y e = let rest : [] ≡ xs ++ x ∷ [] = cc in absurd (no_last xs x rest)
last_same (a ∷ xs) (b ∷ ys) x y e =
    let rest : xs ++ x ∷ [] ≡ ys ++ y ∷ [] = cc in
    let first : a ≡ b = cc in
    let both = last_same xs ys x y rest in
    (both.0, ap₂ (λ c cs. c ∷ cs) first both.1)

-- the last expression that ended
pub popped : (old new : List Expr) (x : Expr) (before : List tree.Expr) (e : tree.Expr) → old ≡ new ++ x ∷ [] → all_exprs old ≡ before ++ e ∷ [] → (expr_of x ≡ e) × (all_exprs new ≡ before)
popped old new x before e pop h = last_same (all_exprs new) before (expr_of x) e (sym (ap all_exprs pop ∙ map_push expr_of new x) ∙ h)

pub none_popped : (old : List Expr) (before : List tree.Expr) (e : tree.Expr) → old ≡ [] → all_exprs old ≡ before ++ e ∷ [] → ⊥
none_popped old before e none h = no_last before e (sym (ap all_exprs none) ∙ h)

-- ---- the statement with a head

pub public_made : (w : List ℕ) (s : Statement) (es before : List tree.Expr) → OfPublic w ≡ heading s → es ≡ before ++ exprs_in (s ∷ []) → (DeclarePublic w ≡ s) × (es ≡ before)
public_made w (DeclarePublic v) es before h e = let same : w ≡ v = cc in (ap DeclarePublic same, e ∙ append-nil before)
public_made w (DeclarePrivate v) es before h e = absurd cc
public_made w (Define v x) es before h e = absurd cc
public_made w (Assertion x y) es before h e = absurd cc

pub private_made : (w : List ℕ) (s : Statement) (es before : List tree.Expr) → OfPrivate w ≡ heading s → es ≡ before ++ exprs_in (s ∷ []) → (DeclarePrivate w ≡ s) × (es ≡ before)
private_made w (DeclarePublic v) es before h e = absurd cc
private_made w (DeclarePrivate v) es before h e = let same : w ≡ v = cc in (ap DeclarePrivate same, e ∙ append-nil before)
private_made w (Define v x) es before h e = absurd cc
private_made w (Assertion x y) es before h e = absurd cc

-- this ended last
abbrev pub IsLast : List tree.Expr → List tree.Expr → tree.Expr → Type 0
IsLast old new x = (before : List tree.Expr) (e : tree.Expr) → old ≡ before ++ e ∷ [] → (x ≡ e) × (new ≡ before)

pub let_made : (w : List ℕ) (s : Statement) (es rest before : List tree.Expr) (x : tree.Expr) → OfLet w ≡ heading s → es ≡ before ++ exprs_in (s ∷ []) → IsLast es rest x → (Define w x ≡ s) × (rest ≡ before)
let_made w (DeclarePublic v) es rest before x h e last = absurd cc
let_made w (DeclarePrivate v) es rest before x h e last = absurd cc
let_made w (Define v y) es rest before x h e last =
    let same : w ≡ v = cc in
    let m = last before y e in
    (ap₂ Define same m.0, m.1)
let_made w (Assertion y z) es rest before x h e last = absurd cc

pub assert_made : (s : Statement) (es mid rest before : List tree.Expr) (x y : tree.Expr) → OfAssert ≡ heading s → es ≡ before ++ exprs_in (s ∷ []) → IsLast es mid y → IsLast mid rest x → (Assertion x y ≡ s) × (rest ≡ before)
assert_made (DeclarePublic v) es mid rest before x y h e right left = absurd cc
assert_made (DeclarePrivate v) es mid rest before x y h e right left = absurd cc
assert_made (Define v z) es mid rest before x y h e right left = absurd cc
assert_made (Assertion l r) es mid rest before x y h e right left =
    let m = right (before ++ l ∷ []) r (e ∙ sym (append_assoc before (l ∷ []) (r ∷ []))) in
    let n = left before l m.1 in
    (ap₂ Assertion n.0 m.0, n.1)
