-- The text that is printed.
use Rattle.std.proofs.Common.{◌≡◌, ℕ, ◌+◌, ◌==◌, ◌<◌, ◌≤◌, Bool, true, false, List, [], ◌∷◌, ◌++◌, refl, sym, ◌∙◌, ap, ap₂, subst, append_assoc, length, drop, get_or, Vec, Box, Bor, arith}
use Rattle.std.proofs.lemmas.List.{append-nil, drop_all}
use Rattle.std.specs.Prelude.{codes}
use Rattle.std.specs.List.{flat_map}
use Rattle.std.specs.declared.alloc.Global.{Global}
use Rattle.lzk_expr.specs.declared.ast.FieldId.{FieldId}
use Rattle.lzk_expr.specs.declared.ast.Expr.{Expr}
use Rattle.lzk_expr.specs.declared.ast.Expr.TheVariants.{Neg, Sum, Product}
use Rattle.lzk_expr.specs.declared.ast.Part.{Part}
use Rattle.lzk_expr.specs.declared.ast.Statement as memory
use Rattle.lzk_expr.specs.declared.place.Place.{Place}
use Rattle.lzk_expr.specs.declared.place.Place.TheVariants as place
use Rattle.lzk_source.specs.declared.printing.Writer.{Writer}
use Rattle.lzk_expr.specs.Grammar.{field_name}
use Rattle.lzk_expr.specs.Trees as tree
use Rattle.lzk_expr.specs.Trees.{Statement, SourceTree}
use Rattle.lzk_source.specs.NameLists.{bytes_of, wanted_byte, between_parts, between_factors, sum_rest, product_rest, Writes, WritesUpTo}
use Rattle.lzk_expr.specs.Printing.{Names, names_of, in_parentheses, closed_sum, closed_product, closed_negative, expr_text, sum_text, parts_text, product_text, factors_text, statement_text, statement_line, source_text}
use Rattle.lzk_expr.specs.View.{expr_of, part_list, expr_list, statement_of, statements_of}
use Rattle.lzk_source.proofs.Trees.{neg_is, sum_is, product_is, parts_at, factors_at, statements_at}

-- ---- one behind the other

pub writes_then : (xs ys : List ℕ) (a b c : Writer) → Writes xs a b → Writes ys b c → Writes (xs ++ ys) a c
writes_then xs ys a b c h j = λ kept.
    let k = j kept in
    let m = h k.0 in
    (m.0, k.1 ∙ ap (λ t. t ++ ys) m.1 ∙ append_assoc a.text.items xs ys)

pub writes_is : (xs ys : List ℕ) (a b : Writer) → xs ≡ ys → Writes xs a b → Writes ys a b
writes_is xs ys a b e h = subst (λ x. Writes x a b) e h

closed_text : (closed : Bool) (xs : List ℕ) (a b c d : Writer) → Writes (wanted_byte closed 40) a b → Writes xs b c → Writes (wanted_byte closed 41) c d → Writes (in_parentheses closed xs) a d
closed_text false xs a b c d h j k = writes_is (xs ++ []) xs a d (append-nil xs) (writes_then [] (xs ++ []) a b d h (writes_then xs [] b c d j k))
closed_text true xs a b c d h j k = writes_then (40 ∷ []) (xs ++ (41 ∷ [])) a b d h (writes_then xs (41 ∷ []) b c d j k)

-- ---- names

pub name_listed : (old new : List (Bor (List ℕ))) (w : List ℕ) (ws : List (List ℕ)) → bytes_of new ≡ bytes_of old ++ w ∷ [] → bytes_of new ++ ws ≡ bytes_of old ++ (w ∷ ws)
name_listed old new w ws e = ap (λ l. l ++ ws) e ∙ append_assoc (bytes_of old) (w ∷ []) ws

-- ---- one expression

pub printed : (names : Names) (at : Place) (e f : Expr) (t : tree.Expr) (a b : Writer) → e ≡ f → expr_of f ≡ t → Writes (expr_text names at t) a b → Writes (expr_text names at (expr_of e)) a b
printed names at e f t a b same is h = writes_is _ _ a b (sym (ap (expr_text names at) (ap expr_of same ∙ is))) h

pub neg_printed : (names : Names) (at : Place) (e inner : Expr) (v : Box Expr Global) (closed : Bool) (a b m c d : Writer) → e ≡ Neg v → inner ≡ v.value → closed ≡ closed_negative at
    → Writes (wanted_byte closed 40) a b → Writes (45 ∷ []) b m → Writes (expr_text names place.UnderMinus (expr_of inner)) m c → Writes (wanted_byte closed 41) c d → Writes (expr_text names at (expr_of e)) a d
neg_printed names at e inner v closed a b m c d same lent is h minus j k =
    let text : List ℕ = 45 ∷ expr_text names place.UnderMinus (expr_of inner) in
    printed names at e (Neg v) _ a d same (neg_is v)
    (writes_is (in_parentheses closed text) _ a d (ap₂ (λ b x. in_parentheses b (45 ∷ expr_text names place.UnderMinus (expr_of x))) is lent)
    (closed_text closed text a b c d h (writes_then (45 ∷ []) _ b m c minus j) k))

pub sum_printed : (names : Names) (at : Place) (e : Expr) (ps : Vec Part Global) (lent : List Part) (closed : Bool) (a b c d : Writer) → e ≡ Sum ps → lent ≡ ps.items → closed ≡ closed_sum at
    → Writes (wanted_byte closed 40) a b → Writes (sum_text names (part_list lent)) b c → Writes (wanted_byte closed 41) c d → Writes (expr_text names at (expr_of e)) a d
sum_printed names at e ps lent closed a b c d same lent_is is h j k =
    printed names at e (Sum ps) _ a d same (sum_is ps)
    (writes_is (in_parentheses closed (sum_text names (part_list lent))) _ a d (ap₂ (λ b l. in_parentheses b (sum_text names (part_list l))) is lent_is)
    (closed_text closed _ a b c d h j k))

pub product_printed : (names : Names) (at : Place) (e : Expr) (es : Vec Expr Global) (lent : List Expr) (closed : Bool) (a b c d : Writer) → e ≡ Product es → lent ≡ es.items → closed ≡ closed_product at
    → Writes (wanted_byte closed 40) a b → Writes (product_text names (expr_list lent)) b c → Writes (wanted_byte closed 41) c d → Writes (expr_text names at (expr_of e)) a d
product_printed names at e es lent closed a b c d same lent_is is h j k =
    printed names at e (Product es) _ a d same (product_is es)
    (writes_is (in_parentheses closed (product_text names (expr_list lent))) _ a d (ap₂ (λ b l. in_parentheses b (product_text names (expr_list l))) is lent_is)
    (closed_text closed _ a b c d h j k))

-- ---- a list's elements one by one

pub up_to_none : (all : List ℕ) (w : Writer) → WritesUpTo all all w w
up_to_none all w = λ kept. (kept, refl)

up_to_more : (all rest xs more : List ℕ) (a b c : Writer) → rest ≡ xs ++ more → WritesUpTo all rest a b → Writes xs b c → WritesUpTo all more a c
up_to_more all rest xs more a b c e h j = λ kept.
    let k = j kept in
    let m = h k.0 in
    (m.0, ap (λ t. t ++ more) k.1 ∙ append_assoc b.text.items xs more ∙ ap (λ t. b.text.items ++ t) (sym e) ∙ m.1)

up_to_all : (all rest : List ℕ) (a b : Writer) → rest ≡ [] → WritesUpTo all rest a b → Writes all a b
up_to_all all rest a b e h = λ kept.
    let m = h kept in
    (m.0, sym (append-nil b.text.items) ∙ ap (λ t. b.text.items ++ t) (sym e) ∙ m.1)

not_first : (i : ℕ) → ((i + 1) == 0) ≡ false
not_first i = grind arith

part_first : (names : Names) (first m : Bool) (e : tree.Expr) (ps : tree.Parts) → sum_rest names first (tree.part m e ps) ≡ (between_parts first m ++ expr_text names place.Part e) ++ parts_text names ps
part_first names true m e ps = refl
part_first names false m e ps = sym (append_assoc (between_parts false m) (expr_text names place.Part e) (parts_text names ps))

factor_first : (names : Names) (first : Bool) (e : tree.Expr) (es : tree.Exprs) → product_rest names first (tree.factor e es) ≡ (between_factors first ++ expr_text names place.Factor e) ++ factors_text names es
factor_first names true e es = refl
factor_first names false e es = refl

pub one_part : (names : Names) (ps : List Part) (i : ℕ) (p : Part) (a b c d : Writer) → i < length ps → p ≡ get_or ps i p
    → WritesUpTo (sum_text names (part_list ps)) (sum_rest names (i == 0) (part_list (drop i ps))) a b → Writes (between_parts (i == 0) p.minus) b c → Writes (expr_text names place.Part (expr_of p.expr)) c d
    → WritesUpTo (sum_text names (part_list ps)) (sum_rest names ((i + 1) == 0) (part_list (drop (i + 1) ps))) a d
one_part names ps i p a b c d l is h j k =
    let rest = part_list (drop (i + 1) ps) in
    let e = expr_of p.expr in
    let xs : List ℕ = between_parts (i == 0) p.minus ++ expr_text names place.Part e in
    let next : sum_rest names (i == 0) (part_list (drop i ps)) ≡ xs ++ sum_rest names ((i + 1) == 0) rest =
    ap (sum_rest names (i == 0)) (parts_at ps i p l is) ∙ part_first names (i == 0) p.minus e rest ∙ ap (λ f. xs ++ sum_rest names f rest) (sym (not_first i)) in
    up_to_more _ _ xs _ a b d next h (writes_then (between_parts (i == 0) p.minus) (expr_text names place.Part e) b c d j k)

pub one_factor : (names : Names) (es : List Expr) (i : ℕ) (e : Expr) (a b c d : Writer) → i < length es → e ≡ get_or es i e
    → WritesUpTo (product_text names (expr_list es)) (product_rest names (i == 0) (expr_list (drop i es))) a b → Writes (between_factors (i == 0)) b c → Writes (expr_text names place.Factor (expr_of e)) c d
    → WritesUpTo (product_text names (expr_list es)) (product_rest names ((i + 1) == 0) (expr_list (drop (i + 1) es))) a d
one_factor names es i e a b c d l is h j k =
    let rest = expr_list (drop (i + 1) es) in
    let xs : List ℕ = between_factors (i == 0) ++ expr_text names place.Factor (expr_of e) in
    let next : product_rest names (i == 0) (expr_list (drop i es)) ≡ xs ++ product_rest names ((i + 1) == 0) rest =
    ap (product_rest names (i == 0)) (factors_at es i e l is) ∙ factor_first names (i == 0) (expr_of e) rest ∙ ap (λ f. xs ++ product_rest names f rest) (sym (not_first i)) in
    up_to_more _ _ xs _ a b d next h (writes_then (between_factors (i == 0)) (expr_text names place.Factor (expr_of e)) b c d j k)

no_parts : (names : Names) (first : Bool) → sum_rest names first tree.NoPart ≡ []
no_parts names true = refl
no_parts names false = refl

no_factors : (names : Names) (first : Bool) → product_rest names first tree.NoExpr ≡ []
no_factors names true = refl
no_factors names false = refl

pub all_parts : (names : Names) (ps : List Part) (i : ℕ) (a b : Writer) → length ps ≤ i → WritesUpTo (sum_text names (part_list ps)) (sum_rest names (i == 0) (part_list (drop i ps))) a b → Writes (sum_text names (part_list ps)) a b
all_parts names ps i a b le h = up_to_all _ _ a b (ap (λ qs. sum_rest names (i == 0) (part_list qs)) (drop_all i ps le) ∙ no_parts names (i == 0)) h

pub all_factors : (names : Names) (es : List Expr) (i : ℕ) (a b : Writer) → length es ≤ i → WritesUpTo (product_text names (expr_list es)) (product_rest names (i == 0) (expr_list (drop i es))) a b → Writes (product_text names (expr_list es)) a b
all_factors names es i a b le h = up_to_all _ _ a b (ap (λ fs. product_rest names (i == 0) (expr_list fs)) (drop_all i es le) ∙ no_factors names (i == 0)) h

-- ---- statements

pub name_printed : (word name shown : List ℕ) (a b c : Writer) → shown ≡ name → Writes word a b → Writes shown b c → Writes (word ++ name) a c
name_printed word name shown a b c e h j = writes_then word name a b c h (writes_is shown name b c e j)

pub let_printed : (names : Names) (name shown : List ℕ) (e : tree.Expr) (a b c d z : Writer) → shown ≡ name → Writes (codes "let ") a b → Writes shown b c → Writes (codes " = ") c d → Writes (expr_text names place.Alone e) d z
    → Writes (statement_text names (tree.Define name e)) a z
let_printed names name shown e a b c d z is h j k l =
    let right : List ℕ = codes " = " ++ expr_text names place.Alone e in
    writes_then (codes "let ") (name ++ right) a b z h
    (writes_then name right b c z (writes_is shown name b c is j) (writes_then (codes " = ") (expr_text names place.Alone e) c d z k l))

pub assert_printed : (names : Names) (e f : tree.Expr) (a b c d z : Writer) → Writes (codes "assert ") a b → Writes (expr_text names place.Alone e) b c → Writes (codes " = ") c d → Writes (expr_text names place.Alone f) d z
    → Writes (statement_text names (tree.Assertion e f)) a z
assert_printed names e f a b c d z h j k l =
    let right : List ℕ = codes " = " ++ expr_text names place.Alone f in
    writes_then (codes "assert ") (expr_text names place.Alone e ++ right) a b z h
    (writes_then (expr_text names place.Alone e) right b c z j (writes_then (codes " = ") (expr_text names place.Alone f) c d z k l))

-- the text so far, with the lines that are left
abbrev pub LinesLeft : SourceTree → Names → List memory.Statement → Writer → Type 0
LinesLeft s names ms w = w.lost ≡ false → w.text.items ++ flat_map (statement_line names) (statements_of ms) ≡ source_text s

-- the text behind the field line, and the statements
pub first_line : (s : SourceTree) (f : FieldId) (names : Names) (ms : List memory.Statement) (a b : Writer) → a.text.items ≡ [] → Writes (codes "field " ++ (field_name f ++ (10 ∷ []))) a b → f ≡ s.field_is → names ≡ names_of (statements_of ms) → statements_of ms ≡ s.statements
    → LinesLeft s names ms b
unfolding source_text
first_line s f names ms a b none h field n all = λ kept.
    let ss = statements_of ms in
    let behind = flat_map (statement_line names) ss in
    let line : List ℕ = codes "field " ++ (field_name f ++ (10 ∷ [])) in
    ap (λ (t : List ℕ). t ++ behind) ((h kept).1 ∙ ap (λ (t : List ℕ). t ++ line) none)
    ∙ append_assoc (codes "field ") (field_name f ++ (10 ∷ [])) behind ∙ ap (λ (t : List ℕ). codes "field " ++ t) (append_assoc (field_name f) (10 ∷ []) behind)
    ∙ ap (λ (m : Names). codes "field " ++ (field_name f ++ (10 ∷ flat_map (statement_line m) ss))) n
    ∙ ap (λ (us : List Statement). codes "field " ++ (field_name f ++ (10 ∷ flat_map (statement_line (names_of us)) us))) all
    ∙ ap (λ (g : FieldId). codes "field " ++ (field_name g ++ (10 ∷ flat_map (statement_line (names_of s.statements)) s.statements))) field

pub next_line : (s : SourceTree) (names : Names) (ms : List memory.Statement) (i : ℕ) (m : memory.Statement) (a b c : Writer) → i < length ms → m ≡ get_or ms i m
    → LinesLeft s names (drop i ms) a → Writes (statement_text names (statement_of m)) a b → Writes (10 ∷ []) b c → LinesLeft s names (drop (i + 1) ms) c
next_line s names ms i m a b c l is h j k = λ kept.
    let w = writes_then (statement_text names (statement_of m)) (10 ∷ []) a b c j k kept in
    let rest = flat_map (statement_line names) (statements_of (drop (i + 1) ms)) in
    let line : List ℕ = statement_line names (statement_of m) in
    ap (λ (t : List ℕ). t ++ rest) w.1 ∙ append_assoc a.text.items line rest
    ∙ ap (λ (ss : List Statement). a.text.items ++ flat_map (statement_line names) ss) (sym (statements_at ms i m l is)) ∙ h w.0

-- the text where all statements are printed
pub all_lines : (s : SourceTree) (names : Names) (ms : List memory.Statement) (i : ℕ) (w : Writer) → length ms ≤ i → LinesLeft s names (drop i ms) w → w.lost ≡ false → w.text.items ≡ source_text s
all_lines s names ms i w le h kept = sym (append-nil w.text.items) ∙ ap (λ (l : List memory.Statement). w.text.items ++ flat_map (statement_line names) (statements_of l)) (sym (drop_all i ms le)) ∙ h kept
