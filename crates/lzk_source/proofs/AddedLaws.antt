-- Words that are put down behind others.
use Rattle.std.proofs.Common.{◌≡◌, ℕ, ◌+◌, ◌==◌, ◌<◌, ◌≤◌, Bool, true, false, not, List, [], ◌∷◌, ◌++◌, map, length, drop, get_or, refl, sym, ◌∙◌, ap, ap₂, subst, append_assoc, Vec, Box, arith}
use Rattle.std.proofs.lemmas.List.{map-append, append-nil, drop_all}
use Rattle.std.specs.declared.alloc.Global.{Global}
use Rattle.lzk_expr.specs.declared.ast.Expr.{Expr as Held}
use Rattle.lzk_expr.specs.declared.ast.Expr.TheVariants.{Neg, Sum, Product}
use Rattle.lzk_expr.specs.declared.ast.Part.{Part}
use Rattle.lzk_expr.specs.declared.code.Word.{Word}
use Rattle.lzk_expr.specs.declared.code.Word.TheVariants as words
use Rattle.lzk_expr.specs.declared.place.Place.{Place}
use Rattle.lzk_expr.specs.declared.place.Place.TheVariants as place
use Rattle.lzk_source.specs.declared.tree_code.Written.{Written}
use Rattle.lzk_expr.specs.Trees.{Expr, Statement, Parts, part, Exprs, factor}
use Rattle.lzk_expr.specs.Trees as tree
use Rattle.lzk_expr.specs.Meanings.{Step, Minus, Times, Open, Close}
use Rattle.lzk_expr.specs.Printing.{closed_sum, closed_product, closed_negative}
use Rattle.lzk_expr.specs.View.{expr_of, part_list, expr_list}
use Rattle.lzk_expr.specs.Codes.{CodeWord, Item, Left, Right, code_word, code_words, AddsSteps, AreCodeOf}
use Rattle.lzk_source.specs.TreeSteps.{in_parentheses, expr_steps, sum_steps, parts_steps, product_steps, factors_steps, between_parts, between_factors, sum_rest, product_rest, wanted_word, Puts, Adds, HoldsCode, HasShape}
use Rattle.lzk_expr.proofs.CodeLaws.{code_let, code_assert}
use Rattle.lzk_source.proofs.Trees.{neg_is, sum_is, product_is, parts_at, factors_at}
use Rattle.lzk_source.proofs.TreeStepLaws.{tree_read}

-- ---- one behind the other

adds_none : (w : Written) → Adds [] w w
adds_none w = λ kept. (kept, record { words = []; words_are = sym (append-nil w.words.items); numbers = []; numbers_are = sym (append-nil w.numbers.items); steps_are = λ behind. refl })

nothing_put : (a b : Written) → Puts [] a b → Adds [] a b
nothing_put a b h = λ kept.
    let k = h kept in
    (k.0, record { words = []; words_are = k.1; numbers = []; numbers_are = k.2 ∙ sym (append-nil a.numbers.items); steps_are = λ behind. refl })

pub step_put : (s : Step) (w : Word) (a b : Written) → ((numbers : List ℕ) → code_word numbers w ≡ Item s) → Puts (w ∷ []) a b → Adds (s ∷ []) a b
step_put s w a b is h = λ kept.
    let k = h kept in (
      k.0,
      record {
        words = w ∷ [];
        words_are = k.1;
        numbers = [];
        numbers_are = k.2 ∙ sym (append-nil a.numbers.items);
        steps_are = λ behind. ap (λ x. x ∷ []) (is (b.numbers.items ++ behind));
      },
    )

-- the sign before a factor that is not the first
times_put : (first : Bool) (a b : Written) → Puts (wanted_word (not first) words.Times) a b → Adds (between_factors first) a b
times_put true a b h = nothing_put a b h
times_put false a b h = step_put Times words.Times a b (λ numbers. refl) h

-- the numbers behind the old ones
pub numbers_behind : {steps : List Step} (a b : List Word) (n m : List ℕ) (h : AddsSteps steps a b n m) (behind : List ℕ) → m ++ behind ≡ n ++ (h.numbers ++ behind)
numbers_behind a b n m h behind = ap (λ ns. ns ++ behind) h.numbers_are ∙ append_assoc n h.numbers behind

both_added : (xs ys : List Step) (a b c : List Word) (n m k : List ℕ) → AddsSteps xs a b n m → AddsSteps ys b c m k → AddsSteps (xs ++ ys) a c n k
both_added xs ys a b c n m k h j = record {
  words = h.words ++ j.words;
  words_are = j.words_are ∙ ap (λ ws. ws ++ j.words) h.words_are ∙ append_assoc a h.words j.words;
  numbers = h.numbers ++ j.numbers;
  numbers_are = j.numbers_are ∙ ap (λ ns. ns ++ j.numbers) h.numbers_are ∙ append_assoc n h.numbers j.numbers;
  steps_are = λ behind.
      map-append (code_word (k ++ behind)) h.words j.words
      ∙ ap₂ (λ (x y : List CodeWord). x ++ y) (ap (λ ns. code_words ns h.words) (numbers_behind b c m k j behind) ∙ h.steps_are (j.numbers ++ behind)) (j.steps_are behind)
      ∙ sym (map-append Item xs ys);
}

pub adds_then : (xs ys : List Step) (a b c : Written) → Adds xs a b → Adds ys b c → Adds (xs ++ ys) a c
adds_then xs ys a b c h j = λ kept.
    let k = j kept in
    let m = h k.0 in
    (m.0, both_added xs ys a.words.items b.words.items c.words.items a.numbers.items b.numbers.items c.numbers.items m.1 k.1)

-- ---- one expression

closed_put : (closed : Bool) (steps : List Step) (a b c d : Written) → Puts (wanted_word closed words.Open) a b → Adds steps b c → Puts (wanted_word closed words.Close) c d → Adds (in_parentheses closed steps) a d
closed_put false steps a b c d h j k = adds_then [] (steps ++ []) a b d (nothing_put a b h) (adds_then steps [] b c d j (nothing_put c d k))
closed_put true steps a b c d h j k =
    adds_then (Open ∷ []) (steps ++ (Close ∷ [])) a b d (step_put Open words.Open a b (λ numbers. refl) h)
    (adds_then steps (Close ∷ []) b c d j (step_put Close words.Close c d (λ numbers. refl) k))

pub expr_added : (at : Place) (e f : Held) (x : Expr) (a b : Written) → e ≡ f → expr_of f ≡ x → Adds (expr_steps at x) a b → Adds (expr_steps at (expr_of e)) a b
expr_added at e f x a b same is h = subst (λ (y : Expr). Adds (expr_steps at y) a b) (sym (ap expr_of same ∙ is)) h

pub neg_added : (at : Place) (e inner : Held) (v : Box Held Global) (closed : Bool) (a b m c d : Written) → e ≡ Neg v → inner ≡ v.value → closed ≡ closed_negative at
    → Puts (wanted_word closed words.Open) a b → Puts (words.Minus ∷ []) b m → Adds (expr_steps place.UnderMinus (expr_of inner)) m c → Puts (wanted_word closed words.Close) c d → Adds (expr_steps at (expr_of e)) a d
neg_added at e inner v closed a b m c d same lent is h minus j k =
    let steps : List Step = Minus ∷ expr_steps place.UnderMinus (expr_of inner) in
    expr_added at e (Neg v) _ a d same (neg_is v)
    (subst (λ (ss : List Step). Adds ss a d) (ap₂ (λ b x. in_parentheses b (Minus ∷ expr_steps place.UnderMinus (expr_of x))) is lent)
    (closed_put closed steps a b c d h (adds_then (Minus ∷ []) _ b m c (step_put Minus words.Minus b m (λ numbers. refl) minus) j) k))

pub sum_added : (at : Place) (e : Held) (ps : Vec Part Global) (lent : List Part) (closed : Bool) (a b c d : Written) → e ≡ Sum ps → lent ≡ ps.items → closed ≡ closed_sum at
    → Puts (wanted_word closed words.Open) a b → Adds (sum_steps (part_list lent)) b c → Puts (wanted_word closed words.Close) c d → Adds (expr_steps at (expr_of e)) a d
sum_added at e ps lent closed a b c d same lent_is is h j k =
    expr_added at e (Sum ps) _ a d same (sum_is ps)
    (subst (λ (ss : List Step). Adds ss a d) (ap₂ (λ b l. in_parentheses b (sum_steps (part_list l))) is lent_is)
    (closed_put closed (sum_steps (part_list lent)) a b c d h j k))

pub product_added : (at : Place) (e : Held) (es : Vec Held Global) (lent : List Held) (closed : Bool) (a b c d : Written) → e ≡ Product es → lent ≡ es.items → closed ≡ closed_product at
    → Puts (wanted_word closed words.Open) a b → Adds (product_steps (expr_list lent)) b c → Puts (wanted_word closed words.Close) c d → Adds (expr_steps at (expr_of e)) a d
product_added at e es lent closed a b c d same lent_is is h j k =
    expr_added at e (Product es) _ a d same (product_is es)
    (subst (λ (ss : List Step). Adds ss a d) (ap₂ (λ b l. in_parentheses b (product_steps (expr_list l))) is lent_is)
    (closed_put closed (product_steps (expr_list lent)) a b c d h j k))

-- ---- a list's elements one by one

-- all of these steps, but for those that are left
pub record AddsUpTo (all rest : List Step) (old new : Written) : Type 0 where
  pub done : List Step
  pub parts : done ++ rest ≡ all
  pub added : Adds done old new

pub up_to_none : (all : List Step) (w : Written) → AddsUpTo all all w w
up_to_none all w = record { done = []; parts = refl; added = adds_none w }

up_to_more : (all rest xs more : List Step) (a b c : Written) → rest ≡ xs ++ more → AddsUpTo all rest a b → Adds xs b c → AddsUpTo all more a c
up_to_more all rest xs more a b c e h j = record {
  done = h.done ++ xs;
  parts = append_assoc h.done xs more ∙ ap (λ ss. h.done ++ ss) (sym e) ∙ h.parts;
  added = adds_then h.done xs a b c h.added j;
}

up_to_all : (all rest : List Step) (a b : Written) → rest ≡ [] → AddsUpTo all rest a b → Adds all a b
up_to_all all rest a b e h = subst (λ ss. Adds ss a b) (sym (append-nil h.done) ∙ ap (λ ss. h.done ++ ss) (sym e) ∙ h.parts) h.added

not_first : (i : ℕ) → ((i + 1) == 0) ≡ false
not_first i = grind arith

part_first : (first : Bool) (m : Bool) (e : Expr) (ps : Parts) → sum_rest first (part m e ps) ≡ (between_parts first m ++ expr_steps place.Part e) ++ parts_steps ps
part_first true m e ps = refl
part_first false m e ps = refl

factor_first : (first : Bool) (e : Expr) (es : Exprs) → product_rest first (factor e es) ≡ (between_factors first ++ expr_steps place.Factor e) ++ factors_steps es
factor_first true e es = refl
factor_first false e es = refl

-- one more part
pub more_parts : (ps : List Part) (i : ℕ) (p : Part) (a b c d : Written) → i < length ps → p ≡ get_or ps i p
    → AddsUpTo (sum_steps (part_list ps)) (sum_rest (i == 0) (part_list (drop i ps))) a b → Adds (between_parts (i == 0) p.minus) b c → Adds (expr_steps place.Part (expr_of p.expr)) c d
    → AddsUpTo (sum_steps (part_list ps)) (sum_rest ((i + 1) == 0) (part_list (drop (i + 1) ps))) a d
more_parts ps i p a b c d l is h j k =
    let rest = part_list (drop (i + 1) ps) in
    let e = expr_of p.expr in
    let next : sum_rest (i == 0) (part_list (drop i ps)) ≡ (between_parts (i == 0) p.minus ++ expr_steps place.Part e) ++ sum_rest ((i + 1) == 0) rest =
    ap (sum_rest (i == 0)) (parts_at ps i p l is) ∙ part_first (i == 0) p.minus e rest
    ∙ ap (λ f. (between_parts (i == 0) p.minus ++ expr_steps place.Part e) ++ sum_rest f rest) (sym (not_first i)) in
    up_to_more _ _ (between_parts (i == 0) p.minus ++ expr_steps place.Part e) _ a b d next h
    (adds_then (between_parts (i == 0) p.minus) (expr_steps place.Part e) b c d j k)

pub more_factors : (es : List Held) (i : ℕ) (e : Held) (a b c d : Written) → i < length es → e ≡ get_or es i e
    → AddsUpTo (product_steps (expr_list es)) (product_rest (i == 0) (expr_list (drop i es))) a b → Puts (wanted_word (not (i == 0)) words.Times) b c → Adds (expr_steps place.Factor (expr_of e)) c d
    → AddsUpTo (product_steps (expr_list es)) (product_rest ((i + 1) == 0) (expr_list (drop (i + 1) es))) a d
more_factors es i e a b c d l is h j k =
    let rest = expr_list (drop (i + 1) es) in
    let x = expr_of e in
    let next : product_rest (i == 0) (expr_list (drop i es)) ≡ (between_factors (i == 0) ++ expr_steps place.Factor x) ++ product_rest ((i + 1) == 0) rest =
    ap (product_rest (i == 0)) (factors_at es i e l is) ∙ factor_first (i == 0) x rest
    ∙ ap (λ f. (between_factors (i == 0) ++ expr_steps place.Factor x) ++ product_rest f rest) (sym (not_first i)) in
    up_to_more _ _ (between_factors (i == 0) ++ expr_steps place.Factor x) _ a b d next h
    (adds_then (between_factors (i == 0)) (expr_steps place.Factor x) b c d (times_put (i == 0) b c j) k)

no_parts : (first : Bool) → sum_rest first tree.NoPart ≡ []
no_parts true = refl
no_parts false = refl

no_factors : (first : Bool) → product_rest first tree.NoExpr ≡ []
no_factors true = refl
no_factors false = refl

pub all_parts : (ps : List Part) (i : ℕ) (a b : Written) → length ps ≤ i → AddsUpTo (sum_steps (part_list ps)) (sum_rest (i == 0) (part_list (drop i ps))) a b → Adds (sum_steps (part_list ps)) a b
all_parts ps i a b le h = up_to_all _ _ a b (ap (λ qs. sum_rest (i == 0) (part_list qs)) (drop_all i ps le) ∙ no_parts (i == 0)) h

pub all_factors : (es : List Held) (i : ℕ) (a b : Written) → length es ≤ i → AddsUpTo (product_steps (expr_list es)) (product_rest (i == 0) (expr_list (drop i es))) a b → Adds (product_steps (expr_list es)) a b
all_factors es i a b le h = up_to_all _ _ a b (ap (λ fs. product_rest (i == 0) (expr_list fs)) (drop_all i es le) ∙ no_factors (i == 0)) h

-- ---- statements

-- steps behind others, and a word that ends them
ended_words : (steps : List Step) (w : Word) (a b c : Written) (h : AddsSteps steps a.words.items b.words.items a.numbers.items b.numbers.items) → c.words.items ≡ b.words.items ++ w ∷ [] → c.numbers.items ≡ b.numbers.items → (behind : List ℕ)
    → code_words (c.numbers.items ++ behind) c.words.items
    ≡ code_words (a.numbers.items ++ (h.numbers ++ behind)) a.words.items ++ (map Item steps ++ code_word (b.numbers.items ++ behind) w ∷ [])
ended_words steps w a b c h e same behind =
    let ns = b.numbers.items ++ behind in
    ap₂ (λ (n : List ℕ) (ws : List Word). code_words (n ++ behind) ws) same e
    ∙ map-append (code_word ns) b.words.items (w ∷ [])
    ∙ ap (λ cs. cs ++ code_word ns w ∷ []) (ap (code_words ns) h.words_are ∙ map-append (code_word ns) a.words.items h.words
    ∙ ap₂ (λ (x y : List CodeWord). x ++ y) (ap (λ n. code_words n a.words.items) (numbers_behind a.words.items b.words.items a.numbers.items b.numbers.items h behind)) (h.steps_are behind))
    ∙ append_assoc (code_words (a.numbers.items ++ (h.numbers ++ behind)) a.words.items) (map Item steps) (code_word ns w ∷ [])

pub let_held : (a b c : Written) (ss : List Statement) (name : List ℕ) (e : Expr) → HasShape e → HoldsCode a ss → Adds (expr_steps place.Alone e) a b → Puts (words.Define ∷ []) b c
    → HoldsCode c (ss ++ tree.Define name e ∷ [])
let_held a b c ss name e shape held added put = λ kept behind.
    let steps = expr_steps place.Alone e in
    let p = put kept in
    let h = added p.0 in
    subst (AreCodeOf (ss ++ tree.Define name e ∷ [])) (sym (ended_words steps words.Define a b c h.1 p.1 p.2 behind))
    (code_let ss name e (code_words (a.numbers.items ++ (h.1.numbers ++ behind)) a.words.items) steps (held h.0 (h.1.numbers ++ behind)) (tree_read (λ x. Unit {0}) e shape))

pub assert_held : (a b c d z : Written) (ss : List Statement) (e f : Expr) → HasShape e → HasShape f → HoldsCode a ss → Adds (expr_steps place.Alone e) a b → Puts (words.Left ∷ []) b c
    → Adds (expr_steps place.Alone f) c d → Puts (words.Right ∷ []) d z → HoldsCode z (ss ++ tree.Assertion e f ∷ [])
assert_held a b c d z ss e f shape other held added left then right = λ kept behind.
    let steps = expr_steps place.Alone e in
    let more = expr_steps place.Alone f in
    let r = right kept in
    let j = then r.0 in
    let l = left j.0 in
    let h = added l.0 in
    let behind_left = j.1.numbers ++ behind in
    let old = code_words (a.numbers.items ++ (h.1.numbers ++ behind_left)) a.words.items in
    let is : code_words (z.numbers.items ++ behind) z.words.items ≡ old ++ ((map Item steps ++ Left ∷ []) ++ (map Item more ++ Right ∷ [])) =
    ended_words more words.Right c d z j.1 r.1 r.2 behind
    ∙ ap (λ cs. cs ++ (map Item more ++ Right ∷ [])) (ended_words steps words.Left a b c h.1 l.1 l.2 behind_left)
    ∙ append_assoc old (map Item steps ++ Left ∷ []) (map Item more ++ Right ∷ []) in
    subst (AreCodeOf (ss ++ tree.Assertion e f ∷ [])) (sym is)
    (code_assert ss e f old steps more (held h.0 (h.1.numbers ++ behind_left)) (tree_read (λ x. Unit {0}) e shape) (tree_read (λ x. Unit {0}) f other))
