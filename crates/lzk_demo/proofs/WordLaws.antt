-- The words of the demo's code, statement for statement.
use Rattle.std.proofs.Common.{◌≡◌, ℕ, zero, suc, ◌+◌, ◌-◌, ◌*◌, ◌/◌, ◌≤◌, ◌<◌, List, [], ◌∷◌, ◌++◌, map, length, get_or, drop, Some, Result, Ok, Err, OnOk, is_ok, if◌then◌else◌, refl, sym, subst, ◌∙◌, ap, ap₂, arith}
use Rattle.std.proofs.lemmas.List.{map-append}
use Rattle.std.specs.declared.alloc.AllocError.{AllocError}
use Rattle.lzk_expr.specs.declared.code.Word.{Word}
use Rattle.lzk_expr.specs.declared.code.Word.TheVariants as words
use Rattle.lzk_expr.specs.Trees.{Expr, Number, PublicInput, Statement, DeclarePublic, Define, Assertion}
use Rattle.lzk_expr.specs.Meanings.{Step, Atom, Plus, Minus, Times, next}
use Rattle.lzk_expr.specs.Codes.{CodeWord, Item, nameless, code_done, nothing_coded, code_word, code_words, steps_read, steps_mean, AreCodeOf}
use Rattle.lzk_expr.specs.Codes as code
use Rattle.lzk_expr.proofs.CodeLaws.{words_none, code_let, code_assert}
use Rattle.lzk_demo.specs.declared.entry.Entry.{Entry}
use Rattle.lzk_demo.specs.declared.entry.Entry.TheVariants.{Input, Made}
use Rattle.lzk_demo.specs.Demo.{expr_of, exclusive_or, let_name, round_lets, paired, rounds, privates_from}
use Rattle.lzk_demo.specs.Words.{entry_word, demo_numbers, AreWordsOf}
use Rattle.lzk_demo.proofs.Written.{pair_made, round_made, assert_made}

-- ---- lines

entry_item : (e : Entry) → code_word demo_numbers (entry_word e) ≡ Item (Atom (expr_of e))
entry_item (Input i) = refl
entry_item (Made k) = refl

abbrev or_steps : Expr → Expr → List Step
or_steps a b = Atom a ∷ Plus ∷ Atom b ∷ Minus ∷ Atom (Number 2) ∷ Times ∷ Atom a ∷ Times ∷ Atom b ∷ []

or_means : (a b : Expr) → steps_mean (or_steps a b) ≡ Some (exclusive_or a b)
unfolding steps_read next
or_means a b = refl

one_means : (e : Expr) → steps_mean (Atom e ∷ []) ≡ Some e
unfolding steps_read next
one_means e = refl

abbrev or_words : Word → Word → List Word
or_words x y = x ∷ words.Plus ∷ y ∷ words.Minus ∷ words.Number 0 ∷ words.Times ∷ x ∷ words.Times ∷ y ∷ words.Define ∷ []

or_items : (a b : Entry) → code_words demo_numbers (or_words (entry_word a) (entry_word b)) ≡ map Item (or_steps (expr_of a) (expr_of b)) ++ code.Define ∷ []
or_items a b =
    ap₂ (λ (x y : CodeWord). x ∷ Item Plus ∷ y ∷ Item Minus ∷ Item (Atom (Number 2)) ∷ Item Times ∷ x ∷ Item Times ∷ y ∷ code.Define ∷ []) (entry_item a) (entry_item b)

abbrev with_let : ℕ → Entry → Entry → List Statement → List Statement
with_let k a b ss = ss ++ Define (let_name k) (exclusive_or (expr_of a) (expr_of b)) ∷ []

let_words : (k : ℕ) (a b : Entry) (ss : List Statement) (ws : List Word) → AreWordsOf ss ws → AreWordsOf (with_let k a b ss) (ws ++ or_words (entry_word a) (entry_word b))
let_words k a b ss ws h =
    let same : code_words demo_numbers (ws ++ or_words (entry_word a) (entry_word b)) ≡ code_words demo_numbers ws ++ (map Item (or_steps (expr_of a) (expr_of b)) ++ code.Define ∷ [])
    = map-append (code_word demo_numbers) ws (or_words (entry_word a) (entry_word b)) ∙ ap (λ (l : List CodeWord). code_words demo_numbers ws ++ l) (or_items a b) in
    subst (AreCodeOf (with_let k a b ss)) (sym same) (code_let ss (let_name k) (exclusive_or (expr_of a) (expr_of b)) (code_words demo_numbers ws) (or_steps (expr_of a) (expr_of b)) h (or_means (expr_of a) (expr_of b)))

abbrev assert_words_of : Word → List Word
assert_words_of x = x ∷ words.Left ∷ words.Public 0 ∷ words.Right ∷ []

abbrev with_assert : Entry → List Statement → List Statement
with_assert e ss = ss ++ Assertion (expr_of e) (PublicInput 0) ∷ []

assert_words : (e : Entry) (ss : List Statement) (ws : List Word) → AreWordsOf ss ws → AreWordsOf (with_assert e ss) (ws ++ assert_words_of (entry_word e))
assert_words e ss ws h =
    let same : code_words demo_numbers (ws ++ assert_words_of (entry_word e)) ≡ code_words demo_numbers ws ++ ((map Item (Atom (expr_of e) ∷ []) ++ code.Left ∷ []) ++ (map Item (Atom (PublicInput 0) ∷ []) ++ code.Right ∷ []))
    = map-append (code_word demo_numbers) ws (assert_words_of (entry_word e)) ∙ ap (λ (x : CodeWord). code_words demo_numbers ws ++ x ∷ code.Left ∷ Item (Atom (PublicInput 0)) ∷ code.Right ∷ []) (entry_item e) in
    subst (AreCodeOf (with_assert e ss)) (sym same) (code_assert ss (expr_of e) (PublicInput 0) (code_words demo_numbers ws) (Atom (expr_of e) ∷ []) (Atom (PublicInput 0) ∷ []) h (one_means (expr_of e)) (one_means (PublicInput 0)))

-- the same of words that are added, if there is memory for them
pub let_added : (k : ℕ) (a b : Entry) (x y : Word) (ss : List Statement) (old new : List Word) (r : Result (Unit {0}) AllocError) → x ≡ entry_word a → y ≡ entry_word b
    → new ≡ (if is_ok r then old ++ or_words x y else old) → AreWordsOf ss old → OnOk r (AreWordsOf (with_let k a b ss) new)
let_added k a b x y ss old new (Ok u) e f n h = subst (AreWordsOf (with_let k a b ss)) (sym (n ∙ ap₂ (λ (v w : Word). old ++ or_words v w) e f)) (let_words k a b ss old h)
let_added k a b x y ss old new (Err u) e f n h = tt

pub assert_added : (e : Entry) (x : Word) (ss : List Statement) (old new : List Word) (r : Result (Unit {0}) AllocError) → x ≡ entry_word e
    → new ≡ (if is_ok r then old ++ assert_words_of x else old) → AreWordsOf ss old → OnOk r (AreWordsOf (with_assert e ss) new)
assert_added e x ss old new (Ok u) f n h = subst (AreWordsOf (with_assert e ss)) (sym (n ∙ ap (λ (w : Word). old ++ assert_words_of w) f)) (assert_words e ss old h)
assert_added e x ss old new (Err u) f n h = tt

-- ---- rounds

-- The words are the code of statements that are the whole with these behind.
pub record AreWordsBefore (ws : List Word) (rest whole : List Statement) : Type 0 where
  pub now : List Statement
  pub words_are : AreWordsOf now ws
  pub whole_is : now ++ rest ≡ whole

-- one more pair of a round
pub pair_words : (es : List Entry) (first i : ℕ) (d : Entry) (whole : List Statement) (old new : List Word) → i < length es / 2
    → ((ss : List Statement) → AreWordsOf ss old → AreWordsOf (with_let (first + i) (get_or es (2 * i) d) (get_or es (2 * i + 1) d) ss) new)
    → AreWordsBefore old (round_lets (first + i) (drop (2 * i) es)) whole → AreWordsBefore new (round_lets (first + (i + 1)) (drop (2 * (i + 1)) es)) whole
pair_words es first i d whole old new lt more h =
    let now = with_let (first + i) (get_or es (2 * i) d) (get_or es (2 * i + 1) d) h.now in
    record { now = now; words_are = more h.now h.words_are; whole_is = pair_made es whole first i d h.now now lt h.whole_is refl }

-- what is left of the rounds, with the words before it
pub record AreRoundsLeft (ws : List Word) (k : ℕ) (es : List Entry) (whole : List Statement) : Type 0 where
  pub left : ℕ
  pub enough : length es ≤ left + 1
  pub before : AreWordsBefore ws (rounds left k es) whole

-- one more round
pub round_words : (k : ℕ) (es ds : List Entry) (whole : List Statement) (old new : List Word) → 1 < length es → ds ≡ paired k es
    → ((ss : List Statement) → AreWordsOf ss old → AreWordsOf (ss ++ round_lets k es) new)
    → AreRoundsLeft old k es whole → AreRoundsLeft new (k + length es / 2) ds whole
round_words k es ds whole old new lt list more h =
    let b = h.before in
    let next = round_made k h.left es ds b.now (b.now ++ round_lets k es) whole lt h.enough list refl b.whole_is in
    record {
      left = next.0;
      enough = next.1;
      before = record { now = b.now ++ round_lets k es; words_are = more b.now b.words_are; whole_is = next.2 };
    }

-- the assert behind the rounds, if there is memory for it
pub last_words : (k : ℕ) (es : List Entry) (e : Entry) (whole : List Statement) (old new : List Word) (r : Result (Unit {0}) AllocError) → 1 ≤ length es → length es ≤ 1 → e ≡ get_or es 0 e
    → ((ss : List Statement) → AreWordsOf ss old → OnOk r (AreWordsOf (with_assert e ss) new))
    → AreRoundsLeft old k es whole → OnOk r (AreWordsOf whole new)
last_words k es e whole old new r some few same more h =
    let b = h.before in
    subst (λ (ss : List Statement). OnOk r (AreWordsOf ss new)) (assert_made h.left k es e b.now (with_assert e b.now) whole some few same b.whole_is refl) (more b.now b.words_are)

-- ---- the whole

privates_nameless : (i n : ℕ) → nameless (privates_from i n) ≡ []
privates_nameless i zero = refl
privates_nameless i (suc n) = privates_nameless (i + 1) n

abbrev pub declared : ℕ → List Statement
declared n = DeclarePublic (121 ∷ []) ∷ privates_from 0 n

-- the declarations have no words
pub no_words : (n : ℕ) → AreWordsOf (declared n) []
no_words n = words_none nothing_coded ∙ ap (λ (ss : List code.Nameless). Some (code_done ss)) (sym (privates_nameless 0 n))
