-- Expressions that are made of code, word by word.
use Rattle.std.proofs.Common.{◌≡◌, ℕ, ◌+◌, ◌<◌, ◌≤◌, Bool, true, false, List, [], ◌∷◌, ◌++◌, map, reverse, drop, get_or, length, Option, Some, None, Result, OnOk, refl, sym, ◌∙◌, ap, ap₂, subst, append_assoc}
use Rattle.std.specs.Prelude.{if◌then◌else◌}
use Rattle.std.proofs.lemmas.List.{append-nil, map_push, reverse-append, at_drop_more, at_drop_all}
use Rattle.lzk_expr.specs.declared.ast.Expr as memory
use Rattle.lzk_expr.specs.declared.code.Word.{Word}
use Rattle.lzk_expr.specs.declared.code.Word.TheVariants as words
use Rattle.lzk_source.specs.declared.growing.Grower.{Grower}
use Rattle.lzk_source.specs.declared.half.Half as held
use Rattle.lzk_expr.specs.Trees.{Expr}
use Rattle.lzk_expr.specs.Meanings.{Half, Reads, Step, Atom, Plus, Minus, Times, Open, Close, empty, nothing_read, opened, with_atom_read, with_part, half_closed, minus_next, added, parts_of_half, goes_on, needs, next, whole, ends}
use Rattle.lzk_expr.specs.View.{expr_of}
use Rattle.lzk_source.specs.Halves.{half_of, outer_of, reads_of}
use Rattle.lzk_expr.specs.Codes.{Nameless, Definition, Equation, CodeReads, CodeWord, Item, code_done, Define, Left, Right, expression_goes_on, definition_ends, left_ends, right_ends, next_word, then_words, words_read, code_word, code_words}
use Rattle.lzk_source.specs.Growing.{all_exprs, exprs_of, left_of, IsGrown, Ends}
use Rattle.lzk_expr.proofs.Outcomes.{on_ok}
use Rattle.lzk_expr.proofs.CodeLaws.{words_none, words_more}

-- ---- what a step adds, where there is a reading of it

atom_at : (r a : Reads) (e : Expr) (b : Bool) → (if b then goes_on r (Atom e) else needs r (Atom e)) ≡ Some a → with_atom_read r e ≡ a
atom_at r a e true h = absurd cc
atom_at r a e false h = cc

pub atom_next : (r a : Reads) (e : Expr) → next r (Atom e) ≡ Some a → with_atom_read r e ≡ a
unfolding next
atom_next r a e h = atom_at r a e r.ready h

plus_at : (r a : Reads) (b : Bool) → (if b then goes_on r Plus else needs r Plus) ≡ Some a → with_part r false ≡ a
plus_at r a true h = cc
plus_at r a false h = absurd cc

pub plus_next : (r a : Reads) → next r Plus ≡ Some a → with_part r false ≡ a
unfolding next
plus_next r a h = plus_at r a r.ready h

abbrev times_read : Reads → Reads
times_read r = record { outer = r.outer; now = r.now; ready = false }

times_at : (r a : Reads) (b : Bool) → (if b then goes_on r Times else needs r Times) ≡ Some a → times_read r ≡ a
times_at r a true h = cc
times_at r a false h = absurd cc

pub times_next : (r a : Reads) → next r Times ≡ Some a → times_read r ≡ a
unfolding next
times_next r a h = times_at r a r.ready h

open_at : (r a : Reads) (b : Bool) → (if b then goes_on r Open else needs r Open) ≡ Some a → opened r ≡ a
open_at r a true h = absurd cc
open_at r a false h = cc

pub open_next : (r a : Reads) → next r Open ≡ Some a → opened r ≡ a
unfolding next
open_next r a h = open_at r a r.ready h

close_at : (r a : Reads) (b : Bool) → (if b then goes_on r Close else needs r Close) ≡ Some a → half_closed r.outer (added (parts_of_half r.now)) ≡ Some a
close_at r a true h = h
close_at r a false h = absurd cc

pub close_next : (r a : Reads) → next r Close ≡ Some a → half_closed r.outer (added (parts_of_half r.now)) ≡ Some a
unfolding next
close_next r a h = close_at r a r.ready h

-- a minus as a sign
minus_at : (r a : Reads) (b : Bool) → b ≡ true → (if b then goes_on r Minus else needs r Minus) ≡ Some a → with_part r true ≡ a
minus_at r a true e h = cc
minus_at r a false e h = absurd cc

pub minus_sign : (r a : Reads) → r.ready ≡ true → next r Minus ≡ Some a → with_part r true ≡ a
unfolding next
minus_sign r a e h = minus_at r a r.ready e h

-- a minus before an atom
abbrev behind_minus : Reads → Bool → Reads
behind_minus r b = record { outer = r.outer; now = record { parts = r.now.parts; minus = r.now.minus; factors = r.now.factors; negated = true }; ready = b }

negated_at : (r a : Reads) (b : Bool) → minus_next r b ≡ Some a → behind_minus r false ≡ a
negated_at r a true h = absurd cc
negated_at r a false h = cc

before_at : (r a : Reads) (b : Bool) → b ≡ false → (if b then goes_on r Minus else needs r Minus) ≡ Some a → behind_minus r b ≡ a
before_at r a true e h = absurd cc
before_at r a false e h = negated_at r a r.now.negated h

pub minus_before : (r a : Reads) → r.ready ≡ false → next r Minus ≡ Some a → behind_minus r r.ready ≡ a
unfolding next
minus_before r a e h = before_at r a r.ready e h

-- a parenthesis was closed
half_back : (outer hs : List Half) (h : Half) (e : Expr) (ready : Bool) (a : Reads) → outer ≡ h ∷ hs → half_closed outer e ≡ Some a → with_atom_read (record { outer = hs; now = h; ready = ready }) e ≡ a
half_back [] hs h e ready a same closed = absurd cc
half_back (x ∷ xs) hs h e ready a same closed =
    let first : x ≡ h = cc in
    let others : xs ≡ hs = cc in
    let is : with_atom_read (record { outer = xs; now = x; ready = ready }) e ≡ a = cc in
    ap₂ (λ (ys : List Half) (y : Half). with_atom_read (record { outer = ys; now = y; ready = ready }) e) (sym others) (sym first) ∙ is

outer_back : (old rest : List held.Half) (h : held.Half) → old ≡ rest ++ h ∷ [] → outer_of old ≡ half_of h ∷ outer_of rest
outer_back old rest h e = ap outer_of e ∙ ap reverse (map_push half_of rest h) ∙ reverse-append (map half_of rest) (half_of h ∷ [])

abbrev unready : List Half → Half → Reads
unready outer now = record { outer = outer; now = now; ready = false }

-- a parenthesis was opened
pub opened_now : (old new : List held.Half) (h now dest : held.Half) → new ≡ old ++ h ∷ [] → h ≡ now → half_of dest ≡ empty → unready (outer_of new) (half_of dest) ≡ unready (half_of now ∷ outer_of old) empty
opened_now old new h now dest e same put = ap₂ unready (outer_back new old h e ∙ ap (λ x. half_of x ∷ outer_of old) same) put

pub closed_back : (old rest : List held.Half) (before inner now dest : held.Half) (x : Expr) (ready : Bool) (a new : Reads) → old ≡ rest ++ before ∷ [] → inner ≡ now → dest ≡ before → x ≡ added (parts_of_half (half_of inner))
    → half_closed (outer_of old) (added (parts_of_half (half_of now))) ≡ Some a → new ≡ with_atom_read (record { outer = outer_of rest; now = half_of dest; ready = ready }) x → new ≡ a
closed_back old rest before inner now dest x ready a new pop same put is h made =
    made
    ∙ ap₂ (λ (n : Half) (e : Expr). with_atom_read (record { outer = outer_of rest; now = n; ready = ready }) e) (ap half_of put) (is ∙ ap (λ m. added (parts_of_half (half_of m))) same)
    ∙ half_back (outer_of old) (outer_of rest) (half_of before) (added (parts_of_half (half_of now))) ready a (outer_back old rest before pop) h

pub none_back : (old : List held.Half) (e : Expr) (a : Reads) → old ≡ [] → half_closed (outer_of old) e ≡ Some a → ⊥
none_back [] e a none h = cc
none_back (x ∷ xs) e a none h = cc

-- ---- what a word adds

record Goes (old new : CodeReads) (o : Option Reads) : Type 0 where
  after : Reads
  was : o ≡ Some after
  is : new ≡ record { reads = after; left = old.left; done = old.done }

goes : (old new : CodeReads) (o : Option Reads) → expression_goes_on old o ≡ Some new → Goes old new o
goes old new None h = absurd cc
goes old new (Some r) h = record { after = r; was = refl; is = cc }

pub step_taken : {T E : Type 0} (g h : Grower) (res : Result T E) (old new : CodeReads) (s : Step) → IsGrown g old → next_word old (Item s) ≡ Some new → h.ended ≡ g.ended
    → ((after : Reads) → next (reads_of g.reads) s ≡ Some after → OnOk res (reads_of h.reads ≡ after)) → OnOk res (IsGrown h new)
step_taken g h res old new s grown n same reads =
    let r = goes old new (next old.reads s) n in
    on_ok res (λ e. subst (IsGrown h) (sym r.is) (record { reads_are = e; ended_are = ap (λ v. all_exprs v.items) same ∙ grown.ended_are }))
    (reads r.after (ap (λ q. next q s) grown.reads_are ∙ r.was))

pub step_word : {T E : Type 0} (g h : Grower) (res : Result T E) (numbers : List ℕ) (w v : Word) (s : Step) (old new : CodeReads) → w ≡ v → code_word numbers v ≡ Item s → h.ended ≡ g.ended
    → ((after : Reads) → next (reads_of g.reads) s ≡ Some after → OnOk res (reads_of h.reads ≡ after)) → IsGrown g old → next_word old (code_word numbers w) ≡ Some new → OnOk res (IsGrown h new)
step_word g h res numbers w v s old new is code same reads grown n = step_taken g h res old new s grown (sym (ap (next_word old) (ap (code_word numbers) is ∙ code)) ∙ n) same reads

pub atom_word : {T E : Type 0} (g h : Grower) (res : Result T E) (numbers : List ℕ) (w v : Word) (x : memory.Expr) (e : Expr) (old new : CodeReads) → w ≡ v → code_word numbers v ≡ Item (Atom e) → expr_of x ≡ e → h.ended ≡ g.ended
    → OnOk res (reads_of h.reads ≡ with_atom_read (reads_of g.reads) (expr_of x)) → IsGrown g old → next_word old (code_word numbers w) ≡ Some new → OnOk res (IsGrown h new)
atom_word g h res numbers w v x e old new is code same_expr same made grown n =
    step_word g h res numbers w v (Atom e) old new is code same (λ a k. on_ok res (λ q. q ∙ ap (with_atom_read (reads_of g.reads)) same_expr ∙ atom_next (reads_of g.reads) a e k) made) grown n

-- ---- where an expression ends

record IsWhole (r : Reads) (outer : List Half) (e : Expr) : Type 0 where
  closed : outer ≡ []
  is : added (parts_of_half r.now) ≡ e

is_whole : (r : Reads) (b : Bool) (outer : List Half) (e : Expr) → whole r b outer ≡ Some e → IsWhole r outer e
is_whole r true [] e h = record { closed = refl; is = cc }
is_whole r true (x ∷ xs) e h = absurd cc
is_whole r false outer e h = absurd cc

reads_made : (o : List Half) (n : Half) (b : Bool) → o ≡ [] → n ≡ empty → b ≡ false → record { outer = o; now = n; ready = b } ≡ nothing_read
reads_made o n b e f g =
    ap (λ (x : List Half). record { outer = x; now = n; ready = b }) e ∙ ap (λ (x : Half). record { outer = []; now = x; ready = b }) f
    ∙ ap (λ (x : Bool). record { outer = []; now = empty; ready = x }) g

pub end_taken : (e : Expr) (old new : Grower) (now : held.Half) (x : memory.Expr) → ends (reads_of old.reads) ≡ Some e → new.reads.outer ≡ old.reads.outer → half_of new.reads.now ≡ empty → new.reads.ready ≡ false
    → now ≡ old.reads.now → expr_of x ≡ added (parts_of_half (half_of now)) → new.ended.items ≡ old.ended.items ++ x ∷ [] → Ends e old new
end_taken e old new now x h outer fresh ready same is pushed =
    let w = is_whole (reads_of old.reads) old.reads.ready (outer_of old.reads.outer.items) e h in
    record {
      reads_are = reads_made (outer_of new.reads.outer.items) (half_of new.reads.now) new.reads.ready (ap (λ v. outer_of v.items) outer ∙ w.closed) fresh ready;
      ended_are = ap all_exprs pushed ∙ map_push expr_of old.ended.items x
          ∙ ap (λ y. all_exprs old.ended.items ++ y ∷ []) (is ∙ ap (λ m. added (parts_of_half (half_of m))) same ∙ w.is);
    }

pub exprs_append : (xs ys : List Nameless) → exprs_of (xs ++ ys) ≡ exprs_of xs ++ exprs_of ys
exprs_append [] ys = refl
exprs_append (Definition e ∷ xs) ys = ap (λ l. e ∷ l) (exprs_append xs ys)
exprs_append (Equation e f ∷ xs) ys = ap (λ l. e ∷ f ∷ l) (exprs_append xs ys)

-- the expression that ended, and the statement or side that it ends
record Ended (old new : CodeReads) (o : Option Expr) : Type 0 where
  e : Expr
  was : o ≡ Some e
  begins : new.reads ≡ nothing_read
  exprs : exprs_of new.done ++ left_of new.left ≡ (exprs_of old.done ++ left_of old.left) ++ e ∷ []

definition_ended : (old new : CodeReads) (l o : Option Expr) → old.left ≡ l → definition_ends old l o ≡ Some new → Ended old new o
definition_ended old new None None same h = absurd cc
definition_ended old new (Some x) o same h = absurd cc
definition_ended old new None (Some x) same h =
    let is : code_done (old.done ++ Definition x ∷ []) ≡ new = cc in
    subst (λ n. Ended old n (Some x)) is (record {
      e = x;
      was = refl;
      begins = refl;
      exprs = append-nil (exprs_of (old.done ++ Definition x ∷ [])) ∙ exprs_append old.done (Definition x ∷ [])
          ∙ ap (λ l. l ++ x ∷ []) (sym (append-nil (exprs_of old.done)) ∙ ap (λ l. exprs_of old.done ++ left_of l) (sym same));
    })

left_ended : (old new : CodeReads) (l o : Option Expr) → old.left ≡ l → left_ends old l o ≡ Some new → Ended old new o
left_ended old new None None same h = absurd cc
left_ended old new (Some x) o same h = absurd cc
left_ended old new None (Some x) same h =
    let is : record { reads = nothing_read; left = Some x; done = old.done } ≡ new = cc in
    subst (λ n. Ended old n (Some x)) is (record {
      e = x;
      was = refl;
      begins = refl;
      exprs = ap (λ l. l ++ x ∷ []) (sym (append-nil (exprs_of old.done)) ∙ ap (λ l. exprs_of old.done ++ left_of l) (sym same));
    })

right_ended : (old new : CodeReads) (l o : Option Expr) → old.left ≡ l → right_ends old l o ≡ Some new → Ended old new o
right_ended old new None o same h = absurd cc
right_ended old new (Some y) None same h = absurd cc
right_ended old new (Some y) (Some x) same h =
    let is : code_done (old.done ++ Equation y x ∷ []) ≡ new = cc in
    subst (λ n. Ended old n (Some x)) is (record {
      e = x;
      was = refl;
      begins = refl;
      exprs = append-nil (exprs_of (old.done ++ Equation y x ∷ [])) ∙ exprs_append old.done (Equation y x ∷ [])
          ∙ sym (append_assoc (exprs_of old.done) (y ∷ []) (x ∷ [])) ∙ ap (λ l. (exprs_of old.done ++ left_of l) ++ x ∷ []) (sym same);
    })

one_ended : {T E : Type 0} (g h : Grower) (res : Result T E) (old new : CodeReads) → IsGrown g old → Ended old new (ends old.reads)
    → ((e : Expr) → ends (reads_of g.reads) ≡ Some e → OnOk res (Ends e g h)) → OnOk res (IsGrown h new)
one_ended g h res old new grown x end =
    on_ok res (λ k. record { reads_are = k.reads_are ∙ sym x.begins; ended_are = k.ended_are ∙ ap (λ l. l ++ x.e ∷ []) grown.ended_are ∙ sym x.exprs })
    (end x.e (ap ends grown.reads_are ∙ x.was))

pub define_taken : {T E : Type 0} (g h : Grower) (res : Result T E) (old new : CodeReads) → IsGrown g old → next_word old Define ≡ Some new → ((e : Expr) → ends (reads_of g.reads) ≡ Some e → OnOk res (Ends e g h)) → OnOk res (IsGrown h new)
define_taken g h res old new grown n end = one_ended g h res old new grown (definition_ended old new old.left (ends old.reads) refl n) end

pub left_taken : {T E : Type 0} (g h : Grower) (res : Result T E) (old new : CodeReads) → IsGrown g old → next_word old Left ≡ Some new → ((e : Expr) → ends (reads_of g.reads) ≡ Some e → OnOk res (Ends e g h)) → OnOk res (IsGrown h new)
left_taken g h res old new grown n end = one_ended g h res old new grown (left_ended old new old.left (ends old.reads) refl n) end

pub right_taken : {T E : Type 0} (g h : Grower) (res : Result T E) (old new : CodeReads) → IsGrown g old → next_word old Right ≡ Some new → ((e : Expr) → ends (reads_of g.reads) ≡ Some e → OnOk res (Ends e g h)) → OnOk res (IsGrown h new)
right_taken g h res old new grown n end = one_ended g h res old new grown (right_ended old new old.left (ends old.reads) refl n) end

-- ---- the words one by one

-- what was read so far, from which the words that are left go on
pub record GrownUpTo (numbers : List ℕ) (ws : List Word) (g : Grower) (new : CodeReads) : Type 0 where
  pub so_far : CodeReads
  pub grown : IsGrown g so_far
  pub goes_on : words_read so_far (code_words numbers ws) ≡ Some new

record Then (o : Option CodeReads) (ws : List CodeWord) (new : CodeReads) : Type 0 where
  more : CodeReads
  was : o ≡ Some more
  rest : words_read more ws ≡ Some new

then_some : (o : Option CodeReads) (ws : List CodeWord) (new : CodeReads) → then_words o (λ more. words_read more ws) ≡ Some new → Then o ws new
then_some None ws new h = absurd cc
then_some (Some r) ws new h = record { more = r; was = refl; rest = h }

pub word_taken : (numbers : List ℕ) (ws : List Word) (i : ℕ) (g h : Grower) (new : CodeReads) → i < length ws → GrownUpTo numbers (drop i ws) g new
    → ((a b : CodeReads) → IsGrown g a → next_word a (code_word numbers (get_or ws i (words.Number 0))) ≡ Some b → IsGrown h b) → GrownUpTo numbers (drop (i + 1) ws) h new
word_taken numbers ws i g h new lt k taken =
    let t = then_some (next_word k.so_far (code_word numbers (get_or ws i (words.Number 0)))) (code_words numbers (drop (i + 1) ws)) new
    (sym (at_drop_more (λ (l : List Word). words_read k.so_far (code_words numbers l)) ws i (words.Number 0) lt
    ∙ words_more k.so_far (code_word numbers (get_or ws i (words.Number 0))) (code_words numbers (drop (i + 1) ws))) ∙ k.goes_on) in
    record { so_far = t.more; grown = taken k.so_far t.more k.grown t.was; goes_on = t.rest }

pub words_taken : (numbers : List ℕ) (ws : List Word) (i : ℕ) (g : Grower) (new : CodeReads) → length ws ≤ i → GrownUpTo numbers (drop i ws) g new → IsGrown g new
words_taken numbers ws i g new le k =
    let last : Some k.so_far ≡ Some new = sym (at_drop_all (λ (l : List Word). words_read k.so_far (code_words numbers l)) ws i le ∙ words_none k.so_far) ∙ k.goes_on in
    let same : k.so_far ≡ new = cc in
    subst (IsGrown g) same k.grown
