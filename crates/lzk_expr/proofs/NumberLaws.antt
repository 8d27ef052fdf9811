-- What is read is the text's list, and the text's list is read.
use Rattle.std.proofs.Common.{◌≡◌, ℕ, ◌+◌, ◌<◌, ◌≤◌, Bool, true, false, ltb, ltb-true, cond, List, [], ◌∷◌, ◌++◌, length, map, length-append, Option, Some, None, Result, Ok, Err, refl, sym, ◌∙◌, arith, ap, subst, append_assoc}
use Rattle.std.specs.List.{AllByRecursion, flat_map}
use Rattle.std.proofs.lemmas.Bool.{lt-ltb, le-ltb, ltb-false}
use Rattle.std.proofs.lemmas.List.{append-nil}
use Rattle.std.proofs.lemmas.List.Concat.{flat_map-cons}
use Rattle.lzk_expr.specs.Texts.{runs, is_plain, lines, content, number_of}
use Rattle.lzk_expr.specs.Numbers.{word_as, words_to, lines_to, numbers_of, breaks, ◌>>=◌, NumberText, words_of}
use Rattle.lzk_expr.specs.declared.fault.NumberKind.TheVariants.{TooLarge, TooFew, TooMany}
use Rattle.lzk_expr.specs.declared.fault.NumberFault.{NumberFault}

-- the words are these numbers
pub record Are (size : ℕ) (words : List (List ℕ)) (list : List ℕ) : Type 0 where
  pub each : map number_of words ≡ map Some list
  pub below : AllByRecursion (λ n. n < size) list

pub word_again : (size count line n : ℕ) (have : List ℕ) (o : Option ℕ) → o ≡ Some n → n < size → length have < count → word_as size count line have o ≡ Ok (have ++ n ∷ [])
word_again size count line n have o e small room = rw (e, lt-ltb (length have) count room, lt-ltb n size small) refl

pub words_again : (size count line : ℕ) (words : List (List ℕ)) (list have : List ℕ) → Are size words list → length have + length list ≤ count → words_to size count line words have ≡ Ok (have ++ list)
unfolding words_to
words_again size count line [] [] have h room = ap (λ (l : List ℕ). Ok l) (sym (append-nil have))
words_again size count line [] (n ∷ list) have h room = absurd (cc h.each)
words_again size count line (w ∷ words) [] have h room = absurd (cc h.each)
words_again size count line (w ∷ words) (n ∷ list) have h room =
    let one : number_of w ≡ Some n = cc h.each in
    let others : map number_of words ≡ map Some list = cc h.each in
    let few : length (have ++ n ∷ []) + length list ≤ count = omega (arith, length-append have (n ∷ [])) in
    rw (word_again size count line n have (number_of w) one h.below.0 (omega arith))
    (words_again size count line words list (have ++ n ∷ []) (record { each = others; below = h.below.1 }) few ∙ ap (λ (l : List ℕ). Ok l) (append_assoc have (n ∷ []) list))

from : {A B G : Type 0} (r : Result A NumberFault) (f : A → Result B NumberFault) (y : B) → (r >>= f) ≡ Ok y → ((x : A) → r ≡ Ok x → f x ≡ Ok y → G) → G
from (Ok x) f y e k = k x refl e
from (Err d) f y e k = absurd cc

-- a word that was taken
record Taken (size count : ℕ) (have more : List ℕ) (o : Option ℕ) : Type 0 where
  n : ℕ
  word : o ≡ Some n
  added : more ≡ have ++ n ∷ []
  small : n < size
  room : length have < count

taken_at : (size count line n : ℕ) (have more : List ℕ) (a b : Bool) → ltb (length have) count ≡ a → ltb n size ≡ b → cond a (cond b (Ok (have ++ n ∷ [])) (breaks line TooLarge)) (breaks line TooMany) ≡ Ok more → Taken size count have more (Some n)
taken_at size count line n have more true true e f h = record { n = n; word = refl; added = cc; small = ltb-true n size f; room = ltb-true (length have) count e }
taken_at size count line n have more true false e f h = absurd cc
taken_at size count line n have more false b e f h = absurd cc

word_take : (size count line : ℕ) (have more : List ℕ) (o : Option ℕ) → word_as size count line have o ≡ Ok more → Taken size count have more o
word_take size count line have more None h = absurd cc
word_take size count line have more (Some n) h = taken_at size count line n have more (ltb (length have) count) (ltb n size) refl refl h

-- words that were taken
record AllTaken (size count : ℕ) (have more : List ℕ) (words : List (List ℕ)) : Type 0 where
  list : List ℕ
  are : Are size words list
  added : more ≡ have ++ list
  room : length have ≤ count → length more ≤ count

words_take : (size count line : ℕ) (words : List (List ℕ)) (have more : List ℕ) → words_to size count line words have ≡ Ok more → AllTaken size count have more words
unfolding words_to
words_take size count line [] have more h = let same : have ≡ more = cc in record { list = []; are = record { each = refl; below = tt }; added = sym same ∙ sym (append-nil have); room = λ le. omega (arith, ap length same) }
words_take size count line (w ∷ words) have more h =
    from (word_as size count line have (number_of w)) _ more h (λ next at_next rest.
    let one = word_take size count line have next (number_of w) at_next in
    let others = words_take size count line words next more rest in
    record {
      list = one.n ∷ others.list;
      are = record { each = cc (one.word, others.are.each); below = (one.small, others.are.below) };
      added = others.added ∙ ap (λ (l : List ℕ). l ++ others.list) one.added ∙ append_assoc have (one.n ∷ []) others.list;
      room = λ le. others.room (omega (arith, one.room, ap length one.added, length-append have (one.n ∷ [])));
    })

-- taken on any line
any_line : (size count line other : ℕ) (words : List (List ℕ)) (have more : List ℕ) → words_to size count line words have ≡ Ok more → words_to size count other words have ≡ Ok more
unfolding words_to
any_line size count line other [] have more h = h
any_line size count line other (w ∷ words) have more h =
    from (word_as size count line have (number_of w)) _ more h (λ next at_next rest.
    let one = word_take size count line have next (number_of w) at_next in
    let again : word_as size count other have (number_of w) ≡ Ok next = word_again size count other one.n have (number_of w) one.word one.small one.room ∙ ap (λ (l : List ℕ). Ok l) (sym one.added) in
    rw again (any_line size count line other words next more rest))

joined : (size count line : ℕ) (ws vs : List (List ℕ)) (have mid more : List ℕ) → words_to size count line ws have ≡ Ok mid → words_to size count line vs mid ≡ Ok more → words_to size count line (ws ++ vs) have ≡ Ok more
unfolding words_to
joined size count line [] vs have mid more h k = let same : have ≡ mid = cc in rw same k
joined size count line (w ∷ ws) vs have mid more h k =
    from (word_as size count line have (number_of w)) _ mid h (λ next at_next rest. rw at_next (joined size count line ws vs next mid more rest k))

parted : {G : Type 0} (size count line : ℕ) (ws vs : List (List ℕ)) (have more : List ℕ) → words_to size count line (ws ++ vs) have ≡ Ok more
    → ((mid : List ℕ) → words_to size count line ws have ≡ Ok mid → words_to size count line vs mid ≡ Ok more → G) → G
unfolding words_to
parted size count line [] vs have more h k = k have refl h
parted size count line (w ∷ ws) vs have more h k =
    from (word_as size count line have (number_of w)) _ more h (λ next at_next rest.
    parted size count line ws vs next more rest (λ mid first second. k mid (rw at_next first) second))

abbrev line_words : List ℕ → List (List ℕ)
line_words line = runs is_plain (content line)

lines_take : (size count line : ℕ) (ls : List (List ℕ)) (have more : List ℕ) → lines_to size count line ls have ≡ Ok more → words_to size count 0 (flat_map line_words ls) have ≡ Ok more
unfolding lines_to words_to
lines_take size count line [] have more h = h
lines_take size count line (l ∷ ls) have more h =
    from (words_to size count line (line_words l) have) _ more h (λ mid first rest.
    ap (λ ws. words_to size count 0 ws have) (flat_map-cons line_words l ls)
    ∙ joined size count 0 (line_words l) (flat_map line_words ls) have mid more (any_line size count line 0 (line_words l) have mid first) (lines_take size count (line + 1) ls mid more rest))

lines_again : (size count line : ℕ) (ls : List (List ℕ)) (have more : List ℕ) → words_to size count 0 (flat_map line_words ls) have ≡ Ok more → lines_to size count line ls have ≡ Ok more
unfolding lines_to words_to
lines_again size count line [] have more h = h
lines_again size count line (l ∷ ls) have more h =
    parted size count 0 (line_words l) (flat_map line_words ls) have more (sym (ap (λ ws. words_to size count 0 ws have) (flat_map-cons line_words l ls)) ∙ h) (λ mid first second.
    rw (any_line size count 0 line (line_words l) have mid first) (lines_again size count (line + 1) ls mid more second))

few_at : (text have list : List ℕ) (count : ℕ) (b : Bool) → ltb (length have) count ≡ b → cond b (breaks (length (lines text)) TooFew) (Ok have) ≡ Ok list → (have ≡ list) × (count ≤ length have)
few_at text have list count true e h = absurd cc
few_at text have list count false e h = (cc, ltb-false (length have) count e)

pub text_take : (size count : ℕ) (text list : List ℕ) → numbers_of size count text ≡ Ok list → NumberText size count text list
unfolding numbers_of
text_take size count text list h =
    from (lines_to size count 1 (lines text) []) _ list h (λ have at_have rest.
    let f = few_at text have list count (ltb (length have) count) refl rest in
    let t = words_take size count 0 (words_of text) [] have (lines_take size count 1 (lines text) [] have at_have) in
    let same : t.list ≡ list = sym t.added ∙ f.0 in
    subst (NumberText size count text) same (record {
      words = t.are.each;
      number = omega (arith, f.1, t.room (omega arith), ap length t.added);
      below = t.are.below;
    }))

pub text_again : (size count : ℕ) (text list : List ℕ) → NumberText size count text list → numbers_of size count text ≡ Ok list
unfolding numbers_of
text_again size count text list h =
    let all : lines_to size count 1 (lines text) [] ≡ Ok list = lines_again size count 1 (lines text) [] list (words_again size count 0 (words_of text) list [] (record { each = h.words; below = h.below }) (omega (arith, h.number))) in
    rw (all, le-ltb (length list) count (omega (arith, h.number))) refl
