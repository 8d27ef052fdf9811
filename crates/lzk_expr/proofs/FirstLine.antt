-- The first line of a text, and what stands on it before its comment.
use Rattle.std.proofs.Common.{◌≡◌, ℕ, zero, suc, ◌+◌, ◌-◌, ◌<◌, ◌≤◌, Bool, true, false, ◌||◌, List, [], ◌∷◌, ◌++◌, length, take, drop, drop-cons, get_or, length-drop, length-take, Option, Some, None, Bor, MatchOption, subst, refl, sym, ◌∙◌, ap, arith, add-one}
use Rattle.std.specs.List.{prefix_len, before_first, onto_first, position_or_len}
use Rattle.std.proofs.lemmas.Bool.Decides.{nat_tests}
use Rattle.std.proofs.lemmas.List.{drop-drop, drop_all}
use Rattle.std.proofs.lemmas.List.Splits.{slice_split-cons_no, slice_split-cons_yes, length-slice_split}
use Rattle.std.proofs.lemmas.List.Sums.{prefix_len-le-length}
use Rattle.std.proofs.Math.Numerals.{one-add}
use Rattle.lzk_expr.specs.Texts.{is_plain, is_blank, is_feed, is_hash, content, lines, first_line, first_content, IsLine}
use Rattle.lzk_expr.specs.Tokens.{Word, Sign, in_word, is_sign, pieces, keeps_characters}
use Rattle.lzk_expr.proofs.Pieces.{pieces_word, pieces_sign, pieces_blank}

-- ---- byte by byte

before_on : (p : ℕ → Bool) (b : ℕ) (bs : List ℕ) → p b ≡ false → before_first p (b ∷ bs) ≡ b ∷ before_first p bs
before_on p b bs e = rw (e, one-add) refl

before_stop : (p : ℕ → Bool) (b : ℕ) (bs : List ℕ) → p b ≡ true → before_first p (b ∷ bs) ≡ []
before_stop p b bs e = rw e refl

content_on : (b : ℕ) (bs : List ℕ) → is_feed b ≡ false → is_hash b ≡ false → first_content (b ∷ bs) ≡ b ∷ first_content bs
content_on b bs f h = ap content (before_on is_feed b bs f) ∙ before_on is_hash b (first_line bs) h

content_feed : (b : ℕ) (bs : List ℕ) → is_feed b ≡ true → first_content (b ∷ bs) ≡ []
content_feed b bs f = ap content (before_stop is_feed b bs f)

content_hash : (b : ℕ) (bs : List ℕ) → is_feed b ≡ false → is_hash b ≡ true → first_content (b ∷ bs) ≡ []
content_hash b bs f h = ap content (before_on is_feed b bs f) ∙ before_stop is_hash b (first_line bs) h

content_end : (b : ℕ) (bs : List ℕ) (t : Bool) → is_feed b ≡ t → (is_feed b || is_hash b) ≡ true → first_content (b ∷ bs) ≡ []
content_end b bs true f h = content_feed b bs f
content_end b bs false f h = content_hash b bs f (ap (λ (t : Bool). t || is_hash b) (sym f) ∙ h)

no_end : (b : ℕ) → (is_feed b || is_hash b) ≡ false → (is_feed b ≡ false) × (is_hash b ≡ false)
no_end b h = no_either (is_feed b) (is_hash b) h
  where
    no_either : (s t : Bool) → (s || t) ≡ false → (s ≡ false) × (t ≡ false)
    no_either true t h = absurd cc
    no_either false t h = (refl, h)

content_goes : (b : ℕ) (bs : List ℕ) → (is_feed b || is_hash b) ≡ false → first_content (b ∷ bs) ≡ b ∷ first_content bs
content_goes b bs h = let n = no_end b h in content_on b bs n.0 n.1

-- ---- words end before it does

word_no_end : (b : ℕ) → in_word b ≡ true → (is_feed b || is_hash b) ≡ false
word_no_end b h = grind (arith, nat_tests)

blank_no_end : (b : ℕ) → is_blank b ≡ true → (is_feed b || is_hash b) ≡ false
blank_no_end b h = grind (arith, nat_tests)

sign_no_end : (b : ℕ) → is_sign b ≡ true → (is_feed b || is_hash b) ≡ false
sign_no_end b h = grind (arith, nat_tests)

record HaveRun (bs : List ℕ) : Type 0 where
  prefix : prefix_len in_word (first_content bs) ≡ prefix_len in_word bs
  front : take (prefix_len in_word bs) (first_content bs) ≡ take (prefix_len in_word bs) bs
  back : drop (prefix_len in_word bs) (first_content bs) ≡ first_content (drop (prefix_len in_word bs) bs)

none_at : (b : ℕ) (bs : List ℕ) (t : Bool) → in_word b ≡ false → (is_feed b || is_hash b) ≡ t → prefix_len in_word (first_content (b ∷ bs)) ≡ 0
none_at b bs true e f = ap (prefix_len in_word) (content_end b bs (is_feed b) refl f)
none_at b bs false e f = let none : prefix_len in_word (b ∷ first_content bs) ≡ 0 = rw e refl in ap (prefix_len in_word) (content_goes b bs f) ∙ none

run_at : (b : ℕ) (bs : List ℕ) (t : Bool) → in_word b ≡ t → HaveRun bs → HaveRun (b ∷ bs)
run_at b bs true e r =
    let n : ℕ = prefix_len in_word bs in
    let len : prefix_len in_word (b ∷ bs) ≡ suc n = rw (e, one-add) refl in
    let more : prefix_len in_word (b ∷ first_content bs) ≡ suc (prefix_len in_word (first_content bs)) = rw (e, one-add) refl in
    let goes = content_goes b bs (word_no_end b e) in
    record {
      prefix = ap (prefix_len in_word) goes ∙ more ∙ ap suc r.prefix ∙ sym len;
      front = ap (λ m. take m (first_content (b ∷ bs))) len ∙ ap (take (suc n)) goes ∙ ap (λ (l : List ℕ). b ∷ l) r.front ∙ ap (λ m. take m (b ∷ bs)) (sym len);
      back = ap (λ m. drop m (first_content (b ∷ bs))) len ∙ ap (drop (suc n)) goes ∙ r.back ∙ ap (λ m. first_content (drop m (b ∷ bs))) (sym len);
    }
run_at b bs false e r =
    let none : prefix_len in_word (b ∷ bs) ≡ 0 = rw e refl in
    record {
      prefix = none_at b bs (is_feed b || is_hash b) e refl ∙ sym none;
      front = ap (λ m. take m (first_content (b ∷ bs))) none ∙ ap (λ m. take m (b ∷ bs)) (sym none);
      back = ap (λ m. drop m (first_content (b ∷ bs))) none ∙ ap (λ m. first_content (drop m (b ∷ bs))) (sym none);
    }

run : (bs : List ℕ) → HaveRun bs
run [] = record { prefix = refl; front = refl; back = refl }
run (b ∷ bs) = run_at b bs (in_word b) refl (run bs)

-- ---- the piece at a place

byte_at : (xs : List ℕ) (i : ℕ) → i < length xs → drop i xs ≡ get_or xs i 0 ∷ drop (i + 1) xs
byte_at xs i lt = rw (add-one, drop-cons xs i 0) refl

-- where a text has the place i and a word there that ends at the place end
module _ (xs : List ℕ) (i end : ℕ) (lt : i < length xs) (e : in_word (get_or xs i 0) ≡ true) (h : end ≡ (i + 1) + prefix_len in_word (drop (i + 1) xs)) where
  word_behind : drop (prefix_len in_word (drop (i + 1) xs)) (drop (i + 1) xs) ≡ drop end xs
  word_behind = drop-drop (prefix_len in_word (drop (i + 1) xs)) (i + 1) xs ∙ ap (λ m. drop m xs) (sym h)

  word_goes : first_content (drop i xs) ≡ get_or xs i 0 ∷ first_content (drop (i + 1) xs)
  word_goes = ap first_content (byte_at xs i lt) ∙ content_goes (get_or xs i 0) (drop (i + 1) xs) (word_no_end (get_or xs i 0) e)

  pub word_here : pieces (first_content (drop i xs)) ≡ Word (take (end - i) (drop i xs)) ∷ pieces (first_content (drop end xs))
  word_here =
      let b : ℕ = get_or xs i 0 in
      let bs : List ℕ = drop (i + 1) xs in
      let n : ℕ = prefix_len in_word bs in
      let r = run bs in
      let len : end - i ≡ suc n = omega (arith, h) in
      ap pieces word_goes ∙ pieces_word b (first_content bs) e ∙ ap (λ m. Word (b ∷ take m (first_content bs)) ∷ pieces (drop m (first_content bs))) r.prefix
      ∙ ap (λ (l : List ℕ). Word (b ∷ l) ∷ pieces (drop n (first_content bs))) r.front
      ∙ ap (λ (l : List ℕ). Word (b ∷ take n bs) ∷ pieces l) (r.back ∙ ap first_content word_behind)
      ∙ ap (λ m. Word (take m (b ∷ bs)) ∷ pieces (first_content (drop end xs))) (sym len) ∙ ap (λ (l : List ℕ). Word (take (end - i) l) ∷ pieces (first_content (drop end xs))) (sym (byte_at xs i lt))

  pub word_length : (n : ℕ) → n ≡ i + length (first_content (drop i xs)) → n ≡ end + length (first_content (drop end xs))
  word_length n m =
      let bs : List ℕ = drop (i + 1) xs in
      let r = run bs in
      omega (arith, m, h, ap length word_goes, ap length (r.back ∙ ap first_content word_behind), length-drop (prefix_len in_word bs) (first_content bs), prefix_len-le-length in_word (first_content bs), r.prefix)

-- where it has a byte there that does not end the line's content
module _ (xs : List ℕ) (i : ℕ) (lt : i < length xs) (goes : (is_feed (get_or xs i 0) || is_hash (get_or xs i 0)) ≡ false) where
  byte_goes : first_content (drop i xs) ≡ get_or xs i 0 ∷ first_content (drop (i + 1) xs)
  byte_goes = ap first_content (byte_at xs i lt) ∙ content_goes (get_or xs i 0) (drop (i + 1) xs) goes

  byte_length : (n : ℕ) → n ≡ i + length (first_content (drop i xs)) → n ≡ (i + 1) + length (first_content (drop (i + 1) xs))
  byte_length n m = omega (arith, m, ap length byte_goes)

plain_is : (b : ℕ) → is_blank b ≡ false → is_plain b ≡ true
plain_is b h = grind arith

not_plain : (b : ℕ) → is_blank b ≡ true → is_plain b ≡ false
not_plain b h = grind arith

module _ (xs : List ℕ) (i : ℕ) (lt : i < length xs) (s : is_sign (get_or xs i 0) ≡ true) where
  pub sign_here : in_word (get_or xs i 0) ≡ false → is_blank (get_or xs i 0) ≡ false → pieces (first_content (drop i xs)) ≡ Sign (get_or xs i 0) ∷ pieces (first_content (drop (i + 1) xs))
  sign_here e f = ap pieces (byte_goes xs i lt (sign_no_end (get_or xs i 0) s)) ∙ pieces_sign (get_or xs i 0) (first_content (drop (i + 1) xs)) e (plain_is (get_or xs i 0) f)

  pub sign_length : (n : ℕ) → n ≡ i + length (first_content (drop i xs)) → n ≡ (i + 1) + length (first_content (drop (i + 1) xs))
  sign_length n m = byte_length xs i lt (sign_no_end (get_or xs i 0) s) n m

module _ (xs : List ℕ) (i : ℕ) (lt : i < length xs) (f : is_blank (get_or xs i 0) ≡ true) where
  pub blank_here : pieces (first_content (drop i xs)) ≡ pieces (first_content (drop (i + 1) xs))
  blank_here = ap pieces (byte_goes xs i lt (blank_no_end (get_or xs i 0) f)) ∙ pieces_blank (get_or xs i 0) (first_content (drop (i + 1) xs)) (not_plain (get_or xs i 0) f)

  pub blank_length : (n : ℕ) → n ≡ i + length (first_content (drop i xs)) → n ≡ (i + 1) + length (first_content (drop (i + 1) xs))
  blank_length n m = byte_length xs i lt (blank_no_end (get_or xs i 0) f) n m

-- ---- where it ends

pub end_here : (xs : List ℕ) (i : ℕ) → i < length xs → (is_feed (get_or xs i 0) || is_hash (get_or xs i 0)) ≡ true → first_content (drop i xs) ≡ []
end_here xs i lt h = ap first_content (byte_at xs i lt) ∙ content_end (get_or xs i 0) (drop (i + 1) xs) (is_feed (get_or xs i 0)) refl h

pub end_behind : (xs : List ℕ) (i : ℕ) → length xs ≤ i → first_content (drop i xs) ≡ []
end_behind xs i le = ap first_content (drop_all i xs le)

other_byte : (b : ℕ) → in_word b ≡ false → is_blank b ≡ false → is_sign b ≡ false → (in_word b || (is_blank b || is_sign b)) ≡ false
other_byte b e f s = rw (e, f) s

other_at : (b : ℕ) (bs : List ℕ) → (in_word b || (is_blank b || is_sign b)) ≡ false → keeps_characters (b ∷ bs) ≡ false
other_at b bs h = rw h refl

pub other_here : (xs : List ℕ) (i : ℕ) → i < length xs → (is_feed (get_or xs i 0) || is_hash (get_or xs i 0)) ≡ false → in_word (get_or xs i 0) ≡ false → is_blank (get_or xs i 0) ≡ false → is_sign (get_or xs i 0) ≡ false
    → keeps_characters (first_content (drop i xs)) ≡ false
other_here xs i lt goes e f s = ap keeps_characters (byte_goes xs i lt goes) ∙ other_at (get_or xs i 0) (first_content (drop (i + 1) xs)) (other_byte (get_or xs i 0) e f s)

-- what a byte that is of no token tells
pub stopped : (xs : List ℕ) (i : ℕ) (t : Bool) → i < length xs → in_word (get_or xs i 0) ≡ false → is_blank (get_or xs i 0) ≡ false → is_sign (get_or xs i 0) ≡ false → (is_feed (get_or xs i 0) || is_hash (get_or xs i 0)) ≡ t
    → keeps_characters (first_content (drop i xs)) ≡ t
stopped xs i true lt e f s h = ap keeps_characters (end_here xs i lt h)
stopped xs i false lt e f s h = other_here xs i lt h e f s

-- ---- the lines behind

lines_on : (b : ℕ) (bs l : List ℕ) (ls : List (List ℕ)) → is_feed b ≡ false → lines bs ≡ l ∷ ls → lines (b ∷ bs) ≡ (b ∷ l) ∷ ls
lines_on b bs l ls f h = slice_split-cons_no is_feed b bs f ∙ ap (onto_first b) h

lines_feed : (b : ℕ) (bs : List ℕ) → is_feed b ≡ true → lines (b ∷ bs) ≡ [] ∷ lines bs
lines_feed b bs f = slice_split-cons_yes is_feed b bs f

passed_at : (b : ℕ) (bs l : List ℕ) (n : ℕ) (ls : List (List ℕ)) (t : Bool) → is_feed b ≡ t → suc n ≤ length (first_line (b ∷ bs)) → lines (drop n bs) ≡ l ∷ ls
    → (n ≤ length (first_line bs) → lines bs ≡ (take n bs ++ l) ∷ ls) → lines (b ∷ bs) ≡ (b ∷ (take n bs ++ l)) ∷ ls
passed_at b bs l n ls true f le h rest = absurd (omega (arith, le, ap length (before_stop is_feed b bs f)))
passed_at b bs l n ls false f le h rest = lines_on b bs (take n bs ++ l) ls f (rest (omega (arith, le, ap length (before_on is_feed b bs f))))

passed : (bs l : List ℕ) (n : ℕ) (ls : List (List ℕ)) → n ≤ length (first_line bs) → lines (drop n bs) ≡ l ∷ ls → lines bs ≡ (take n bs ++ l) ∷ ls
passed bs l zero ls le h = h
passed [] l (suc n) ls le h = absurd (omega (arith, le))
passed (b ∷ bs) l (suc n) ls le h = passed_at b bs l n ls (is_feed b) refl le h (λ m. passed bs l n ls m h)

line_at : (b : ℕ) (bs l : List ℕ) (ls : List (List ℕ)) (t : Bool) → is_feed b ≡ t → lines (b ∷ bs) ≡ l ∷ ls → ((k : List ℕ) (ks : List (List ℕ)) → lines bs ≡ k ∷ ks → k ≡ first_line bs)
    → (ms : List (List ℕ)) → lines bs ≡ ms → l ≡ first_line (b ∷ bs)
line_at b bs l ls true f h rest ms e = first_is [] l (lines bs) ls (sym (lines_feed b bs f) ∙ h) ∙ sym (before_stop is_feed b bs f)
  where
    first_is : (x y : List ℕ) (xs ys : List (List ℕ)) → x ∷ xs ≡ y ∷ ys → y ≡ x
    first_is x y xs ys e = cc
line_at b bs l ls false f h rest [] e = absurd (no_lines bs e)
  where
    no_lines : (xs : List ℕ) → lines xs ≡ [] → ⊥
    no_lines xs e = omega (arith, ap length e, length-slice_split is_feed xs)
line_at b bs l ls false f h rest (m ∷ ms) e = first_is (b ∷ m) l ms ls (sym (lines_on b bs m ms f e) ∙ h) ∙ ap (λ (k : List ℕ). b ∷ k) (rest m ms e) ∙ sym (before_on is_feed b bs f)
  where
    first_is : (x y : List ℕ) (xs ys : List (List ℕ)) → x ∷ xs ≡ y ∷ ys → y ≡ x
    first_is x y xs ys e = cc

line_is : (bs l : List ℕ) (ls : List (List ℕ)) → lines bs ≡ l ∷ ls → l ≡ first_line bs
line_is [] l ls h = cc
line_is (b ∷ bs) l ls h = line_at b bs l ls (is_feed b) refl h (λ k ks e. line_is bs k ks e) (lines bs) refl

content_within : (text : List ℕ) → length (first_content text) ≤ length (first_line text)
content_within text = omega (arith, length-take (position_or_len is_hash (first_line text)) (first_line text))

-- the text from a place on that is within the first line's content has the same lines behind its first one
pub same_rest : (text line rest : List ℕ) (n : ℕ) → n ≤ length (first_content text) → IsLine (drop n text) line rest → IsLine text (first_line text) rest
same_rest text line rest n le h =
    let e : lines text ≡ (take n text ++ line) ∷ lines rest = passed text line n (lines rest) (omega (arith, le, content_within text)) h.lines_are in
    record {
      lines_are = e ∙ ap (λ (l : List ℕ). l ∷ lines rest) (line_is text (take n text ++ line) (lines rest) e);
      shorter = omega (arith, h.shorter, length-drop n text);
    }

pub same_last : (text line : List ℕ) (n : ℕ) → n ≤ length (first_content text) → lines (drop n text) ≡ line ∷ [] → lines text ≡ first_line text ∷ []
same_last text line n le h =
    let e : lines text ≡ (take n text ++ line) ∷ [] = passed text line n [] (omega (arith, le, content_within text)) h in
    e ∙ ap (λ (l : List ℕ). l ∷ []) (line_is text (take n text ++ line) [] e)

pub rest_of : (text behind line : List ℕ) (n : ℕ) (o : Option (Bor (List ℕ))) → n ≤ length (first_content text) → behind ≡ drop n text → MatchOption o (lines behind ≡ line ∷ []) (λ rest. IsLine behind line rest.now)
    → MatchOption o (lines text ≡ first_line text ∷ []) (λ rest. IsLine text (first_line text) rest.now)
rest_of text behind line n None le e h = same_last text line n le (sym (ap lines e) ∙ h)
rest_of text behind line n (Some rest) le e h = same_rest text line rest.now n le (subst (λ (xs : List ℕ). IsLine xs line rest.now) e h)
