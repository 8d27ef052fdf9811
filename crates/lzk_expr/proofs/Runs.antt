-- The first run.
use Rattle.std.proofs.Common.{◌≡◌, ℕ, suc, ◌+◌, ◌<◌, ◌≤◌, ◌==◌, Bool, true, false, not, cond, List, [], ◌∷◌, length, take, drop, drop-cons, get_or, length-drop, Some, None, ltb, ltb-true, position, refl, sym, ◌∙◌, arith, ap}
use Rattle.std.specs.List.{prefix_len, onto_first, position_or_len}
use Rattle.std.proofs.lemmas.Bool.{ltb-false, lt-ltb, le-ltb, cond-true, cond-false}
use Rattle.std.proofs.lemmas.Bool.Decides.{nat_tests}
use Rattle.std.proofs.lemmas.List.{drop_all, take_all}
use Rattle.std.proofs.lemmas.List.Quantifiers.{position-Some}
use Rattle.std.proofs.lemmas.List.Splits.{slice_split_first, slice_split_none}
use Rattle.std.proofs.lemmas.List.Sums.{prefix_len-le-length, prefix_len-drop_no, prefix_len-drop_yes, fails_before_first}
use Rattle.std.proofs.Math.Numerals.{one-add}
use Rattle.lzk_expr.specs.Texts.{runs, begins, IsRun, IsLine, lines, is_feed, is_hash, content}

module _ (p : ℕ → Bool) where
  skip_at : (b : ℕ) (bs : List ℕ) (t : Bool) → p b ≡ t → (runs p bs ≡ runs p (drop (prefix_len (λ x. not (p x)) bs) bs)) → runs p (b ∷ bs) ≡ runs p (drop (prefix_len (λ x. not (p x)) (b ∷ bs)) (b ∷ bs))
  skip_at b bs true e h = let z : prefix_len (λ x. not (p x)) (b ∷ bs) ≡ 0 = rw e refl in ap (λ n. runs p (drop n (b ∷ bs))) (sym z)
  skip_at b bs false e h = rw (e, one-add) h

  -- bytes that don't pass go
  pub runs_skip : (bs : List ℕ) → runs p bs ≡ runs p (drop (prefix_len (λ b. not (p b)) bs) bs)
  runs_skip [] = refl
  runs_skip (b ∷ bs) = skip_at b bs (p b) refl (runs_skip bs)

  one_more : (b c : ℕ) (bs : List ℕ) → p b ≡ true → p c ≡ true → runs p (b ∷ c ∷ bs) ≡ onto_first b (runs p (c ∷ bs))
  one_more b c bs h e = rw h (cond-true (p c) (onto_first b (runs p (c ∷ bs))) ((b ∷ []) ∷ runs p (c ∷ bs)) e)

  one_alone : (b c : ℕ) (bs : List ℕ) → p b ≡ true → p c ≡ false → runs p (b ∷ c ∷ bs) ≡ (b ∷ []) ∷ runs p (c ∷ bs)
  one_alone b c bs h e = rw h (cond-false (p c) (onto_first b (runs p (c ∷ bs))) ((b ∷ []) ∷ runs p (c ∷ bs)) e)

  first_at : (b c : ℕ) (bs : List ℕ) (t : Bool) → p b ≡ true → p c ≡ t → (p c ≡ true → runs p (c ∷ bs) ≡ (c ∷ take (prefix_len p bs) bs) ∷ runs p (drop (prefix_len p bs) bs))
      → runs p (b ∷ c ∷ bs) ≡ (b ∷ take (prefix_len p (c ∷ bs)) (c ∷ bs)) ∷ runs p (drop (prefix_len p (c ∷ bs)) (c ∷ bs))
  first_at b c bs true h e rest =
      let len : prefix_len p (c ∷ bs) ≡ suc (prefix_len p bs) = rw (e, one-add) refl in
      one_more b c bs h e ∙ ap (onto_first b) (rest e) ∙ ap (λ n. (b ∷ take n (c ∷ bs)) ∷ runs p (drop n (c ∷ bs))) (sym len)
  first_at b c bs false h e rest =
      let len : prefix_len p (c ∷ bs) ≡ 0 = rw e refl in
      one_alone b c bs h e ∙ ap (λ n. (b ∷ take n (c ∷ bs)) ∷ runs p (drop n (c ∷ bs))) (sym len)

  -- bytes that pass are one run
  pub runs_first : (b : ℕ) (bs : List ℕ) → p b ≡ true → runs p (b ∷ bs) ≡ (b ∷ take (prefix_len p bs) bs) ∷ runs p (drop (prefix_len p bs) bs)
  runs_first b [] h = rw h refl
  runs_first b (c ∷ bs) h = first_at b c bs (p c) h refl (runs_first c bs)

  runs_head : (xs : List ℕ) → begins p xs ≡ true → runs p xs ≡ take (prefix_len p xs) xs ∷ runs p (drop (prefix_len p xs) xs)
  runs_head [] h = absurd cc
  runs_head (b ∷ bs) h =
      let len : prefix_len p (b ∷ bs) ≡ suc (prefix_len p bs) = rw (h, one-add) refl in
      runs_first b bs h ∙ ap (λ n. take n (b ∷ bs) ∷ runs p (drop n (b ∷ bs))) (sym len)

  head_some : (xs : List ℕ) → begins p xs ≡ true → 1 ≤ prefix_len p xs
  head_some [] h = absurd cc
  head_some (b ∷ bs) h = let len : prefix_len p (b ∷ bs) ≡ suc (prefix_len p bs) = rw (h, one-add) refl in omega (arith, len)

found_where : (b : Bool) (n i : ℕ) → cond b (Some n) None ≡ Some i → (b ≡ true) × (n ≡ i)
found_where true n i e = (refl, cc)
found_where false n i e = absurd cc

none_where : (b : Bool) (n : ℕ) → cond b (Some n) None ≡ None → b ≡ false
none_where true n e = absurd cc
none_where false n e = refl

pub found_at : (p : ℕ → Bool) (xs : List ℕ) (i : ℕ) → position p xs ≡ Some i → (position_or_len p xs ≡ i) × (i < length xs)
found_at p xs i e =
    let f = found_where (ltb (position_or_len p xs) (length xs)) (position_or_len p xs) i e in
    (f.1, omega (arith, f.1, ltb-true _ _ f.0))

pub found_none : (p : ℕ → Bool) (xs : List ℕ) → position p xs ≡ None → position_or_len p xs ≡ length xs
found_none p xs e = omega (arith, ltb-false _ _ (none_where (ltb (position_or_len p xs) (length xs)) (position_or_len p xs) e), prefix_len-le-length (λ x. not (p x)) xs)

begins_at : (p : ℕ → Bool) (bytes : List ℕ) (start : ℕ) → start < length bytes → p (get_or bytes start 0) ≡ true → begins p (drop start bytes) ≡ true
begins_at p bytes start lt h = rw (drop-cons bytes start 0) h

pub run_at : (p : ℕ → Bool) (bytes : List ℕ) (start len : ℕ) → position p bytes ≡ Some start → len ≡ prefix_len p (drop start bytes) → IsRun p bytes (take len (drop start bytes)) (drop len (drop start bytes))
run_at p bytes start len at e =
    let f = found_at p bytes start at in
    let g = position-Some p bytes start 0 at in
    let word : List ℕ = drop start bytes in
    let b : begins p word ≡ true = begins_at p bytes start f.1 g.1 in
    let skip : runs p bytes ≡ runs p word = runs_skip p bytes ∙ ap (λ n. runs p (drop n bytes)) f.0 in
    record {
      runs_are = skip ∙ runs_head p word b ∙ ap (λ n. take n word ∷ runs p (drop n word)) (sym e);
      shorter = omega (arith, e, head_some p word b, prefix_len-le-length p word, length-drop len word, length-drop start bytes);
    }

pub no_run : (p : ℕ → Bool) (bytes : List ℕ) → position p bytes ≡ None → runs p bytes ≡ []
no_run p bytes e = runs_skip p bytes ∙ ap (λ n. runs p (drop n bytes)) (found_none p bytes e) ∙ ap (runs p) (drop_all (length bytes) bytes (omega arith))

pub line_at : (text : List ℕ) (i : ℕ) → position is_feed text ≡ Some i → IsLine text (take i text) (drop (i + 1) text)
line_at text i at =
    let f = found_at is_feed text i at in
    record {
      lines_are = slice_split_first is_feed text 0 (omega (arith, f.0, f.1)) ∙ ap (λ n. take n text ∷ lines (drop (n + 1) text)) f.0;
      shorter = omega (arith, f.1, length-drop (i + 1) text);
    }

pub no_line : (text : List ℕ) → position is_feed text ≡ None → lines text ≡ text ∷ []
no_line text e = slice_split_none is_feed text (λ k d lt. fails_before_first is_feed text k d (omega (arith, found_none is_feed text e)))

-- ---- a place that is looked for

pub same_byte : (a b : ℕ) → a ≡ b → (a == b) ≡ true
same_byte a b h = grind (arith, nat_tests)

pub other_byte : (a b : ℕ) → (a ≡ b → ⊥) → (a == b) ≡ false
other_byte a b h = grind (arith, nat_tests)

module _ (p : ℕ → Bool) (xs : List ℕ) (i : ℕ) (passed : position_or_len p xs ≡ i + position_or_len p (drop i xs)) where
  pub len_here : i < length xs → p (get_or xs i 0) ≡ true → i ≡ position_or_len p xs
  len_here lt h = omega (arith, passed, prefix_len-drop_no (λ x. not (p x)) xs i 0 lt (ap not h))

  pub len_behind : i < length xs → p (get_or xs i 0) ≡ false → position_or_len p xs ≡ (i + 1) + position_or_len p (drop (i + 1) xs)
  len_behind lt h = omega (arith, passed, prefix_len-drop_yes (λ x. not (p x)) xs i 0 lt (ap not h))

  pub len_end : length xs ≤ i → length xs ≡ position_or_len p xs
  len_end le = omega (arith, passed, le, prefix_len-le-length (λ x. not (p x)) xs)

  pub place_here : i < length xs → p (get_or xs i 0) ≡ true → Some i ≡ position p xs
  place_here lt h = sym (ap (λ n. cond (ltb n (length xs)) (Some n) None) (sym (len_here lt h)) ∙ ap (λ t. cond t (Some i) None) (lt-ltb i (length xs) lt))

  pub place_none : length xs ≤ i → None ≡ position p xs
  place_none le = sym (ap (λ t. cond t (Some (position_or_len p xs)) None) (le-ltb (position_or_len p xs) (length xs) (omega (arith, passed, le))))

-- ---- what stands before a comment

pub content_at : (line : List ℕ) (i : ℕ) → position is_hash line ≡ Some i → take i line ≡ content line
content_at line i e = ap (λ n. take n line) (sym (found_at is_hash line i e).0)

pub content_none : (line : List ℕ) → position is_hash line ≡ None → line ≡ content line
content_none line e = sym (ap (λ n. take n line) (found_none is_hash line e) ∙ take_all (length line) line (omega arith))
