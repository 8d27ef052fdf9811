-- The first piece of a line.
use Rattle.std.proofs.Common.{◌≡◌, ℕ, suc, Bool, true, false, cond, List, [], ◌∷◌, take, drop, refl, sym, ◌∙◌, arith, ap}
use Rattle.std.specs.List.{prefix_len}
use Rattle.std.proofs.lemmas.Bool.{cond-true}
use Rattle.std.proofs.lemmas.Bool.Decides.{nat_tests}
use Rattle.std.proofs.Math.Numerals.{one-add}
use Rattle.lzk_expr.specs.Texts.{is_plain, is_blank, begins}
use Rattle.lzk_expr.specs.Tokens.{Word, Sign, in_word, pieces, onto}

blank_is : (b : ℕ) → is_plain b ≡ false → is_blank b ≡ true
blank_is b h = grind arith

pub blank_no_word : (b : ℕ) → is_blank b ≡ true → in_word b ≡ false
blank_no_word b h = grind (arith, nat_tests)

pub pieces_blank : (b : ℕ) (bs : List ℕ) → is_plain b ≡ false → pieces (b ∷ bs) ≡ pieces bs
unfolding pieces
pieces_blank b bs h = rw (blank_no_word b (blank_is b h), blank_is b h) refl

pub pieces_sign : (b : ℕ) (bs : List ℕ) → in_word b ≡ false → is_plain b ≡ true → pieces (b ∷ bs) ≡ Sign b ∷ pieces bs
unfolding pieces
pieces_sign b bs h e = let f : is_blank b ≡ false = grind arith in rw (h, f) refl

pub pieces_onto : (b : ℕ) (bs : List ℕ) (t : Bool) → in_word b ≡ true → begins in_word bs ≡ t → pieces (b ∷ bs) ≡ onto b t (pieces bs)
unfolding pieces
pieces_onto b bs t h e = cond-true (in_word b) (onto b (begins in_word bs) (pieces bs)) (cond (is_blank b) (pieces bs) (Sign b ∷ pieces bs)) h ∙ ap (λ x. onto b x (pieces bs)) e

pub none_yet : pieces [] ≡ []
unfolding pieces
none_yet = refl

word_at : (b c : ℕ) (bs : List ℕ) (t : Bool) → in_word b ≡ true → in_word c ≡ t → (in_word c ≡ true → pieces (c ∷ bs) ≡ Word (c ∷ take (prefix_len in_word bs) bs) ∷ pieces (drop (prefix_len in_word bs) bs))
    → pieces (b ∷ c ∷ bs) ≡ Word (b ∷ take (prefix_len in_word (c ∷ bs)) (c ∷ bs)) ∷ pieces (drop (prefix_len in_word (c ∷ bs)) (c ∷ bs))
word_at b c bs true h e rest =
    let len : prefix_len in_word (c ∷ bs) ≡ suc (prefix_len in_word bs) = rw (e, one-add) refl in
    pieces_onto b (c ∷ bs) true h e ∙ ap (onto b true) (rest e) ∙ ap (λ n. Word (b ∷ take n (c ∷ bs)) ∷ pieces (drop n (c ∷ bs))) (sym len)
word_at b c bs false h e rest =
    let len : prefix_len in_word (c ∷ bs) ≡ 0 = rw e refl in
    pieces_onto b (c ∷ bs) false h e ∙ ap (λ n. Word (b ∷ take n (c ∷ bs)) ∷ pieces (drop n (c ∷ bs))) (sym len)

pub pieces_word : (b : ℕ) (bs : List ℕ) → in_word b ≡ true → pieces (b ∷ bs) ≡ Word (b ∷ take (prefix_len in_word bs) bs) ∷ pieces (drop (prefix_len in_word bs) bs)
pieces_word b [] h = pieces_onto b [] false h refl
pieces_word b (c ∷ bs) h = word_at b c bs (in_word c) h refl (pieces_word c bs)
