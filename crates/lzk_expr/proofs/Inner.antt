-- What holds of each token of a line.
use Rattle.std.proofs.Common.{◌≡◌, ℕ, ◌≤◌, Bool, true, false, cond, ◌&&◌, ◌==◌, List, [], ◌∷◌, map, length, Option, Some, None, refl, ◌∙◌, ap, arith}
use Rattle.std.specs.List.{list_all}
use Rattle.std.proofs.lemmas.Bool.{and_parts}
use Rattle.std.specs.Str.{bytes_eq}
use Rattle.std.specs.Prelude.{codes}
use Rattle.lzk_expr.specs.Texts.{is_plain, begins, number_of}
use Rattle.lzk_expr.specs.Tokens.{Piece, Word, Sign, in_word, pieces, onto, Token, Number, Name, Key, Misspelt, Plus, Minus, Times, Open, Close, Equals, Other, token_of, word_token, plain_token, number_token, tokens, is_digit}
use Rattle.lzk_expr.specs.declared.tokens.Keyword.TheVariants as keys
use Rattle.lzk_expr.proofs.Pieces.{pieces_onto, pieces_blank, pieces_sign}

-- what holds of words that are not empty, and of the signs whose bytes pass
module _ (k : Piece → Bool) (q : ℕ → Bool) (word : (b : ℕ) (w : List ℕ) → k (Word (b ∷ w)) ≡ true) (sign : (b : ℕ) → q b ≡ true → k (Sign b) ≡ true) where
  and_both : (a b : Bool) → a ≡ true → b ≡ true → (a && b) ≡ true
  and_both true b e f = f
  and_both false b e f = e

  onto_all : (b : ℕ) (t : Bool) (ps : List Piece) → list_all k ps ≡ true → list_all k (onto b t ps) ≡ true
  onto_all b false ps h = and_both (k (Word (b ∷ []))) (list_all k ps) (word b []) h
  onto_all b true [] h = and_both (k (Word (b ∷ []))) true (word b []) refl
  onto_all b true (Word w ∷ ps) h = and_both (k (Word (b ∷ w))) (list_all k ps) (word b w) (and_parts (k (Word w)) (list_all k ps) h).1
  onto_all b true (Sign c ∷ ps) h = and_both (k (Word (b ∷ []))) (list_all k (Sign c ∷ ps)) (word b []) h

  all_at : (b : ℕ) (bs : List ℕ) (t s : Bool) → in_word b ≡ t → is_plain b ≡ s → q b ≡ true → list_all k (pieces bs) ≡ true → list_all k (pieces (b ∷ bs)) ≡ true
  all_at b bs true s e f n h = ap (list_all k) (pieces_onto b bs (begins in_word bs) e refl) ∙ onto_all b (begins in_word bs) (pieces bs) h
  all_at b bs false true e f n h = ap (list_all k) (pieces_sign b bs e f) ∙ and_both (k (Sign b)) (list_all k (pieces bs)) (sign b n) h
  all_at b bs false false e f n h = ap (list_all k) (pieces_blank b bs f) ∙ h

  pub pieces_all : (bs : List ℕ) → list_all q bs ≡ true → list_all k (pieces bs) ≡ true
  unfolding pieces
  pieces_all [] h = refl
  pieces_all (b ∷ bs) h = let p = and_parts (q b) (list_all q bs) h in all_at b bs (in_word b) (is_plain b) refl refl p.0 (pieces_all bs p.1)

  module _ (j : Token → Bool) (each : (p : Piece) → k p ≡ true → j (token_of p) ≡ true) where
    mapped : (ps : List Piece) → list_all k ps ≡ true → list_all j (map token_of ps) ≡ true
    mapped [] h = refl
    mapped (p ∷ ps) h = let both = and_parts (k p) (list_all k ps) h in and_both (j (token_of p)) (list_all j (map token_of ps)) (each p both.0) (mapped ps both.1)

    pub tokens_all : (bs : List ℕ) → list_all q bs ≡ true → list_all j (tokens bs) ≡ true
    tokens_all bs h = mapped (pieces bs) (pieces_all bs h)

-- what holds of both tokens holds of the one that is chosen
either : (j : Token → Bool) (c : Bool) (x y : Token) → j x ≡ true → j y ≡ true → j (cond c x y) ≡ true
either j true x y h e = h
either j false x y h e = e

number_passes : (j : Token → Bool) (o : Option ℕ) → ((n : ℕ) → j (Number n) ≡ true) → j Misspelt ≡ true → j (number_token o) ≡ true
number_passes j None n m = m
number_passes j (Some x) n m = n x

pub word_passes : (j : Token → Bool) (w : List ℕ) → ((n : ℕ) → j (Number n) ≡ true) → j Misspelt ≡ true → j (Key keys.Field) ≡ true → j (Key keys.Public) ≡ true → j (Key keys.Private) ≡ true → j (Key keys.Let) ≡ true
    → j (Key keys.Assert) ≡ true → j (Name w) ≡ true → j (word_token w) ≡ true
unfolding word_token
word_passes j w n m f p q l a h =
    let plain : j (plain_token w) ≡ true = either j (begins is_digit w) (number_token (number_of w)) (Name w) (number_passes j (number_of w) n m) h in
    either j (bytes_eq w (codes "field")) (Key keys.Field) _ f
    (either j (bytes_eq w (codes "public")) (Key keys.Public) _ p
    (either j (bytes_eq w (codes "private")) (Key keys.Private) _ q
    (either j (bytes_eq w (codes "let")) (Key keys.Let) _ l
    (either j (bytes_eq w (codes "assert")) (Key keys.Assert) (plain_token w) a plain))))

-- ---- names are not empty

abbrev filled : List ℕ → Bool
filled [] = false
filled (b ∷ w) = true

abbrev pub is_filled : Token → Bool
is_filled (Name w) = filled w
is_filled _ = true

abbrev filled_piece : Piece → Bool
filled_piece (Word w) = filled w
filled_piece (Sign b) = true

filled_token : (p : Piece) → filled_piece p ≡ true → is_filled (token_of p) ≡ true
filled_token (Word w) h = word_passes is_filled w (λ n. refl) refl refl refl refl refl refl h
filled_token (Sign b) h =
    either is_filled (b == 43) Plus _ refl (either is_filled (b == 45) Minus _ refl (either is_filled (b == 42) Times _ refl (either is_filled (b == 40) Open _ refl
    (either is_filled (b == 41) Close _ refl (either is_filled (b == 61) Equals Other refl refl)))))

any_byte : (bs : List ℕ) → list_all (λ b. true) bs ≡ true
any_byte [] = refl
any_byte (b ∷ bs) = any_byte bs

pub tokens_filled : (bs : List ℕ) → list_all is_filled (tokens bs) ≡ true
tokens_filled bs = tokens_all filled_piece (λ b. true) (λ b w. refl) (λ b e. refl) is_filled filled_token bs (any_byte bs)

pub filled_some : (w : List ℕ) → filled w ≡ true → 1 ≤ length w
filled_some [] h = absurd cc
filled_some (b ∷ w) h = omega arith
