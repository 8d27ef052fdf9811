-- A line with nothing before its comment is exactly one that is clean and has no token.
use Rattle.std.proofs.Common.{◌≡◌, ℕ, suc, ◌<◌, Bool, true, false, ◌&&◌, List, [], ◌∷◌, map, length, refl, sym, ◌∙◌, ap, ap₂, arith}
use Rattle.std.proofs.lemmas.Bool.{and_parts}
use Rattle.lzk_expr.specs.declared.tokens.Symbol.{Symbol}
use Rattle.lzk_expr.specs.Texts.{is_plain, is_blank, begins}
use Rattle.lzk_expr.specs.Tokens.{Piece, Word, Sign, in_word, pieces, onto, Token, tokens, token_of, keeps_characters, is_empty_line}
use Rattle.lzk_expr.specs.TokenReadings.{AreTold}
use Rattle.lzk_expr.proofs.Pieces.{pieces_onto, pieces_blank, pieces_sign, none_yet}
use Rattle.lzk_expr.proofs.Clean.{clean_none}

pub told_length : (ss : List Symbol) (ts : List Token) → AreTold ss ts → length ss ≡ length ts
told_length [] [] h = refl
told_length [] (t ∷ ts) h = absurd h
told_length (s ∷ ss) [] h = absurd h
told_length (s ∷ ss) (t ∷ ts) h = ap suc (told_length ss ts h.1)

-- ---- with no token

onto_some : (b : ℕ) (t : Bool) (ps : List Piece) → onto b t ps ≡ [] → ⊥
onto_some b false ps e = cc
onto_some b true [] e = cc
onto_some b true (Word w ∷ ps) e = cc
onto_some b true (Sign c ∷ ps) e = cc

blank_is : (b : ℕ) → is_plain b ≡ false → is_blank b ≡ true
blank_is b h = grind arith

empty_at : (b : ℕ) (bs : List ℕ) (t s : Bool) → in_word b ≡ t → is_plain b ≡ s → pieces (b ∷ bs) ≡ [] → (pieces bs ≡ [] → is_empty_line bs ≡ true) → is_empty_line (b ∷ bs) ≡ true
empty_at b bs true s e f h rest = absurd (onto_some b (begins in_word bs) (pieces bs) (sym (pieces_onto b bs (begins in_word bs) e refl) ∙ h))
empty_at b bs false true e f h rest = absurd (let g : Sign b ∷ pieces bs ≡ [] = sym (pieces_sign b bs e f) ∙ h in cc)
empty_at b bs false false e f h rest = ap₂ (λ (x y : Bool). x && y) (blank_is b f) (rest (sym (pieces_blank b bs f) ∙ h))

pub no_piece_empty : (bs : List ℕ) → pieces bs ≡ [] → is_empty_line bs ≡ true
no_piece_empty [] h = refl
no_piece_empty (b ∷ bs) h = empty_at b bs (in_word b) (is_plain b) refl refl h (no_piece_empty bs)

unmapped : (ps : List Piece) → map token_of ps ≡ [] → ps ≡ []
unmapped [] h = refl
unmapped (p ∷ ps) h = absurd cc

pub no_token_empty : (bs : List ℕ) → tokens bs ≡ [] → is_empty_line bs ≡ true
no_token_empty bs h = no_piece_empty bs (unmapped (pieces bs) h)

-- ---- with nothing before the comment

not_plain : (b : ℕ) → is_blank b ≡ true → is_plain b ≡ false
not_plain b h = grind arith

pub empty_pieces : (bs : List ℕ) → is_empty_line bs ≡ true → pieces bs ≡ []
empty_pieces [] h = none_yet
empty_pieces (b ∷ bs) h = let p = and_parts (is_blank b) (is_empty_line bs) h in pieces_blank b bs (not_plain b p.0) ∙ empty_pieces bs p.1

pub empty_tokens : (bs : List ℕ) → is_empty_line bs ≡ true → tokens bs ≡ []
empty_tokens bs h = ap (map token_of) (empty_pieces bs h)

pub empty_clean : (bs : List ℕ) → is_empty_line bs ≡ true → keeps_characters bs ≡ true
empty_clean bs h = clean_none bs (empty_pieces bs h)

-- ---- as the list of its symbols tells

none_in : (ts : List Token) → length ts ≡ 0 → ts ≡ []
none_in [] h = refl
none_in (t ∷ ts) h = absurd (omega (arith, h))

pub told_empty : (ss : List Symbol) (bs : List ℕ) → AreTold ss (tokens bs) → length ss ≡ 0 → is_empty_line bs ≡ true
told_empty ss bs h e = no_token_empty bs (none_in (tokens bs) (sym (told_length ss (tokens bs) h) ∙ e))

filled_at : (bs : List ℕ) (t : Bool) → is_empty_line bs ≡ t → 0 < length (tokens bs) → t ≡ false
filled_at bs true e lt = absurd (omega (arith, lt, ap length (empty_tokens bs e)))
filled_at bs false e lt = refl

pub told_filled : (ss : List Symbol) (bs : List ℕ) → AreTold ss (tokens bs) → 0 < length ss → is_empty_line bs ≡ false
told_filled ss bs h lt = filled_at bs (is_empty_line bs) refl (omega (arith, lt, told_length ss (tokens bs) h))

unclean_at : (bs : List ℕ) (t : Bool) → is_empty_line bs ≡ t → keeps_characters bs ≡ false → t ≡ false
unclean_at bs true e h = absurd (let f : true ≡ false = sym (empty_clean bs e) ∙ h in cc)
unclean_at bs false e h = refl

pub unclean_filled : (bs : List ℕ) → keeps_characters bs ≡ false → is_empty_line bs ≡ false
unclean_filled bs h = unclean_at bs (is_empty_line bs) refl h
