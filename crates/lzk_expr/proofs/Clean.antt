-- The characters of a line, piece by piece.
use Rattle.std.proofs.Common.{◌≡◌, ℕ, Bool, true, false, ◌&&◌, List, [], ◌∷◌, refl, sym, ◌∙◌, ap, arith}
use Rattle.std.specs.List.{list_all}
use Rattle.lzk_expr.specs.Texts.{is_plain, is_blank, begins}
use Rattle.lzk_expr.specs.Tokens.{Piece, Word, Sign, in_word, is_sign, pieces, onto, keeps_characters}
use Rattle.lzk_expr.specs.TokenReadings.{is_clean}
use Rattle.lzk_expr.proofs.Pieces.{pieces_onto, pieces_blank, pieces_sign}

clean_onto : (b : ℕ) (t : Bool) (ps : List Piece) → list_all is_clean (onto b t ps) ≡ list_all is_clean ps
clean_onto b false ps = refl
clean_onto b true [] = refl
clean_onto b true (Word w ∷ ps) = refl
clean_onto b true (Sign c ∷ ps) = refl

clean_at : (b : ℕ) (bs : List ℕ) (t s : Bool) → in_word b ≡ t → is_plain b ≡ s → list_all is_clean (pieces bs) ≡ keeps_characters bs → list_all is_clean (pieces (b ∷ bs)) ≡ keeps_characters (b ∷ bs)
clean_at b bs true s e f h =
    let same : keeps_characters (b ∷ bs) ≡ keeps_characters bs = rw e refl in
    ap (list_all is_clean) (pieces_onto b bs (begins in_word bs) e refl) ∙ clean_onto b (begins in_word bs) (pieces bs) ∙ h ∙ sym same
clean_at b bs false true e f h =
    let plain : is_blank b ≡ false = grind arith in
    let same : keeps_characters (b ∷ bs) ≡ (is_sign b && keeps_characters bs) = rw (e, plain) refl in
    ap (list_all is_clean) (pieces_sign b bs e f) ∙ ap (λ (x : Bool). is_sign b && x) h ∙ sym same
clean_at b bs false false e f h =
    let blank : is_blank b ≡ true = grind arith in
    let same : keeps_characters (b ∷ bs) ≡ keeps_characters bs = rw (e, blank) refl in
    ap (list_all is_clean) (pieces_blank b bs f) ∙ h ∙ sym same

clean_pieces : (bs : List ℕ) → list_all is_clean (pieces bs) ≡ keeps_characters bs
unfolding pieces
clean_pieces [] = refl
clean_pieces (b ∷ bs) = clean_at b bs (in_word b) (is_plain b) refl refl (clean_pieces bs)

-- with its first piece
pub clean_step : (bs rest : List ℕ) (p : Piece) → pieces bs ≡ p ∷ pieces rest → keeps_characters bs ≡ (is_clean p && keeps_characters rest)
clean_step bs rest p h = sym (clean_pieces bs) ∙ ap (list_all is_clean) h ∙ ap (λ (x : Bool). is_clean p && x) (clean_pieces rest)

-- with none
pub clean_none : (bs : List ℕ) → pieces bs ≡ [] → keeps_characters bs ≡ true
clean_none bs h = sym (clean_pieces bs) ∙ ap (list_all is_clean) h

pub clean_first : (bs rest : List ℕ) (p : Piece) → pieces bs ≡ p ∷ pieces rest → is_clean p ≡ true → keeps_characters bs ≡ keeps_characters rest
clean_first bs rest p h e = clean_step bs rest p h ∙ ap (λ (x : Bool). x && keeps_characters rest) e

pub unclean : (bs rest : List ℕ) (p : Piece) → pieces bs ≡ p ∷ pieces rest → is_clean p ≡ false → keeps_characters bs ≡ false
unclean bs rest p h e = clean_step bs rest p h ∙ ap (λ (x : Bool). x && keeps_characters rest) e

pub clean_same : (bs cs : List ℕ) → pieces bs ≡ pieces cs → keeps_characters bs ≡ keeps_characters cs
clean_same bs cs h = sym (clean_pieces bs) ∙ ap (list_all is_clean) h ∙ clean_pieces cs
