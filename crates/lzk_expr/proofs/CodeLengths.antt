-- How many symbols a line has.
use Rattle.std.proofs.Common.{◌≡◌, ℕ, ◌+◌, ◌<◌, ◌≤◌, ◌^◌, ◌==◌, Bool, true, false, List, [], ◌∷◌, length, refl, ap, arith, length-append}
use Rattle.std.specs.List.{position_or_len, onto_first}
use Rattle.std.proofs.lemmas.Bool.Decides.{nat_tests}
use Rattle.std.proofs.lemmas.List.{length-map, length-take}
use Rattle.std.proofs.lemmas.List.Splits.{slice_split-cons_yes, slice_split-cons_no}
use Rattle.lzk_expr.specs.declared.tokens.Symbol.{Symbol}
use Rattle.lzk_expr.specs.declared.tokens.Symbol.TheVariants as symbol
use Rattle.lzk_expr.specs.declared.tokens.Keyword.{Keyword}
use Rattle.lzk_expr.specs.Texts.{is_plain, begins, lines, content, is_hash, is_feed}
use Rattle.lzk_expr.specs.Tokens.{Piece, Word, Sign, pieces, onto, in_word, Token, tokens, token_of}
use Rattle.lzk_expr.specs.Tokens as token
use Rattle.lzk_expr.specs.TokenReadings.{Tells, AreTold}
use Rattle.lzk_expr.specs.SymbolForms.{IsKeyed, Defines, AreHalves}
use Rattle.lzk_expr.proofs.Empty.{told_length}
use Rattle.lzk_expr.proofs.Pieces.{pieces_onto, pieces_blank, pieces_sign}

-- a token that the symbol is
some_token : (s : Symbol) → (t : Token) × Tells s t
some_token (symbol.Number n) = (token.Number n, refl)
some_token symbol.Large = (token.Number (2 ^ 128), (2 ^ 128, refl, omega arith))
some_token (symbol.Name w) = (token.Name w.now, refl)
some_token (symbol.Key k) = (token.Key k, refl)
some_token symbol.Misspelt = (token.Misspelt, refl)
some_token symbol.Plus = (token.Plus, refl)
some_token symbol.Minus = (token.Minus, refl)
some_token symbol.Times = (token.Times, refl)
some_token symbol.Open = (token.Open, refl)
some_token symbol.Close = (token.Close, refl)
some_token symbol.Equals = (token.Equals, refl)

-- symbols are some tokens
pub some_tokens : (ss : List Symbol) → (ts : List Token) × AreTold ss ts
some_tokens [] = ([], tt)
some_tokens (s ∷ ss) =
    let one = some_token s in
    let rest = some_tokens ss in
    (one.0 ∷ rest.0, (one.1, rest.1))

-- behind a keyword, behind a name with its sign =, and around the sign = there are fewer
pub fewer_keyed : (ss rest : List Symbol) (k : Keyword) → ((ts : List Token) → AreTold ss ts → IsKeyed ts k rest) → length rest + 1 ≡ length ss
fewer_keyed ss rest k h =
    let some = some_tokens ss in
    let i = h some.0 some.1 in
    omega (arith, told_length ss some.0 some.1, told_length rest i.behind i.told, ap length i.keyed)

pub fewer_defined : (ss rest : List Symbol) (w : List ℕ) → ((ts : List Token) → AreTold ss ts → Defines ts w rest) → length rest + 2 ≡ length ss
fewer_defined ss rest w h =
    let some = some_tokens ss in
    let i = h some.0 some.1 in
    omega (arith, told_length ss some.0 some.1, told_length rest i.behind i.told, ap length i.defines)

pub fewer_halves : (ss before behind : List Symbol) → ((ts : List Token) → AreTold ss ts → AreHalves ts before behind) → (length before + length behind) + 1 ≡ length ss
fewer_halves ss before behind h =
    let some = some_tokens ss in
    let i = h some.0 some.1 in
    omega (arith, told_length ss some.0 some.1, told_length before i.left i.left_told, told_length behind i.right i.right_told, ap length i.split.split, length-append i.left (token.Equals ∷ i.right))

-- ---- a line has no more tokens than bytes

onto_length : (b : ℕ) (t : Bool) (ps : List Piece) → length (onto b t ps) ≤ 1 + length ps
onto_length b false ps = omega arith
onto_length b true [] = omega arith
onto_length b true (Word w ∷ ps) = omega arith
onto_length b true (Sign c ∷ ps) = omega arith

pieces_at : (b : ℕ) (bs : List ℕ) (t s : Bool) → in_word b ≡ t → is_plain b ≡ s → length (pieces bs) ≤ length bs → length (pieces (b ∷ bs)) ≤ 1 + length bs
pieces_at b bs true s e f h = omega (arith, ap length (pieces_onto b bs (begins in_word bs) e refl), onto_length b (begins in_word bs) (pieces bs))
pieces_at b bs false true e f h = omega (arith, ap length (pieces_sign b bs e f))
pieces_at b bs false false e f h = omega (arith, ap length (pieces_blank b bs f))

pieces_within : (bs : List ℕ) → length (pieces bs) ≤ length bs
unfolding pieces
pieces_within [] = omega arith
pieces_within (b ∷ bs) = let h = pieces_at b bs (in_word b) (is_plain b) refl refl (pieces_within bs) in omega (arith, h)

pub tokens_within : (bs : List ℕ) → length (tokens bs) ≤ length bs
tokens_within bs = omega (arith, length-map (pieces bs) token_of, pieces_within bs)

pub content_within : (line : List ℕ) → length (content line) ≤ length line
content_within line = omega (arith, length-take (position_or_len is_hash line) line)

-- a line has no more symbols than bytes
pub line_room : (line bytes : List ℕ) (ss : List Symbol) → bytes ≡ content line → AreTold ss (tokens bytes) → length ss ≤ length line
line_room line bytes ss e h = omega (arith, told_length ss (tokens bytes) h, tokens_within bytes, ap length e, content_within line)

pub is_zero : (n : ℕ) → (n == 0) ≡ true → n ≡ 0
is_zero n h = grind (arith, nat_tests)

pub not_zero : (n : ℕ) → (n == 0) ≡ false → 0 < n
not_zero n h = grind (arith, nat_tests)

-- ---- how long a line is

abbrev total : List (List ℕ) → ℕ
total [] = 0
total (l ∷ ls) = (1 + length l) + total ls

onto_total : (b : ℕ) (ls : List (List ℕ)) → 1 ≤ total ls → total (onto_first b ls) ≡ 1 + total ls
onto_total b [] h = absurd (omega arith)
onto_total b (l ∷ ls) h = omega arith

total_at : (b : ℕ) (bs : List ℕ) (t : Bool) → is_feed b ≡ t → total (lines bs) ≡ 1 + length bs → total (lines (b ∷ bs)) ≡ 1 + (1 + length bs)
total_at b bs true e h = omega (arith, ap total (slice_split-cons_yes is_feed b bs e))
total_at b bs false e h = let some : 1 ≤ total (lines bs) = omega (arith, h) in omega (arith, ap total (slice_split-cons_no is_feed b bs e), onto_total b (lines bs) some)

lines_total : (text : List ℕ) → total (lines text) ≡ 1 + length text
lines_total [] = refl
lines_total (b ∷ bs) = let h = total_at b bs (is_feed b) refl (lines_total bs) in omega (arith, h)

pub line_length : (text line rest : List ℕ) → lines text ≡ line ∷ lines rest → (length line + 1) + length rest ≡ length text
line_length text line rest e = omega (arith, ap total e, lines_total text, lines_total rest)

pub last_length : (text line : List ℕ) → lines text ≡ line ∷ [] → length line ≡ length text
last_length text line e = omega (arith, ap total e, lines_total text)
