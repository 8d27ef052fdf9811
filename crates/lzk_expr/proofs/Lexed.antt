-- The text of a tree, and its tokens.
use Rattle.std.proofs.Common.{◌≡◌, ℕ, ◌+◌, ◌*◌, ◌-◌, ◌≤◌, ◌<◌, ◌^◌, Bool, true, false, cond, ◌&&◌, ◌||◌, ◌==◌, nat_le, List, [], ◌∷◌, ◌++◌, map, length, Option, Some, None, refl, sym, ◌∙◌, ap, append_assoc, arith, bytes_eq, ltb-true}
use Rattle.std.specs.Prelude.{codes, decimal, nat_lt}
use Rattle.std.specs.List.{list_all}
use Rattle.std.specs.Str.Parse.{AllDigits, digits_value, digits_value_after}
use Rattle.std.specs.Char.{digit_value}
use Rattle.std.proofs.lemmas.Fmt.{decimal_is_IsNumeral_wide}
use Rattle.std.proofs.lemmas.Bool.{and_parts, lt-ltb, ltb-false}
use Rattle.std.proofs.lemmas.Bool.Decides.{nat_tests}
use Rattle.std.proofs.lemmas.List.Folds.{list_all-append}
use Rattle.lzk_expr.specs.Built.{IsNameWord}
use Rattle.lzk_expr.specs.declared.tokens.Keyword.TheVariants as keys
use Rattle.lzk_expr.specs.Texts.{begins, is_blank, is_marked, number_of, value_in, digit_of}
use Rattle.lzk_expr.specs.Tokens.{Token, tokens, token_of, word_token, plain_token, number_token, Piece, Word, Sign, in_word, is_digit, is_sign, pieces, onto, keeps_characters}
use Rattle.lzk_expr.specs.Tokens as token
use Rattle.lzk_expr.specs.Grammar.{Sum, Single, Plus, Less, Product, Lone, Times, Factor, Plain, Minus, Atom, Number, Name, Group, sum_tokens, product_tokens, factor_tokens, atom_tokens}
use Rattle.lzk_expr.proofs.Pieces.{pieces_onto}
use Rattle.lzk_expr.proofs.Tables.{same_bytes}

and_both : (a b : Bool) → a ≡ true → b ≡ true → (a && b) ≡ true
and_both true b e f = f
and_both false b e f = e

-- ---- texts

abbrev mutual
  pub sum_text : Sum → List ℕ
  sum_text (Single p) = product_text p
  sum_text (Plus s p) = sum_text s ++ (32 ∷ 43 ∷ 32 ∷ product_text p)
  sum_text (Less s p) = sum_text s ++ (32 ∷ 45 ∷ 32 ∷ product_text p)

  pub product_text : Product → List ℕ
  product_text (Lone f) = factor_text f
  product_text (Times p f) = product_text p ++ (32 ∷ 42 ∷ 32 ∷ factor_text f)

  pub factor_text : Factor → List ℕ
  factor_text (Plain a) = atom_text a
  factor_text (Minus a) = 45 ∷ atom_text a

  pub atom_text : Atom → List ℕ
  atom_text (Number n) = decimal n
  atom_text (Name w) = w
  atom_text (Group s) = 40 ∷ (sum_text s ++ (41 ∷ []))

-- what holds of each name and of each number of a tree
abbrev mutual
  pub SumHas : (List ℕ → Type 0) → (ℕ → Type 0) → Sum → Type 0
  SumHas P Q (Single p) = ProductHas P Q p
  SumHas P Q (Plus s p) = SumHas P Q s × ProductHas P Q p
  SumHas P Q (Less s p) = SumHas P Q s × ProductHas P Q p

  pub ProductHas : (List ℕ → Type 0) → (ℕ → Type 0) → Product → Type 0
  ProductHas P Q (Lone f) = FactorHas P Q f
  ProductHas P Q (Times p f) = ProductHas P Q p × FactorHas P Q f

  pub FactorHas : (List ℕ → Type 0) → (ℕ → Type 0) → Factor → Type 0
  FactorHas P Q (Plain a) = AtomHas P Q a
  FactorHas P Q (Minus a) = AtomHas P Q a

  pub AtomHas : (List ℕ → Type 0) → (ℕ → Type 0) → Atom → Type 0
  AtomHas P Q (Number n) = Q n
  AtomHas P Q (Name w) = P w
  AtomHas P Q (Group s) = SumHas P Q s

-- ---- words

pieces_more : (b : ℕ) (w rest : List ℕ) → in_word b ≡ true → list_all in_word w ≡ true → begins in_word rest ≡ false → pieces (b ∷ (w ++ rest)) ≡ Word (b ∷ w) ∷ pieces rest
pieces_more b [] rest h all e = pieces_onto b rest false h e
pieces_more b (c ∷ w) rest h all e =
    let p = and_parts (in_word c) (list_all in_word w) all in
    pieces_onto b (c ∷ (w ++ rest)) true h p.0 ∙ ap (onto b true) (pieces_more c w rest p.0 p.1 e)

word_lexed : (w rest : List ℕ) → begins in_word w ≡ true → list_all in_word w ≡ true → begins in_word rest ≡ false → tokens (w ++ rest) ≡ word_token w ∷ tokens rest
word_lexed [] rest h all e = absurd cc
word_lexed (b ∷ w) rest h all e = ap (map token_of) (pieces_more b w rest h (and_parts (in_word b) (list_all in_word w) all).1 e)

pub name_lexed : (w rest : List ℕ) → IsNameWord w → begins in_word rest ≡ false → tokens (w ++ rest) ≡ token.Name w ∷ tokens rest
name_lexed w rest h e = word_lexed w rest h.some h.all e ∙ ap (λ (t : Token). t ∷ tokens rest) h.token_is

-- ---- numbers

abbrev IsDigits : List ℕ → Type 0
IsDigits w = list_all is_digit w ≡ true

abbrev letter_value : ℕ → ℕ
letter_value c = cond (nat_lt c 65) 36 (cond (nat_lt c 91) (c - 55) (cond (nat_lt c 97) 36 (cond (nat_lt c 123) (c - 87) 36)))

letter_large : (c : ℕ) → 58 ≤ c → 10 ≤ letter_value c
letter_large c h = grind (arith, nat_tests)

digit_at : (c : ℕ) (a b : Bool) → nat_lt c 48 ≡ a → nat_lt c 58 ≡ b → cond a 36 (cond b (c - 48) (letter_value c)) < 10 → (48 ≤ c) × (c ≤ 57) × (cond a 36 (cond b (c - 48) (letter_value c)) ≡ c - 48)
digit_at c true b e f h = absurd (omega arith)
digit_at c false true e f h = (ltb-false c 48 e, omega (arith, ltb-true c 58 f), refl)
digit_at c false false e f h = absurd (omega (arith, letter_large c (ltb-false c 58 f)))

digit_test : (c : ℕ) → 48 ≤ c → c ≤ 57 → (is_digit c ≡ true) × (digit_of c ≡ c - 48)
digit_test c h k = let both : is_digit c ≡ true = grind (arith, nat_tests) in (both, digit_of_at (is_digit c) c both)
  where
    digit_of_at : (b : Bool) (c : ℕ) → b ≡ true → cond b (c - 48) (cond (nat_le 97 c && nat_le c 102) (c - 87) (cond (nat_le 65 c && nat_le c 70) (c - 55) 16)) ≡ c - 48
    digit_of_at true c e = refl
    digit_of_at false c e = absurd cc

digit_is : (c : ℕ) → digit_value c < 10 → (is_digit c ≡ true) × (digit_of c ≡ digit_value c)
digit_is c h =
    let r = digit_at c (nat_lt c 48) (nat_lt c 58) refl refl h in
    let t = digit_test c r.0 r.1 in
    (t.0, t.1 ∙ sym r.2)

pub digits_all : (w : List ℕ) → AllDigits 10 w → list_all is_digit w ≡ true
digits_all [] h = refl
digits_all (c ∷ w) h = and_both (is_digit c) (list_all is_digit w) (digit_is c h.0).0 (digits_all w h.1)

read_at : (b : Bool) (o : Option ℕ) → b ≡ true → cond b o None ≡ o
read_at true o e = refl
read_at false o e = absurd cc

digits_read : (w : List ℕ) (have : ℕ) → AllDigits 10 w → value_in 10 have w ≡ Some (digits_value_after 10 have w)
unfolding value_in
digits_read [] have h = refl
digits_read (c ∷ w) have h =
    let d = digit_is c h.0 in
    read_at (nat_lt (digit_of c) 10) (value_in 10 (have * 10 + digit_of c) w) (lt-ltb (digit_of c) 10 (omega (arith, d.1, h.0))) ∙ ap (λ n. value_in 10 (have * 10 + n) w) d.1 ∙ digits_read w (have * 10 + digit_value c) h.1

digit_no_mark : (c : ℕ) → is_digit c ≡ true → (c == 120) ≡ false
digit_no_mark c h = grind (arith, nat_tests)

and_no : (a b : Bool) → (a && (b && false)) ≡ false
and_no true true = refl
and_no true false = refl
and_no false b = refl

not_marked : (w : List ℕ) → list_all is_digit w ≡ true → is_marked w ≡ false
not_marked [] h = refl
not_marked (b ∷ []) h = refl
not_marked (b ∷ c ∷ w) h =
    let second = (and_parts (is_digit c) (list_all is_digit w) (and_parts (is_digit b) (is_digit c && list_all is_digit w) h).1).0 in
    ap (λ (t : Bool). nat_lt 2 (length (b ∷ c ∷ w)) && ((b == 48) && t)) (digit_no_mark c second) ∙ and_no (nat_lt 2 (length (b ∷ c ∷ w))) (b == 48)

not_empty : (w : List ℕ) → 0 < length w → (length w == 0) ≡ false
not_empty w h = grind (arith, nat_tests)

number_is : (w : List ℕ) → 0 < length w → AllDigits 10 w → number_of w ≡ Some (digits_value 10 w)
unfolding number_of
number_is w some h = rw (not_marked w (digits_all w h), not_empty w some) (digits_read w 0 h)

digit_word : (c : ℕ) → is_digit c ≡ true → in_word c ≡ true
digit_word c h = grind (arith, nat_tests)

pub digits_word : (w : List ℕ) → list_all is_digit w ≡ true → list_all in_word w ≡ true
digits_word [] h = refl
digits_word (c ∷ w) h = let p = and_parts (is_digit c) (list_all is_digit w) h in and_both (in_word c) (list_all in_word w) (digit_word c p.0) (digits_word w p.1)

digits_begin : (w : List ℕ) → 0 < length w → list_all is_digit w ≡ true → begins is_digit w ≡ true
digits_begin [] some h = absurd (omega arith)
digits_begin (c ∷ w) some h = (and_parts (is_digit c) (list_all is_digit w) h).0

word_begin : (w : List ℕ) → 0 < length w → list_all in_word w ≡ true → begins in_word w ≡ true
word_begin [] some h = absurd (omega arith)
word_begin (c ∷ w) some h = (and_parts (in_word c) (list_all in_word w) h).0

no_key_at : (w k : List ℕ) (b : Bool) → bytes_eq w k ≡ b → begins is_digit w ≡ true → begins is_digit k ≡ false → b ≡ false
no_key_at w k true e h f = let same : begins is_digit w ≡ begins is_digit k = ap (begins is_digit) (same_bytes w k e) in absurd cc
no_key_at w k false e h f = refl

no_key : (w k : List ℕ) → begins is_digit w ≡ true → begins is_digit k ≡ false → bytes_eq w k ≡ false
no_key w k h f = no_key_at w k (bytes_eq w k) refl h f

digits_token : (w : List ℕ) → begins is_digit w ≡ true → word_token w ≡ number_token (number_of w)
unfolding word_token
digits_token w h = rw (no_key w (codes "field") h refl, no_key w (codes "public") h refl, no_key w (codes "private") h refl, no_key w (codes "let") h refl, no_key w (codes "assert") h refl, h) refl

-- a number that is printed
pub record IsPrinted (n : ℕ) : Type 0 where
  pub some : 0 < length (decimal n)
  pub digits : AllDigits 10 (decimal n)
  pub value : digits_value 10 (decimal n) ≡ n

pub is_printed : (n : ℕ) → n < 10 ^ 64 → IsPrinted n
is_printed n h = let d = decimal_is_IsNumeral_wide n h in record { some = d.0.0; digits = d.0.1; value = d.1 }

pub number_lexed : (n : ℕ) (rest : List ℕ) → IsPrinted n → begins in_word rest ≡ false → tokens (decimal n ++ rest) ≡ token.Number n ∷ tokens rest
number_lexed n rest h e =
    let digits = digits_all (decimal n) h.digits in
    let word = digits_word (decimal n) digits in
    word_lexed (decimal n) rest (word_begin (decimal n) h.some word) word e
    ∙ ap (λ (t : Token). t ∷ tokens rest) (digits_token (decimal n) (digits_begin (decimal n) h.some digits) ∙ ap number_token (number_is (decimal n) h.some h.digits) ∙ ap (λ m. token.Number m) h.value)

-- ---- signs

lex_plus : (bs : List ℕ) → tokens (32 ∷ 43 ∷ 32 ∷ bs) ≡ token.Plus ∷ tokens bs
unfolding pieces
lex_plus bs = refl

lex_less : (bs : List ℕ) → tokens (32 ∷ 45 ∷ 32 ∷ bs) ≡ token.Minus ∷ tokens bs
unfolding pieces
lex_less bs = refl

lex_times : (bs : List ℕ) → tokens (32 ∷ 42 ∷ 32 ∷ bs) ≡ token.Times ∷ tokens bs
unfolding pieces
lex_times bs = refl

lex_minus : (bs : List ℕ) → tokens (45 ∷ bs) ≡ token.Minus ∷ tokens bs
unfolding pieces
lex_minus bs = refl

lex_open : (bs : List ℕ) → tokens (40 ∷ bs) ≡ token.Open ∷ tokens bs
unfolding pieces
lex_open bs = refl

lex_close : (bs : List ℕ) → tokens (41 ∷ bs) ≡ token.Close ∷ tokens bs
unfolding pieces
lex_close bs = refl

pub lex_equals : (bs : List ℕ) → tokens (32 ∷ 61 ∷ 32 ∷ bs) ≡ token.Equals ∷ tokens bs
unfolding pieces
lex_equals bs = refl

pub lex_public : (bs : List ℕ) → tokens (codes "public " ++ bs) ≡ token.Key keys.Public ∷ tokens bs
unfolding pieces word_token
lex_public bs = refl

pub lex_private : (bs : List ℕ) → tokens (codes "private " ++ bs) ≡ token.Key keys.Private ∷ tokens bs
unfolding pieces word_token
lex_private bs = refl

pub lex_let : (bs : List ℕ) → tokens (codes "let " ++ bs) ≡ token.Key keys.Let ∷ tokens bs
unfolding pieces word_token
lex_let bs = refl

pub lex_assert : (bs : List ℕ) → tokens (codes "assert " ++ bs) ≡ token.Key keys.Assert ∷ tokens bs
unfolding pieces word_token
lex_assert bs = refl

-- ---- trees

mutual
  pub sum_lexed : (s : Sum) (rest : List ℕ) → SumHas IsNameWord IsPrinted s → begins in_word rest ≡ false → tokens (sum_text s ++ rest) ≡ sum_tokens s ++ tokens rest
  sum_lexed (Single p) rest h e = product_lexed p rest h e
  sum_lexed (Plus s p) rest h e =
      ap tokens (append_assoc (sum_text s) (32 ∷ 43 ∷ 32 ∷ product_text p) rest)
      ∙ sum_lexed s (32 ∷ 43 ∷ 32 ∷ (product_text p ++ rest)) h.0 refl
      ∙ ap (λ (ts : List Token). sum_tokens s ++ ts) (lex_plus (product_text p ++ rest) ∙ ap (λ (ts : List Token). token.Plus ∷ ts) (product_lexed p rest h.1 e))
      ∙ sym (append_assoc (sum_tokens s) (token.Plus ∷ product_tokens p) (tokens rest))
  sum_lexed (Less s p) rest h e =
      ap tokens (append_assoc (sum_text s) (32 ∷ 45 ∷ 32 ∷ product_text p) rest)
      ∙ sum_lexed s (32 ∷ 45 ∷ 32 ∷ (product_text p ++ rest)) h.0 refl
      ∙ ap (λ (ts : List Token). sum_tokens s ++ ts) (lex_less (product_text p ++ rest) ∙ ap (λ (ts : List Token). token.Minus ∷ ts) (product_lexed p rest h.1 e))
      ∙ sym (append_assoc (sum_tokens s) (token.Minus ∷ product_tokens p) (tokens rest))

  product_lexed : (p : Product) (rest : List ℕ) → ProductHas IsNameWord IsPrinted p → begins in_word rest ≡ false → tokens (product_text p ++ rest) ≡ product_tokens p ++ tokens rest
  product_lexed (Lone f) rest h e = factor_lexed f rest h e
  product_lexed (Times p f) rest h e =
      ap tokens (append_assoc (product_text p) (32 ∷ 42 ∷ 32 ∷ factor_text f) rest)
      ∙ product_lexed p (32 ∷ 42 ∷ 32 ∷ (factor_text f ++ rest)) h.0 refl
      ∙ ap (λ (ts : List Token). product_tokens p ++ ts) (lex_times (factor_text f ++ rest) ∙ ap (λ (ts : List Token). token.Times ∷ ts) (factor_lexed f rest h.1 e))
      ∙ sym (append_assoc (product_tokens p) (token.Times ∷ factor_tokens f) (tokens rest))

  factor_lexed : (f : Factor) (rest : List ℕ) → FactorHas IsNameWord IsPrinted f → begins in_word rest ≡ false → tokens (factor_text f ++ rest) ≡ factor_tokens f ++ tokens rest
  factor_lexed (Plain a) rest h e = atom_lexed a rest h e
  factor_lexed (Minus a) rest h e = lex_minus (atom_text a ++ rest) ∙ ap (λ (ts : List Token). token.Minus ∷ ts) (atom_lexed a rest h e)

  atom_lexed : (a : Atom) (rest : List ℕ) → AtomHas IsNameWord IsPrinted a → begins in_word rest ≡ false → tokens (atom_text a ++ rest) ≡ atom_tokens a ++ tokens rest
  atom_lexed (Number n) rest h e = number_lexed n rest h e
  atom_lexed (Name w) rest h e = name_lexed w rest h e
  atom_lexed (Group s) rest h e =
      lex_open ((sum_text s ++ (41 ∷ [])) ++ rest)
      ∙ ap (λ (ts : List Token). token.Open ∷ ts) (ap tokens (append_assoc (sum_text s) (41 ∷ []) rest) ∙ sum_lexed s (41 ∷ rest) h refl
      ∙ ap (λ (ts : List Token). sum_tokens s ++ ts) (lex_close rest) ∙ sym (append_assoc (sum_tokens s) (token.Close ∷ []) (tokens rest)))

-- ---- characters

abbrev pub is_character : ℕ → Bool
is_character b = in_word b || (is_blank b || is_sign b)

word_character : (b : ℕ) → in_word b ≡ true → is_character b ≡ true
word_character b h = ap (λ (t : Bool). t || (is_blank b || is_sign b)) h

pub word_characters : (w : List ℕ) → list_all in_word w ≡ true → list_all is_character w ≡ true
word_characters [] h = refl
word_characters (b ∷ w) h = let p = and_parts (in_word b) (list_all in_word w) h in and_both (is_character b) (list_all is_character w) (word_character b p.0) (word_characters w p.1)

pub joined_characters : (xs ys : List ℕ) → list_all is_character xs ≡ true → list_all is_character ys ≡ true → list_all is_character (xs ++ ys) ≡ true
joined_characters xs ys h k = list_all-append is_character xs ys ∙ and_both (list_all is_character xs) (list_all is_character ys) h k

mutual
  pub sum_characters : (s : Sum) → SumHas IsNameWord IsPrinted s → list_all is_character (sum_text s) ≡ true
  sum_characters (Single p) h = product_characters p h
  sum_characters (Plus s p) h = joined_characters (sum_text s) (32 ∷ 43 ∷ 32 ∷ product_text p) (sum_characters s h.0) (product_characters p h.1)
  sum_characters (Less s p) h = joined_characters (sum_text s) (32 ∷ 45 ∷ 32 ∷ product_text p) (sum_characters s h.0) (product_characters p h.1)

  product_characters : (p : Product) → ProductHas IsNameWord IsPrinted p → list_all is_character (product_text p) ≡ true
  product_characters (Lone f) h = factor_characters f h
  product_characters (Times p f) h = joined_characters (product_text p) (32 ∷ 42 ∷ 32 ∷ factor_text f) (product_characters p h.0) (factor_characters f h.1)

  factor_characters : (f : Factor) → FactorHas IsNameWord IsPrinted f → list_all is_character (factor_text f) ≡ true
  factor_characters (Plain a) h = atom_characters a h
  factor_characters (Minus a) h = atom_characters a h

  atom_characters : (a : Atom) → AtomHas IsNameWord IsPrinted a → list_all is_character (atom_text a) ≡ true
  atom_characters (Number n) h = word_characters (decimal n) (digits_word (decimal n) (digits_all (decimal n) h.digits))
  atom_characters (Name w) h = word_characters w h.all
  atom_characters (Group s) h = joined_characters (sum_text s) (41 ∷ []) (sum_characters s h) refl
