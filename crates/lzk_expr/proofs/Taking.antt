-- Words and lines one after the other.
use Rattle.std.proofs.Common.{◌≡◌, ℕ, ◌+◌, ◌<◌, ◌≤◌, List, [], ◌∷◌, length, Option, Some, None, Ok, Err, refl, ◌∙◌, arith, sym, ◌++◌, ap, Bor, ◌-◌, MatchOption}
use Rattle.std.proofs.lemmas.Bool.{lt-ltb, le-ltb}
use Rattle.lzk_expr.specs.Texts.{runs, is_plain, IsRun, IsLine, lines, content, number_of}
use Rattle.lzk_expr.specs.Numbers.{word_as, words_to, lines_to, numbers_of}
use Rattle.lzk_expr.specs.declared.fault.NumberKind.TheVariants.{Syntax, TooLarge, TooFew, TooMany}
use Rattle.lzk_expr.specs.declared.fault.NumberFault.{NumberFault}

pub not_word : (size count line : ℕ) (before : List ℕ) (o : Option ℕ) → o ≡ None → word_as size count line before o ≡ Err (record { line = line; kind = Syntax })
not_word size count line before o e = rw e refl

pub many_words : (size count line n : ℕ) (before : List ℕ) (o : Option ℕ) → o ≡ Some n → count ≤ length before → word_as size count line before o ≡ Err (record { line = line; kind = TooMany })
many_words size count line n before o e full = rw (e, le-ltb (length before) count full) refl

pub one_word : (size count line n m : ℕ) (before : List ℕ) (o : Option ℕ) → o ≡ Some n → length before < count → n < size → m ≡ n → word_as size count line before o ≡ Ok (before ++ m ∷ [])
one_word size count line n m before o e room small is = rw (e, lt-ltb (length before) count room, lt-ltb n size small) (ap (λ (k : ℕ). Ok (before ++ k ∷ [])) (sym is))

pub large_word : (size count line n : ℕ) (before : List ℕ) (o : Option ℕ) → o ≡ Some n → size ≤ n → length before < count → word_as size count line before o ≡ Err (record { line = line; kind = TooLarge })
large_word size count line n before o e big room = rw (e, lt-ltb (length before) count room, le-ltb n size big) refl

pub words_next : (size count line : ℕ) (bytes word rest have more : List ℕ) → IsRun is_plain bytes word rest → word_as size count line have (number_of word) ≡ Ok more
    → words_to size count line (runs is_plain bytes) have ≡ words_to size count line (runs is_plain rest) more
unfolding words_to
words_next size count line bytes word rest have more h e = ap (λ ws. words_to size count line ws have) h.runs_are ∙ rw e refl

pub words_stop : (size count line : ℕ) (bytes word rest have : List ℕ) (f : NumberFault) → IsRun is_plain bytes word rest → word_as size count line have (number_of word) ≡ Err f
    → words_to size count line (runs is_plain bytes) have ≡ Err f
unfolding words_to
words_stop size count line bytes word rest have f h e = ap (λ ws. words_to size count line ws have) h.runs_are ∙ rw e refl

pub words_done : (size count line : ℕ) (bytes have : List ℕ) → runs is_plain bytes ≡ [] → words_to size count line (runs is_plain bytes) have ≡ Ok have
unfolding words_to
words_done size count line bytes have e = ap (λ ws. words_to size count line ws have) e

-- the lines that are left
abbrev pub lines_left : Option (Bor (List ℕ)) → List (List ℕ)
lines_left None = []
lines_left (Some t) = lines t.now

abbrev pub left_size : Option (Bor (List ℕ)) → ℕ
left_size None = 0
left_size (Some t) = 1 + length t.now

-- what is left of the text at a line
pub record Left (size count line : ℕ) (text : List ℕ) (left : Option (Bor (List ℕ))) (have : List ℕ) : Type 0 where
  pub at : line + length (lines_left left) ≡ 1 + length (lines text)
  pub room : line + left_size left ≤ 2 + length text
  pub read : lines_to size count 1 (lines text) [] ≡ lines_to size count line (lines_left left) have

pub lines_step : (size count line : ℕ) (now have more : List ℕ) (later : List (List ℕ)) → words_to size count line (runs is_plain (content now)) have ≡ Ok more → lines_to size count line (now ∷ later) have ≡ lines_to size count (line + 1) later more
unfolding lines_to
lines_step size count line now have more later e = rw e refl

pub lines_stop : (size count line : ℕ) (now have : List ℕ) (later : List (List ℕ)) (f : NumberFault) → words_to size count line (runs is_plain (content now)) have ≡ Err f → lines_to size count line (now ∷ later) have ≡ Err f
unfolding lines_to
lines_stop size count line now have later f e = rw e refl

-- what next_line gives
abbrev pub IsNext : List ℕ → List ℕ → Option (Bor (List ℕ)) → Type 0
IsNext behind now after = MatchOption after (lines behind ≡ now ∷ []) (λ rest. IsLine behind now rest.now)

pub left_next : (size count line : ℕ) (text now have more : List ℕ) (behind : Bor (List ℕ)) (after : Option (Bor (List ℕ))) → IsNext behind.now now after → Left size count line text (Some behind) have
    → words_to size count line (runs is_plain (content now)) have ≡ Ok more → Left size count (line + 1) text after more
left_next size count line text now have more behind None next h e = record {
  at = omega (arith, h.at, ap length next);
  room = omega (arith, h.room);
  read = h.read ∙ ap (λ ls. lines_to size count line ls have) next ∙ lines_step size count line now have more [] e;
}
left_next size count line text now have more behind (Some rest) next h e = record {
  at = omega (arith, h.at, ap length next.lines_are);
  room = omega (arith, h.room, next.shorter);
  read = h.read ∙ ap (λ ls. lines_to size count line ls have) next.lines_are ∙ lines_step size count line now have more (lines rest.now) e;
}

first_line : (behind now : List ℕ) (after : Option (Bor (List ℕ))) → IsNext behind now after → (later : List (List ℕ)) × (lines behind ≡ now ∷ later)
first_line behind now None next = ([], next)
first_line behind now (Some rest) next = (lines rest.now, next.lines_are)

pub left_stop : (size count line : ℕ) (text now have : List ℕ) (behind : Bor (List ℕ)) (after : Option (Bor (List ℕ))) (f : NumberFault) → IsNext behind.now now after → Left size count line text (Some behind) have
    → words_to size count line (runs is_plain (content now)) have ≡ Err f → numbers_of size count text ≡ Err f
unfolding numbers_of
left_stop size count line text now have behind after f next h e =
    let l = first_line behind.now now after next in
    let whole : lines_to size count 1 (lines text) [] ≡ Err f = h.read ∙ ap (λ ls. lines_to size count line ls have) l.1 ∙ lines_stop size count line now have l.0 f e in
    rw whole refl

pub left_few : (size count line : ℕ) (text have : List ℕ) → Left size count line text None have → length have < count → numbers_of size count text ≡ Err (record { line = line - 1; kind = TooFew })
unfolding numbers_of lines_to
left_few size count line text have h few =
    let number : length (lines text) ≡ line - 1 = omega (arith, h.at) in
    rw (h.read, lt-ltb (length have) count few, number) refl

pub left_done : (size count line : ℕ) (text have : List ℕ) → Left size count line text None have → count ≤ length have → numbers_of size count text ≡ Ok have
unfolding numbers_of lines_to
left_done size count line text have h enough = rw (h.read, le-ltb (length have) count enough) refl
