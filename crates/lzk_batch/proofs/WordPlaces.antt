-- Where a text may be cut at its words.
use Rattle.std.proofs.Common.{◌≡◌, ℕ, zero, suc, ◌+◌, ◌<◌, ◌≤◌, false, List, length, get_or, position, Some, sym, subst, inl, inr, arith}
use Rattle.std.specs.Str.{IsUtf8, IsCharBoundary}
use Rattle.std.specs.List.{prefix_len}
use Rattle.std.proofs.lemmas.Bool.{cases_lt}
use Rattle.std.proofs.lemmas.Bool.Decides.{nat_tests}
use Rattle.std.proofs.lemmas.Str.{IsCharBoundary-start, IsCharBoundary-end, IsCharBoundary-before_ascii, IsCharBoundary-after_ascii}
use Rattle.std.proofs.lemmas.List.Sums.{fails_before_first, prefix_len_stops}
use Rattle.lzk_expr.specs.Texts.{is_plain}
use Rattle.lzk_expr.proofs.Runs.{found_at}

-- a blank is ASCII
blank_low : (b : ℕ) → is_plain b ≡ false → b < 128
blank_low b h = grind (arith, nat_tests, h)

-- before its first word
pub word_start : (bs : List ℕ) (start : ℕ) → IsUtf8 bs → position is_plain bs ≡ Some start → IsCharBoundary bs start
word_start bs zero utf8 at = IsCharBoundary-start bs utf8
word_start bs (suc k) utf8 at =
    let f = found_at is_plain bs (suc k) at in
    let blank : is_plain (get_or bs k 0) ≡ false = fails_before_first is_plain bs k 0 (omega (arith, f.0)) in
    let e : k + 1 ≡ suc k = omega arith in
    subst (IsCharBoundary bs) e (IsCharBoundary-after_ascii bs k utf8 (omega (arith, f.1)) (blank_low (get_or bs k 0) blank))

-- behind the word that it begins with
pub word_end : (bs : List ℕ) (len : ℕ) → len ≡ prefix_len is_plain bs → len ≤ length bs → IsCharBoundary bs len
word_end bs len is within = elim (cases_lt len (length bs)) [
  | inl lt ↦
      let stops : is_plain (get_or bs len 0) ≡ false = subst (λ n. is_plain (get_or bs n 0) ≡ false) (sym is) (prefix_len_stops is_plain bs 0 (omega (arith, is, lt))) in
      IsCharBoundary-before_ascii bs len lt (blank_low (get_or bs len 0) stops)
  | inr le ↦
      let e : length bs ≡ len = omega (arith, le, within) in
      subst (IsCharBoundary bs) e (IsCharBoundary-end bs)
]
