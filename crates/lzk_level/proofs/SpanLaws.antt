-- Rows that stand in one list of terms.
use Rattle.std.specs.Prelude.{◌≡◌, ℕ, ◌+◌, ◌-◌, ◌≤◌, List, ◌++◌, length, take, drop}
use Rattle.std.proofs.Common.{ap, ◌∙◌, arith}
use Rattle.std.proofs.lemmas.List.{length-drop, take-append-le, drop-append-le, take_all}
use Rattle.std.proofs.Math.Seq.{drop-append_seam}
use Rattle.lzk_level.specs.Spans.{piece}

module _ {X : Type 0} where
  pub piece-kept : (xs ys : List X) (s : ℕ × ℕ) → s.0 ≤ s.1 → s.1 ≤ length xs → piece (xs ++ ys) s ≡ piece xs s
  piece-kept xs ys s l m =
      let first : s.0 ≤ length xs = omega (arith, l, m) in
      let fits : s.1 - s.0 ≤ length (drop s.0 xs) = omega (arith, length-drop s.0 xs, l, m) in
      ap (take (s.1 - s.0)) (drop-append-le s.0 xs ys first) ∙ take-append-le (s.1 - s.0) (drop s.0 xs) ys fits

  pub last-piece : (xs ys : List X) (n : ℕ) → n ≡ length xs + length ys → piece (xs ++ ys) (length xs, n) ≡ ys
  last-piece xs ys n e = ap (take (n - length xs)) (drop-append_seam xs ys) ∙ take_all (n - length xs) ys (omega (arith, e))
