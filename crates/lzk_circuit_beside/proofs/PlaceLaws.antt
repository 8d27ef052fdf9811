-- Places of the whole's inputs: those in a row, and those of two lists, are of its wires.
use Rattle.std.proofs.Common.{◌≡◌, ℕ, ◌+◌, ◌-◌, ◌<◌, ◌≤◌, List, ◌++◌, length, sym, ap, subst, ◌∙◌, arith, inl, inr, get_or-append-add, length-append}
use Rattle.std.specs.List.{range_with_len}
use Rattle.std.proofs.lemmas.Bool.{cases_lt}
use Rattle.std.proofs.lemmas.List.{get_or_append_left}
use Rattle.std.proofs.lemmas.List.FromFn.{length-range_with_len, get_or-range_with_len}
use Rattle.lzk_circuit_reduce.specs.Renumbering.{at, AreNumbersBelow}

pub row_below : (width a n : ℕ) → a + n ≤ width → AreNumbersBelow width (range_with_len a n)
row_below width a n l k lk =
    let inside : k < n = omega (arith, length-range_with_len a n, lk) in
    subst (λ (x : ℕ). x < width) (sym (get_or-range_with_len a n k 0 inside)) (omega (arith, inside, l))

pub both_below : (width : ℕ) (xs ys : List ℕ) → AreNumbersBelow width xs → AreNumbersBelow width ys → AreNumbersBelow width (xs ++ ys)
both_below width xs ys hx hy k l =
    elim (cases_lt k (length xs)) [
      | inl less ↦ subst (λ (n : ℕ). n < width) (sym (get_or_append_left xs ys 0 k less)) (hx k less)
      | inr more ↦
          let there : length xs + (k - length xs) ≡ k = omega (arith, more) in
          let inside : k - length xs < length ys = omega (arith, length-append xs ys, l, more) in
          let is : at (xs ++ ys) k ≡ at ys (k - length xs) = ap (at (xs ++ ys)) (sym there) ∙ get_or-append-add xs ys (k - length xs) 0 in
          subst (λ (n : ℕ). n < width) (sym is) (hy (k - length xs) inside)
    ]
