-- Rows of the parameters' lengths: how long the answers' polynomials are, and what opened columns have.
use Rattle.std.specs.Prelude.{◌≡◌, ℕ, ◌+◌, ◌-◌, ◌*◌, ◌<◌, ◌≤◌, List, [], ◌∷◌, ◌++◌, length, flat_map, replicate, take, drop, slice_index}
use Rattle.std.proofs.Common.{zero, suc, sym, ap, ◌∙◌, arith}
use Rattle.std.proofs.lemmas.List.{ext_get_or, length-map, get_or-map, length-append, length-replicate, get_or-replicate, get_or-take, get_or-drop, length-take-le, length-drop, get_or_append_left, get_or-append-add}
use native.Mathlib.Decide.{dec_lt}
use Rattle.lzk_field.specs.Ring.{Ops}
use Rattle.lzk_field.specs.Sums.{entry}
use Rattle.lzk_poly.specs.Polynomial.{add, scale, multiply}
use Rattle.lzk_poly.specs.Extension.{extension}
use Rattle.lzk_poly.specs.Through.{through}
use Rattle.lzk_poly.proofs.Polynomials.{length-scale, length-add}
use Rattle.lzk_poly.proofs.ExtensionLaws.{length-multiply_most}
use Rattle.lzk_poly.proofs.Through.{length-through, length-add_below_most}
use Rattle.lzk_layout.specs.declared.params.Params.{Params}
use Rattle.lzk_layout.specs.Sizes.{AreBounded}
use Rattle.lzk_ligero_answers.specs.Rows.{row, AreRows, column_at}
use Rattle.lzk_ligero_answers.specs.Answers.{row_polynomial, low_degree_answer, linear_answer, quadratic_answer}
use Rattle.lzk_ligero_answers.specs.Laws.{ColumnsOpen}

-- an entry of lists of one length, one after the other
entry_of_flat : {A : Type 0} (o : Ops A) (f : ℕ → List A) (n : ℕ) (js : List ℕ) (k i : ℕ) → ((j : ℕ) → length (f j) ≡ n) → k < length js → i < n → entry o (flat_map f js) (k * n + i) ≡ entry o (f (slice_index js k)) i
entry_of_flat o f n [] k i same h b = absurd (omega arith)
entry_of_flat o f n (j ∷ js) zero i same h b = let z : 0 * n + i ≡ i = omega arith in ap (entry o (f j ++ flat_map f js)) z ∙ get_or_append_left (f j) (flat_map f js) o.zero i (omega (arith, b, same j))
entry_of_flat o f n (j ∷ js) (suc k) i same h b =
    let z : suc k * n + i ≡ length (f j) + (k * n + i) = omega (arith, same j) in
    ap (entry o (f j ++ flat_map f js)) z ∙ get_or-append-add (f j) (flat_map f js) (k * n + i) o.zero ∙ entry_of_flat o f n js k i same (omega arith) b

pub columns_open : {A : Type 0} (o : Ops A) (point : ℕ → A) → ColumnsOpen o point
columns_open o point p rows proof columns count is = record {
  values = λ k i h b.
      let f = λ (j : ℕ). column_at o point rows (p.dblock + j) in
      ap (λ xs. entry o xs (k * p.nrow + i)) is
      ∙ entry_of_flat o f p.nrow columns k i (λ j. length-map rows (λ values. extension o point values (p.dblock + j)) ∙ count) h b
      ∙ get_or-map (λ values. extension o point values (p.dblock + slice_index columns k)) rows i [] o.zero (omega (arith, b, count));
}

-- a list that is zero between two places is its front, zeros, and what is behind
pub with_zeros : {A : Type 0} (o : Ops A) (xs : List A) (a b : ℕ) → a ≤ b → b ≤ length xs → ((i : ℕ) → a ≤ i → i < b → entry o xs i ≡ o.zero) → take a xs ++ replicate (b - a) o.zero ++ drop b xs ≡ xs
with_zeros o xs a b h d zeros =
    let front = take a xs in
    let middle = replicate (b - a) o.zero in
    let many : length front ≡ a = length-take-le a xs (omega arith) in
    let some : length middle ≡ b - a = length-replicate (b - a) o.zero in
    let both : length (front ++ middle) ≡ b = length-append front middle ∙ omega (arith, many, some) in
    ext_get_or o.zero (front ++ middle ++ drop b xs) xs (length-append (front ++ middle) (drop b xs) ∙ omega (arith, both, length-drop b xs))
    (λ k q.
    elim (dec_lt k a) [
      | yes l ↦ get_or_append_left (front ++ middle) (drop b xs) o.zero k (omega (arith, both)) ∙ get_or_append_left front middle o.zero k (omega (arith, many)) ∙ get_or-take a xs k o.zero l
      | no l ↦ elim (dec_lt k b) [
        | yes m ↦
            let z : k ≡ length front + (k - a) = omega (arith, many) in
            get_or_append_left (front ++ middle) (drop b xs) o.zero k (omega (arith, both)) ∙ ap (entry o (front ++ middle)) z ∙ get_or-append-add front middle (k - a) o.zero
            ∙ get_or-replicate (b - a) (k - a) o.zero o.zero (omega arith) ∙ sym (zeros k (omega arith) m)
        | no m ↦
            let z : k ≡ length (front ++ middle) + (k - b) = omega (arith, both) in
            let y : b + (k - b) ≡ k = omega arith in
            ap (entry o (front ++ middle ++ drop b xs)) z ∙ get_or-append-add (front ++ middle) (drop b xs) (k - b) o.zero ∙ get_or-drop b xs (k - b) o.zero ∙ ap (entry o xs) y
      ]
    ])

module _ {A : Type 0} (o : Ops A) (point : ℕ → A) (p : Params) (rows : List (List A)) (bounds : AreBounded p) (are : AreRows p rows) where
  length_row : (i : ℕ) → i < p.nrow - 3 → length (row_polynomial o point p rows (3 + i)) ≤ p.block
  length_row i h = omega (arith, length-through o point (row rows (3 + i)), are.others i h)

  pub low_degree_short : (u : List A) → length (low_degree_answer o point p rows u) ≤ p.block
  unfolding low_degree_answer
  low_degree_short u =
      length-add o p.block _ _ (omega (arith, length-through o point (row rows 0), are.first))
      (length-add_below_most o p.block (p.nrow - 3) _ (λ i h. omega (arith, length-scale o (entry o u i) (row_polynomial o point p rows (3 + i)), length_row i h)))

  -- a product of two polynomials of rows
  short_product : (xs ys : List A) → length xs ≤ p.block → length ys ≤ p.block → length (multiply o xs ys) ≤ p.dblock
  short_product xs ys h d = omega (arith, bounds.block, bounds.dblock, length-multiply_most o p.block (p.block - 1) xs ys h (omega (arith, d, bounds.block)))

  pub linear_short : (coefficients : ℕ → List A) → ((i : ℕ) → i < p.nrow - 3 → length (coefficients (3 + i)) ≡ p.block) → length (linear_answer o point p rows coefficients) ≤ p.dblock
  unfolding linear_answer
  linear_short coefficients sizes =
      length-add o p.dblock _ _ (omega (arith, length-through o point (row rows 1), are.second))
      (length-add_below_most o p.dblock (p.nrow - 3) _ (λ i h.
      short_product (through o point (coefficients (3 + i))) (row_polynomial o point p rows (3 + i)) (omega (arith, length-through o point (coefficients (3 + i)), sizes i h)) (length_row i h)))

  pub in_triple : (t which : ℕ) → t < p.ntriple → which < 3 → length (row rows (3 + p.nwrow + 3 * t + which)) ≡ p.block
  in_triple t which h d =
      let z : 3 + p.nwrow + 3 * t + which ≡ 3 + (p.nwrow + 3 * t + which) = omega arith in
      ap (λ (i : ℕ). length (row rows i)) z ∙ are.others (p.nwrow + 3 * t + which) (omega (arith, h, d, bounds.rows))

  length_triple : (t which : ℕ) → t < p.ntriple → which < 3 → length (row_polynomial o point p rows (3 + p.nwrow + 3 * t + which)) ≤ p.block
  length_triple t which h d = omega (arith, length-through o point (row rows (3 + p.nwrow + 3 * t + which)), in_triple t which h d)

  pub quadratic_short : (v : List A) → length (quadratic_answer o point p rows v) ≤ p.dblock
  unfolding quadratic_answer
  quadratic_short v =
      length-add o p.dblock _ _ (omega (arith, length-through o point (row rows 2), are.third))
      (length-add_below_most o p.dblock p.ntriple _ (λ t h.
      let first = 3 + p.nwrow + 3 * t in
      let P = row_polynomial o point p rows in
      let y : first + 0 ≡ first = omega arith in
      let one : length (P first) ≤ p.block = omega (arith, length_triple t 0 h (omega arith), ap (λ (i : ℕ). length (P i)) y) in
      let product = short_product (P first) (P (first + 1)) one (length_triple t 1 h (omega arith)) in
      let third : length (scale o (o.neg o.one) (P (first + 2))) ≤ p.dblock = omega (arith, length-scale o (o.neg o.one) (P (first + 2)), length_triple t 2 h (omega arith), bounds.block, bounds.dblock) in
      let sum = length-add o p.dblock (multiply o (P first) (P (first + 1))) (scale o (o.neg o.one) (P (first + 2))) product third in
      omega (arith, length-scale o (entry o v t) (add o (multiply o (P first) (P (first + 1))) (scale o (o.neg o.one) (P (first + 2)))), sum)))
