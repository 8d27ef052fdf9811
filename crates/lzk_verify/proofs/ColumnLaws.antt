-- Sums over the elements of a column and over the values of rows.
use Rattle.lzk_profile.specs.Profile.{opened_count}
use Rattle.std.specs.Prelude.{◌≡◌, ℕ, ◌+◌, ◌-◌, ◌*◌, ◌<◌, ◌≤◌, List, length, take, drop}
use Rattle.std.proofs.Common.{sym, ap, ◌∙◌, arith}
use Rattle.std.proofs.lemmas.List.{get_or-drop, get_or-take}
use Rattle.lzk_field.specs.Ring.{Ops, RingLaws}
use Rattle.lzk_field.specs.Sums.{sum_below, entry, minus, dot_product}
use Rattle.lzk_field.proofs.RingBasics.{times_zero}
use Rattle.lzk_field.proofs.SumLaws.{sum-ext, sum-zero, sum-times, sum-times_right, sum-swap, sum-split}
use Rattle.lzk_poly.specs.Extension.{extension}
use Rattle.lzk_layout.specs.declared.params.Params.{Params}
use Rattle.lzk_accept.specs.declared.factored.Factored.{Factored}
use Rattle.lzk_accept.specs.Factored.{by_factors}
use Rattle.lzk_verify.specs.Desk.{AreWeightedRows}
use Rattle.lzk_verify.specs.Extending.{Extends, row_sum, weighted}
use Rattle.lzk_verify.proofs.Extended.{length_weighted}

module _ {A : Type 0} (o : Ops A) where
  -- the sum of products with the elements from a place on
  pub dot_behind : (r : RingLaws o) (u column : List A) (m n : ℕ) (at : ℕ → A) → length u ≡ n → ((i : ℕ) → i < n → entry o column (m + i) ≡ at (m + i)) → dot_product o u (drop m column) ≡ sum_below o n (λ i. o.times (entry o u i) (at (m + i)))
  dot_behind r u column m n at size is =
      ap (λ k. sum_below o k (λ i. o.times (entry o u i) (entry o (drop m column) i))) size
      ∙ sum-ext o r n (λ i. o.times (entry o u i) (entry o (drop m column) i)) (λ i. o.times (entry o u i) (at (m + i)))
      (λ i h. ap (o.times (entry o u i)) (get_or-drop m column i o.zero ∙ is i h))

  -- entry i of a part of a list
  pub part_entry : (xs : List A) (n a i : ℕ) → i < n → entry o (take n (drop a xs)) i ≡ entry o xs (a + i)
  part_entry xs n a i h = get_or-take n (drop a xs) i o.zero h ∙ get_or-drop a xs i o.zero

  -- the sum of products with a part of a list
  pub dot_part : (r : RingLaws o) (xs ys part : List A) (n a : ℕ) → length part ≡ n → ((i : ℕ) → i < n → entry o part i ≡ entry o xs (a + i)) → dot_product o part ys ≡ sum_below o n (λ i. o.times (entry o xs (a + i)) (entry o ys i))
  dot_part r xs ys part n a size is =
      ap (λ k. sum_below o k (λ i. o.times (entry o part i) (entry o ys i))) size
      ∙ sum-ext o r n (λ i. o.times (entry o part i) (entry o ys i)) (λ i. o.times (entry o xs (a + i)) (entry o ys i)) (λ i h. ap (λ w. o.times w (entry o ys i)) (is i h))

  -- the product of two elements less a third, of equal ones
  pub same_triple : {x y z a b c : A} → x ≡ a → y ≡ b → z ≡ c → minus o (o.times x y) z ≡ minus o (o.times a b) c
  same_triple p q r = λ i. minus o (o.times (p i) (q i)) (r i)

  -- the sum of a row's products depends on what stands at the places
  pub row_sum_as : (r : RingLaws o) (table part : List A) (k n : ℕ) (at : ℕ → A) → length part ≡ n → ((i : ℕ) → i < n → entry o part i ≡ at i)
      → row_sum o table part k ≡ sum_below o n (λ i. o.times (entry o table (k * n + i)) (at i))
  row_sum_as r table part k n at size is =
      (λ j. sum_below o (size j) (λ i. o.times (entry o table (k * size j + i)) (entry o part i)))
      ∙ sum-ext o r n (λ i. o.times (entry o table (k * n + i)) (entry o part i)) (λ i. o.times (entry o table (k * n + i)) (at i)) (λ i h. ap (o.times (entry o table (k * n + i))) (is i h))

  -- the sum of products with values of which the first ones are zero
  pub sum_behind : (r : RingLaws o) (front back : ℕ) (x y : ℕ → A) → ((s : ℕ) → s < front → x s ≡ o.zero) → sum_below o (front + back) (λ s. o.times (x s) (y s)) ≡ sum_below o back (λ s. o.times (x (front + s)) (y (front + s)))
  sum_behind r front back x y zeros =
      sum-split o r front back (λ s. o.times (x s) (y s))
      ∙ ap (λ z. o.plus z (sum_below o back (λ s. o.times (x (front + s)) (y (front + s)))))
      (sum-ext o r front (λ s. o.times (x s) (y s)) (λ s. o.zero) (λ s h. ap (λ z. o.times z (y s)) (zeros s h) ∙ r.times_comm o.zero (y s) ∙ times_zero o r (y s)) ∙ sum-zero o r front)
      ∙ r.plus_comm o.zero _ ∙ r.plus_zero _

  -- the products of sums of products with values are the products of the first factors with the others' sums
  pub factored_sum : (r : RingLaws o) (m w : ℕ) (by y : ℕ → A) (place : ℕ → ℕ → A)
      → sum_below o w (λ s. o.times (sum_below o m (λ k. o.times (by k) (place k s))) (y s)) ≡ sum_below o m (λ k. o.times (by k) (sum_below o w (λ s. o.times (place k s) (y s))))
  factored_sum r m w by y place =
      sum-ext o r w (λ s. o.times (sum_below o m (λ k. o.times (by k) (place k s))) (y s)) (λ s. sum_below o m (λ k. o.times (by k) (o.times (place k s) (y s))))
      (λ s h.
      sym (sum-times_right o r m (y s) (λ k. o.times (by k) (place k s)))
      ∙ sum-ext o r m (λ k. o.times (o.times (by k) (place k s)) (y s)) (λ k. o.times (by k) (o.times (place k s) (y s))) (λ k q. r.times_assoc (by k) (place k s) (y s)))
      ∙ sum-swap o r w m (λ s k. o.times (by k) (o.times (place k s) (y s)))
      ∙ sum-ext o r m (λ k. sum_below o w (λ s. o.times (by k) (o.times (place k s) (y s)))) (λ k. o.times (by k) (sum_below o w (λ s. o.times (place k s) (y s))))
      (λ k h. sum-times o r w (by k) (λ s. o.times (place k s) (y s)))

  -- so many sums of multiples, each times a factor, are the sum over all elements of each times what its factors give
  pub multiples_swapped : (r : RingLaws o) (m n : ℕ) (by at : ℕ → A) (row : ℕ → ℕ → A)
      → sum_below o m (λ k. o.times (sum_below o n (λ i. o.times (row k i) (at i))) (by k)) ≡ sum_below o n (λ i. o.times (at i) (sum_below o m (λ k. o.times (row k i) (by k))))
  multiples_swapped r m n by at row =
      sum-ext o r m (λ k. o.times (sum_below o n (λ i. o.times (row k i) (at i))) (by k)) (λ k. sum_below o n (λ i. o.times (at i) (o.times (row k i) (by k))))
      (λ k h.
      sym (sum-times_right o r n (by k) (λ i. o.times (row k i) (at i)))
      ∙ sum-ext o r n (λ i. o.times (o.times (row k i) (at i)) (by k)) (λ i. o.times (at i) (o.times (row k i) (by k)))
      (λ i q. ap (λ w. o.times w (by k)) (r.times_comm (row k i) (at i)) ∙ r.times_assoc (at i) (row k i) (by k)))
      ∙ sum-swap o r m n (λ k i. o.times (at i) (o.times (row k i) (by k)))
      ∙ sum-ext o r n (λ i. sum_below o m (λ k. o.times (at i) (o.times (row k i) (by k)))) (λ i. o.times (at i) (sum_below o m (λ k. o.times (row k i) (by k))))
      (λ i h. sum-times o r m (at i) (λ k. o.times (row k i) (by k)))

  -- rows are as long as when they are weighted
  pub rows_long : (element : ℕ → A) (p : Params) (f : Factored A) (lists : ℕ → List A) → AreWeightedRows o element p f lists → (i : ℕ) → length (lists i) ≡ p.block
  rows_long element p f lists are i = sym (length_weighted o element (lists i)) ∙ are.lengths i

  module _ (r : RingLaws o) (element : ℕ → A) (p : Params) (point : ℕ) (column factors : List A) (last : A) (f : Factored A) (lists : ℕ → List A) (are : AreWeightedRows o element p f lists) (block : p.block ≡ opened_count + p.wr) (few : f.rows ≤ p.nrow - 3) (size : length factors ≡ p.block) (long : (i : ℕ) → length (lists i) ≡ p.block) (extends : Extends o element point factors last) where
    abbrev weighted_row : ℕ → List A
    weighted_row i = weighted o element (lists i)

    abbrev back : ℕ → A
    back s = entry o factors (opened_count + s)

    -- the sum over the places of a row's elements
    abbrev behind : ℕ → A
    behind i = sum_below o p.wr (λ s. o.times (entry o (weighted_row (3 + i)) (opened_count + s)) (back s))

    abbrev place_sum : ℕ → A
    place_sum k = sum_below o p.wr (λ s. o.times (entry o f.place_factors (k * p.wr + s)) (back s))

    abbrev table_sum : ℕ → A
    table_sum i = sum_below o p.wr (λ s. o.times (entry o f.table (i * p.wr + s)) (back s))

    extended : (i : ℕ) → extension o element (lists (3 + i)) point ≡ o.times (behind i) last
    extended i =
        let xs = weighted_row (3 + i) in
        let wide : length xs ≡ opened_count + p.wr = are.lengths (3 + i) ∙ block in
        sym (extends (lists (3 + i)) (long (3 + i) ∙ sym size))
        ∙ ap (λ z. o.times z last) (ap (λ n. sum_below o n (λ s. o.times (entry o xs s) (entry o factors s))) wide ∙ sum_behind r opened_count p.wr (entry o xs) (entry o factors) (are.front (3 + i)))

    private_behind : (i : ℕ) → i < f.rows → behind i ≡ sum_below o 4 (λ k. o.times (entry o f.row_factors (k * f.rows + i)) (place_sum k))
    private_behind i h =
        sum-ext o r p.wr (λ s. o.times (entry o (weighted_row (3 + i)) (opened_count + s)) (back s)) (λ s. o.times (by_factors o p.wr f i s) (back s)) (λ s q. ap (λ z. o.times z (back s)) (sym (are.back.private_rows i s h q)))
        ∙ factored_sum r 4 p.wr (λ k. entry o f.row_factors (k * f.rows + i)) back (λ k s. entry o f.place_factors (k * p.wr + s))

    other_behind : (i : ℕ) → i < p.nrow - 3 - f.rows → behind (f.rows + i) ≡ table_sum i
    other_behind i h =
        sum-ext o r p.wr (λ s. o.times (entry o (weighted_row (3 + (f.rows + i))) (opened_count + s)) (back s)) (λ s. o.times (entry o f.table (i * p.wr + s)) (back s)) (λ s q. ap (λ z. o.times z (back s)) (sym (are.back.other_rows i s h q)))

    -- What the rows add at a point, by factors and over a table, is the sum of the rows' extensions times the elements.
    pub linear_sums : o.times (o.plus (sum_below o 4 (λ k. o.times (sum_below o f.rows (λ i. o.times (entry o f.row_factors (k * f.rows + i)) (entry o column (3 + i)))) (place_sum k)))
        (sum_below o (p.nrow - 3 - f.rows) (λ i. o.times (entry o column (3 + (f.rows + i))) (table_sum i)))) last
        ≡ sum_below o (p.nrow - 3) (λ i. o.times (extension o element (lists (3 + i)) point) (entry o column (3 + i)))
    linear_sums =
        let m = f.rows in
        let n = p.nrow - 3 - m in
        let all : m + n ≡ p.nrow - 3 = omega arith in
        let term : ℕ → A = λ i. o.times (entry o column (3 + i)) (behind i) in
        let private : sum_below o 4 (λ k. o.times (sum_below o m (λ i. o.times (entry o f.row_factors (k * m + i)) (entry o column (3 + i)))) (place_sum k)) ≡ sum_below o m term =
        multiples_swapped r 4 m place_sum (λ i. entry o column (3 + i)) (λ k i. entry o f.row_factors (k * m + i))
        ∙ sum-ext o r m (λ i. o.times (entry o column (3 + i)) (sum_below o 4 (λ k. o.times (entry o f.row_factors (k * m + i)) (place_sum k)))) term (λ i h. ap (o.times (entry o column (3 + i))) (sym (private_behind i h))) in
        let others : sum_below o n (λ i. o.times (entry o column (3 + (m + i))) (table_sum i)) ≡ sum_below o n (λ i. term (m + i)) =
        sum-ext o r n (λ i. o.times (entry o column (3 + (m + i))) (table_sum i)) (λ i. term (m + i)) (λ i h. ap (o.times (entry o column (3 + (m + i)))) (sym (other_behind i h))) in
        ap (λ z. o.times z last) ((λ j. o.plus (private j) (others j)) ∙ sym (sum-split o r m n term) ∙ ap (λ k. sum_below o k term) all)
        ∙ sym (sum-times_right o r (p.nrow - 3) last term)
        ∙ sum-ext o r (p.nrow - 3) (λ i. o.times (term i) last) (λ i. o.times (extension o element (lists (3 + i)) point) (entry o column (3 + i)))
        (λ i h.
        r.times_assoc (entry o column (3 + i)) (behind i) last
        ∙ r.times_comm (entry o column (3 + i)) (o.times (behind i) last)
        ∙ ap (λ z. o.times z (entry o column (3 + i))) (sym (extended i)))
