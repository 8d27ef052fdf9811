-- What a simulator makes passes, and it makes all that passes by one list of free elements each.
use Rattle.lzk_profile.specs.Profile.{opened_count}
use Rattle.std.specs.Prelude.{◌≡◌, ℕ, ◌+◌, ◌-◌, ◌*◌, ◌<◌, ◌≤◌, cond, nat_lt, List, length, map, slice_index, [], ◌∷◌}
use Rattle.std.specs.List.{range_with_len}
use Rattle.std.proofs.Common.{suc, refl, sym, ap, ◌∙◌, arith, subst}
use Rattle.std.proofs.lemmas.Bool.{lt-ltb, le-ltb}
use Rattle.std.proofs.lemmas.List.FromFn.{length-map-range_with_len, get_or-map-range_with_len, get_or-range_with_len, length-range_with_len}
use Rattle.lzk_field.specs.Coding.{Coding}
use Rattle.lzk_field.specs.Ring.{Ops, RingLaws}
use Rattle.lzk_field.specs.Sums.{sum_below, minus, entry}
use Rattle.lzk_field.proofs.Solve.{var, ◌⊞◌, ◌⊟◌, solve}
use Rattle.lzk_field.proofs.SumLaws.{sum-ext}
use Rattle.lzk_poly.specs.Extension.{extension}
use Rattle.lzk_circuit.specs.Valid.{Wiring}
use Rattle.lzk_layout.specs.declared.params.Params.{Params}
use Rattle.lzk_layout.specs.declared.proof.Proof.{Proof}
use Rattle.lzk_layout.specs.Sizes.{AreBounded, params_of}
use Rattle.lzk_layout.proofs.SizeLaws.{params_bounded}
use Rattle.lzk_sumcheck.specs.declared.script.Script.{Script}
use Rattle.lzk_accept.specs.declared.challenges.Challenges.{Challenges}
use Rattle.lzk_accept.specs.Checks.{combined_row_of, wanted_of}
use Rattle.lzk_hiding.specs.Laws.{SimulatedPasses}
use Rattle.lzk_soundness.specs.Sumchecks.Passing.{Passes}
use Rattle.lzk_hiding.specs.Seen.{AreColumns}
use Rattle.lzk_hiding.specs.Simulated.{ldt_free, dot_free, head_free, tail_free, point_at, free_messages, free_ldt, last_dot, dot_at, free_dot, free_quads, free_behind, cell, free_columns, simulated}
use Rattle.lzk_hiding.proofs.Joint.{more}
use Rattle.lzk_hiding.proofs.Lists.{length-flat_map, entry_of_flat}

module _ {A : Type 0} (o : Ops A) (e : Coding A) (r : RingLaws o) (c : Wiring A) (public : List A) (s : Script A) (ch : Challenges A) (columns : List ℕ) (b : AreBounded (params_of c)) (are : AreColumns (params_of c) columns) where
  abbrev p : Params
  p = params_of c

  module _ (free : ℕ → A) where
    abbrev made : Proof A
    made = simulated o e c public s ch columns free

    abbrev C : ℕ → ℕ → A
    C = cell o e c public s ch columns free

    abbrev all_columns : List A
    all_columns = free_columns o e c public s ch columns free

    abbrev dots : List A
    dots = free_dot o e c public s ch columns free

    abbrev D : ℕ → A
    D = dot_at o e c public s ch columns free

    abbrev B : ℕ → ℕ → A
    B = free_behind o e c public s ch columns free

    abbrev M : List A
    M = free_messages o e c public s ch columns free

    length_cells : (k : ℕ) → length (map (C k) (range_with_len 0 p.nrow)) ≡ p.nrow
    length_cells k = length-map-range_with_len (C k) 0 p.nrow

    length_columns : length all_columns ≡ opened_count * p.nrow
    length_columns = length-flat_map (λ k. map (C k) (range_with_len 0 p.nrow)) p.nrow (range_with_len 0 opened_count) length_cells ∙ ap (λ (n : ℕ). n * p.nrow) (length-range_with_len 0 opened_count)

    pub column_cell : (k i : ℕ) → k < opened_count → i < p.nrow → entry o all_columns (k * p.nrow + i) ≡ C k i
    column_cell k i h d =
        let at : slice_index (range_with_len 0 opened_count) k ≡ k = get_or-range_with_len 0 opened_count k 0 h ∙ omega arith in
        entry_of_flat o (λ k. map (C k) (range_with_len 0 p.nrow)) p.nrow (range_with_len 0 opened_count) k i length_cells (omega (arith, h, length-range_with_len 0 opened_count)) d
        ∙ ap (λ (j : ℕ). entry o (map (C j) (range_with_len 0 p.nrow)) i) at
        ∙ get_or-map-range_with_len (C k) 0 p.nrow i i o.zero d (omega arith)

    dot_entry : (x : ℕ) → x < p.dblock → entry o dots x ≡ D x
    dot_entry x h = get_or-map-range_with_len D 0 p.dblock x x o.zero h (omega arith)

    pub dot_low : (x : ℕ) → x < p.block - 1 → D x ≡ free (dot_free p + x)
    dot_low x h = ap (λ y. cond y (free (dot_free p + x)) (cond (nat_lt x p.block) (last_dot o e c public s ch columns free) (free (dot_free p + (x - 1))))) (lt-ltb x (p.block - 1) h)

    pub dot_last : D (p.block - 1) ≡ last_dot o e c public s ch columns free
    dot_last =
        let x = p.block - 1 in
        ap (λ y. cond y (free (dot_free p + x)) (cond (nat_lt x p.block) (last_dot o e c public s ch columns free) (free (dot_free p + (x - 1))))) (le-ltb x (p.block - 1) (omega arith))
        ∙ ap (λ y. cond y (last_dot o e c public s ch columns free) (free (dot_free p + (x - 1)))) (lt-ltb x p.block (omega (arith, b.block)))

    pub dot_high : (x : ℕ) → p.block ≤ x → D x ≡ free (dot_free p + (x - 1))
    dot_high x h =
        ap (λ y. cond y (free (dot_free p + x)) (cond (nat_lt x p.block) (last_dot o e c public s ch columns free) (free (dot_free p + (x - 1))))) (le-ltb x (p.block - 1) (omega (arith, h)))
        ∙ ap (λ y. cond y (last_dot o e c public s ch columns free) (free (dot_free p + (x - 1)))) (le-ltb x p.block h)

    -- ---- it passes

    sum_wanted : sum_below o (p.block - opened_count) (λ k. entry o dots (opened_count + k)) ≡ wanted_of o e.element c public s M ch
    sum_wanted =
        let n = p.wr - 1 in
        let f : ℕ → A = λ k. entry o dots (opened_count + k) in
        let g : ℕ → A = λ k. free (dot_free p + (opened_count + k)) in
        let W = wanted_of o e.element c public s M ch in
        let one_more : p.block - opened_count ≡ suc n = omega (arith, b.block, b.wide) in
        let last : opened_count + n ≡ p.block - 1 = omega (arith, b.wide, b.block) in
        ap (λ (m : ℕ). sum_below o m f) one_more
        ∙ ap (λ x. o.plus x (f n)) (sum-ext o r n f g (λ k h. dot_entry (opened_count + k) (omega (arith, h, b.block, b.dblock)) ∙ dot_low (opened_count + k) (omega (arith, h, last))))
        ∙ ap (o.plus (sum_below o n g)) (dot_entry (opened_count + n) (omega (arith, last, b.block, b.dblock)) ∙ ap D last ∙ dot_last)
        ∙ solve o r (sum_below o n g ∷ W ∷ []) (var 0 ⊞ (var 1 ⊟ var 0)) (var 1) refl

    behind_is : (k i : ℕ) → k < opened_count → 3 ≤ i → i < p.nrow → entry o all_columns (k * p.nrow + i) ≡ B k i
    behind_is k i h d q =
        let z : suc (suc (suc (i - 3))) ≡ i = omega (arith, d) in
        subst (λ (m : ℕ). entry o all_columns (k * p.nrow + m) ≡ B k m) z (column_cell k (suc (suc (suc (i - 3)))) h (omega (arith, d, q)))

    row_zero : (k : ℕ) → k < opened_count → entry o all_columns (k * p.nrow + 0) ≡ C k 0
    row_zero k h = column_cell k 0 h (omega (arith, b.rows))

    row_one : (k : ℕ) → k < opened_count → entry o all_columns (k * p.nrow + 1) ≡ C k 1
    row_one k h = column_cell k 1 h (omega (arith, b.rows))

    row_two : (k : ℕ) → k < opened_count → entry o all_columns (k * p.nrow + 2) ≡ C k 2
    row_two k h = column_cell k 2 h (omega (arith, b.rows))

    pub makes_passing : Passes o e c public s ch columns made
    unfolding simulated
    makes_passing = record {
      messages = length-map-range_with_len free 0 p.nsum;
      ldt = length-map-range_with_len (λ x. free (ldt_free p + x)) 0 p.block;
      dot = length-map-range_with_len D 0 p.dblock;
      quad_head = length-map-range_with_len (λ x. free (head_free p + x)) 0 opened_count;
      quad_tail = length-map-range_with_len (λ x. free (tail_free p + x)) 0 (p.dblock - p.block);
      opened = length_columns ∙ ap (λ (n : ℕ). n * p.nrow) (sym are.count);
      low_degree = λ k h.
          let few : k < opened_count = omega (arith, h, are.count) in
          let here : ℕ → A = λ i. entry o all_columns (k * p.nrow + i) in
          more o r (extension o e.element (free_ldt o e c public s ch columns free) (point_at o e c public s ch columns k)) (here 0) (sum_below o (p.nrow - 3) (λ i. o.times (entry o ch.u i) (here (3 + i))))
          (row_zero k few ∙ ap (minus o _) (sym (sum-ext o r (p.nrow - 3) (λ i. o.times (entry o ch.u i) (here (3 + i))) (λ i. o.times (entry o ch.u i) (B k (3 + i)))
          (λ i q. ap (o.times (entry o ch.u i)) (behind_is k (3 + i) few (omega arith) (omega (arith, q)))))));
      linear_sum = sum_wanted;
      linear = λ k h.
          let few : k < opened_count = omega (arith, h, are.count) in
          let here : ℕ → A = λ i. entry o all_columns (k * p.nrow + i) in
          let a : ℕ → A = λ i. extension o e.element (combined_row_of o e.element c public s M ch (3 + i)) (point_at o e c public s ch columns k) in
          more o r (extension o e.element dots (point_at o e c public s ch columns k)) (here 1) (sum_below o (p.nrow - 3) (λ i. o.times (a i) (here (3 + i))))
          (row_one k few ∙ ap (minus o _) (sym (sum-ext o r (p.nrow - 3) (λ i. o.times (a i) (here (3 + i))) (λ i. o.times (a i) (B k (3 + i)))
          (λ i q. ap (o.times (a i)) (behind_is k (3 + i) few (omega arith) (omega (arith, q)))))));
      quadratic = λ k h.
          let few : k < opened_count = omega (arith, h, are.count) in
          let here : ℕ → A = λ i. entry o all_columns (k * p.nrow + i) in
          let I : ℕ → ℕ → A = λ t which. here (3 + p.nwrow + 3 * t + which) in
          let T : ℕ → A = λ t. let first = 3 + p.nwrow + 3 * t in minus o (o.times (B k first) (B k (first + 1))) (B k (first + 2)) in
          let U : ℕ → A = λ t. minus o (o.times (I t 0) (I t 1)) (I t 2) in
          more o r (extension o e.element (free_quads o e c public s ch columns free) (point_at o e c public s ch columns k)) (here 2) (sum_below o p.ntriple (λ t. o.times (entry o ch.v t) (U t)))
          (row_two k few ∙ ap (minus o _) (sym (sum-ext o r p.ntriple (λ t. o.times (entry o ch.v t) (U t)) (λ t. o.times (entry o ch.v t) (T t))
          (λ t q.
          let first = 3 + p.nwrow + 3 * t in
          let y : first + 0 ≡ first = omega arith in
          ap (o.times (entry o ch.v t))
          (ap (λ w. minus o (o.times w (I t 1)) (I t 2)) (behind_is k (first + 0) few (omega arith) (omega (arith, q, b.rows)) ∙ ap (B k) y)
          ∙ ap (λ w. minus o (o.times (B k first) w) (I t 2)) (behind_is k (first + 1) few (omega arith) (omega (arith, q, b.rows)))
          ∙ ap (minus o (o.times (B k first) (B k (first + 1)))) (behind_is k (first + 2) few (omega arith) (omega (arith, q, b.rows))))))));
    }

pub simulated_passes : {A : Type 0} (o : Ops A) (e : Coding A) → RingLaws o → SimulatedPasses o e
simulated_passes o e r = λ c public s ch columns free valid are. makes_passing o e r c public s ch columns (params_bounded o c valid) are (entry o free)
