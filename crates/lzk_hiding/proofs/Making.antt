-- A simulator makes all that passes, by one list of free elements each.
use Rattle.lzk_profile.specs.Profile.{opened_count}
use Rattle.std.specs.Prelude.{◌≡◌, ℕ, ◌+◌, ◌-◌, ◌*◌, ◌/◌, ◌%◌, ◌<◌, ◌≤◌, cond, nat_lt, List, ◌++◌, length, map, replicate}
use Rattle.std.specs.List.{range_with_len}
use Rattle.std.proofs.Common.{zero, suc, sym, ap, ◌∙◌, arith, subst}
use Rattle.std.proofs.lemmas.Bool.{lt-ltb, le-ltb}
use Rattle.std.proofs.lemmas.List.{ext_get_or}
use Rattle.std.proofs.lemmas.List.FromFn.{length-map-range_with_len, get_or-map-range_with_len}
use Rattle.std.proofs.lemmas.Nat.{div-add-mod'}
use Rattle.std.proofs.Math.Nat.{div-lt_iff_lt-mul, mod-lt}
use native.Mathlib.Decide.{dec_lt}
use Rattle.lzk_field.specs.Coding.{Coding}
use Rattle.lzk_field.specs.Ring.{Ops, RingLaws}
use Rattle.lzk_field.specs.Sums.{sum_below, minus, entry}
use Rattle.lzk_field.proofs.SumLaws.{sum-ext}
use Rattle.lzk_poly.specs.Extension.{extension}
use Rattle.lzk_circuit.specs.Valid.{Wiring}
use Rattle.lzk_layout.specs.declared.params.Params.{Params}
use Rattle.lzk_layout.specs.declared.proof.Proof.{Proof}
use Rattle.lzk_layout.specs.Sizes.{AreBounded, params_of}
use Rattle.lzk_layout.proofs.SizeLaws.{params_bounded}
use Rattle.lzk_sumcheck.specs.declared.script.Script.{Script}
use Rattle.lzk_accept.specs.declared.challenges.Challenges.{Challenges}
use Rattle.lzk_accept.specs.Checks as checks
use Rattle.lzk_accept.specs.Checks.{at_row, combined_row_of, wanted_of, quadratic_values}
use Rattle.lzk_hiding.specs.Counting.{HasExactly}
use Rattle.lzk_hiding.specs.Laws.{ShowSame, Makes, SimulatedOnce}
use Rattle.lzk_soundness.specs.Sumchecks.Passing.{Passes}
use Rattle.lzk_hiding.specs.Seen.{AreColumns}
use Rattle.lzk_hiding.specs.Simulated.{ldt_free, dot_free, head_free, tail_free, rows_free, free_count, point_at, free_messages, free_ldt, last_dot, dot_at, free_dot, free_head, free_tail, free_quads, free_behind, cell, free_columns, simulated}
use Rattle.lzk_hiding.proofs.Joint.{less}
use Rattle.lzk_hiding.proofs.Simulating.{column_cell, dot_low, dot_last, dot_high, makes_passing}

module _ {A : Type 0} (o : Ops A) (e : Coding A) (r : RingLaws o) (c : Wiring A) (public : List A) (s : Script A) (ch : Challenges A) (columns : List ℕ) (b : AreBounded (params_of c)) (are : AreColumns (params_of c) columns) (proof : Proof A) (pass : Passes o e c public s ch columns proof) where
  abbrev p : Params
  p = params_of c

  -- the place of a value of the linear answer behind those before it that are free
  abbrev skip : ℕ → ℕ
  skip x = cond (nat_lt x (p.block - 1)) x (x + 1)

  abbrev after_tail : ℕ → A
  after_tail i = cond (nat_lt i (rows_free p)) (entry o proof.quad_tail (i - tail_free p)) (at_row o p proof ((i - rows_free p) % opened_count) (3 + (i - rows_free p) / opened_count))

  abbrev after_head : ℕ → A
  after_head i = cond (nat_lt i (tail_free p)) (entry o proof.quad_head (i - head_free p)) (after_tail i)

  abbrev after_dot : ℕ → A
  after_dot i = cond (nat_lt i (head_free p)) (entry o proof.dot (skip (i - dot_free p))) (after_head i)

  abbrev after_ldt : ℕ → A
  after_ldt i = cond (nat_lt i (dot_free p)) (entry o proof.ldt (i - ldt_free p)) (after_dot i)

  -- free element number i of what the proof shows
  rest : ℕ → A
  rest i = cond (nat_lt i (ldt_free p)) (entry o proof.messages i) (after_ldt i)

  rest_messages : (i : ℕ) → i < p.nsum → rest i ≡ entry o proof.messages i
  unfolding rest
  rest_messages i h = ap (λ y. cond y (entry o proof.messages i) (after_ldt i)) (lt-ltb i (ldt_free p) h)

  past_messages : (i : ℕ) → ldt_free p ≤ i → rest i ≡ after_ldt i
  unfolding rest
  past_messages i h = ap (λ y. cond y (entry o proof.messages i) (after_ldt i)) (le-ltb i (ldt_free p) h)

  rest_ldt : (x : ℕ) → x < p.block → rest (ldt_free p + x) ≡ entry o proof.ldt x
  rest_ldt x h =
      let i = ldt_free p + x in
      let z : i - ldt_free p ≡ x = omega arith in
      past_messages i (omega arith) ∙ ap (λ y. cond y (entry o proof.ldt (i - ldt_free p)) (after_dot i)) (lt-ltb i (dot_free p) (omega (arith, h))) ∙ ap (entry o proof.ldt) z

  past_ldt : (i : ℕ) → dot_free p ≤ i → rest i ≡ after_dot i
  past_ldt i h = past_messages i (omega (arith, h)) ∙ ap (λ y. cond y (entry o proof.ldt (i - ldt_free p)) (after_dot i)) (le-ltb i (dot_free p) h)

  to_dot : (x : ℕ) → x < p.dblock - 1 → rest (dot_free p + x) ≡ entry o proof.dot (skip x)
  to_dot x h =
      let i = dot_free p + x in
      let z : i - dot_free p ≡ x = omega arith in
      past_ldt i (omega arith) ∙ ap (λ y. cond y (entry o proof.dot (skip (i - dot_free p))) (after_head i)) (lt-ltb i (head_free p) (omega (arith, h))) ∙ ap (λ (x : ℕ). entry o proof.dot (skip x)) z

  rest_dot_low : (x : ℕ) → x < p.block - 1 → rest (dot_free p + x) ≡ entry o proof.dot x
  rest_dot_low x h = to_dot x (omega (arith, h, b.block, b.dblock)) ∙ ap (λ y. entry o proof.dot (cond y x (x + 1))) (lt-ltb x (p.block - 1) h)

  rest_dot_high : (x : ℕ) → p.block ≤ x → x < p.dblock → rest (dot_free p + (x - 1)) ≡ entry o proof.dot x
  rest_dot_high x h d =
      let z : x - 1 + 1 ≡ x = omega (arith, h, b.block) in
      to_dot (x - 1) (omega (arith, h, d, b.block)) ∙ ap (λ y. entry o proof.dot (cond y (x - 1) (x - 1 + 1))) (le-ltb (x - 1) (p.block - 1) (omega (arith, h))) ∙ ap (entry o proof.dot) z

  past_dot : (i : ℕ) → head_free p ≤ i → rest i ≡ after_head i
  past_dot i h = past_ldt i (omega (arith, h)) ∙ ap (λ y. cond y (entry o proof.dot (skip (i - dot_free p))) (after_head i)) (le-ltb i (head_free p) h)

  rest_head : (x : ℕ) → x < opened_count → rest (head_free p + x) ≡ entry o proof.quad_head x
  rest_head x h =
      let i = head_free p + x in
      let z : i - head_free p ≡ x = omega arith in
      past_dot i (omega arith) ∙ ap (λ y. cond y (entry o proof.quad_head (i - head_free p)) (after_tail i)) (lt-ltb i (tail_free p) (omega (arith, h))) ∙ ap (entry o proof.quad_head) z

  past_head : (i : ℕ) → tail_free p ≤ i → rest i ≡ after_tail i
  past_head i h = past_dot i (omega (arith, h)) ∙ ap (λ y. cond y (entry o proof.quad_head (i - head_free p)) (after_tail i)) (le-ltb i (tail_free p) h)

  rest_tail : (x : ℕ) → x < p.dblock - p.block → rest (tail_free p + x) ≡ entry o proof.quad_tail x
  rest_tail x h =
      let i = tail_free p + x in
      let z : i - tail_free p ≡ x = omega arith in
      past_head i (omega arith)
      ∙ ap (λ y. cond y (entry o proof.quad_tail (i - tail_free p)) (at_row o p proof ((i - rows_free p) % opened_count) (3 + (i - rows_free p) / opened_count))) (lt-ltb i (rows_free p) (omega (arith, h)))
      ∙ ap (entry o proof.quad_tail) z

  rest_rows : (i k : ℕ) → k < opened_count → rest (rows_free p + opened_count * i + k) ≡ at_row o p proof k (3 + i)
  rest_rows i k h =
      let n = rows_free p + opened_count * i + k in
      let place : (n - rows_free p) % opened_count ≡ k = omega (arith, h) in
      let row : 3 + (n - rows_free p) / opened_count ≡ 3 + i = omega (arith, h) in
      past_head n (omega arith)
      ∙ ap (λ y. cond y (entry o proof.quad_tail (n - tail_free p)) (at_row o p proof ((n - rows_free p) % opened_count) (3 + (n - rows_free p) / opened_count))) (le-ltb n (rows_free p) (omega arith))
      ∙ ap (λ (k : ℕ). at_row o p proof k (3 + (n - rows_free p) / opened_count)) place ∙ ap (at_row o p proof k) row

  -- ---- with these it shows the same

  module _ (free : ℕ → A) (is : (i : ℕ) → i < free_count p → free i ≡ rest i) where
    abbrev M : List A
    M = free_messages o e c public s ch columns free

    abbrev B : ℕ → ℕ → A
    B = free_behind o e c public s ch columns free

    abbrev C : ℕ → ℕ → A
    C = cell o e c public s ch columns free

    abbrev at : ℕ → ℕ
    at = point_at o e c public s ch columns

    messages_same : proof.messages ≡ M
    messages_same =
        ext_get_or o.zero proof.messages M (pass.messages ∙ sym (length-map-range_with_len free 0 p.nsum))
        (λ i h.
        let inside : i < p.nsum = omega (arith, h, pass.messages) in
        sym (get_or-map-range_with_len free 0 p.nsum i i o.zero inside (omega arith) ∙ is i (omega (arith, inside)) ∙ rest_messages i inside))

    part_same : (xs : List A) (k n : ℕ) → length xs ≡ n → k + n ≤ free_count p → ((x : ℕ) → x < n → rest (k + x) ≡ entry o xs x) → xs ≡ map (λ x. free (k + x)) (range_with_len 0 n)
    part_same xs k n long room same =
        ext_get_or o.zero xs (map (λ x. free (k + x)) (range_with_len 0 n)) (long ∙ sym (length-map-range_with_len (λ x. free (k + x)) 0 n))
        (λ x h.
        let inside : x < n = omega (arith, h, long) in
        sym (get_or-map-range_with_len (λ x. free (k + x)) 0 n x x o.zero inside (omega arith) ∙ is (k + x) (omega (arith, inside, room)) ∙ same x inside))

    ldt_same : proof.ldt ≡ free_ldt o e c public s ch columns free
    ldt_same = part_same proof.ldt (ldt_free p) p.block pass.ldt (omega arith) rest_ldt

    head_same : proof.quad_head ≡ free_head o e c public s ch columns free
    head_same = part_same proof.quad_head (head_free p) opened_count pass.quad_head (omega arith) rest_head

    tail_same : proof.quad_tail ≡ free_tail o e c public s ch columns free
    tail_same = part_same proof.quad_tail (tail_free p) (p.dblock - p.block) pass.quad_tail (omega arith) rest_tail

    last_is : entry o proof.dot (p.block - 1) ≡ last_dot o e c public s ch columns free
    last_is =
        let n = p.wr - 1 in
        let f : ℕ → A = λ k. entry o proof.dot (opened_count + k) in
        let g : ℕ → A = λ k. free (dot_free p + (opened_count + k)) in
        let W = wanted_of o e.element c public s proof.messages ch in
        let one_more : suc n ≡ p.block - opened_count = omega (arith, b.block, b.wide) in
        let last : p.block - 1 ≡ opened_count + n = omega (arith, b.wide, b.block) in
        let sum : W ≡ o.plus (f n) (sum_below o n f) = sym pass.linear_sum ∙ ap (λ (m : ℕ). sum_below o m f) (sym one_more) ∙ r.plus_comm _ _ in
        ap (entry o proof.dot) last ∙ less o r W (f n) (sum_below o n f) sum
        ∙ ap (minus o W) (sum-ext o r n f g (λ k h. sym (is (dot_free p + (opened_count + k)) (omega (arith, h, b.block, b.dblock)) ∙ rest_dot_low (opened_count + k) (omega (arith, h, last)))))
        ∙ ap (λ m. minus o (wanted_of o e.element c public s m ch) (sum_below o n g)) messages_same

    dot_is : (x : ℕ) → x < p.dblock → entry o proof.dot x ≡ dot_at o e c public s ch columns free x
    dot_is x h =
        elim (dec_lt x (p.block - 1)) [
          | yes l ↦ sym (dot_low o e r c public s ch columns b are free x l ∙ is (dot_free p + x) (omega (arith, l, b.block, b.dblock)) ∙ rest_dot_low x l)
          | no l ↦ elim (dec_lt x p.block) [
            | yes g ↦
                let z : p.block - 1 ≡ x = omega (arith, l, g) in
                subst (λ (x : ℕ). entry o proof.dot x ≡ dot_at o e c public s ch columns free x) z (last_is ∙ sym (dot_last o e r c public s ch columns b are free))
            | no g ↦ sym (dot_high o e r c public s ch columns b are free x (omega (arith, g)) ∙ is (dot_free p + (x - 1)) (omega (arith, h, g, b.block)) ∙ rest_dot_high x (omega (arith, g)) h)
          ]
        ]

    dot_same : proof.dot ≡ free_dot o e c public s ch columns free
    dot_same =
        let D = dot_at o e c public s ch columns free in
        ext_get_or o.zero proof.dot (map D (range_with_len 0 p.dblock)) (pass.dot ∙ sym (length-map-range_with_len D 0 p.dblock))
        (λ x h. let inside : x < p.dblock = omega (arith, h, pass.dot) in dot_is x inside ∙ sym (get_or-map-range_with_len D 0 p.dblock x x o.zero inside (omega arith)))

    quads_same : quadratic_values o p proof ≡ free_quads o e c public s ch columns free
    quads_same =
        ap (λ xs. xs ++ replicate (p.block - opened_count) o.zero ++ proof.quad_tail) head_same
        ∙ ap (λ xs. free_head o e c public s ch columns free ++ replicate (p.block - opened_count) o.zero ++ xs) tail_same

    behind_same : (k i : ℕ) → k < opened_count → 3 ≤ i → i < p.nrow → at_row o p proof k i ≡ B k i
    behind_same k i h d q =
        let z : 3 + (i - 3) ≡ i = omega (arith, d) in
        ap (at_row o p proof k) (sym z) ∙ sym (is (rows_free p + opened_count * (i - 3) + k) (omega (arith, h, d, q)) ∙ rest_rows (i - 3) k h)

    cell_same : (k i : ℕ) → k < opened_count → i < p.nrow → at_row o p proof k i ≡ C k i
    cell_same k zero h d =
        let R : ℕ → A = at_row o p proof k in
        let S = sum_below o (p.nrow - 3) (λ i. o.times (entry o ch.u i) (R (3 + i))) in
        less o r (extension o e.element proof.ldt (at k)) (R 0) S (pass.low_degree k (omega (arith, h, are.count)))
        ∙ ap (λ xs. minus o (extension o e.element xs (at k)) S) ldt_same
        ∙ ap (minus o _) (sum-ext o r (p.nrow - 3) (λ i. o.times (entry o ch.u i) (R (3 + i))) (λ i. o.times (entry o ch.u i) (B k (3 + i)))
        (λ i q. ap (o.times (entry o ch.u i)) (behind_same k (3 + i) h (omega arith) (omega (arith, q)))))
    cell_same k (suc zero) h d =
        let R : ℕ → A = at_row o p proof k in
        let a : List A → ℕ → A = λ m i. extension o e.element (combined_row_of o e.element c public s m ch (3 + i)) (at k) in
        let S : List A → A = λ m. sum_below o (p.nrow - 3) (λ i. o.times (a m i) (R (3 + i))) in
        less o r (extension o e.element proof.dot (at k)) (R 1) (S proof.messages) (pass.linear k (omega (arith, h, are.count)))
        ∙ ap (λ xs. minus o (extension o e.element xs (at k)) (S proof.messages)) dot_same
        ∙ ap (λ m. minus o (extension o e.element (free_dot o e c public s ch columns free) (at k)) (S m)) messages_same
        ∙ ap (minus o _) (sum-ext o r (p.nrow - 3) (λ i. o.times (a M i) (R (3 + i))) (λ i. o.times (a M i) (B k (3 + i)))
        (λ i q. ap (o.times (a M i)) (behind_same k (3 + i) h (omega arith) (omega (arith, q)))))
    cell_same k (suc (suc zero)) h d =
        let I : ℕ → ℕ → A = checks.in_triple o p proof k in
        let T : ℕ → A = λ t. let first = 3 + p.nwrow + 3 * t in minus o (o.times (B k first) (B k (first + 1))) (B k (first + 2)) in
        let U : ℕ → A = λ t. minus o (o.times (I t 0) (I t 1)) (I t 2) in
        let S = sum_below o p.ntriple (λ t. o.times (entry o ch.v t) (U t)) in
        less o r (extension o e.element (quadratic_values o p proof) (at k)) (at_row o p proof k 2) S (pass.quadratic k (omega (arith, h, are.count)))
        ∙ ap (λ xs. minus o (extension o e.element xs (at k)) S) quads_same
        ∙ ap (minus o _) (sum-ext o r p.ntriple (λ t. o.times (entry o ch.v t) (U t)) (λ t. o.times (entry o ch.v t) (T t))
        (λ t q.
        let first = 3 + p.nwrow + 3 * t in
        let y : first + 0 ≡ first = omega arith in
        ap (o.times (entry o ch.v t))
        (ap (λ w. minus o (o.times w (I t 1)) (I t 2)) (behind_same k (first + 0) h (omega arith) (omega (arith, q, b.rows)) ∙ ap (B k) y)
        ∙ ap (λ w. minus o (o.times (B k first) w) (I t 2)) (behind_same k (first + 1) h (omega arith) (omega (arith, q, b.rows)))
        ∙ ap (minus o (o.times (B k first) (B k (first + 1)))) (behind_same k (first + 2) h (omega arith) (omega (arith, q, b.rows))))))
    cell_same k (suc (suc (suc i))) h d = behind_same k (suc (suc (suc i))) h (omega arith) d

    columns_same : proof.columns ≡ free_columns o e c public s ch columns free
    unfolding simulated
    columns_same =
        let made = makes_passing o e r c public s ch columns b are free in
        ext_get_or o.zero proof.columns (free_columns o e c public s ch columns free) (pass.opened ∙ sym made.opened)
        (λ m h.
        let k = m / p.nrow in
        let i = m % p.nrow in
        let some : 0 < p.nrow = omega (arith, b.rows) in
        let z : k * p.nrow + i ≡ m = div-add-mod' m p.nrow in
        let low : k < length columns = (div-lt_iff_lt-mul {k = p.nrow} {x = m} {y = length columns} some).1 (omega (arith, h, pass.opened)) in
        let few : k < opened_count = omega (arith, low, are.count) in
        let inside : i < p.nrow = mod-lt m (omega (arith, b.rows)) in
        subst (λ (m : ℕ). entry o proof.columns m ≡ entry o (free_columns o e c public s ch columns free) m) z
        (cell_same k i few inside ∙ sym (column_cell o e r c public s ch columns b are free k i few inside)))

    show_same : ShowSame proof (simulated o e c public s ch columns free)
    unfolding simulated
    show_same = record { messages = messages_same; ldt = ldt_same; dot = dot_same; quads = (head_same, tail_same); columns = columns_same }

  -- ---- and no others

  -- all places of free elements
  each_free : (Q : ℕ → Type 0) → ((i : ℕ) → i < p.nsum → Q i) → ((x : ℕ) → x < p.block → Q (ldt_free p + x)) → ((x : ℕ) → x < p.block - 1 → Q (dot_free p + x))
      → ((x : ℕ) → p.block ≤ x → x < p.dblock → Q (dot_free p + (x - 1))) → ((x : ℕ) → x < opened_count → Q (head_free p + x)) → ((x : ℕ) → x < p.dblock - p.block → Q (tail_free p + x))
      → ((i k : ℕ) → i < p.nrow - 3 → k < opened_count → Q (rows_free p + opened_count * i + k)) → (i : ℕ) → i < free_count p → Q i
  each_free Q a f low high g t w i h =
      elim (dec_lt i (ldt_free p)) [
        | yes l ↦ a i l
        | no l ↦ elim (dec_lt i (dot_free p)) [
          | yes m ↦ let z : ldt_free p + (i - ldt_free p) ≡ i = omega (arith, l) in subst Q z (f (i - ldt_free p) (omega (arith, l, m)))
          | no m ↦ elim (dec_lt i (head_free p)) [
            | yes n ↦ elim (dec_lt (i - dot_free p) (p.block - 1)) [
              | yes u ↦ let z : dot_free p + (i - dot_free p) ≡ i = omega (arith, m) in subst Q z (low (i - dot_free p) u)
              | no u ↦ let z : dot_free p + (i - dot_free p + 1 - 1) ≡ i = omega (arith, m) in subst Q z (high (i - dot_free p + 1) (omega (arith, u, b.block)) (omega (arith, m, n, b.dblock)))
            ]
            | no n ↦ elim (dec_lt i (tail_free p)) [
              | yes u ↦ let z : head_free p + (i - head_free p) ≡ i = omega (arith, n) in subst Q z (g (i - head_free p) (omega (arith, n, u)))
              | no u ↦ elim (dec_lt i (rows_free p)) [
                | yes v ↦ let z : tail_free p + (i - tail_free p) ≡ i = omega (arith, u) in subst Q z (t (i - tail_free p) (omega (arith, u, v)))
                | no v ↦
                    let x = i - rows_free p in
                    let z : rows_free p + opened_count * (x / opened_count) + x % opened_count ≡ i = omega (arith, v) in
                    subst Q z (w (x / opened_count) (x % opened_count) (omega (arith, h, v)) (omega arith))
              ]
            ]
          ]
        ]
      ]

  module _ (free : ℕ → A) (same : ShowSame proof (simulated o e c public s ch columns free)) where
    part_is : (xs : List A) (k n x : ℕ) → xs ≡ map (λ x. free (k + x)) (range_with_len 0 n) → x < n → entry o xs x ≡ free (k + x)
    part_is xs k n x is h = ap (λ ys. entry o ys x) is ∙ get_or-map-range_with_len (λ x. free (k + x)) 0 n x x o.zero h (omega arith)

    dot_entry : (x : ℕ) → x < p.dblock → entry o proof.dot x ≡ dot_at o e c public s ch columns free x
    unfolding simulated
    dot_entry x h = ap (λ ys. entry o ys x) same.dot ∙ get_or-map-range_with_len (dot_at o e c public s ch columns free) 0 p.dblock x x o.zero h (omega arith)

    free_rows : (i k : ℕ) → i < p.nrow - 3 → k < opened_count → rest (rows_free p + opened_count * i + k) ≡ free (rows_free p + opened_count * i + k)
    unfolding simulated
    free_rows i k h d =
        let z : 3 + i ≡ suc (suc (suc i)) = omega arith in
        let y : rows_free p + opened_count * (suc (suc (suc i)) - 3) + k ≡ rows_free p + opened_count * i + k = omega arith in
        rest_rows i k d ∙ ap (at_row o p proof k) z ∙ ap (λ ys. entry o ys (k * p.nrow + suc (suc (suc i)))) same.columns
        ∙ column_cell o e r c public s ch columns b are free k (suc (suc (suc i))) d (omega (arith, h)) ∙ ap free y

    only_free : (i : ℕ) → i < free_count p → rest i ≡ free i
    unfolding simulated
    only_free = each_free (λ i. rest i ≡ free i)
        (λ i h. rest_messages i h ∙ ap (λ ys. entry o ys i) same.messages ∙ get_or-map-range_with_len free 0 p.nsum i i o.zero h (omega arith))
        (λ x h. rest_ldt x h ∙ part_is proof.ldt (ldt_free p) p.block x same.ldt h)
        (λ x h. rest_dot_low x h ∙ dot_entry x (omega (arith, h, b.block, b.dblock)) ∙ dot_low o e r c public s ch columns b are free x h)
        (λ x h d. rest_dot_high x h d ∙ dot_entry x d ∙ dot_high o e r c public s ch columns b are free x h)
        (λ x h. rest_head x h ∙ part_is proof.quad_head (head_free p) opened_count x same.quads.0 h)
        (λ x h. rest_tail x h ∙ part_is proof.quad_tail (tail_free p) (p.dblock - p.block) x same.quads.1 h)
        free_rows

  list : List A
  list = map rest (range_with_len 0 (free_count p))

  length_list : length list ≡ free_count p
  unfolding list
  length_list = length-map-range_with_len rest 0 (free_count p)

  list_at : (i : ℕ) → i < free_count p → entry o list i ≡ rest i
  unfolding list
  list_at i h = get_or-map-range_with_len rest 0 (free_count p) i i o.zero h (omega arith)

  pub made_once : HasExactly 1 (Makes o e c public s ch columns proof)
  made_once = record {
    member = λ k. list;
    each = λ k h. (length_list, show_same (entry o list) list_at);
    apart = λ j k h d same. omega (arith, h, d);
    every = λ free to. (
      0,
      omega arith,
      ext_get_or o.zero list free (length_list ∙ sym to.0)
          (λ i h. let inside : i < free_count p = omega (arith, h, length_list) in list_at i inside ∙ only_free (entry o free) to.1 i inside),
    );
  }

pub simulated_once : {A : Type 0} (o : Ops A) (e : Coding A) → RingLaws o → SimulatedOnce o e
simulated_once o e r = λ c public s ch columns proof valid are pass. made_once o e r c public s ch columns (params_bounded o c valid) are proof pass
