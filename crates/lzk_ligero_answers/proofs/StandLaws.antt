-- Rows that stand for a list that satisfies its constraints: the quadratic answer's zeros, and the linear answer's sum.
use Rattle.lzk_profile.specs.Profile.{opened_count}
use Rattle.std.specs.Prelude.{◌≡◌, ℕ, ◌+◌, ◌-◌, ◌*◌, ◌/◌, ◌%◌, ◌<◌, ◌≤◌, List, length}
use Rattle.std.proofs.Common.{sym, ap, ◌∙◌, arith}
use Rattle.std.proofs.lemmas.Grind.{div_ceil_times}
use Rattle.std.proofs.lemmas.Nat.{div-mul-add, mod-mul-add}
use Rattle.std.proofs.Math.Nat.{div-lt_iff_lt-mul, mod-lt}
use native.Mathlib.Decide.{dec_lt}
use Rattle.lzk_field.specs.Ring.{Ops, Laws}
use Rattle.lzk_field.specs.Sums.{sum_below, minus, entry}
use Rattle.lzk_field.proofs.RingBasics.{zero_plus, times_zero, zero_times}
use Rattle.lzk_field.proofs.SumLaws.{sum-ext, sum-zero, sum-plus}
use Rattle.lzk_poly.specs.Extension.{extension}
use Rattle.lzk_poly.proofs.Extensions.{extension-given}
use Rattle.lzk_poly.proofs.Through.{entry-values_of}
use Rattle.lzk_circuit.specs.Valid.{Wiring}
use Rattle.lzk_layout.specs.declared.params.Params.{Params}
use Rattle.lzk_layout.specs.Sizes.{AreBounded, params_of, committed_count}
use Rattle.lzk_layout.specs.Places.{depth, factors_at}
use Rattle.lzk_layout.proofs.PlaceLaws.{pads_within}
use Rattle.lzk_accept.specs.Combination.{combined, combined_row, wanted}
use Rattle.lzk_accept.specs.declared.challenges.Challenges.{Challenges}
use Rattle.lzk_ligero_answers.specs.Rows.{row, AreRows}
use Rattle.lzk_ligero_answers.specs.Answers.{linear_answer, quadratic_answer}
use Rattle.lzk_ligero_answers.specs.Coefficients.{AreCoefficients}
use Rattle.lzk_ligero_answers.specs.Opened.{element as standing, Satisfies, Stands}
use Rattle.lzk_ligero_answers.specs.Laws.{linear_of, quadratic_of, ZerosStand, LinearSumStands, CombinedRows}
use Rattle.lzk_ligero_answers.proofs.AnswerLaws.{eval-linear, eval-quadratic, triple_at}
use Rattle.lzk_ligero_answers.proofs.CombinedLaws.{ArePlaces, StandsAt, combined_wanted}
use Rattle.lzk_ligero_answers.proofs.PassLaws.{apart}
use Rattle.lzk_ligero_answers.proofs.RowLaws.{in_triple}
use Rattle.lzk_ligero_answers.proofs.TableLaws.{are_coefficients, coefficient_list}

pub combined_rows : {A : Type 0} (o : Ops A) (point : ℕ → A) → CombinedRows o point
unfolding combined_row coefficient_list
combined_rows o point c coefficient ch i = are_coefficients o (params_of c) (combined o c coefficient ch i) (omega arith)

module _ {A : Type 0} {o : Ops A} {size : ℕ} {number_of : A → ℕ} {element : ℕ → A} {bytes : ℕ} (laws : Laws o size number_of element bytes) (c : Wiring A) (rows : List (List A)) (b : AreBounded (params_of c)) (are : AreRows (params_of c) rows) where
  abbrev p : Params
  p = params_of c

  -- a row's value at one of its points is its entry
  row_value : (i k : ℕ) → k < length (row rows i) → length (row rows i) ≤ p.dblock → extension o element (row rows i) k ≡ entry o (row rows i) k
  row_value i k h d = extension-given o laws.ring laws.field element (row rows i) (apart laws p b (length (row rows i)) (omega (arith, d, b.columns))) k h

  module _ (coefficient : ℕ → ℕ → A) (right : ℕ → A) (w : List A) (satisfies : Satisfies o c coefficient right w) (stands : Stands o c w rows) where
    -- ---- triples

    copy_is : (t s which : ℕ) → s < p.wr → which < 3 → t * p.wr + s < depth c → standing o rows (3 + p.nwrow + 3 * t + which) s ≡ entry o w (factors_at c (t * p.wr + s) + which)
    copy_is t s which h d inside =
        let l = t * p.wr + s in
        let m = 3 * l + which in
        let third : m / 3 ≡ l = omega (arith, d) in
        let rest : m % 3 ≡ which = omega (arith, d) in
        let E : ℕ → ℕ → ℕ → A = λ a r x. standing o rows (3 + p.nwrow + 3 * a + r) x in
        sym (ap (λ (y : ℕ). E (y / p.wr) (m % 3) (y % p.wr)) third
        ∙ ap (λ (r : ℕ). E (l / p.wr) r (l % p.wr)) rest
        ∙ ap (λ (a : ℕ). E a which (l % p.wr)) (div-mul-add t p.wr s h)
        ∙ ap (λ (x : ℕ). E t which x) (mod-mul-add t p.wr s h))
        ∙ stands.copies m (omega (arith, d, inside))
        ∙ ap (λ (y : ℕ). entry o w (factors_at c y + m % 3)) third
        ∙ ap (λ (r : ℕ). entry o w (factors_at c l + r)) rest

    triple_zero : (t s : ℕ) → t < p.ntriple → s < p.wr
        → minus o (o.times (standing o rows (3 + p.nwrow + 3 * t + 0) s) (standing o rows (3 + p.nwrow + 3 * t + 1) s)) (standing o rows (3 + p.nwrow + 3 * t + 2) s) ≡ o.zero
    triple_zero t s g h =
        let l = t * p.wr + s in
        let E : ℕ → A = λ which. standing o rows (3 + p.nwrow + 3 * t + which) s in
        elim (dec_lt l (depth c)) [
          | yes inside ↦
              let f = factors_at c l in
              let z : f + 0 ≡ f = omega arith in
              let F : ℕ → A = λ (k : ℕ). entry o w (f + k) in
              ap (λ x. minus o (o.times x (E 1)) (E 2)) (copy_is t s 0 h (omega arith) inside ∙ ap (entry o w) z)
              ∙ ap (λ x. minus o (o.times (entry o w f) x) (E 2)) (copy_is t s 1 h (omega arith) inside)
              ∙ ap (minus o (o.times (entry o w f) (F 1))) (copy_is t s 2 h (omega arith) inside)
              ∙ ap (λ x. minus o x (F 2)) (satisfies.products l inside)
              ∙ laws.ring.plus_neg (F 2)
          | no outside ↦
              ap (λ x. minus o (o.times x (E 1)) (E 2)) (stands.behind t s 0 h (omega arith) g (omega (arith, outside)))
              ∙ ap (λ x. minus o x (E 2)) (zero_times o laws.ring (E 1))
              ∙ ap (minus o o.zero) (stands.behind t s 2 h (omega arith) g (omega (arith, outside)))
              ∙ laws.ring.plus_neg o.zero
        ]

    -- the value of a triple's row at the point of a row's element
    triple_value : (t s which : ℕ) → t < p.ntriple → s < p.wr → which < 3 → extension o element (row rows (3 + p.nwrow + 3 * t + which)) (opened_count + s) ≡ standing o rows (3 + p.nwrow + 3 * t + which) s
    triple_value t s which g h d =
        let many = in_triple o element p rows b are t which g d in
        row_value (3 + p.nwrow + 3 * t + which) (opened_count + s) (omega (arith, many, h, b.block)) (omega (arith, many, b.block, b.dblock))

    zeros_there : (v : List A) (s : ℕ) → s < p.wr → entry o (quadratic_of o element p rows v) (opened_count + s) ≡ o.zero
    zeros_there v s h =
        let k = opened_count + s in
        let R : ℕ → A = λ i. extension o element (row rows i) k in
        let T : ℕ → A = λ t. triple_at o laws.ring element p rows t (element k) in
        let E : ℕ → ℕ → A = λ t which. standing o rows (3 + p.nwrow + 3 * t + which) s in
        entry-values_of o element p.dblock (quadratic_answer o element p rows v) k (omega (arith, h, b.block, b.dblock))
        ∙ eval-quadratic o laws.ring element p rows v (element k)
        ∙ ap (λ x. o.plus x (sum_below o p.ntriple (λ t. o.times (entry o v t) (T t)))) (row_value 2 k (omega (arith, are.third, h, b.block, b.dblock)) (omega (arith, are.third)) ∙ stands.third s h)
        ∙ ap (o.plus o.zero) (sum-ext o laws.ring p.ntriple (λ t. o.times (entry o v t) (T t)) (λ t. o.zero)
        (λ t g.
        let f = 3 + p.nwrow + 3 * t in
        let y : f ≡ f + 0 = omega arith in
        ap (o.times (entry o v t))
        (ap (λ x. minus o (o.times x (R (f + 1))) (R (f + 2))) (ap R y ∙ triple_value t s 0 g h (omega arith))
        ∙ ap (λ x. minus o (o.times (E t 0) x) (R (f + 2))) (triple_value t s 1 g h (omega arith))
        ∙ ap (minus o (o.times (E t 0) (E t 1))) (triple_value t s 2 g h (omega arith))
        ∙ triple_zero t s g h)
        ∙ times_zero o laws.ring (entry o v t)) ∙ sum-zero o laws.ring p.ntriple)
        ∙ laws.ring.plus_zero o.zero

    -- ---- the linear answer's sum

    row_below : (m n k : ℕ) → 1 ≤ k → m < n * k → m / k < n
    row_below m n k one h = (div-lt_iff_lt-mul {k = k} {x = m} {y = n} (omega (arith, one))).1 h

    entry_below : (j : ℕ) → j < committed_count c → j / p.wr < p.nwrow
    entry_below j h = row_below j p.nwrow p.wr (omega (arith, b.wide)) (omega (arith, h, (div_ceil_times p.nw p.wr (omega (arith, b.wide))).0))

    copy_below : (m : ℕ) → m < 3 * depth c → m / 3 / p.wr < p.ntriple
    copy_below m h = row_below (m / 3) p.ntriple p.wr (omega (arith, b.wide)) (omega (arith, h, (div_ceil_times p.layers p.wr (omega (arith, b.wide))).0))

    are_places : ArePlaces c 3 (p.nrow - 3) p.wr
    are_places = record {
      rows = λ j h. (omega arith, omega (arith, entry_below j h));
      positions = λ j h. mod-lt j (omega (arith, b.wide));
      sources = λ m h. omega (arith, pads_within c (m / 3) (omega (arith, h)));
      copy_rows = λ m h. (omega arith, omega (arith, copy_below m h));
      copy_positions = λ m h. mod-lt (m / 3) (omega (arith, b.wide));
    }

    stands_at : StandsAt o c w (standing o rows)
    stands_at = record { entries = stands.entries; copies = stands.copies }

    module _ (ch : Challenges A) where
      abbrev lists : ℕ → List A
      lists = combined_row o c coefficient ch

      coefficient_value : (i s : ℕ) → s < p.wr → extension o element (lists i) (opened_count + s) ≡ combined o c coefficient ch i s
      coefficient_value i s h =
          let is : AreCoefficients o p (combined o c coefficient ch i) (lists i) = combined_rows o element c coefficient ch i in
          extension-given o laws.ring laws.field element (lists i) (apart laws p b (length (lists i)) (omega (arith, is.count, b.columns, b.dblock, b.block))) (opened_count + s) (omega (arith, is.count, h, b.block)) ∙ is.back s h

      linear_there : (s : ℕ) → s < p.wr → entry o (linear_of o element p rows lists) (opened_count + s) ≡ o.plus (standing o rows 1 s) (sum_below o (p.nrow - 3) (λ i. o.times (combined o c coefficient ch (3 + i) s) (standing o rows (3 + i) s)))
      linear_there s h =
          let k = opened_count + s in
          let n = p.nrow - 3 in
          let R : ℕ → A = λ i. extension o element (row rows i) k in
          let C : ℕ → A = λ i. extension o element (lists i) k in
          entry-values_of o element p.dblock (linear_answer o element p rows lists) k (omega (arith, h, b.block, b.dblock))
          ∙ eval-linear o laws.ring element p rows lists (element k)
          ∙ ap (λ x. o.plus x (sum_below o n (λ i. o.times (C (3 + i)) (R (3 + i))))) (row_value 1 k (omega (arith, are.second, h, b.block, b.dblock)) (omega (arith, are.second)))
          ∙ ap (o.plus (standing o rows 1 s)) (sum-ext o laws.ring n (λ i. o.times (C (3 + i)) (R (3 + i))) (λ i. o.times (combined o c coefficient ch (3 + i) s) (standing o rows (3 + i) s))
          (λ i q.
          ap (λ x. o.times x (R (3 + i))) (coefficient_value (3 + i) s h)
          ∙ ap (o.times (combined o c coefficient ch (3 + i) s)) (row_value (3 + i) k (omega (arith, are.others i q, h, b.block)) (omega (arith, are.others i q, b.block, b.dblock)))))

      linear_total : sum_below o (p.block - opened_count) (λ s. entry o (linear_of o element p rows lists) (opened_count + s)) ≡ wanted o c right ch
      linear_total =
          let n = p.nrow - 3 in
          let f : ℕ → A = λ s. entry o (linear_of o element p rows lists) (opened_count + s) in
          let first : ℕ → A = standing o rows 1 in
          let rest : ℕ → A = λ s. sum_below o n (λ i. o.times (combined o c coefficient ch (3 + i) s) (standing o rows (3 + i) s)) in
          let width : p.block - opened_count ≡ p.wr = omega (arith, b.block) in
          ap (λ (k : ℕ). sum_below o k f) width
          ∙ sum-ext o laws.ring p.wr f (λ s. o.plus (first s) (rest s)) linear_there
          ∙ sum-plus o laws.ring p.wr first rest
          ∙ ap (λ x. o.plus x (sum_below o p.wr rest)) stands.second ∙ zero_plus o laws.ring (sum_below o p.wr rest)
          ∙ combined_wanted o laws.ring c coefficient right ch 3 n p.wr (standing o rows) w are_places stands_at satisfies.linear

pub zeros_stand : {A : Type 0} {o : Ops A} {size : ℕ} {number_of : A → ℕ} {element : ℕ → A} {bytes : ℕ} (laws : Laws o size number_of element bytes) → ZerosStand o element
zeros_stand laws c coefficient right w rows v b are satisfies stands = zeros_there laws c rows b are coefficient right w satisfies stands v

pub linear_sum_stands : {A : Type 0} {o : Ops A} {size : ℕ} {number_of : A → ℕ} {element : ℕ → A} {bytes : ℕ} (laws : Laws o size number_of element bytes) → LinearSumStands o element
linear_sum_stands {o = o} laws c coefficient right ch w rows proof b are satisfies stands is =
    ap (λ values. sum_below o ((params_of c).block - opened_count) (λ i. entry o values (opened_count + i))) is ∙ linear_total laws c rows b are coefficient right w satisfies stands ch
