-- What coefficients come to with the second table, number by number of the first.
use Rattle.std.specs.Prelude.{◌≡◌, ℕ, ◌<◌, ◌≤◌, ◌+◌, ◌*◌, ◌^◌, ◌==◌, List, [], ◌∷◌, length, true, false, Bool, cond}
use Rattle.std.proofs.Common.{suc, refl, sym, ap, ◌∙◌, arith}
use Rattle.std.proofs.lemmas.List.{get_or_past}
use Rattle.std.proofs.Math.Nat.{pow-succ'}
use Rattle.lzk_field.specs.Ring.{Ops, RingLaws}
use Rattle.lzk_field.specs.Sums.{sum_below, minus, entry, dot_product}
use Rattle.lzk_field.proofs.RingBasics.{zero_times, plus_times}
use Rattle.lzk_field.proofs.Solve.{var, ◌⊞◌, ◌⊠◌, solve}
use Rattle.lzk_field.proofs.SumLaws.{sum-ext, sum-zero, sum-plus, sum-times, sum-tail, sum-single}
use Rattle.lzk_sumcheck_rounds.specs.declared.pairs.Pair.{Pair}
use Rattle.lzk_sumcheck_rounds.specs.Pairs.{spread, ArePairs, bound_entry}
use Rattle.lzk_sumcheck_rounds.specs.Parts.{product_at}
use Rattle.lzk_sumcheck_rounds.specs.Rows.{linear_at, pairs_row, linear_row, row_at, IsKept}
use Rattle.lzk_sumcheck.specs.States.{State, bind_state, bound, total}
use Rattle.lzk_sumcheck.proofs.Binding.{total-bind}
use Rattle.lzk_sumcheck_rounds.proofs.SpreadLaws.{pairs-wider}

pub two-more : (j : ℕ) → 2 ^ (j + 1) ≡ 2 * 2 ^ j
two-more j = let e : j + 1 ≡ suc j = omega arith in ap (λ n. 2 ^ n) e ∙ pow-succ' 2 j

module _ {A : Type 0} (o : Ops A) (r : RingLaws o) where
  open o use {plus, times, neg}

  none : (m : ℕ) (h : ℕ → A) → sum_below o m (λ j. times o.zero (h j)) ≡ o.zero
  none m h = sum-ext o r m (λ j. times o.zero (h j)) (λ j. o.zero) (λ j l. zero_times o r (h j)) ∙ sum-zero o r m

  -- one entry of a table
  one : (m k : ℕ) (q : Bool) (x : A) (h : ℕ → A) → k < m → sum_below o m (λ j. times (cond q (cond (j == k) x o.zero) o.zero) (h j)) ≡ cond q (times x (h k)) o.zero
  one m k false x h l = none m h
  one m k true x h l =
      sum-ext o r m (λ j. times (cond (j == k) x o.zero) (h j)) (λ j. cond (j == k) (times x (h j)) o.zero) (λ j b. inside (j == k) (h j))
      ∙ sum-single o r m k (λ j. times x (h j)) l
    where
      inside : (q : Bool) (y : A) → times (cond q x o.zero) y ≡ cond q (times x y) o.zero
      inside true y = refl
      inside false y = zero_times o r y

  pub pairs-sum : (n m : ℕ) (ps : List (Pair A)) (second : List A) (i : ℕ) → ArePairs n m ps → sum_below o m (λ j. times (spread o ps i j) (entry o second j)) ≡ pairs_row o ps second i
  pairs-sum n m [] second i within = none m (entry o second)
  pairs-sum n m (p ∷ ps) second i within =
      let h = entry o second in
      let x : ℕ → A = λ j. cond (i == p.a) (cond (j == p.b) p.coef o.zero) o.zero in
      sum-ext o r m (λ j. times (spread o (p ∷ ps) i j) (h j)) (λ j. plus (times (x j) (h j)) (times (spread o ps i j) (h j))) (λ j l. plus_times o r (x j) (spread o ps i j) (h j))
      ∙ sum-plus o r m (λ j. times (x j) (h j)) (λ j. times (spread o ps i j) (h j))
      ∙ ap (λ w. plus w (sum_below o m (λ j. times (spread o ps i j) (h j)))) (one m p.b (i == p.a) p.coef h within.1)
      ∙ ap (plus (cond (i == p.a) (times p.coef (h p.b)) o.zero)) (pairs-sum n m ps second i within.2)

  -- the coefficients of wire 0 in one row
  in_row : (m : ℕ) (q : Bool) (scale : A) (linear second : List A) → length linear ≤ m
      → sum_below o m (λ j. times (cond q (times scale (entry o linear j)) o.zero) (entry o second j)) ≡ cond q (times scale (dot_product o linear second)) o.zero
  in_row m false scale linear second l = none m (entry o second)
  in_row m true scale linear second l =
      let e = entry o linear in
      let h = entry o second in
      sum-ext o r m (λ j. times (times scale (e j)) (h j)) (λ j. times scale (times (e j) (h j))) (λ j b. r.times_assoc scale (e j) (h j))
      ∙ sum-times o r m scale (λ j. times (e j) (h j))
      ∙ ap (times scale) (sum-tail o r (length linear) m (λ j. times (e j) (h j)) l
      (λ j a b. ap (λ w. times w (h j)) (get_or_past linear j o.zero a) ∙ zero_times o r (h j)))

  pub linear-sum : (of_a : Bool) (m : ℕ) (scale : A) (linear second : List A) (i : ℕ) → 1 ≤ m → (of_a ≡ true → length linear ≤ m)
      → sum_below o m (λ j. times (linear_at o of_a scale linear i j) (entry o second j)) ≡ linear_row o of_a scale linear second i
  linear-sum true m scale linear second i some fits = in_row m (i == 0) scale linear second (fits refl)
  linear-sum false m scale linear second i some fits =
      one m 0 true (times scale (entry o linear i)) (entry o second) (omega arith)
      ∙ solve o r (scale ∷ entry o linear i ∷ entry o second 0 ∷ []) ((var 0 ⊠ var 1) ⊠ var 2) ((var 0 ⊠ var 2) ⊠ var 1) refl

  -- a state's rows
  abbrev pub rows_of : State A → ℕ → A
  rows_of st a = sum_below o st.m (λ j. times (st.q a j) (st.h j))

  -- what a round sums, by the rows
  pub total-rows : (half : ℕ) (st : State A) (t : A) → st.n ≡ 2 * half → total o (bind_state o t st) ≡ sum_below o half (λ i. times (bound o t (rows_of st) i) (bound o t st.f i))
  total-rows half st t e =
      let m = st.m in
      let h = st.h in
      let q = λ (a j : ℕ). times (st.q a j) (h j) in
      let f = bound o t st.f in
      let s = minus o o.one t in
      total-bind o r half st t e
      ∙ sum-ext o r half (λ i. sum_below o m (λ j. times (times (bound o t (λ a. st.q a j) i) (f i)) (h j))) (λ i. times (bound o t (rows_of st) i) (f i))
      (λ i l.
      sum-ext o r m (λ j. times (times (bound o t (λ a. st.q a j) i) (f i)) (h j)) (λ j. times (f i) (plus (times s (q (2 * i) j)) (times t (q (2 * i + 1) j))))
      (λ j b. solve o r (s ∷ t ∷ st.q (2 * i) j ∷ st.q (2 * i + 1) j ∷ f i ∷ h j ∷ []) (((var 0 ⊠ var 2 ⊞ var 1 ⊠ var 3) ⊠ var 4) ⊠ var 5) (var 4 ⊠ (var 0 ⊠ (var 2 ⊠ var 5) ⊞ var 1 ⊠ (var 3 ⊠ var 5))) refl)
      ∙ sum-times o r m (f i) (λ j. plus (times s (q (2 * i) j)) (times t (q (2 * i + 1) j)))
      ∙ ap (times (f i)) (sum-plus o r m (λ j. times s (q (2 * i) j)) (λ j. times t (q (2 * i + 1) j))
      ∙ ap (λ w. plus w (sum_below o m (λ j. times t (q (2 * i + 1) j)))) (sum-times o r m s (q (2 * i)))
      ∙ ap (plus (times s (rows_of st (2 * i)))) (sum-times o r m t (q (2 * i + 1))))
      ∙ r.times_comm (f i) (bound o t (rows_of st) i))

  -- the rows of a state, from what is kept of it
  pub kept-rows : (j k : ℕ) (st : State A) (of_a : Bool) (ps : List (Pair A)) (scale : A) (linear first second : List A) (n i : ℕ) → IsKept o j k st of_a ps scale linear first second
      → ArePairs n (length second) ps → 1 ≤ length second → length second ≤ 2 ^ k → (of_a ≡ true → length linear ≡ length second)
      → rows_of st i ≡ row_at o of_a ps scale linear second i
  kept-rows j k st of_a ps scale linear first second n i h within some fits same =
      let m = 2 ^ k in
      let e = entry o second in
      ap (λ x. sum_below o x (λ j. times (st.q i j) (st.h j))) h.m_is
      ∙ sum-ext o r m (λ b. times (st.q i b) (st.h b)) (λ b. plus (times (linear_at o of_a scale linear i b) (e b)) (times (spread o ps i b) (e b)))
      (λ b l. ap (λ w. times w (st.h b)) (h.q_is i b) ∙ ap (times (plus (spread o ps i b) (linear_at o of_a scale linear i b))) (h.h_is b)
      ∙ ap (λ w. times w (e b)) (r.plus_comm (spread o ps i b) (linear_at o of_a scale linear i b)) ∙ plus_times o r (linear_at o of_a scale linear i b) (spread o ps i b) (e b))
      ∙ sum-plus o r m (λ b. times (linear_at o of_a scale linear i b) (e b)) (λ b. times (spread o ps i b) (e b))
      ∙ ap (λ w. plus w (sum_below o m (λ b. times (spread o ps i b) (e b)))) (linear-sum of_a m scale linear second i (omega arith) (λ is. omega (arith, same is)))
      ∙ ap (plus (linear_row o of_a scale linear second i)) (pairs-sum n m ps second i (pairs-wider o r n (length second) m ps fits within))

  -- a round's value, from the rows
  pub round-rows : (j k : ℕ) (st : State A) (of_a : Bool) (ps : List (Pair A)) (scale : A) (linear first second : List A) (n : ℕ) (t : A) → IsKept o (j + 1) k st of_a ps scale linear first second
      → ArePairs n (length second) ps → 1 ≤ length second → length second ≤ 2 ^ k → (of_a ≡ true → length linear ≡ length second)
      → sum_below o (2 ^ j) (product_at o (row_at o of_a ps scale linear second) first t) ≡ total o (bind_state o t st)
  round-rows j k st of_a ps scale linear first second n t h within some fits same =
      let row = row_at o of_a ps scale linear second in
      let g : (i : ℕ) → row i ≡ rows_of st i = λ i. sym (kept-rows (j + 1) k st of_a ps scale linear first second n i h within some fits same) in
      let bind : (f u : ℕ → A) (i : ℕ) → ((a : ℕ) → f a ≡ u a) → bound o t f i ≡ bound o t u i =
      λ f u i e. ap (λ w. plus (times (minus o o.one t) w) (times t (f (2 * i + 1)))) (e (2 * i)) ∙ ap (λ w. plus (times (minus o o.one t) (u (2 * i))) (times t w)) (e (2 * i + 1)) in
      sum-ext o r (2 ^ j) (product_at o row first t) (λ i. times (bound o t (rows_of st) i) (bound o t st.f i))
      (λ i l. ap (λ w. times w (bound_entry o t first i)) (bind row (rows_of st) i g)
      ∙ ap (times (bound o t (rows_of st) i)) (bind (entry o first) st.f i (λ a. sym (h.f_is a))))
      ∙ sym (total-rows (2 ^ j) st t (h.n_is ∙ two-more j))

  -- one pair more is added to a row
  pub row-more : (p : Pair A) (rest ps : List (Pair A)) (second : List A) (i : ℕ) (now next all : A) → ps ≡ p ∷ rest
      → next ≡ plus now (cond (i == p.a) (times p.coef (entry o second p.b)) o.zero) → plus now (pairs_row o ps second i) ≡ all → plus next (pairs_row o rest second i) ≡ all
  row-more p rest ps second i now next all front e k =
      let x = cond (i == p.a) (times p.coef (entry o second p.b)) o.zero in
      ap (λ w. plus w (pairs_row o rest second i)) e ∙ r.plus_assoc now x (pairs_row o rest second i) ∙ sym (ap (λ xs. plus now (pairs_row o xs second i)) front) ∙ k
