-- A round's sums are the sums of its parts' sums.
use Rattle.std.specs.Prelude.{◌≡◌, ℕ, ◌<◌, ◌≤◌, ◌+◌, ◌-◌, ◌*◌, ◌/◌, ◌%◌, min, List, [], ◌∷◌, ◌++◌, length, true, false, Bool, cond, slice_set, drop}
use Rattle.std.specs.Fork.{slice_chunk}
use Rattle.std.proofs.Common.{refl, sym, ap, ◌∙◌, arith, inl, inr}
use Rattle.std.proofs.lemmas.Bool.{ne_eqb, cases_lt}
use Rattle.std.proofs.lemmas.List.{get_or_past, get_or-take, get_or-drop}
use Rattle.lzk_field.specs.Ring.{Ops, RingLaws}
use Rattle.lzk_field.specs.Sums.{sum_below, minus, entry, dot_product}
use Rattle.lzk_field.proofs.RingBasics.{zero_plus, times_zero}
use Rattle.lzk_field.proofs.Solve.{var, null, ◌⊞◌, ◌⊟◌, ◌⊠◌, solve}
use Rattle.lzk_field.proofs.SumLaws.{sum-ext, sum-tail}
use Rattle.lzk_field.proofs.SumPlaces.{sum-rows}
use Rattle.lzk_sumcheck_rounds.specs.declared.pairs.Pair.{Pair}
use Rattle.lzk_sumcheck_rounds.specs.Pairs.{ArePairs, bound_entry}
use Rattle.lzk_sumcheck_rounds.specs.Parts.{product_at, sums_in}
use Rattle.lzk_sumcheck_rounds.specs.Rows.{pairs_row, linear_row, row_at, round_at}
use Rattle.lzk_sumcheck.specs.States.{bound}
use Rattle.lzk_sumcheck_rounds.proofs.CurveLaws.{sums_of, bound-past}

module _ {A : Type 0} (o : Ops A) where
  -- three sums that are put into the first places of a list
  pub three-put : (sums rows : List A) (x y z : A) → length sums ≡ 3 → sums_in o (slice_set (slice_set (slice_set sums 0 x) 1 y) 2 z ++ rows) 0 ≡ sums_of o x y z
  three-put [] rows x y z e = absurd (omega arith)
  three-put (a ∷ []) rows x y z e = absurd (omega arith)
  three-put (a ∷ b ∷ []) rows x y z e = absurd (omega arith)
  three-put (a ∷ b ∷ c ∷ []) rows x y z e = refl
  three-put (a ∷ b ∷ c ∷ d ∷ rest) rows x y z e = absurd (omega arith)

  in_chunk : (list : List A) (size k j : ℕ) → j < size → entry o (slice_chunk list size k) j ≡ entry o list (k * size + j)
  in_chunk list size k j h = get_or-take size (drop (k * size) list) j o.zero h ∙ get_or-drop (k * size) list j o.zero

  -- the sums with which a chunk begins
  pub sums-chunk : (list : List A) (size k : ℕ) → 2 < size → sums_in o (slice_chunk list size k) 0 ≡ sums_in o list (k * size)
  sums-chunk list size k h =
      let c = slice_chunk list size k in
      let i = k * size in
      let first : entry o c 0 ≡ entry o list i = in_chunk list size k 0 (omega arith) ∙ ap (entry o list) (omega arith) in
      ap (λ x. sums_of o x (entry o c 1) (entry o c 2)) first
      ∙ ap (λ x. sums_of o (entry o list i) x (entry o c 2)) (in_chunk list size k 1 (omega arith))
      ∙ ap (λ x. sums_of o (entry o list i) (entry o list (i + 1)) x) (in_chunk list size k 2 h)

module _ {A : Type 0} (o : Ops A) (r : RingLaws o) where
  open o use {plus, times, neg}

  pub round-none : (t : A) → round_at o (sums_of o o.zero o.zero o.zero) t ≡ o.zero
  round-none t = solve o r (t ∷ []) (null ⊞ var 0 ⊠ ((((null ⊟ null) ⊟ null) ⊟ null) ⊞ var 0 ⊠ null)) null refl

  -- a round's value is that of the one sums and that of the others
  pub round-plus : (a e l x y z t : A) → round_at o (sums_of o (plus a x) (plus e y) (plus l z)) t ≡ plus (round_at o (sums_of o a e l) t) (round_at o (sums_of o x y z) t)
  round-plus a e l x y z t =
      let T = var 6 in
      solve o r (a ∷ e ∷ l ∷ x ∷ y ∷ z ∷ t ∷ [])
      ((var 1 ⊞ var 4) ⊞ T ⊠ (((((var 0 ⊞ var 3) ⊟ (var 1 ⊞ var 4)) ⊟ (var 1 ⊞ var 4)) ⊟ (var 2 ⊞ var 5)) ⊞ T ⊠ (var 2 ⊞ var 5)))
      ((var 1 ⊞ T ⊠ ((((var 0 ⊟ var 1) ⊟ var 1) ⊟ var 2) ⊞ T ⊠ var 2)) ⊞ (var 4 ⊞ T ⊠ ((((var 3 ⊟ var 4) ⊟ var 4) ⊟ var 5) ⊞ T ⊠ var 5))) refl

  pairs-past : (n m : ℕ) (ps : List (Pair A)) (second : List A) (i : ℕ) → ArePairs n m ps → n ≤ i → pairs_row o ps second i ≡ o.zero
  pairs-past n m [] second i h past = refl
  pairs-past n m (p ∷ ps) second i h past =
      let below = h.0 in
      ap (λ b. plus (cond b (times p.coef (entry o second p.b)) o.zero) (pairs_row o ps second i)) (ne_eqb i p.a (λ e. omega (arith, e, below, past)))
      ∙ zero_plus o r (pairs_row o ps second i) ∙ pairs-past n m ps second i h.2 past

  linear-past : (of_a : Bool) (n : ℕ) (scale : A) (linear second : List A) (i : ℕ) → 1 ≤ n → (of_a ≡ false → length linear ≡ n) → n ≤ i → linear_row o of_a scale linear second i ≡ o.zero
  linear-past true n scale linear second i some same past =
      ap (λ b. cond b (times scale (dot_product o linear second)) o.zero) (ne_eqb i 0 (λ e. omega (arith, e, some, past)))
  linear-past false n scale linear second i some same past =
      ap (times (times scale (entry o second 0))) (get_or_past linear i o.zero (omega (arith, same refl, past))) ∙ times_zero o r (times scale (entry o second 0))

  -- past the last row there is nothing
  pub row-past : (of_a : Bool) (n m : ℕ) (ps : List (Pair A)) (scale : A) (linear second : List A) (i : ℕ) → ArePairs n m ps → 1 ≤ n → (of_a ≡ false → length linear ≡ n) → n ≤ i
      → row_at o of_a ps scale linear second i ≡ o.zero
  row-past of_a n m ps scale linear second i h some same past =
      ap (λ w. plus w (pairs_row o ps second i)) (linear-past of_a n scale linear second i some same past) ∙ zero_plus o r (pairs_row o ps second i) ∙ pairs-past n m ps second i h past

  -- rows as a list
  pub whole-sum : (half : ℕ) (row : ℕ → A) (rows first : List A) (t : A) → ((i : ℕ) → entry o rows i ≡ row i)
      → sum_below o half (λ i. times (bound_entry o t rows i) (bound_entry o t first i)) ≡ sum_below o half (product_at o row first t)
  whole-sum half row rows first t same =
      sum-ext o r half (λ i. times (bound_entry o t rows i) (bound_entry o t first i)) (product_at o row first t)
      (λ i l. ap (λ w. times (plus (times (minus o o.one t) w) (times t (entry o rows (2 * i + 1)))) (bound_entry o t first i)) (same (2 * i))
      ∙ ap (λ w. times (plus (times (minus o o.one t) (row (2 * i))) (times t w)) (bound_entry o t first i)) (same (2 * i + 1)))

  -- a part's rows and its entries, as lists
  pub part-sum : (begin each : ℕ) (row : ℕ → A) (first rows part : List A) (t : A) → ((i : ℕ) → i < 2 * each → entry o rows i ≡ row (2 * begin + i))
      → ((i : ℕ) → i < 2 * each → entry o part i ≡ entry o first (2 * begin + i))
      → sum_below o each (λ i. times (bound_entry o t rows i) (bound_entry o t part i)) ≡ sum_below o each (λ i. product_at o row first t (begin + i))
  part-sum begin each row first rows part t same there =
      let s = minus o o.one t in
      let low : (i : ℕ) → 2 * begin + 2 * i ≡ 2 * (begin + i) = λ i. omega arith in
      let high : (i : ℕ) → 2 * begin + (2 * i + 1) ≡ 2 * (begin + i) + 1 = λ i. omega arith in
      sum-ext o r each (λ i. times (bound_entry o t rows i) (bound_entry o t part i)) (λ i. product_at o row first t (begin + i))
      (λ i l.
      ap (λ w. times (plus (times s w) (times t (entry o rows (2 * i + 1)))) (bound_entry o t part i)) (same (2 * i) (omega arith) ∙ ap row (low i))
      ∙ ap (λ w. times (plus (times s (row (2 * (begin + i)))) (times t w)) (bound_entry o t part i)) (same (2 * i + 1) (omega arith) ∙ ap row (high i))
      ∙ ap (λ w. times (bound o t row (begin + i)) (plus (times s w) (times t (entry o part (2 * i + 1))))) (there (2 * i) (omega arith) ∙ ap (entry o first) (low i))
      ∙ ap (λ w. times (bound o t row (begin + i)) (plus (times s (entry o first (2 * (begin + i)))) (times t w))) (there (2 * i + 1) (omega arith) ∙ ap (entry o first) (high i)))

  -- a part's lists hold its rows and its entries, and nothing past the last
  pub part-entries : (begin each n : ℕ) (row : ℕ → A) (list : List A) → length list ≡ min (2 * each) (n - 2 * begin) → ((i : ℕ) → i < length list → entry o list i ≡ row (2 * begin + i))
      → ((i : ℕ) → n ≤ i → row i ≡ o.zero) → (i : ℕ) → i < 2 * each → entry o list i ≡ row (2 * begin + i)
  part-entries begin each n row list size inside past i h =
      elim (cases_lt i (length list)) [
        | inl l ↦ inside i l
        | inr ge ↦ get_or_past list i o.zero ge ∙ sym (past (2 * begin + i) (omega (arith, size, ge, h)))
      ]

  product-past : (row : ℕ → A) (first : List A) (t : A) (i : ℕ) → length first ≤ 2 * i → product_at o row first t i ≡ o.zero
  product-past row first t i l = ap (times (bound o t row i)) (bound-past o r first t i l) ∙ times_zero o r (bound o t row i)

  -- a round is summed over enough places
  enough : (a b : ℕ) (row : ℕ → A) (first : List A) (t : A) → length first ≤ 2 * a → length first ≤ 2 * b → sum_below o a (product_at o row first t) ≡ sum_below o b (product_at o row first t)
  enough a b row first t la lb =
      let m = length first / 2 + length first % 2 in
      sum-tail o r m a (product_at o row first t) (omega arith) (λ i p q. product-past row first t i (omega arith))
      ∙ sym (sum-tail o r m b (product_at o row first t) (omega arith) (λ i p q. product-past row first t i (omega arith)))

  -- the parts' sums add up to those of the round
  pub parts-sum : (count each half : ℕ) (row : ℕ → A) (first : List A) (value : ℕ → A) (t : A) → ((k : ℕ) → k < count → value k ≡ sum_below o each (λ i. product_at o row first t (k * each + i)))
      → length first ≤ 2 * (count * each) → length first ≤ 2 * half → sum_below o count value ≡ sum_below o half (product_at o row first t)
  parts-sum count each half row first value t is all fits =
      sum-ext o r count value (λ k. sum_below o each (λ i. product_at o row first t (k * each + i))) is
      ∙ sym (sum-rows o r count each (product_at o row first t))
      ∙ enough (count * each) half row first t all fits
