-- A round's value by three sums.
use Rattle.std.specs.Prelude.{◌≡◌, ℕ, ◌≤◌, ◌+◌, ◌*◌, List, [], ◌∷◌, length}
use Rattle.std.proofs.Common.{zero, suc, refl, sym, ap, ◌∙◌, arith}
use Rattle.std.proofs.lemmas.List.{get_or_past}
use Rattle.lzk_field.specs.Ring.{Ops, RingLaws}
use Rattle.lzk_field.specs.Sums.{sum_below, minus, entry, dot_product}
use Rattle.lzk_field.proofs.RingBasics.{times_zero}
use Rattle.lzk_field.proofs.Solve.{var, null, unit, ◌⊞◌, ◌⊟◌, ◌⊠◌, solve}
use Rattle.lzk_field.proofs.SumLaws.{sum-tail}
use Rattle.lzk_field.proofs.SumPlaces.{sum-halves}
use Rattle.lzk_sumcheck_rounds.specs.declared.curve.RoundSums.{RoundSums}
use Rattle.lzk_sumcheck_rounds.specs.Pairs.{bound_entry}
use Rattle.lzk_sumcheck_rounds.specs.Rows.{round_at}

module _ {A : Type 0} (o : Ops A) where
  abbrev pub sums_of : A → A → A → RoundSums A
  sums_of all even lead = record { all = all; even = even; lead = lead }

  -- the product at an even place, and that of the steps to the next
  abbrev pub even_at : List A → List A → ℕ → A
  even_at rows table i = o.times (entry o rows (2 * i)) (entry o table (2 * i))

  abbrev pub lead_at : List A → List A → ℕ → A
  lead_at rows table i = o.times (minus o (entry o rows (2 * i + 1)) (entry o rows (2 * i))) (minus o (entry o table (2 * i + 1)) (entry o table (2 * i)))

module _ {A : Type 0} (o : Ops A) (r : RingLaws o) where
  open o use {plus, times, neg}

  abbrev both_at : List A → List A → ℕ → A
  both_at rows table i = plus (even_at o rows table i) (times (entry o rows (2 * i + 1)) (entry o table (2 * i + 1)))

  more : (t a e l g0 g1 f0 f1 : A)
      → plus (round_at o (sums_of o a e l) t) (times (plus (times (minus o o.one t) g0) (times t g1)) (plus (times (minus o o.one t) f0) (times t f1)))
      ≡ round_at o (sums_of o (plus a (plus (times g0 f0) (times g1 f1))) (plus e (times g0 f0)) (plus l (times (minus o g1 g0) (minus o f1 f0)))) t
  more t a e l g0 g1 f0 f1 =
      let T = var 0 in let P = var 4 in let Q = var 5 in let U = var 6 in let V = var 7 in
      solve o r (t ∷ a ∷ e ∷ l ∷ g0 ∷ g1 ∷ f0 ∷ f1 ∷ [])
      ((var 2 ⊞ T ⊠ ((((var 1 ⊟ var 2) ⊟ var 2) ⊟ var 3) ⊞ T ⊠ var 3)) ⊞ ((unit ⊟ T) ⊠ P ⊞ T ⊠ Q) ⊠ ((unit ⊟ T) ⊠ U ⊞ T ⊠ V))
      ((var 2 ⊞ P ⊠ U) ⊞ T ⊠ (((((var 1 ⊞ (P ⊠ U ⊞ Q ⊠ V)) ⊟ (var 2 ⊞ P ⊠ U)) ⊟ (var 2 ⊞ P ⊠ U)) ⊟ (var 3 ⊞ (Q ⊟ P) ⊠ (V ⊟ U))) ⊞ T ⊠ (var 3 ⊞ (Q ⊟ P) ⊠ (V ⊟ U)))) refl

  curve-sum : (h : ℕ) (rows table : List A) (t : A) → sum_below o h (λ i. times (bound_entry o t rows i) (bound_entry o t table i))
      ≡ round_at o (sums_of o (sum_below o h (both_at rows table)) (sum_below o h (even_at o rows table)) (sum_below o h (lead_at o rows table))) t
  curve-sum zero rows table t = solve o r (t ∷ []) null (null ⊞ var 0 ⊠ ((((null ⊟ null) ⊟ null) ⊟ null) ⊞ var 0 ⊠ null)) refl
  curve-sum (suc h) rows table t =
      ap (λ w. plus w (times (bound_entry o t rows h) (bound_entry o t table h))) (curve-sum h rows table t)
      ∙ more t (sum_below o h (both_at rows table)) (sum_below o h (even_at o rows table)) (sum_below o h (lead_at o rows table))
      (entry o rows (2 * h)) (entry o rows (2 * h + 1)) (entry o table (2 * h)) (entry o table (2 * h + 1))

  -- past a table's end nothing is bound
  pub bound-past : (table : List A) (t : A) (i : ℕ) → length table ≤ 2 * i → bound_entry o t table i ≡ o.zero
  bound-past table t i l =
      ap (λ w. plus (times (minus o o.one t) w) (times t (entry o table (2 * i + 1)))) (get_or_past table (2 * i) o.zero l)
      ∙ ap (λ w. plus (times (minus o o.one t) o.zero) (times t w)) (get_or_past table (2 * i + 1) o.zero (omega arith))
      ∙ solve o r (t ∷ []) ((unit ⊟ var 0) ⊠ null ⊞ var 0 ⊠ null) null refl

  -- the three sums of a round
  pub curve-is : (h half : ℕ) (rows table : List A) (all even lead t : A) → length rows ≡ length table → length table ≤ 2 * h → h ≤ half
      → all ≡ dot_product o rows table → even ≡ sum_below o h (even_at o rows table) → lead ≡ sum_below o h (lead_at o rows table)
      → round_at o (sums_of o all even lead) t ≡ sum_below o half (λ i. times (bound_entry o t rows i) (bound_entry o t table i))
  curve-is h half rows table all even lead t same fits less ea ee el =
      let f = λ (i : ℕ). times (entry o rows i) (entry o table i) in
      let whole : all ≡ sum_below o h (both_at rows table) =
      ea ∙ sym (sum-tail o r (length rows) (2 * h) f (omega arith)
      (λ i a b. ap (times (entry o rows i)) (get_or_past table i o.zero (omega arith)) ∙ times_zero o r (entry o rows i)))
      ∙ sum-halves o r h f in
      ap (λ x. round_at o (sums_of o x even lead) t) whole
      ∙ ap (λ x. round_at o (sums_of o (sum_below o h (both_at rows table)) x lead) t) ee
      ∙ ap (λ x. round_at o (sums_of o (sum_below o h (both_at rows table)) (sum_below o h (even_at o rows table)) x) t) el
      ∙ sym (curve-sum h rows table t)
      ∙ sym (sum-tail o r h half (λ i. times (bound_entry o t rows i) (bound_entry o t table i)) less
      (λ i a b. ap (times (bound_entry o t rows i)) (bound-past table t i (omega arith)) ∙ times_zero o r (bound_entry o t rows i)))
