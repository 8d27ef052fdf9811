-- Products over a number's bits, and sums over a list, step by step.
use Rattle.std.specs.Prelude.{◌≡◌, ℕ, ◌<◌, ◌≤◌, ◌+◌, ◌/◌, List, ◌∷◌, length, drop, slice_index_or}
use Rattle.std.proofs.Common.{sym, ap, ◌∙◌}
use Rattle.std.proofs.lemmas.List.{drop_more, drop_all}
use Rattle.lzk_field.specs.Ring.{Ops, RingLaws}
use Rattle.lzk_field.proofs.RingBasics.{zero_plus}
use Rattle.lzk_mle.specs.Multilinear.{low_bit, agree, eq}
use Rattle.lzk_circuit.specs.Sums.{sum_list}

module _ {A : Type 0} (o : Ops A) (r : RingLaws o) where
  open o use {plus, times}

  -- ---- one number's bits

  pub eq_step : (xs : List A) (j rest : ℕ) (x product all : A) → j < length xs → x ≡ slice_index_or xs j x
      → times product (eq o rest (drop j xs)) ≡ all → times (times product (agree o (low_bit o rest) x)) (eq o (rest / 2) (drop (j + 1) xs)) ≡ all
  eq_step xs j rest x product all within is h =
      r.times_assoc product (agree o (low_bit o rest) x) (eq o (rest / 2) (drop (j + 1) xs))
      ∙ sym (ap (λ ys. times product (eq o rest ys)) (drop_more xs j x within ∙ ap (λ y. y ∷ drop (j + 1) xs) (sym is))) ∙ h

  -- ---- sums over a list

  pub sum_step : {X : Type 0} (f : X → A) (ts : List X) (i : ℕ) (t : X) (sum all : A) → i < length ts → t ≡ slice_index_or ts i t
      → plus sum (sum_list o (drop i ts) f) ≡ all → plus (plus sum (f t)) (sum_list o (drop (i + 1) ts) f) ≡ all
  sum_step f ts i t sum all within is h =
      r.plus_assoc sum (f t) (sum_list o (drop (i + 1) ts) f)
      ∙ sym (ap (λ ys. plus sum (sum_list o ys f)) (drop_more ts i t within ∙ ap (λ y. y ∷ drop (i + 1) ts) (sym is))) ∙ h

  pub sum_start : {X : Type 0} (f : X → A) (ts : List X) (z : A) → z ≡ o.zero → plus z (sum_list o ts f) ≡ sum_list o ts f
  sum_start f ts z e = ap (λ x. plus x (sum_list o ts f)) e ∙ zero_plus o r (sum_list o ts f)

  pub sum_end : {X : Type 0} (f : X → A) (ts : List X) (i : ℕ) (sum all : A) → length ts ≤ i → plus sum (sum_list o (drop i ts) f) ≡ all → sum ≡ all
  sum_end f ts i sum all over h = sym (ap (λ ys. plus sum (sum_list o ys f)) (drop_all i ts over) ∙ r.plus_zero sum) ∙ h
