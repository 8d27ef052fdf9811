-- The values of rows, as they are set.
use Rattle.lzk_profile.specs.Profile.{opened_count}
use Rattle.std.specs.Prelude.{◌≡◌, ℕ, ◌+◌, ◌-◌, ◌*◌, ◌<◌, ◌≤◌, List, ◌++◌, length, map, drop, slice_range}
use Rattle.std.specs.List.{range_with_len}
use Rattle.std.proofs.Common.{zero, suc, refl, sym, ap, ◌∙◌, arith, inl, inr, length-take, length-drop, length-append}
use Rattle.std.proofs.Math.Nat.{suc-mul, mul-le-mul_right}
use Rattle.std.proofs.lemmas.Bool.{cases_lt}
use Rattle.std.proofs.lemmas.List.{get_or_append_left, get_or-append_right}
use Rattle.std.proofs.lemmas.List.FromFn.{get_or-map-range_with_len, length-map-range_with_len}
use Rattle.lzk_field.specs.Coding.{Coding}
use Rattle.lzk_field.specs.Ring.{Ops, RingLaws}
use Rattle.lzk_field.specs.Sums.{entry, sum_below}
use Rattle.lzk_field.proofs.SumLaws.{sum-ext}
use Rattle.lzk_poly.specs.Extension.{extension}
use Rattle.lzk_poly.specs.Laws.{ValuesStay}
use Rattle.lzk_layout.specs.declared.params.Params.{Params}
use Rattle.lzk_ligero_tableau.specs.Filled.{AreFilled, filled_row}
use Rattle.lzk_ligero_tableau.proofs.FilledLaws.{part_entry}

-- the sum of the middle values, of random ones
pub middle_sum : {A : Type 0} (o : Ops A) (r : RingLaws o) (random : ℕ → A) (xs : List A) (first n last : ℕ) → xs ≡ map random (range_with_len first n) → last ≤ n → opened_count ≤ last
    → sum_below o (length (slice_range xs opened_count last)) (λ i. entry o (slice_range xs opened_count last) i) ≡ sum_below o (last - opened_count) (λ i. random (first + opened_count + i))
middle_sum {A} o r random xs first n last is within low =
    let size : length xs ≡ n = ap length is ∙ length-map-range_with_len random first n in
    let own : length (slice_range xs opened_count last) ≡ last - opened_count = length-take (last - opened_count) (drop opened_count xs) ∙ omega (arith, length-drop opened_count xs) in
    let value : ℕ → A = λ i. entry o (slice_range xs opened_count last) i in
    let wanted : ℕ → A = λ i. random (first + opened_count + i) in
    ap (λ m. sum_below o m value) own
    ∙ sum-ext o r (last - opened_count) value wanted
    (λ i h.
    part_entry o.zero xs opened_count last i h
    ∙ ap (λ ys. entry o ys (opened_count + i)) is
    ∙ get_or-map-range_with_len random first n (opened_count + i) (first + opened_count + i) o.zero (omega arith) (omega arith))

-- values and their extension behind them are the extension at all points
pub extended : {A : Type 0} (o : Ops A) (point : ℕ → A) (values further : List A) → ValuesStay o point → length values ≤ 65536
    → ((k : ℕ) → k < length further → entry o further k ≡ extension o point values (length values + k))
    → (k : ℕ) → k < length (values ++ further) → entry o (values ++ further) k ≡ extension o point values k
extended o point values further stay few behind k h =
    elim (cases_lt k (length values)) [
      | inl l ↦ get_or_append_left values further o.zero k l ∙ sym (stay values few k l)
      | inr ge ↦
          let n = length values in
          let at : n + (k - n) ≡ k = omega arith in
          get_or-append_right values further n k o.zero refl ge
          ∙ behind (k - n) (omega (arith, length-append values further))
          ∙ ap (extension o point values) at
    ]

module _ {A : Type 0} (o : Ops A) (e : Coding A) (word : ℕ → ℕ) (p : Params) (elements : List A) where
  -- no rows
  pub none_filled : (first count : ℕ) (table : List A) → count ≡ 0 → AreFilled o e word p elements first count table
  none_filled first count table none = record { values = λ i k h l. absurd (omega arith) }

  -- a row, and the others behind it
  pub one_more : (first count : ℕ) (front later : List A) → 0 < count → length front ≡ p.ncol
      → ((k : ℕ) → k < length front → entry o front k ≡ extension o e.element (filled_row o e word p elements first) k)
      → AreFilled o e word p elements (first + 1) (count - 1) later → AreFilled o e word p elements first count (front ++ later)
  one_more first count front later some size own rest = record { values = value }
    where
      value : (i k : ℕ) → i < count → k < p.ncol → entry o (front ++ later) (i * p.ncol + k) ≡ extension o e.element (filled_row o e word p elements (first + i)) k
      value zero k h l =
          let at : 0 * p.ncol + k ≡ k = omega arith in
          let number : first ≡ first + 0 = omega arith in
          ap (entry o (front ++ later)) at
          ∙ get_or_append_left front later o.zero k (omega arith)
          ∙ own k (omega arith)
          ∙ ap (λ n. extension o e.element (filled_row o e word p elements n) k) number
      value (suc i) k h l =
          let at : suc i * p.ncol + k - p.ncol ≡ i * p.ncol + k = omega (arith, suc-mul i p.ncol) in
          let number : first + 1 + i ≡ first + suc i = omega arith in
          get_or-append_right front later p.ncol (suc i * p.ncol + k) o.zero size (omega (arith, suc-mul i p.ncol))
          ∙ ap (entry o later) at
          ∙ rest.values i k (omega arith) l
          ∙ ap (λ n. extension o e.element (filled_row o e word p elements n) k) number

  -- rows in front of something else
  pub filled_front : (first count : ℕ) (front room : List A) → length front ≡ count * p.ncol → AreFilled o e word p elements first count front → AreFilled o e word p elements first count (front ++ room)
  filled_front first count front room size own = record {
    values = λ i k h l.
        let low : suc i * p.ncol ≤ count * p.ncol = mul-le-mul_right p.ncol h in
        get_or_append_left front room o.zero (i * p.ncol + k) (omega (arith, low, suc-mul i p.ncol)) ∙ own.values i k h l;
  }
