-- What weights over differences of points extend.
use Rattle.std.specs.Prelude.{◌≡◌, ℕ, ◌<◌, ◌≤◌, ◌+◌, ◌-◌, List, length}
use Rattle.std.proofs.Common.{take, sym, ap, ◌∙◌, arith}
use Rattle.std.proofs.lemmas.List.{get_or-take, length-take}
use Rattle.std.proofs.lemmas.List.FromFn.{get_or-map-range_with_len, length-map-range_with_len}
use Rattle.lzk_field.specs.Ring.{Ops, RingLaws, FieldLaws, Laws}
use Rattle.lzk_field.specs.Sums.{minus, entry, sum_below, dot_product}
use Rattle.lzk_field.proofs.RingBasics.{inverse_unique}
use Rattle.lzk_field.proofs.SumLaws.{sum-ext}
use Rattle.lzk_poly.specs.Extension.{others}
use Rattle.lzk_poly.specs.Weights.{IsEven, IsInverseTable, IsWeights, passed, part, parts}
use Rattle.lzk_poly.proofs.Blocks.{parts_extension}
use Rattle.lzk_sumcheck.proofs.Filled.{filled_whole}
use Rattle.lzk_verify.specs.Extending.{AreInverseDifferences, Extends, weight, weighted}

-- at even points the inverse of a difference stands in the table at the difference of the numbers
pub even_inverse : {A : Type 0} (o : Ops A) (r : RingLaws o) (f : FieldLaws o) (point : ℕ → A) (table : List A) (i j : ℕ) → IsEven o point (j + 1) → IsInverseTable o point table → j < length table → i < j
    → entry o table (j - i) ≡ o.inverse (minus o (point j) (point i))
even_inverse o r f point table i j even inverse room before =
    inverse_unique o r f (minus o (point j) (point i)) (entry o table (j - i)) (ap (λ w. o.times w (entry o table (j - i))) (even i j (omega arith) (omega arith)) ∙ inverse (j - i) (omega arith) (omega arith))

-- the first of the inverses of differences are those of the first differences
pub first_inverses : {A : Type 0} (o : Ops A) (element : ℕ → A) (point n : ℕ) (inverses : List A) → AreInverseDifferences o element point inverses → AreInverseDifferences o element point (take n inverses)
first_inverses o element point n inverses are i h =
    get_or-take n inverses i o.zero (omega (arith, h, length-take n inverses)) ∙ are i (omega (arith, h, length-take n inverses))

module _ {A : Type 0} (o : Ops A) (element : ℕ → A) (values : List A) where
  -- there are as many weighted values
  pub length_weighted : length (weighted o element values) ≡ length values
  unfolding weighted
  length_weighted = length-map-range_with_len (λ i. o.times (entry o values i) (weight o element (length values) i)) 0 (length values)

  pub same_length : (list : List A) → list ≡ weighted o element values → length list ≡ length values
  same_length list is = ap length is ∙ length_weighted

  -- and each is the value times its weight
  pub weighted_entry : (i : ℕ) → i < length values → entry o (weighted o element values) i ≡ o.times (entry o values i) (weight o element (length values) i)
  unfolding weighted
  weighted_entry i h = get_or-map-range_with_len (λ i. o.times (entry o values i) (weight o element (length values) i)) 0 (length values) i i o.zero h (omega arith)

  -- a list is that of the weighted values where each entry is
  pub are_weighted : (list : List A) → length list ≡ length values → ((i : ℕ) → i < length values → entry o list i ≡ o.times (entry o values i) (weight o element (length values) i)) → list ≡ weighted o element values
  unfolding weighted
  are_weighted list long each = filled_whole o.zero (λ i. o.times (entry o values i) (weight o element (length values) i)) (length values) list long each

-- the weights are those that are kept
pub kept_weight : {A : Type 0} (o : Ops A) (r : RingLaws o) (f : FieldLaws o) (element : ℕ → A) (ws : List A) (n i : ℕ) → IsWeights o element n ws → i < n → entry o ws i ≡ weight o element n i
kept_weight o r f element ws n i weights h = inverse_unique o r f (others o element n i (element i)) (entry o ws i) (r.times_comm _ _ ∙ weights.1 i h)

module _ {A : Type 0} {o : Ops A} {size : ℕ} {number_of : A → ℕ} {element : ℕ → A} {bytes : ℕ} (laws : Laws o size number_of element bytes) where
  -- inverses of differences extend weighted values
  pub extended : (inverses : List A) (n point : ℕ) (last : A) → length inverses ≡ n → n ≤ point → point < 65536 → AreInverseDifferences o element point inverses → last ≡ passed o element n (element point)
      → Extends o element point inverses last
  extended inverses n point last long behind limit each is = λ values as_long.
      let same : length values ≡ n = as_long ∙ long in
      let x = element point in
      let sums : dot_product o (weighted o element values) inverses ≡ parts o element values (length values) x =
      ap (λ m. sum_below o m (λ i. o.times (entry o (weighted o element values) i) (entry o inverses i))) (length_weighted o element values)
      ∙ sum-ext o laws.ring (length values) (λ i. o.times (entry o (weighted o element values) i) (entry o inverses i)) (λ i. part o element values i x)
      (λ i h.
      let a = weighted_entry o element values i h in
      let b = each i (omega (arith, h, as_long)) in
      λ j. o.times (a j) (b j)) in
      ap (λ z. o.times z last) sums ∙ ap (o.times (parts o element values (length values) x)) (is ∙ ap (λ m. passed o element m x) (sym same))
      ∙ parts_extension laws values point (omega (arith, same, behind)) limit
