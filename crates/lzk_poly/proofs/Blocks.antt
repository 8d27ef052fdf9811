-- Sums of values over differences, in blocks.
use Rattle.std.specs.Prelude.{◌≡◌, ℕ, ◌<◌, ◌≤◌, ◌+◌, ◌-◌, List, length}
use Rattle.std.proofs.Common.{zero, suc, sym, ap, ◌∙◌, arith, subst}
use Rattle.lzk_field.specs.Ring.{Ops, RingLaws, FieldLaws, Laws}
use Rattle.lzk_field.specs.Sums.{sum_below, minus, entry}
use Rattle.lzk_field.proofs.RingBasics.{inverse_unique, same_from_difference}
use Rattle.lzk_field.proofs.SumLaws.{sum-ext, sum-first}
use Rattle.lzk_field.proofs.Numbering.{points_apart}
use Rattle.lzk_poly.specs.Extension.{IsExtension, extension, others}
use Rattle.lzk_poly.specs.Weights.{IsEven, IsInverseTable, IsWeights, passed, part, parts, quotient_sum}
use Rattle.lzk_poly.proofs.Interpolate.{built-extension, weighted, extension_is, others_nonzero}
use Rattle.lzk_poly.proofs.Inverses.{built-quotients}

module _ {A : Type 0} (o : Ops A) (r : RingLaws o) where
  -- a sum, and the terms after it from the last to the first
  sum-turned : (start size : ℕ) (g : ℕ → A) → sum_below o (start + size) g ≡ o.plus (sum_below o start g) (sum_below o size (λ k. g (start + size - 1 - k)))
  sum-turned start zero g = ap (λ n. sum_below o n g) (omega arith) ∙ sym (r.plus_zero _)
  sum-turned start (suc n) g =
      let last : start + suc n ≡ suc (start + n) = omega arith in
      ap (λ m. sum_below o m g) last ∙ ap (λ w. o.plus w (g (start + n))) (sum-turned start n g)
      ∙ r.plus_assoc _ _ _
      ∙ ap (o.plus (sum_below o start g))
      (r.plus_comm _ _
      ∙ ap (λ w. o.plus w (sum_below o n (λ k. g (start + n - 1 - k)))) (ap g (omega arith))
      ∙ ap (o.plus (g (start + suc n - 1 - 0))) (sum-ext o r n (λ k. g (start + n - 1 - k)) (λ k. g (start + suc n - 1 - suc k)) (λ k h. ap g (omega arith)))
      ∙ sym (sum-first o r n (λ k. g (start + suc n - 1 - k))))

module _ {A : Type 0} (o : Ops A) (r : RingLaws o) (f : FieldLaws o) (point : ℕ → A) where
  -- at even points the inverses stand in the table one after the other
  pub steps_are_quotients : (block table : List A) (end j upto : ℕ) → IsEven o point upto → IsInverseTable o point table → upto ≤ length table → length block ≤ end → end ≤ j → j < upto
      → sum_below o (length block) (λ k. o.times (entry o block k) (entry o table (j + 1 - end + k))) ≡ quotient_sum o point block end (point j)
  steps_are_quotients block table end j upto even inverse room enough after reached =
      sum-ext o r (length block) (λ k. o.times (entry o block k) (entry o table (j + 1 - end + k))) (λ k. o.times (entry o block k) (o.inverse (minus o (point j) (point (end - 1 - k)))))
      (λ k h.
      let i = end - 1 - k in
      let m = j + 1 - end + k in
      let same : j - i ≡ m = omega arith in
      ap (o.times (entry o block k))
      (inverse_unique o r f (minus o (point j) (point i)) (entry o table m)
      (ap (λ w. o.times w (entry o table m)) (even i j (omega arith) reached ∙ ap point same) ∙ inverse m (omega arith) (omega arith))))

  -- a block's quotients are what its values add
  pub block_adds_parts : (values ws block : List A) (start : ℕ) (x : A) → IsWeights o point (length values) ws → start + length block ≤ length values
      → ((k : ℕ) → k < length block → entry o block k ≡ o.times (entry o values (start + length block - 1 - k)) (entry o ws (start + length block - 1 - k)))
      → o.plus (parts o point values start x) (quotient_sum o point block (start + length block) x) ≡ parts o point values (start + length block) x
  block_adds_parts values ws block start x weights within is =
      let n = length block in
      let g : ℕ → A = λ i. part o point values i x in
      ap (o.plus (parts o point values start x))
      (sum-ext o r n (λ k. o.times (entry o block k) (o.inverse (minus o x (point (start + n - 1 - k))))) (λ k. g (start + n - 1 - k))
      (λ k h. let i = start + n - 1 - k in
      ap (λ w. o.times w (o.inverse (minus o x (point i))))
      (is k h ∙ ap (o.times (entry o values i)) (inverse_unique o r f (others o point (length values) i (point i)) (entry o ws i) (r.times_comm _ _ ∙ weights.1 i (omega arith))))))
      ∙ sym (sum-turned o r start n g)

module _ {A : Type 0} {o : Ops A} {size : ℕ} {number_of : A → ℕ} {element : ℕ → A} {bytes : ℕ} (laws : Laws o size number_of element bytes) where
  pub is_extension_of : (values : List A) (j : ℕ) (y : A) → length values ≤ 65536 → y ≡ extension o element values j → IsExtension o element values j y
  is_extension_of values j y short e =
      let known = extension_is o laws.ring laws.field element values (points_apart laws (length values) short) j in
      record { one = known.one; value = e ∙ known.value }

  pub parts_extension : (values : List A) (j : ℕ) → length values ≤ j → j < 65536 → o.times (parts o element values (length values) (element j)) (passed o element (length values) (element j)) ≡ extension o element values j
  parts_extension values j after h =
      let n = length values in
      let apart = points_apart laws 65536 (omega arith) in
      let w : ℕ → A = λ i. o.inverse (others o element n i (element i)) in
      let right : (i : ℕ) → i < n → o.times (w i) (others o element n i (element i)) ≡ o.one =
      λ i l. laws.ring.times_comm _ _ ∙ laws.field.times_inverse _ (others_nonzero o laws.ring laws.field element n (λ a b p q. apart a b p (omega arith)) n i (omega arith) l) in
      laws.ring.times_comm _ _
      ∙ sym (built-quotients o laws.ring laws.field element (weighted o laws.ring element values w) n (element j)
      (λ i l z. apart i j (omega arith) h (sym (same_from_difference o laws.ring (element j) (element i) z))))
      ∙ built-extension o laws.ring element laws.field values w right j

-- a product of a value and a weight, over a difference, is what the value adds
module _ {A : Type 0} (o : Ops A) (r : RingLaws o) (f : FieldLaws o) (point : ℕ → A) where
  pub part_is : (values ws : List A) (n i : ℕ) (x v w s d q : A) → IsWeights o point n ws → length values ≡ n → i < n → v ≡ entry o values i → w ≡ entry o ws i → s ≡ o.times v w → d ≡ minus o x (point i) → q ≡ o.inverse d → o.times s q ≡ part o point values i x
  part_is values ws n i x v w s d q weights count h ev ew es ed eq =
      let weights_too : IsWeights o point (length values) ws = subst (λ (m : ℕ). IsWeights o point m ws) (sym count) weights in
      let below : i < length values = omega arith in
      let is : entry o ws i ≡ o.inverse (others o point (length values) i (point i)) = inverse_unique o r f (others o point (length values) i (point i)) (entry o ws i) (r.times_comm _ _ ∙ weights_too.1 i below) in
      ap (λ y. o.times y q) (es ∙ ap (λ y. o.times y w) ev ∙ ap (o.times (entry o values i)) (ew ∙ is)) ∙ ap (o.times (o.times (entry o values i) (o.inverse (others o point (length values) i (point i))))) (eq ∙ ap o.inverse ed)
