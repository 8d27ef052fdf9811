-- The transforms of blocks, and the sums of their products with the transforms of kernels.
use Rattle.std.specs.Prelude.{◌≡◌, ℕ, ◌<◌, ◌≤◌, ◌+◌, ◌-◌, ◌*◌, ◌^◌, List, ◌++◌, length, cond}
use Rattle.std.proofs.Common.{zero, suc, sym, ap, ◌∙◌, arith, ltb}
use Rattle.std.proofs.lemmas.Bool.{lt-ltb, le-ltb}
use Rattle.std.proofs.lemmas.List.{get_or-append-add}
use Rattle.std.proofs.Math.ListN.{get_or-append}
use Rattle.std.proofs.Math.Nat.{suc-mul}
use native.Mathlib.Decide.{dec_lt}
use Rattle.lzk_field.specs.Ring.{Ops, RingLaws}
use Rattle.lzk_field.specs.Sums.{entry}
use Rattle.lzk_field.proofs.RingBasics.{zero_plus}
use Rattle.lzk_poly_ntt.specs.declared.plan.Plan.{Plan}
use Rattle.lzk_poly_ntt.specs.Transform.{doubled, spectrum, IsRoot, Order}
use Rattle.lzk_poly_ntt.specs.Kernels.{AreSpectra, convolution, convolutions, end_of, from_of, kernel_entry, skip_of, weighted}
use Rattle.lzk_poly_ntt.proofs.Convolutions.{spectrum-cyclic}
use Rattle.lzk_poly_ntt.proofs.Transforms.{spectrum-ext, spectrum-plus}

module _ {A : Type 0} (o : Ops A) where
  open o use {times}

  -- a list of a block's values times their weights
  pub weighted_is : (plan : Plan) (values ws xs : List A) (v n : ℕ) → end_of plan v - v * plan.block ≤ plan.block
      → ((i : ℕ) → i < skip_of plan v → entry o xs i ≡ o.zero)
      → ((i : ℕ) → i < end_of plan v - v * plan.block → entry o xs (skip_of plan v + i) ≡ times (entry o values (v * plan.block + i)) (entry o ws (v * plan.block + i)))
      → ((i : ℕ) → plan.block ≤ i → i < n → entry o xs i ≡ o.zero)
      → (i : ℕ) → i < n → entry o xs i ≡ weighted o plan values ws v i
  weighted_is plan values ws xs v n short before near far i h =
      let s = v * plan.block in
      let skip = skip_of plan v in
      let product : A = times (entry o values (s + (i - skip))) (entry o ws (s + (i - skip))) in
      elim (dec_lt i skip) [
        | yes l ↦ before i l ∙ sym (ap (λ b. cond b o.zero (cond (ltb i plan.block) product o.zero)) (lt-ltb i skip l))
        | no l ↦
            sym (ap (λ b. cond b o.zero (cond (ltb i plan.block) product o.zero)) (le-ltb i skip (omega arith))
            ∙ elim (dec_lt i plan.block) [
              | yes k ↦ let place : skip + (i - skip) ≡ i = omega arith in
                  ap (λ b. cond b product o.zero) (lt-ltb i plan.block k) ∙ sym (near (i - skip) (omega (arith, short))) ∙ ap (entry o xs) place
              | no k ↦ ap (λ b. cond b product o.zero) (le-ltb i plan.block (omega arith)) ∙ sym (far i (omega arith) h)
            ])
      ]

  -- the transform of a block before those of the blocks behind it
  pub spectra_joined : (d : Order A) (plan : Plan) (values ws : List A) (from : ℕ) (first rest : List A) → length first ≡ 2 ^ d.bits
      → ((j : ℕ) → j < length first → entry o first j ≡ spectrum o d.bits d.root (weighted o plan values ws from) j)
      → AreSpectra o d plan values ws (from + 1) rest → AreSpectra o d plan values ws from (first ++ rest)
  spectra_joined d plan values ws from first rest size here behind zero j h l =
      let place : 0 * 2 ^ d.bits + j ≡ j = omega arith in
      let same : from + 0 ≡ from = omega arith in
      ap (entry o (first ++ rest)) place ∙ get_or-append first rest o.zero j (omega (arith, size)) ∙ here j (omega (arith, size))
      ∙ ap (λ v. spectrum o d.bits d.root (weighted o plan values ws v) j) (sym same)
  spectra_joined d plan values ws from first rest size here behind (suc u) j h l =
      let place : suc u * 2 ^ d.bits + j ≡ length first + (u * 2 ^ d.bits + j) = omega (arith, size, suc-mul u (2 ^ d.bits)) in
      let same : from + 1 + u ≡ from + suc u = omega arith in
      ap (entry o (first ++ rest)) place ∙ get_or-append-add first rest (u * 2 ^ d.bits + j) o.zero ∙ behind u j (omega arith) l
      ∙ ap (λ v. spectrum o d.bits d.root (weighted o plan values ws v) j) same

  -- where all transforms stand, that of a block
  pub spectra_at : (d : Order A) (plan : Plan) (values ws xs : List A) → AreSpectra o d plan values ws 0 xs → (v j : ℕ) → v < plan.blocks → j < 2 ^ d.bits → entry o xs (v * 2 ^ d.bits + j) ≡ spectrum o d.bits d.root (weighted o plan values ws v) j
  spectra_at d plan values ws xs known v j h l =
      let same : 0 + v ≡ v = omega arith in
      known v j (omega (arith, h)) l ∙ ap (λ n. spectrum o d.bits d.root (weighted o plan values ws n) j) same

module _ {A : Type 0} (o : Ops A) (r : RingLaws o) (point : ℕ → A) (d : Order A) (plan : Plan) (values ws : List A) (p : ℕ) where
  open o use {plus, times}

  abbrev kernel_of : ℕ → ℕ → A
  kernel_of v = kernel_entry o point (o.inverse (doubled o d.bits)) plan.upto (from_of plan p + 1 - end_of plan v)

  pub first_product : (j : ℕ) (x y : A) → IsRoot o d.bits d.root
      → x ≡ spectrum o d.bits d.root (weighted o plan values ws 0) j → y ≡ spectrum o d.bits d.root (kernel_of 0) j
      → times x y ≡ spectrum o d.bits d.root (convolutions o point d plan values ws p 1) j
  first_product j x y root left right =
      let c : ℕ → A = convolution o point d plan values ws p 0 in
      ap (λ u. times u y) left ∙ ap (times (spectrum o d.bits d.root (weighted o plan values ws 0) j)) right
      ∙ sym (spectrum-cyclic o r d.bits d.root (weighted o plan values ws 0) (kernel_of 0) j root)
      ∙ spectrum-ext o r d.bits d.root c (convolutions o point d plan values ws p 1) j (λ t l. sym (zero_plus o r (c t)))

  pub next_product : (v j : ℕ) (s x y : A) → IsRoot o d.bits d.root
      → s ≡ spectrum o d.bits d.root (convolutions o point d plan values ws p v) j
      → x ≡ spectrum o d.bits d.root (weighted o plan values ws v) j → y ≡ spectrum o d.bits d.root (kernel_of v) j
      → plus s (times x y) ≡ spectrum o d.bits d.root (convolutions o point d plan values ws p (v + 1)) j
  next_product v j s x y root sum left right =
      let c : ℕ → A = convolution o point d plan values ws p v in
      let cs : ℕ → A = convolutions o point d plan values ws p v in
      let next : suc v ≡ v + 1 = omega arith in
      ap (λ u. plus u (times x y)) sum
      ∙ ap (plus (spectrum o d.bits d.root cs j))
      (ap (λ u. times u y) left ∙ ap (times (spectrum o d.bits d.root (weighted o plan values ws v) j)) right
      ∙ sym (spectrum-cyclic o r d.bits d.root (weighted o plan values ws v) (kernel_of v) j root))
      ∙ sym (spectrum-plus o r d.bits d.root cs c j)
      ∙ ap (λ n. spectrum o d.bits d.root (convolutions o point d plan values ws p n) j) next
