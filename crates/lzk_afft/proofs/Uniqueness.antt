-- Values and coefficients determine each other.
use Rattle.std.specs.Prelude.{◌≡◌, ℕ, ◌<◌, ◌≤◌, ◌+◌, ◌-◌, ◌^◌, List, length}
use Rattle.std.proofs.Common.{zero, suc, sym, ap, ◌∙◌, arith}
use Rattle.std.proofs.lemmas.List.{ext_get_or, get_or_past}
use native.Mathlib.Decide.{dec_lt}
use Rattle.lzk_field.specs.Ring.{Ops, Laws}
use Rattle.lzk_field.specs.Sums.{entry}
use Rattle.lzk_field.proofs.RingBasics.{plus_cancel}
use Rattle.lzk_poly.specs.Polynomial.{eval}
use Rattle.lzk_poly.specs.Extension.{IsInterpolated, IsThrough, IsExtension, extension}
use Rattle.lzk_poly.specs.Products.{IsAligned, IsBinary}
use Rattle.lzk_poly.proofs.BinaryProducts.{binary_lower, aligned_low, aligned_high}
use Rattle.lzk_poly.proofs.Extensions.{extension-only}
use Rattle.lzk_field.proofs.Numbering.{points_apart, zero_element}
use Rattle.lzk_poly.specs.Through.{through}
use Rattle.lzk_poly.proofs.Interpolate.{points_interpolated}
use Rattle.lzk_poly.proofs.Through.{through-only}
use Rattle.lzk_afft.specs.Basis.{basis_sum, normalized, AreCoefficients}
use Rattle.lzk_afft.proofs.Degrees.{basis_sum_degree}
use Rattle.lzk_afft.proofs.Levels.{basis_sum_one}
use Rattle.lzk_afft.proofs.Splits.{lower, upper, normalized_value_low, normalized_value_high, basis_sum-cut}
use Rattle.lzk_afft.proofs.Subspaces.{double}

module _ {A : Type 0} {o : Ops A} {size : ℕ} {number_of : A → ℕ} {element : ℕ → A} {bytes : ℕ} (laws : Laws o size number_of element bytes) where
  open o use {plus, times}

  -- coefficients with the same sums at the points of a block are the same
  pub injective : (b at : ℕ) (c d : ℕ → A) → b ≤ 16 → IsBinary o element b → IsAligned o element b at → ((i : ℕ) → i < 2 ^ b → basis_sum o element c (2 ^ b) (element (at + i)) ≡ basis_sum o element d (2 ^ b) (element (at + i))) → (k : ℕ) → k < 2 ^ b → c k ≡ d k
  injective zero at c d few binary aligned same k h =
      let first : k ≡ 0 = omega arith in
      ap c first ∙ sym (basis_sum_one laws c (element (at + 0))) ∙ same 0 (omega arith) ∙ basis_sum_one laws d (element (at + 0)) ∙ ap d (sym first)
  injective (suc b) at c d few binary aligned same k h =
      step
      (λ j l. injective b at (lower laws b w c) (lower laws b w d) (omega arith) (binary_lower o laws.ring element b binary) (aligned_low o laws.ring element b at aligned) (λ i m. sym (normalized_value_low laws b at c i binary aligned m) ∙ same i (omega (arith, double b)) ∙ normalized_value_low laws b at d i binary aligned m) j l)
      (λ j l. injective b (at + 2 ^ b) (upper laws b w c) (upper laws b w d) (omega arith) (binary_lower o laws.ring element b binary) (aligned_high o laws.ring element b at binary aligned)
      (λ i m. let place : at + (2 ^ b + i) ≡ at + 2 ^ b + i = omega arith in
      sym (normalized_value_high laws b at c i few binary aligned m) ∙ ap (λ n. basis_sum o element c (2 ^ suc b) (element n)) (sym place) ∙ same (2 ^ b + i) (omega (arith, double b)) ∙ ap (λ n. basis_sum o element d (2 ^ suc b) (element n)) place ∙ normalized_value_high laws b at d i few binary aligned m) j l)
    where
      w : A
      w = normalized o element b (element at)

      step : ((j : ℕ) → j < 2 ^ b → lower laws b w c j ≡ lower laws b w d j) → ((j : ℕ) → j < 2 ^ b → upper laws b w c j ≡ upper laws b w d j) → c k ≡ d k
      step lows highs =
          let r = laws.ring in
          let high : (j : ℕ) → j < 2 ^ b → c (2 ^ b + j) ≡ d (2 ^ b + j) =
          λ j l. plus_cancel o r (lower laws b w c j) (c (2 ^ b + j)) (d (2 ^ b + j)) (highs j l ∙ ap (λ v. plus v (d (2 ^ b + j))) (sym (lows j l))) in
          elim (dec_lt k (2 ^ b)) [
            | yes l ↦ plus_cancel o r (times w (c (2 ^ b + k))) (c k) (d k)
                (r.plus_comm _ _ ∙ lows k l ∙ ap (λ v. plus (d k) (times w v)) (sym (high k l)) ∙ r.plus_comm _ _)
            | no l ↦ let place : 2 ^ b + (k - 2 ^ b) ≡ k = omega arith in
                ap c (sym place) ∙ high (k - 2 ^ b) (omega (arith, double b)) ∙ ap d place
          ]

  -- a polynomial with coefficients of the values is the one through them
  pub coefficients_same : (values c : List A) (one : IsInterpolated o element values) → AreCoefficients o element values c → (t : A) → basis_sum o element (entry o c) (length c) t ≡ eval o one.through t
  coefficients_same values c one is t =
      let p = basis_sum_degree o laws.ring element (entry o c) (length c) in
      let through : IsThrough o element values p.coefficients = record { count = p.count ∙ is.count; meets = λ i h. p.same (element i) ∙ is.meets i h } in
      sym (p.same t) ∙ ap (λ cs. eval o cs t) (one.only p.coefficients through)

  padded : (c : List A) (b : ℕ) (t : A) → length c ≤ 2 ^ b → basis_sum o element (entry o c) (2 ^ b) t ≡ basis_sum o element (entry o c) (length c) t
  padded c b t h = basis_sum-cut o laws.ring element (entry o c) (length c) (2 ^ b) t h (λ k l m. get_or_past c k o.zero l)

  -- no other coefficients meet the values
  pub only_coefficients : (values c d : List A) (b : ℕ) → b ≤ 16 → IsBinary o element b → length values ≤ 2 ^ b → length values ≤ 65536 → AreCoefficients o element values c → AreCoefficients o element values d → d ≡ c
  only_coefficients values c d b few binary fits short is other =
      let one = points_interpolated laws values short in
      let same : length d ≡ length c = other.count ∙ sym is.count in
      ext_get_or o.zero d c same
      (λ k h. injective b 0 (entry o d) (entry o c) few binary (λ j l. ap element (omega arith) ∙ sym (ap (λ v. plus v (element j)) (zero_element laws.numbers) ∙ laws.ring.plus_comm _ _ ∙ laws.ring.plus_zero _))
      (λ i l. padded d b (element (0 + i)) (omega (arith, other.count)) ∙ coefficients_same values d one other (element (0 + i)) ∙ sym (padded c b (element (0 + i)) (omega (arith, is.count)) ∙ coefficients_same values c one is (element (0 + i))))
      k (omega (arith, other.count)))

  -- their polynomial is the one by Lagrange's formula
  pub coefficients_through : (values c : List A) → length values ≤ 65536 → AreCoefficients o element values c → (t : A) → basis_sum o element (entry o c) (length c) t ≡ eval o (through o element values) t
  coefficients_through values c short is t =
      let one = points_interpolated laws values short in
      coefficients_same values c one is t ∙ ap (λ cs. eval o cs t) (through-only o laws.ring laws.field element values one.through (points_apart laws (length values) short) one.is_through)

  -- and gives the values at further points
  pub coefficients_extension : (values c : List A) (j : ℕ) (y : A) → length values ≤ 65536 → AreCoefficients o element values c → y ≡ basis_sum o element (entry o c) (length c) (element j) → IsExtension o element values j y × (y ≡ extension o element values j)
  coefficients_extension values c j y short is e =
      let one = points_interpolated laws values short in
      let found : IsExtension o element values j y = record { one = one; value = e ∙ coefficients_same values c one is (element j) } in
      (found, extension-only o laws.ring laws.field element values (points_apart laws (length values) short) j y found)
