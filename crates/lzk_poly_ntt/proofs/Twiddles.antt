-- Tables of powers.
use Rattle.std.specs.Prelude.{◌≡◌, ◌≢◌, ℕ, ◌<◌, ◌≤◌, ◌+◌, ◌-◌, ◌*◌, ◌^◌, List}
use Rattle.std.proofs.Common.{zero, suc, refl, sym, ap, ◌∙◌, arith}
use Rattle.lzk_field.specs.Ring.{Ops, RingLaws, FieldLaws}
use Rattle.lzk_field.specs.Sums.{power, entry}
use Rattle.lzk_field.proofs.RingBasics.{no_divisors, one_times, plus_times, times_zero}
use Rattle.lzk_poly_ntt.specs.Transform.{doubled, AreTwiddles, IsRoot}
use Rattle.lzk_poly_ntt.proofs.Levels.{power_positive}
use Rattle.lzk_field.proofs.PowerLaws.{power-square}
use Rattle.lzk_poly_ntt.proofs.RootLaws.{twice_power, root-whole}

module _ {A : Type 0} (o : Ops A) (r : RingLaws o) where
  -- the powers at the top, and each place below as twice the place
  pub are_twiddles : (k : ℕ) (w : A) (ts : List A) → ((i : ℕ) → i < 2 ^ k → entry o ts (2 ^ k + i) ≡ power o w i) → ((i : ℕ) → 1 ≤ i → i < 2 ^ k → entry o ts i ≡ entry o ts (2 * i)) → AreTwiddles o (suc k) w ts
  are_twiddles zero w ts top halves = (top, refl)
  are_twiddles (suc k) w ts top halves =
      let double = twice_power k in (
        top,
        are_twiddles k (o.times w w) ts
            (λ i h.
            let place : 2 * (2 ^ k + i) ≡ 2 ^ suc k + 2 * i = omega (arith, double) in
            halves (2 ^ k + i) (omega (arith, power_positive k)) (omega (arith, double)) ∙ ap (entry o ts) place ∙ top (2 * i) (omega (arith, double)) ∙ sym (power-square o r w i))
            (λ i p q. halves i p (omega (arith, double))),
      )

  pub twiddles_of_bits : (bits half : ℕ) (w : A) (ts : List A) → 1 ≤ bits → half ≡ 2 ^ (bits - 1) → ((i : ℕ) → i < half → entry o ts (half + i) ≡ power o w i) → ((i : ℕ) → 1 ≤ i → i < half → entry o ts i ≡ entry o ts (2 * i)) → AreTwiddles o bits w ts
  twiddles_of_bits zero half w ts h e top halves = absurd (omega arith)
  twiddles_of_bits (suc k) half w ts h e top halves =
      let less : suc k - 1 ≡ k = omega arith in
      let is : half ≡ 2 ^ k = e ∙ ap (λ n. 2 ^ n) less in
      are_twiddles k w ts (λ i l. ap (λ n. entry o ts (n + i)) (sym is) ∙ top i (omega (arith, is))) (λ i p q. halves i p (omega (arith, is)))

  pub root_nonzero : (f : FieldLaws o) (k : ℕ) (w : A) → IsRoot o k w → w ≢ o.zero
  root_nonzero f k w root z = f.one_not_zero (sym (root-whole o r k w root) ∙ ap (λ v. power o v (2 ^ k)) z ∙ none (2 ^ k) (power_positive k))
    where
      none : (n : ℕ) → 1 ≤ n → power o o.zero n ≡ o.zero
      none zero h = absurd (omega arith)
      none (suc n) h = times_zero o r _

module _ {A : Type 0} (o : Ops A) (r : RingLaws o) (f : FieldLaws o) where
  pub doubled_nonzero : o.plus o.one o.one ≢ o.zero → (k : ℕ) → doubled o k ≢ o.zero
  doubled_nonzero two zero z = f.one_not_zero z
  doubled_nonzero two (suc k) z =
      let d = doubled o k in
      doubled_nonzero two k (no_divisors o r f (o.plus o.one o.one) d two (plus_times o r o.one o.one d ∙ ap (λ u. o.plus u (o.times o.one d)) (one_times o r d) ∙ ap (o.plus d) (one_times o r d) ∙ z))
