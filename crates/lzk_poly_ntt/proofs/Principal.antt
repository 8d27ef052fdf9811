-- A principal root: the inverse transform, and the convolution theorem.
use Rattle.std.specs.Prelude.{◌≡◌, ℕ, ◌<◌, ◌+◌, ◌-◌, ◌*◌, ◌/◌, ◌%◌, ◌^◌, [], ◌∷◌, cond, Bool, true, false}
use Rattle.std.proofs.Common.{zero, suc, refl, sym, ap, ◌∙◌, arith, eqb}
use Rattle.std.proofs.lemmas.Bool.{eqb-true, eq-eqb}
use native.Mathlib.Decide.{dec_lt}
use Rattle.lzk_field.specs.Ring.{Ops, RingLaws}
use Rattle.lzk_field.specs.Sums.{sum_below, power}
use Rattle.lzk_field.proofs.RingBasics.{one_times, times_zero, zero_times, neg_neg, neg_times}
use Rattle.lzk_field.proofs.SumLaws.{sum-ext, sum-times, sum-swap, sum-single, sum-split}
use Rattle.lzk_field.proofs.Solve.{var, unit, ◌⊞◌, ◌⊠◌, solve}
use Rattle.lzk_poly_ntt.specs.Transform.{cyclic_convolution, dft, inverse_dft, IsPrincipal, IsRoot}
use Rattle.lzk_poly_ntt.proofs.Convolutions.{cyclic-at}
use Rattle.lzk_field.proofs.PowerLaws.{power-plus, power-one, power-square, power-swap, power-product}
use Rattle.lzk_poly_ntt.proofs.RootLaws.{twice_power, root-lower, root-whole, root_is}

module _ {A : Type 0} (o : Ops A) (r : RingLaws o) where
  open o use {plus, times, neg}

  -- twice as many powers
  powers_twice : (h : ℕ) (t : A) → sum_below o (h + h) (power o t) ≡ times (plus o.one (power o t h)) (sum_below o h (power o t))
  powers_twice h t =
      let H = var 0 in let S = var 1 in
      sum-split o r h h (power o t)
      ∙ ap (plus (sum_below o h (power o t))) (sum-ext o r h (λ i. power o t (h + i)) (λ i. times (power o t h) (power o t i)) (λ i l. power-plus o r t h i) ∙ sum-times o r h (power o t h) (power o t))
      ∙ solve o r (power o t h ∷ sum_below o h (power o t) ∷ []) (S ⊞ H ⊠ S) ((unit ⊞ H) ⊠ S) refl

  minus_odd : (m : ℕ) → power o (neg o.one) (2 * m + 1) ≡ neg o.one
  minus_odd m =
      let square : times (neg o.one) (neg o.one) ≡ o.one = neg_times o r o.one (neg o.one) ∙ ap neg (one_times o r _) ∙ neg_neg o r o.one in
      power-plus o r (neg o.one) (2 * m) 1 ∙ ap (λ u. times u (power o (neg o.one) 1)) (sym (power-square o r (neg o.one) m) ∙ ap (λ u. power o u m) square ∙ power-one o r m)
      ∙ one_times o r _ ∙ one_times o r _

  -- the powers of a power of a root add up to zero
  root-sums : (k : ℕ) (w : A) (j : ℕ) → IsRoot o k w → 0 < j → j < 2 ^ k → sum_below o (2 ^ k) (power o (power o w j)) ≡ o.zero
  root-sums zero w j root p q = absurd (omega arith)
  root-sums (suc k) w j root p q =
      ap (λ n. sum_below o n (power o (power o w j))) (twice_power k) ∙ powers_twice (2 ^ k) (power o w j)
      ∙ by_parity (dec_lt 0 (j % 2)) (λ m a b. root-sums k (times w w) m (root-lower o r k w root) a b)
    where
      h : ℕ
      h = 2 ^ k

      by_parity : Dec (0 < j % 2) → ((m : ℕ) → 0 < m → m < 2 ^ k → sum_below o (2 ^ k) (power o (power o (times w w) m)) ≡ o.zero)
          → times (plus o.one (power o (power o w j) (2 ^ k))) (sum_below o (2 ^ k) (power o (power o w j))) ≡ o.zero
      by_parity (yes odd) below =
          let m = j / 2 in
          let split : j ≡ 2 * m + 1 = omega arith in
          let turned : power o (power o w j) (2 ^ k) ≡ neg o.one = power-swap o r w j (2 ^ k) ∙ ap (λ u. power o u j) (root_is o r k w root) ∙ ap (power o (neg o.one)) split ∙ minus_odd m in
          ap (λ u. times (plus o.one u) (sum_below o (2 ^ k) (power o (power o w j)))) turned
          ∙ ap (λ u. times u (sum_below o (2 ^ k) (power o (power o w j)))) (r.plus_neg o.one) ∙ zero_times o r _
      by_parity (no even) below =
          let m = j / 2 in
          let split : 2 * m ≡ j = omega arith in
          let same : power o w j ≡ power o (times w w) m = ap (power o w) (sym split) ∙ sym (power-square o r w m) in
          ap (times (plus o.one (power o (power o w j) (2 ^ k)))) (ap (λ t. sum_below o (2 ^ k) (power o t)) same ∙ below m (omega arith) (omega (arith, twice_power k))) ∙ times_zero o r _

  pub root-principal : (k : ℕ) (w : A) → IsRoot o k w → IsPrincipal o (2 ^ k) w
  root-principal k w root = record { whole = root-whole o r k w root; sums = λ j p q. root-sums k w j root p q }

  module _ (n : ℕ) (w v : A) (is : IsPrincipal o n w) (inverse : times w v ≡ o.one) where
    cancelled : (a b : ℕ) → times (power o w (a + b)) (power o v b) ≡ power o w a
    cancelled a b =
        ap (λ u. times u (power o v b)) (power-plus o r w a b) ∙ r.times_assoc _ _ _
        ∙ ap (times (power o w a)) (sym (power-product o r w v b) ∙ ap (λ u. power o u b) inverse ∙ power-one o r b) ∙ r.times_one _

    ones : A
    ones = sum_below o n (λ j. o.one)

    -- the sum over the transform's values: all of them where the places are the same, else none
    unfolded : (l t : ℕ) → l < n → t < n → sum_below o n (power o (times (power o w l) (power o v t))) ≡ cond (eqb l t) (sum_below o n (λ j. o.one)) o.zero
    unfolded l t p q = places (dec_lt l t) (dec_lt t l)
      where
        unlike : (l ≡ t → ⊥) → eqb l t ≡ false
        unlike ne = go (eqb l t) refl
          where
            go : (b : Bool) → eqb l t ≡ b → eqb l t ≡ false
            go false e = e
            go true e = absurd (ne (eqb-true l t e))

        off : (j : ℕ) → 0 < j → j < n → times (power o w l) (power o v t) ≡ power o w j → (l ≡ t → ⊥) → sum_below o n (power o (times (power o w l) (power o v t))) ≡ cond (eqb l t) (sum_below o n (λ j. o.one)) o.zero
        off j a b e ne = ap (λ u. sum_below o n (power o u)) e ∙ is.sums j a b ∙ ap (λ c. cond c (sum_below o n (λ j. o.one)) o.zero) (sym (unlike ne))

        places : Dec (l < t) → Dec (t < l) → sum_below o n (power o (times (power o w l) (power o v t))) ≡ cond (eqb l t) (sum_below o n (λ j. o.one)) o.zero
        places (yes a) b =
            let j = n - (t - l) in
            let round : j + t ≡ n + l = omega arith in
            off j (omega arith) (omega arith)
            (sym (one_times o r _) ∙ ap (λ u. times u (times (power o w l) (power o v t))) (sym is.whole) ∙ sym (r.times_assoc _ _ _)
            ∙ ap (λ u. times u (power o v t)) (sym (power-plus o r w n l) ∙ ap (power o w) (sym round)) ∙ cancelled j t)
            (λ e. omega arith)
        places (no a) (yes b) =
            let up : l - t + t ≡ l = omega arith in
            off (l - t) (omega arith) (omega arith) (ap (λ k. times (power o w k) (power o v t)) (sym up) ∙ cancelled (l - t) t) (λ e. omega arith)
        places (no a) (no b) =
            let same : l ≡ t = omega arith in
            let one : times (power o w l) (power o v t) ≡ o.one = ap (λ k. times (power o w k) (power o v t)) same ∙ sym (power-product o r w v t) ∙ ap (λ u. power o u t) inverse ∙ power-one o r t in
            ap (λ u. sum_below o n (power o u)) one ∙ sum-ext o r n (power o o.one) (λ j. o.one) (λ j h. power-one o r j)
            ∙ ap (λ c. cond c (sum_below o n (λ j. o.one)) o.zero) (sym (eq-eqb l t same))

    -- the transform by the inverse, of the transform
    pub dft-back : (z : ℕ → A) (t : ℕ) → t < n → dft o n v (dft o n w z) t ≡ times (sum_below o n (λ j. o.one)) (z t)
    dft-back z t h =
        let all = sum_below o n (λ j. o.one) in
        let f : ℕ → ℕ → A = λ j l. times (times (z l) (power o (power o w j) l)) (power o (power o v t) j) in
        let Z = var 0 in let W = var 1 in let V = var 2 in
        sum-ext o r n (λ j. times (dft o n w z j) (power o (power o v t) j)) (λ j. sum_below o n (f j))
        (λ j k. r.times_comm _ _ ∙ sym (sum-times o r n (power o (power o v t) j) (λ l. times (z l) (power o (power o w j) l)))
        ∙ sum-ext o r n (λ l. times (power o (power o v t) j) (times (z l) (power o (power o w j) l))) (f j) (λ l m. r.times_comm _ _))
        ∙ sum-swap o r n n f
        ∙ sum-ext o r n (λ l. sum_below o n (λ j. f j l)) (λ l. cond (eqb l t) (times (z l) all) o.zero)
        (λ l k.
        sum-ext o r n (λ j. f j l) (λ j. times (z l) (power o (times (power o w l) (power o v t)) j))
        (λ j m. r.times_assoc _ _ _
        ∙ ap (times (z l)) (ap (λ u. times u (power o (power o v t) j)) (power-swap o r w j l) ∙ sym (power-product o r (power o w l) (power o v t) j)))
        ∙ sum-times o r n (z l) (power o (times (power o w l) (power o v t)))
        ∙ ap (times (z l)) (unfolded l t k h)
        ∙ choose (eqb l t) (z l) all)
        ∙ sum-single o r n t (λ l. times (z l) all) h
        ∙ r.times_comm _ _
      where
        choose : (b : Bool) (x y : A) → times x (cond b y o.zero) ≡ cond b (times x y) o.zero
        choose true x y = refl
        choose false x y = times_zero o r x

    -- the inverse transform undoes the transform
    pub inverse-undoes : (z : ℕ → A) (t : ℕ) → times (sum_below o n (λ j. o.one)) (o.inverse (sum_below o n (λ j. o.one))) ≡ o.one → t < n → inverse_dft o n v (dft o n w z) t ≡ z t
    inverse-undoes z t e h =
        let all = sum_below o n (λ j. o.one) in
        ap (times (o.inverse all)) (dft-back z t h) ∙ sym (r.times_assoc _ _ _) ∙ ap (λ u. times u (z t)) (r.times_comm _ _ ∙ e) ∙ one_times o r (z t)

    -- The convolution theorem: the inverse transform of the products of two transforms' values is the cyclic convolution.
    pub conv : (x y : ℕ → A) (t : ℕ) → times (sum_below o n (λ j. o.one)) (o.inverse (sum_below o n (λ j. o.one))) ≡ o.one → t < n
        → inverse_dft o n v (λ j. times (dft o n w x j) (dft o n w y j)) t ≡ cyclic_convolution o n x y t
    conv x y t e h =
        let all = sum_below o n (λ j. o.one) in
        ap (times (o.inverse all))
        (sum-ext o r n (λ j. times (times (dft o n w x j) (dft o n w y j)) (power o (power o v t) j)) (λ j. times (dft o n w (cyclic_convolution o n x y) j) (power o (power o v t) j))
        (λ j k. ap (λ u. times u (power o (power o v t) j)) (sym (cyclic-at o r n (power o w j) x y (power-swap o r w j n ∙ ap (λ u. power o u j) is.whole ∙ power-one o r j)))))
        ∙ inverse-undoes (cyclic_convolution o n x y) t e h
