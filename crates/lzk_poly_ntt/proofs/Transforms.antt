-- A transform by halves.
use Rattle.std.specs.Prelude.{◌≡◌, ℕ, ◌<◌, ◌+◌, ◌-◌, ◌*◌, ◌^◌, [], ◌∷◌, cond}
use Rattle.std.proofs.Common.{suc, refl, sym, ap, ◌∙◌, arith}
use Rattle.std.proofs.lemmas.Bool.{lt-ltb, le-ltb}
use Rattle.lzk_field.specs.Ring.{Ops, RingLaws}
use Rattle.lzk_field.specs.Sums.{sum_below, power, minus}
use Rattle.lzk_field.proofs.RingBasics.{plus_times, times_swap}
use Rattle.lzk_field.proofs.SumLaws.{sum-ext, sum-plus, sum-split}
use Rattle.lzk_field.proofs.Solve.{var, unit, opp, ◌⊞◌, ◌⊟◌, ◌⊠◌, solve, solve_by}
use Rattle.lzk_poly_ntt.specs.Transform.{bit_reversed, spectrum, IsRoot}
use Rattle.lzk_field.proofs.PowerLaws.{power-plus, power-product, power-one, power-square}
use Rattle.lzk_poly_ntt.proofs.RootLaws.{twice_power, root-lower, root-power, root_is}

reversed_low : (k j : ℕ) → j < 2 ^ k → bit_reversed (suc k) j ≡ 2 * bit_reversed k j
reversed_low k j h = ap (λ b. cond b (2 * bit_reversed k j) (2 * bit_reversed k (j - 2 ^ k) + 1)) (lt-ltb j (2 ^ k) h)

reversed_high : (k j : ℕ) → bit_reversed (suc k) (2 ^ k + j) ≡ 2 * bit_reversed k j + 1
reversed_high k j =
    let place : 2 ^ k + j - 2 ^ k ≡ j = omega arith in
    ap (λ b. cond b (2 * bit_reversed k (2 ^ k + j)) (2 * bit_reversed k (2 ^ k + j - 2 ^ k) + 1)) (le-ltb (2 ^ k + j) (2 ^ k) (omega arith))
    ∙ ap (λ i. 2 * bit_reversed k i + 1) place

module _ {A : Type 0} (o : Ops A) (r : RingLaws o) where
  open o use {plus, times, neg}

  -- a polynomial of twice h coefficients at t, by the h-th power of t
  folded : (h : ℕ) (t : A) (x : ℕ → A) → sum_below o (h + h) (λ i. times (x i) (power o t i)) ≡ sum_below o h (λ i. times (plus (x i) (times (x (h + i)) (power o t h))) (power o t i))
  folded h t x =
      let f : ℕ → A = λ i. times (x i) (power o t i) in
      let X = var 0 in let Y = var 1 in let H = var 2 in let T = var 3 in
      sum-split o r h h f
      ∙ sym (sum-plus o r h f (λ i. f (h + i)))
      ∙ sum-ext o r h (λ i. plus (f i) (f (h + i))) (λ i. times (plus (x i) (times (x (h + i)) (power o t h))) (power o t i))
      (λ i l. ap (λ w. plus (f i) (times (x (h + i)) w)) (power-plus o r t h i)
      ∙ solve o r (x i ∷ x (h + i) ∷ power o t h ∷ power o t i ∷ []) (X ⊠ T ⊞ Y ⊠ (H ⊠ T)) ((X ⊞ Y ⊠ H) ⊠ T) refl)

  -- the sums of the entries of both halves
  abbrev pub sums : ℕ → (ℕ → A) → ℕ → A
  sums k x i = plus (x i) (x (2 ^ k + i))

  -- their differences, times powers of w
  abbrev pub twiddled : ℕ → A → (ℕ → A) → ℕ → A
  twiddled k w x i = times (minus o (x i) (x (2 ^ k + i))) (power o w i)

  pub spectrum-low : (k : ℕ) (w : A) (x : ℕ → A) (j : ℕ) → IsRoot o (suc k) w → j < 2 ^ k → spectrum o (suc k) w x j ≡ spectrum o k (times w w) (sums k x) j
  unfolding spectrum
  spectrum-low k w x j root h =
      let s = power o (times w w) (bit_reversed k j) in
      let same : power o w (bit_reversed (suc k) j) ≡ s = ap (power o w) (reversed_low k j h) ∙ sym (power-square o r w (bit_reversed k j)) in
      let whole : power o s (2 ^ k) ≡ o.one = root-power o r k (times w w) (bit_reversed k j) (root-lower o r k w root) in
      ap (λ t. sum_below o (2 ^ suc k) (λ i. times (x i) (power o t i))) same
      ∙ ap (λ n. sum_below o n (λ i. times (x i) (power o s i))) (twice_power k)
      ∙ folded (2 ^ k) s x
      ∙ sum-ext o r (2 ^ k) (λ i. times (plus (x i) (times (x (2 ^ k + i)) (power o s (2 ^ k)))) (power o s i)) (λ i. times (sums k x i) (power o s i))
      (λ i l. ap (λ v. times (plus (x i) v) (power o s i)) (ap (times (x (2 ^ k + i))) whole ∙ r.times_one _))

  pub spectrum-high : (k : ℕ) (w : A) (x : ℕ → A) (j : ℕ) → IsRoot o (suc k) w → spectrum o (suc k) w x (2 ^ k + j) ≡ spectrum o k (times w w) (twiddled k w x) j
  unfolding spectrum
  spectrum-high k w x j root =
      let s = power o (times w w) (bit_reversed k j) in
      let t = times s w in
      let same : power o w (bit_reversed (suc k) (2 ^ k + j)) ≡ t =
      ap (power o w) (reversed_high k j) ∙ power-plus o r w (2 * bit_reversed k j) 1 ∙ ap (λ v. times v (power o w 1)) (sym (power-square o r w (bit_reversed k j))) ∙ ap (times s) (r.times_comm _ _ ∙ r.times_one w) in
      let whole : power o t (2 ^ k) ≡ neg o.one =
      power-product o r s w (2 ^ k) ∙ ap (λ v. times v (power o w (2 ^ k))) (root-power o r k (times w w) (bit_reversed k j) (root-lower o r k w root))
      ∙ r.times_comm _ _ ∙ r.times_one _ ∙ root_is o r k w root in
      let X = var 0 in let Y = var 1 in let S = var 2 in let W = var 3 in
      ap (λ v. sum_below o (2 ^ suc k) (λ i. times (x i) (power o v i))) same
      ∙ ap (λ n. sum_below o n (λ i. times (x i) (power o t i))) (twice_power k)
      ∙ folded (2 ^ k) t x
      ∙ sum-ext o r (2 ^ k) (λ i. times (plus (x i) (times (x (2 ^ k + i)) (power o t (2 ^ k)))) (power o t i)) (λ i. times (twiddled k w x i) (power o s i))
      (λ i l. ap (λ v. times (plus (x i) (times (x (2 ^ k + i)) v)) (power o t i)) whole
      ∙ ap (times (plus (x i) (times (x (2 ^ k + i)) (neg o.one)))) (power-product o r s w i)
      ∙ solve o r (x i ∷ x (2 ^ k + i) ∷ power o s i ∷ power o w i ∷ []) ((X ⊞ Y ⊠ opp unit) ⊠ (S ⊠ W)) (((X ⊟ Y) ⊠ W) ⊠ S) refl)

  -- the transform depends on the entries alone
  pub spectrum-ext : (k : ℕ) (w : A) (x y : ℕ → A) (j : ℕ) → ((i : ℕ) → i < 2 ^ k → x i ≡ y i) → spectrum o k w x j ≡ spectrum o k w y j
  unfolding spectrum
  spectrum-ext k w x y j h =
      let t = power o w (bit_reversed k j) in
      sum-ext o r (2 ^ k) (λ i. times (x i) (power o t i)) (λ i. times (y i) (power o t i)) (λ i l. ap (λ v. times v (power o t i)) (h i l))

  -- the transform of sums
  pub spectrum-plus : (k : ℕ) (w : A) (x y : ℕ → A) (j : ℕ) → spectrum o k w (λ i. plus (x i) (y i)) j ≡ plus (spectrum o k w x j) (spectrum o k w y j)
  unfolding spectrum
  spectrum-plus k w x y j =
      let t = power o w (bit_reversed k j) in
      sum-ext o r (2 ^ k) (λ i. times (plus (x i) (y i)) (power o t i)) (λ i. plus (times (x i) (power o t i)) (times (y i) (power o t i))) (λ i l. plus_times o r (x i) (y i) (power o t i))
      ∙ sum-plus o r (2 ^ k) (λ i. times (x i) (power o t i)) (λ i. times (y i) (power o t i))

  -- of one entry it is the entry
  pub spectrum-single : (w : A) (x : ℕ → A) (j : ℕ) → spectrum o 0 w x j ≡ x 0
  unfolding spectrum
  spectrum-single w x j = r.plus_comm _ _ ∙ r.plus_zero _ ∙ r.times_one (x 0)

  -- one level back: the halves of twice as many entries, each doubled once more
  pub joined_low : (k i : ℕ) (w v d : A) (x : ℕ → A) → times w v ≡ o.one → plus (times d (sums k x i)) (times (times d (twiddled k w x i)) (power o v i)) ≡ times (plus d d) (x i)
  joined_low k i w v d x e =
      let X = var 0 in let Y = var 1 in let D = var 2 in let W = var 3 in let V = var 4 in
      solve_by o r (x i ∷ x (2 ^ k + i) ∷ d ∷ power o w i ∷ power o v i ∷ []) (D ⊠ (X ⊟ Y)) (W ⊠ V) unit (D ⊠ (X ⊞ Y) ⊞ (D ⊠ ((X ⊟ Y) ⊠ W)) ⊠ V) ((D ⊞ D) ⊠ X)
      (sym (power-product o r w v i) ∙ ap (λ u. power o u i) e ∙ power-one o r i) refl

  pub joined_high : (k i : ℕ) (w v d : A) (x : ℕ → A) → times w v ≡ o.one → minus o (times d (sums k x i)) (times (times d (twiddled k w x i)) (power o v i)) ≡ times (plus d d) (x (2 ^ k + i))
  joined_high k i w v d x e =
      let X = var 0 in let Y = var 1 in let D = var 2 in let W = var 3 in let V = var 4 in
      solve_by o r (x i ∷ x (2 ^ k + i) ∷ d ∷ power o w i ∷ power o v i ∷ []) (opp (D ⊠ (X ⊟ Y))) (W ⊠ V) unit (D ⊠ (X ⊞ Y) ⊟ (D ⊠ ((X ⊟ Y) ⊠ W)) ⊠ V) ((D ⊞ D) ⊠ Y)
      (sym (power-product o r w v i) ∙ ap (λ u. power o u i) e ∙ power-one o r i) refl

  pub inverse-square : (w v : A) → times w v ≡ o.one → times (times w w) (times v v) ≡ o.one
  inverse-square w v e = times_swap o r w w v v ∙ ap (λ u. times u u) e ∙ r.times_one o.one
