-- The twiddle factors of all blocks.
use Rattle.std.specs.Prelude.{◌≡◌, ℕ, ◌<◌, ◌≤◌, ◌+◌, ◌-◌, ◌*◌, ◌^◌, List, [], ◌∷◌, ◌++◌, length}
use Rattle.std.proofs.Common.{zero, suc, refl, sym, ap, ◌∙◌, arith, subst}
use Rattle.std.proofs.lemmas.Nat.{pow-add}
use Rattle.std.proofs.Math.Pow.{pow_mono}
use Rattle.std.proofs.Math.ListN.{get_or-append}
use Rattle.std.proofs.lemmas.List.{get_or-append-add}
use native.Mathlib.Decide.{dec_lt}
use Rattle.std.proofs.Math.Nat.{mul-le-mul_right}
use Rattle.lzk_field.specs.Ring.{Ops, RingLaws}
use Rattle.lzk_field.specs.Sums.{entry}
use Rattle.lzk_field.proofs.RingBasics.{neg_unique}
use Rattle.lzk_field.proofs.Solve.{var, null, unit, ◌⊞◌, solve_by}
use Rattle.lzk_poly.specs.Products.{IsBinary}
use Rattle.lzk_poly.proofs.BinaryProducts.{binary_lower}
use Rattle.lzk_afft.specs.Basis.{vanishing, normalized}
use Rattle.lzk_afft.specs.Blocks.{AreTwiddles, AreLevelTwiddles, IsBlock}
use Rattle.lzk_afft.proofs.Subspaces.{double, vanishing-suc, vanishing-plus, normalized-plus}
use Rattle.lzk_afft.proofs.Splits.{block_low, block_high, positive}

module _ {A : Type 0} (o : Ops A) (r : RingLaws o) (point : ℕ → A) where
  -- the blocks of 2 ^ m points in a block
  pub sub_block : (d m at node c : ℕ) (twiddles : List A) → IsBlock o point (d + m) at node twiddles → c < 2 ^ d → IsBlock o point m (at + c * 2 ^ m) (node * 2 ^ d + c) twiddles
  sub_block zero m at node c twiddles block h =
      let place : 0 + m ≡ m = omega arith in
      let none : c ≡ 0 = omega arith in
      let spot : at ≡ at + c * 2 ^ m = omega (arith, ap (λ n. n * 2 ^ m) none) in
      let here : node ≡ node * 2 ^ zero + c = omega arith in
      subst (λ (n : ℕ). IsBlock o point m (at + c * 2 ^ m) n twiddles) here (subst (λ (a : ℕ). IsBlock o point m a node twiddles) spot (subst (λ (n : ℕ). IsBlock o point n at node twiddles) place block))
  sub_block (suc d) m at node c twiddles block h = split (dec_lt c (2 ^ d)) (λ n a e. sub_block d m a n e twiddles)
    where
      whole : IsBlock o point (suc (d + m)) at node twiddles
      whole = let place : suc d + m ≡ suc (d + m) = omega arith in subst (λ (n : ℕ). IsBlock o point n at node twiddles) place block

      split : Dec (c < 2 ^ d) → ((n a e : ℕ) → IsBlock o point (d + m) a n twiddles → e < 2 ^ d → IsBlock o point m (a + e * 2 ^ m) (n * 2 ^ d + e) twiddles) → IsBlock o point m (at + c * 2 ^ m) (node * 2 ^ suc d + c) twiddles
      split (yes l) inner =
          let here : 2 * node * 2 ^ d + c ≡ node * 2 ^ suc d + c = omega (arith, ap (λ n. node * n) (double d)) in
          subst (λ (n : ℕ). IsBlock o point m (at + c * 2 ^ m) n twiddles) here (inner (2 * node) at c (block_low o r point (d + m) at node twiddles whole) l)
      split (no l) inner =
          let e = c - 2 ^ d in
          let sum : 2 ^ d + e ≡ c = omega arith in
          let here : (2 * node + 1) * 2 ^ d + e ≡ node * 2 ^ suc d + c = omega (arith, ap (λ n. node * n) (double d), sum) in
          let there : at + 2 ^ (d + m) + e * 2 ^ m ≡ at + c * 2 ^ m = omega (arith, pow-add 2 d m, ap (λ n. n * 2 ^ m) sum) in
          subst (λ (n : ℕ). IsBlock o point m (at + c * 2 ^ m) n twiddles) here
          (subst (λ (a : ℕ). IsBlock o point m a ((2 * node + 1) * 2 ^ d + e) twiddles) there (inner (2 * node + 1) (at + 2 ^ (d + m)) e (block_high o r point (d + m) at node twiddles whole) (omega (arith, double d))))

  pub levels_twiddles : (depth : ℕ) (twiddles : List A) → AreLevelTwiddles o point 0 depth twiddles → (b c : ℕ) → b ≤ depth → c < 2 ^ (depth - b) → AreTwiddles o point b (c * 2 ^ b) (2 ^ (depth - b) + c) twiddles
  levels_twiddles depth twiddles levels zero c h l = tt
  levels_twiddles depth twiddles levels (suc b) c h l =
      let less : depth - 1 - b ≡ depth - suc b = omega arith in
      let more : depth - b ≡ suc (depth - suc b) = omega arith in
      let twice : 2 ^ (depth - b) ≡ 2 ^ (depth - suc b) + 2 ^ (depth - suc b) = ap (λ n. 2 ^ n) more ∙ double (depth - suc b) in
      let node = 2 ^ (depth - suc b) + c in
      let spot : 2 * c * 2 ^ b ≡ c * 2 ^ suc b = omega (arith, ap (λ n. c * n) (double b)) in
      let spot_high : (2 * c + 1) * 2 ^ b ≡ c * 2 ^ suc b + 2 ^ b = omega (arith, ap (λ n. c * n) (double b)) in
      let place : 2 ^ (depth - b) + 2 * c ≡ 2 * node = omega (arith, twice) in
      let place_high : 2 ^ (depth - b) + (2 * c + 1) ≡ 2 * node + 1 = omega (arith, twice) in
      let one : b + 1 ≡ suc b = omega arith in (
        ap (λ n. entry o twiddles (2 ^ n + c)) (sym less) ∙ levels b c (omega arith) (omega arith) (omega (arith, ap (λ n. 2 ^ n) less)) ∙ ap (λ n. normalized o point b (point (c * 2 ^ n))) one,
        subst (λ (n : ℕ). AreTwiddles o point b (c * 2 ^ suc b) n twiddles) place (subst (λ (a : ℕ). AreTwiddles o point b a (2 ^ (depth - b) + 2 * c) twiddles) spot (levels_twiddles depth twiddles levels b (2 * c) (omega arith) (omega (arith, twice)))),
        subst (λ (n : ℕ). AreTwiddles o point b (c * 2 ^ suc b + 2 ^ b) n twiddles) place_high (subst (λ (a : ℕ). AreTwiddles o point b a (2 ^ (depth - b) + (2 * c + 1)) twiddles) spot_high (levels_twiddles depth twiddles levels b (2 * c + 1) (omega arith) (omega (arith, twice)))),
      )

  -- the next subspace polynomial at a point, from this one there and at the next point
  pub vanishing-next : (b : ℕ) → point 0 ≡ o.zero → IsBinary o point (suc b) → (t : A) → vanishing o point (suc b) t ≡ o.times (vanishing o point b t) (o.plus (vanishing o point b t) (vanishing o point b (point (2 ^ b))))
  vanishing-next b first binary t =
      let p = point (2 ^ b) in
      let twice : o.plus p p ≡ o.zero = solve_by o r (p ∷ []) (var 0) (unit ⊞ unit) null (var 0 ⊞ var 0) null binary.twice refl in
      vanishing-suc o r point b binary t
      ∙ ap (λ v. o.times (vanishing o point b t) (vanishing o point b (o.plus t v))) (sym (neg_unique o r p p twice))
      ∙ ap (o.times (vanishing o point b t)) (vanishing-plus o r point b first (binary_lower o r point b binary) t p)

  -- the normalized subspace polynomial at every 2 ^ (b + 1)-th point adds up by bits
  pub normalized-bits : (depth b i k : ℕ) → point 0 ≡ o.zero → IsBinary o point depth → b + 1 + i < depth → k < 2 ^ i → normalized o point b (point ((2 ^ i + k) * 2 ^ (b + 1))) ≡ o.plus (normalized o point b (point (2 ^ i * 2 ^ (b + 1)))) (normalized o point b (point (k * 2 ^ (b + 1))))
  normalized-bits depth b i k first binary h l =
      let whole : 2 ^ i * 2 ^ (b + 1) ≡ 2 ^ (i + (b + 1)) = sym (pow-add 2 i (b + 1)) in
      let place : (2 ^ i + k) * 2 ^ (b + 1) ≡ 2 ^ (i + (b + 1)) + k * 2 ^ (b + 1) = omega (arith, whole) in
      let small : k * 2 ^ (b + 1) < 2 ^ (i + (b + 1)) = below (2 ^ (b + 1)) (2 ^ i) k (positive (b + 1)) l whole in
      let lower : IsBinary o point b = record { twice = binary.twice; splits = λ c j p q. binary.splits c j (omega arith) q } in
      ap (λ n. normalized o point b (point n)) place ∙ ap (normalized o point b) (binary.splits (i + (b + 1)) (k * 2 ^ (b + 1)) (omega arith) small)
      ∙ normalized-plus o r point b first lower (point (2 ^ (i + (b + 1)))) (point (k * 2 ^ (b + 1)))
      ∙ ap (λ n. o.plus (normalized o point b (point n)) (normalized o point b (point (k * 2 ^ (b + 1))))) (sym whole)
    where
      below : (s n j : ℕ) → 1 ≤ s → j < n → n * s ≡ 2 ^ (i + (b + 1)) → j * s < 2 ^ (i + (b + 1))
      below s n j p q e = let m : suc j ≤ n = omega arith in omega (arith, mul-le-mul_right s m, e)

module _ {A : Type 0} (o : Ops A) (point : ℕ → A) where
  -- a level's twiddle factors after those of the levels above
  pub levels_joined : (depth from half : ℕ) (low row : List A) → from < depth → half ≡ 2 ^ (depth - from - 1) → length low ≡ half → AreLevelTwiddles o point (from + 1) depth low
      → ((c : ℕ) → c < half → entry o row c ≡ normalized o point from (point (c * 2 ^ (from + 1)))) → AreLevelTwiddles o point from depth (low ++ row)
  levels_joined depth from half low row order is_half front lows rows b c h l m =
      elim (dec_lt from b) [
        | yes above ↦
            let up : suc (depth - 1 - b) ≤ depth - from - 1 = omega arith in
            let inside : 2 ^ (depth - 1 - b) + c < length low = omega (arith, front, is_half, double (depth - 1 - b), pow_mono {i = suc (depth - 1 - b)} {j = depth - from - 1} up) in
            get_or-append low row o.zero (2 ^ (depth - 1 - b) + c) inside ∙ lows b c (omega arith) l m
        | no same ↦
            let here : b ≡ from = omega arith in
            let power : 2 ^ (depth - 1 - b) ≡ half = ap (λ n. 2 ^ n) (omega arith) ∙ sym is_half in
            ap (λ n. entry o (low ++ row) (n + c)) (power ∙ sym front) ∙ get_or-append-add low row c o.zero ∙ rows c (omega arith) ∙ ap (λ n. normalized o point n (point (c * 2 ^ (n + 1)))) (sym here)
      ]
