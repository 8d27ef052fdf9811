-- Subspace polynomials are additive, and so are the normalized ones.
use Rattle.std.specs.Prelude.{◌≡◌, ◌≢◌, ℕ, ◌<◌, ◌≤◌, ◌+◌, ◌^◌, [], ◌∷◌}
use Rattle.std.proofs.Common.{zero, suc, refl, sym, ap, ◌∙◌, arith}
use Rattle.std.proofs.Math.Nat.{pow-suc}
use Rattle.std.proofs.Math.Pow.{pow-lt}
use native.Mathlib.Decide.{dec_lt}
use Rattle.lzk_field.specs.Ring.{Ops, RingLaws, Laws}
use Rattle.lzk_field.specs.Sums.{product_below, minus}
use Rattle.lzk_field.proofs.RingBasics.{times_zero, zero_times, plus_times, same_from_difference}
use Rattle.lzk_field.proofs.Solve.{var, null, unit, ◌⊞◌, ◌⊟◌, ◌⊠◌, solve, solve_by}
use Rattle.lzk_poly.specs.Products.{IsAligned, IsBinary}
use Rattle.lzk_poly.proofs.BinaryProducts.{binary_lower}
use Rattle.lzk_field.proofs.Numbering.{points_apart, zero_element}
use Rattle.lzk_field.proofs.ProductLaws.{product-ext, product-split, product_below_nonzero}
use Rattle.lzk_afft.specs.Basis.{vanishing, normalized}

pub double : (b : ℕ) → 2 ^ suc b ≡ 2 ^ b + 2 ^ b
double b = omega (arith, pow-suc 2 b)

module _ {A : Type 0} (o : Ops A) (r : RingLaws o) where
  open o use {plus, times, neg}

  -- a product with a factor zero
  pub product_zero : (n : ℕ) (f : ℕ → A) (i : ℕ) → i < n → f i ≡ o.zero → product_below o n f ≡ o.zero
  product_zero zero f i h e = absurd (omega arith)
  product_zero (suc n) f i h e =
      elim (dec_lt i n) [
        | yes l ↦ ap (λ w. times w (f n)) (product_zero n f i l e) ∙ zero_times o r (f n)
        | no l ↦ let last : n ≡ i = omega arith in ap (times (product_below o n f)) (ap f last ∙ e) ∙ times_zero o r _
      ]

  module _ (point : ℕ → A) where
    -- twice as many points: the product, times the product at t less the next point
    pub vanishing-suc : (b : ℕ) → IsBinary o point (suc b) → (t : A) → vanishing o point (suc b) t ≡ times (vanishing o point b t) (vanishing o point b (minus o t (point (2 ^ b))))
    unfolding vanishing
    vanishing-suc b binary t =
        let h = 2 ^ b in
        let T = var 0 in let H = var 1 in let K = var 2 in
        ap (λ n. product_below o n (λ u. minus o t (point u))) (double b)
        ∙ product-split o r h h (λ u. minus o t (point u))
        ∙ ap (times (product_below o h (λ u. minus o t (point u))))
        (product-ext o r h (λ k. minus o t (point (h + k))) (λ k. minus o (minus o t (point h)) (point k))
        (λ k l. ap (minus o t) (binary.splits b k (omega arith) l) ∙ solve o r (t ∷ point h ∷ point k ∷ []) (T ⊟ (H ⊞ K)) ((T ⊟ H) ⊟ K) refl))

    pub vanishing-single : point 0 ≡ o.zero → (t : A) → vanishing o point 0 t ≡ t
    unfolding vanishing
    vanishing-single first t = let T = var 0 in ap (λ w. times o.one (minus o t w)) first ∙ solve o r (t ∷ []) (unit ⊠ (T ⊟ null)) T refl

    pub vanishing-plus : (b : ℕ) → point 0 ≡ o.zero → IsBinary o point b → (x y : A) → vanishing o point b (plus x y) ≡ plus (vanishing o point b x) (vanishing o point b y)
    vanishing-plus zero first binary x y = single (plus x y) ∙ sym (ap (λ w. plus w (vanishing o point 0 y)) (single x) ∙ ap (plus x) (single y))
      where
        single : (t : A) → vanishing o point 0 t ≡ t
        single = vanishing-single first
    vanishing-plus (suc b) first binary x y = step (vanishing-plus b first (binary_lower o r point b binary))
      where
        step : ((u v : A) → vanishing o point b (plus u v) ≡ plus (vanishing o point b u) (vanishing o point b v)) → vanishing o point (suc b) (plus x y) ≡ plus (vanishing o point (suc b) x) (vanishing o point (suc b) y)
        step known =
            let l : A → A = vanishing o point b in
            let e = neg (point (2 ^ b)) in
            let here : (t : A) → vanishing o point (suc b) t ≡ times (l t) (plus (l t) (l e)) = λ t. vanishing-suc b binary t ∙ ap (times (l t)) (known t e) in
            let X = var 0 in let Y = var 1 in let E = var 2 in
            here (plus x y) ∙ ap (λ w. times w (plus w (l e))) (known x y)
            ∙ solve_by o r (l x ∷ l y ∷ l e ∷ []) (X ⊠ Y) (unit ⊞ unit) null ((X ⊞ Y) ⊠ ((X ⊞ Y) ⊞ E)) (X ⊠ (X ⊞ E) ⊞ Y ⊠ (Y ⊞ E)) binary.twice refl
            ∙ sym (ap (λ w. plus w (vanishing o point (suc b) y)) (here x) ∙ ap (plus (times (l x) (plus (l x) (l e)))) (here y))

    pub vanishing_zero : (b i : ℕ) → i < 2 ^ b → vanishing o point b (point i) ≡ o.zero
    unfolding vanishing
    vanishing_zero b i h = product_zero (2 ^ b) (λ u. minus o (point i) (point u)) i h (r.plus_neg (point i))

    pub normalized-plus : (b : ℕ) → point 0 ≡ o.zero → IsBinary o point b → (x y : A) → normalized o point b (plus x y) ≡ plus (normalized o point b x) (normalized o point b y)
    unfolding normalized
    normalized-plus b first binary x y = let v = o.inverse (vanishing o point b (point (2 ^ b))) in ap (λ w. times w v) (vanishing-plus b first binary x y) ∙ plus_times o r _ _ _

    pub normalized_zero : (b i : ℕ) → i < 2 ^ b → normalized o point b (point i) ≡ o.zero
    unfolding normalized
    normalized_zero b i h = ap (λ w. times w (o.inverse (vanishing o point b (point (2 ^ b))))) (vanishing_zero b i h) ∙ zero_times o r _

module _ {A : Type 0} {o : Ops A} {size : ℕ} {number_of : A → ℕ} {element : ℕ → A} {bytes : ℕ} (laws : Laws o size number_of element bytes) where
  open o use {plus, times, neg}

  power_few : (b : ℕ) → suc b ≤ 16 → 2 ^ b < 65536
  power_few b h = let less : 2 ^ b < 2 ^ 16 = pow-lt {i = b} {j = 16} (omega arith) in omega (arith, less)

  pub vanishing_nonzero : (b : ℕ) → suc b ≤ 16 → vanishing o element b (element (2 ^ b)) ≢ o.zero
  unfolding vanishing
  vanishing_nonzero b h =
      product_below_nonzero o laws.ring laws.field (2 ^ b) (λ u. minus o (element (2 ^ b)) (element u))
      (λ u l e. points_apart laws 65536 (omega arith) u (2 ^ b) l (power_few b h) (sym (same_from_difference o laws.ring (element (2 ^ b)) (element u) e)))

  pub normalized_one : (b : ℕ) → suc b ≤ 16 → normalized o element b (element (2 ^ b)) ≡ o.one
  unfolding normalized
  normalized_one b h = laws.field.times_inverse _ (vanishing_nonzero b h)

  -- in a block the normalized polynomial of half its size is the same over the lower half, and one more over the upper
  pub normalized_low : (b at i : ℕ) → IsBinary o element b → IsAligned o element (suc b) at → i < 2 ^ b → normalized o element b (element (at + i)) ≡ normalized o element b (element at)
  normalized_low b at i binary aligned h =
      ap (normalized o element b) (aligned i (omega (arith, double b)))
      ∙ normalized-plus o laws.ring element b (zero_element laws.numbers) binary (element at) (element i)
      ∙ ap (plus (normalized o element b (element at))) (normalized_zero o laws.ring element b i h)
      ∙ laws.ring.plus_zero _

  pub normalized_middle : (b at : ℕ) → suc b ≤ 16 → IsBinary o element b → IsAligned o element (suc b) at → normalized o element b (element (at + 2 ^ b)) ≡ plus (normalized o element b (element at)) o.one
  normalized_middle b at few binary aligned =
      ap (normalized o element b) (aligned (2 ^ b) (omega (arith, double b, positive b)))
      ∙ normalized-plus o laws.ring element b (zero_element laws.numbers) binary (element at) (element (2 ^ b))
      ∙ ap (plus (normalized o element b (element at))) (normalized_one b few)
    where
      positive : (c : ℕ) → 1 ≤ 2 ^ c
      positive zero = omega arith
      positive (suc c) = omega (arith, double c, positive c)

  pub normalized_high : (b at i : ℕ) → suc b ≤ 16 → IsBinary o element (suc b) → IsAligned o element (suc b) at → i < 2 ^ b → normalized o element b (element (at + 2 ^ b + i)) ≡ plus (normalized o element b (element at)) o.one
  normalized_high b at i few binary aligned h =
      let lower = binary_lower o laws.ring element b binary in
      ap (normalized o element b) (ap element place ∙ aligned (2 ^ b + i) (omega (arith, double b)) ∙ ap (plus (element at)) (binary.splits b i (omega arith) h) ∙ sym (laws.ring.plus_assoc _ _ _) ∙ ap (λ w. plus w (element i)) (sym (aligned (2 ^ b) (omega (arith, double b, h)))))
      ∙ normalized-plus o laws.ring element b (zero_element laws.numbers) lower (element (at + 2 ^ b)) (element i)
      ∙ ap (plus (normalized o element b (element (at + 2 ^ b)))) (normalized_zero o laws.ring element b i h)
      ∙ laws.ring.plus_zero _
      ∙ normalized_middle b at few lower aligned
    where
      place : at + 2 ^ b + i ≡ at + (2 ^ b + i)
      place = omega arith
