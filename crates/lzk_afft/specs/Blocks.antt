-- Blocks of points, their twiddle factors, and what a transform keeps.
use Rattle.std.specs.Prelude.{◌≡◌, ℕ, ◌+◌, ◌-◌, ◌*◌, ◌^◌, ◌<◌, ◌≤◌, List, length}
use Rattle.std.proofs.Common.{zero, suc}
use Rattle.lzk_field.specs.Ring.{Ops}
use Rattle.lzk_field.specs.Sums.{entry}
use Rattle.lzk_poly.specs.Extension.{Reach}
use Rattle.lzk_poly.specs.Products.{IsAligned, IsBinary}
use Rattle.lzk_afft.specs.Basis.{normalized, vanishing}

-- The twiddle factor of a block of 2 ^ b points stands at its node, and those of its halves at twice the node and the
-- next: the normalized subspace polynomial of half the block, at the block's first point.
abbrev pub AreTwiddles : {A : Type 0} → Ops A → (ℕ → A) → ℕ → ℕ → ℕ → List A → Type 0
AreTwiddles o point zero at node twiddles = Unit {0}
AreTwiddles o point (suc b) at node twiddles =
    (entry o twiddles node ≡ normalized o point b (point at))
    × AreTwiddles o point b at (2 * node) twiddles
    × AreTwiddles o point b (at + 2 ^ b) (2 * node + 1) twiddles

-- A block of 2 ^ b points from a place on, a coset of the subspace of the first 2 ^ b points: each is the sum of the
-- block's first point and one of these. The list has the block's twiddle factors.
pub record IsBlock {A : Type 0} (o : Ops A) (point : ℕ → A) (b at node : ℕ) (twiddles : List A) : Type 0 where
  pub few : b ≤ 16
  pub binary : IsBinary o point b
  pub aligned : IsAligned o point b at
  pub are_twiddles : AreTwiddles o point b at node twiddles

-- the values of a block of so many bits, and a list with the twiddle factors of its node and of all nodes below it
abbrev pub HasFactors : {A : Type 0} → ℕ → ℕ → List A → List A → Type 0
HasFactors bits node values twiddles =
    (length values ≡ 2 ^ bits) × ((node + 1) * length values ≤ 2 * length twiddles) × (length twiddles ≤ 65536)

-- the first 2 ^ depth points, of at most 65,536, are a linear subspace over the field of two elements
abbrev pub IsSubspace : {A : Type 0} → Ops A → (ℕ → A) → ℕ → Type 0
IsSubspace o point depth = (depth ≤ 16) × IsBinary o point depth

-- From a level on, the twiddle factors of the blocks of each level, from the place on that is the number of its blocks.
abbrev pub AreLevelTwiddles : {A : Type 0} → Ops A → (ℕ → A) → ℕ → ℕ → List A → Type 0
AreLevelTwiddles o point from depth twiddles =
    (b c : ℕ) → from ≤ b → b < depth → c < 2 ^ (depth - 1 - b)
    → entry o twiddles (2 ^ (depth - 1 - b) + c) ≡ normalized o point b (point (c * 2 ^ (b + 1)))

-- the images under the subspace polynomial of the points with one bit, which the other points are sums of
abbrev pub AreImages : {A : Type 0} → Ops A → (ℕ → A) → ℕ → List A → Type 0
AreImages o point b images = (i : ℕ) → i < length images → entry o images i ≡ vanishing o point b (point (2 ^ i))

-- the same, with the image of point 2 ^ b, which the polynomial is normalized by
abbrev pub HasImages : {A : Type 0} → Ops A → (ℕ → A) → ℕ → List A → Type 0
HasImages o point b images = (b < length images) × AreImages o point b images

-- the least power of two that is not below n
pub record IsLeastPower (n size : ℕ) : Type 0 where
  pub bits : ℕ
  pub power : size ≡ 2 ^ bits
  pub enough : n ≤ size
  pub least : (b : ℕ) → n ≤ 2 ^ b → size ≤ 2 ^ b

-- what a transform reaches, and how many elements of room it takes
pub record Transformer : Type 0 where
  pub reach : Reach
  pub room : ℕ

-- All twiddle factors for 2 ^ depth points, which hold the points, and 2 ^ bits points are the smallest block that
-- holds the values.
pub record IsReady {A : Type 0} (o : Ops A) (point : ℕ → A) (count upto bits depth : ℕ)
    (twiddles : List A) : Type 0 where
  pub some : 1 ≤ count
  pub order : count ≤ upto
  pub limit : upto ≤ 65536
  pub enough : count ≤ 2 ^ bits
  pub least : (b : ℕ) → count ≤ 2 ^ b → bits ≤ b
  pub smaller : bits ≤ depth
  pub few : depth ≤ 16
  pub reached : upto ≤ 2 ^ depth
  pub full : length twiddles ≡ 2 ^ depth
  pub whole : IsBlock o point depth 0 1 twiddles
