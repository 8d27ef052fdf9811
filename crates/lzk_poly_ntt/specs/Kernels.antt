-- What an extender by convolution keeps: how a row is cut up, and the transforms of its kernels, which are inverses of
-- differences.
use Rattle.std.specs.Prelude.{◌≡◌, ℕ, ◌+◌, ◌-◌, ◌*◌, ◌^◌, ◌<◌, ◌≤◌, List, length, cond, min}
use Rattle.std.proofs.Common.{ltb}
use Rattle.lzk_field.specs.Ring.{Ops}
use Rattle.lzk_field.specs.Sums.{sum_below, entry}
use Rattle.lzk_poly.specs.Extension.{Reach}
use Rattle.lzk_poly.specs.Weights.{IsEven}
use Rattle.lzk_poly_ntt.specs.Transform.{cyclic_convolution, doubled, spectrum, Order}
use Rattle.lzk_poly_ntt.specs.declared.plan.Plan.{Plan}

-- so many parts of a size cover a whole, and each begins inside it
pub record IsCovered (whole size parts : ℕ) : Type 0 where
  pub begins : (p : ℕ) → p < parts → p * size < whole
  pub all : whole ≤ parts * size

-- A block of values and a piece of points fit into a transform of 2 ^ bits entries, so that no term that is wrapped
-- round is taken. Blocks cover the values, and pieces the further points.
pub record IsPlan (plan : Plan) (bits : ℕ) : Type 0 where
  pub given : 1 ≤ plan.count
  pub order : plan.count ≤ plan.upto
  pub limit : plan.upto ≤ 65536
  pub some : 1 ≤ plan.block
  pub moves : 1 ≤ plan.piece
  pub room : plan.piece + plan.block ≡ 2 ^ bits + 1
  pub blocks : IsCovered plan.count plan.block plan.blocks
  pub pieces : IsCovered (plan.upto - plan.count) plan.piece plan.pieces

-- the end of a block
abbrev pub end_of : Plan → ℕ → ℕ
end_of plan v = min (v * plan.block + plan.block) plan.count

-- the first point of a piece
abbrev pub from_of : Plan → ℕ → ℕ
from_of plan p = plan.count + p * plan.piece

-- the inverse of the point with number m, and zero where m is not below the end
abbrev pub reciprocal : {A : Type 0} → Ops A → (ℕ → A) → ℕ → ℕ → A
reciprocal o point upto m = cond (ltb m upto) (o.inverse (point m)) o.zero

-- a kernel: the inverses of the points from the first on, each times a scale
abbrev pub kernel_entry : {A : Type 0} → Ops A → (ℕ → A) → A → ℕ → ℕ → ℕ → A
kernel_entry o point scale upto first t = o.times scale (reciprocal o point upto (first + t))

-- from a place of a list on stands the transform of the inverses of the points from the first on
pub record IsKernel {A : Type 0} (o : Ops A) (point : ℕ → A) (d : Order A) (upto first : ℕ) (ks : List A)
    (at : ℕ) : Type 0 where
  pub fits : at + 2 ^ d.bits ≤ length ks
  pub values : (j : ℕ) → j < 2 ^ d.bits
      → entry o ks (at + j)
      ≡ spectrum o d.bits d.root (kernel_entry o point (o.inverse (doubled o d.bits)) upto first) j

-- for each block and each piece the inverses of the differences of the piece's points and the block's
abbrev pub AreKernels : {A : Type 0} → Ops A → (ℕ → A) → Order A → Plan → List A → Type 0
AreKernels o point d plan ks =
    (v p : ℕ) → v < plan.blocks → p < plan.pieces
    → IsKernel o point d plan.upto (from_of plan p + 1 - end_of plan v) ks ((v * plan.pieces + p) * 2 ^ d.bits)

-- how many places of a block are before its values: none but where it is short
abbrev pub skip_of : Plan → ℕ → ℕ
skip_of plan v = plan.block - (end_of plan v - v * plan.block)

-- what a block's transform is of: values times their weights, which end where the block's places do, and zeros
abbrev pub weighted : {A : Type 0} → Ops A → Plan → List A → List A → ℕ → ℕ → A
weighted o plan values ws v i =
    cond (ltb i (skip_of plan v)) o.zero (cond (ltb i plan.block) (o.times
    (entry o values (v * plan.block + (i - skip_of plan v))) (entry o ws (v * plan.block + (i - skip_of plan v))))
    o.zero)

-- the transforms of the blocks from one on, one after the other
abbrev pub AreSpectra : {A : Type 0} → Ops A → Order A → Plan → List A → List A → ℕ → List A → Type 0
AreSpectra o d plan values ws from xs =
    (u j : ℕ) → from + u < plan.blocks → j < 2 ^ d.bits
    → entry o xs (u * 2 ^ d.bits + j) ≡ spectrum o d.bits d.root (weighted o plan values ws (from + u)) j

-- the convolution of a block and its kernel for a piece
abbrev pub convolution : {A : Type 0} → Ops A → (ℕ → A) → Order A → Plan → List A → List A → ℕ → ℕ → ℕ → A
convolution o point d plan values ws p v t =
    cyclic_convolution o (2 ^ d.bits) (weighted o plan values ws v)
    (kernel_entry o point (o.inverse (doubled o d.bits)) plan.upto (from_of plan p + 1 - end_of plan v)) t

-- the sum of those of the first blocks
abbrev pub convolutions : {A : Type 0} → Ops A → (ℕ → A) → Order A → Plan → List A → List A → ℕ → ℕ → ℕ → A
convolutions o point d plan values ws p n t = sum_below o n (λ v. convolution o point d plan values ws p v t)

-- the plan and the kernels are right, and have the backward transform's factor undone
pub record IsReady {A : Type 0} (o : Ops A) (point : ℕ → A) (d : Order A) (plan : Plan) (ks : List A) : Type 0 where
  pub planned : IsPlan plan d.bits
  pub even : IsEven o point plan.upto
  pub inverse_size : o.times (doubled o d.bits) (o.inverse (doubled o d.bits)) ≡ o.one
  pub kernels : AreKernels o point d plan ks

-- what an extender by convolution reaches, and how many elements of room it takes
pub record Convolver : Type 0 where
  pub reach : Reach
  pub room : ℕ
