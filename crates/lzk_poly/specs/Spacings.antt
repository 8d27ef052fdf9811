-- How points lie.
use Rattle.std.specs.Prelude.{ℕ, ◌^◌, ◌≤◌}
use Rattle.lzk_field.specs.Ring.{Ops}
use Rattle.lzk_poly.specs.Products.{IsBinary}
use Rattle.lzk_poly.specs.Weights.{IsEven}
use Rattle.lzk_poly.specs.declared.spacing.Spacing.{Spacing}
use Rattle.lzk_poly.specs.declared.spacing.Spacing.TheVariants.{Even, Binary, Other}

-- the points below upto lie so: evenly, or else as in a binary field over the fewest bits that hold their numbers, or
-- else in neither way
abbrev pub IsSpaced : {A : Type 0} → Ops A → (ℕ → A) → ℕ → Spacing → Type 0
IsSpaced o point upto Even = IsEven o point upto
IsSpaced o point upto (Binary bits) =
    (bits ≤ 16)
    × (upto ≤ 2 ^ bits)
    × ((b : ℕ) → upto ≤ 2 ^ b → bits ≤ b)
    × IsBinary o point bits
    × (IsEven o point upto → ⊥)
IsSpaced o point upto Other = (IsEven o point upto → ⊥) × ((bits : ℕ) → upto ≤ 2 ^ bits → IsBinary o point bits → ⊥)

-- the end of the numbers that differences of the points below upto have
abbrev pub size_of : Spacing → ℕ → ℕ
size_of Even upto = upto
size_of (Binary bits) upto = 2 ^ bits
size_of Other upto = upto
