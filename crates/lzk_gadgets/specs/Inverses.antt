-- Elements other than 0 by their inverses, and elements of a list.
use Rattle.std.specs.Prelude.{◌≡◌, ◌≢◌, ◌⊎◌, List, [], ◌∷◌}
use Rattle.lzk_goldilocks.specs.Elements.{ops}
use Rattle.lzk_goldilocks.specs.declared.element.Gold.{Gold}

-- their product is 1
abbrev pub AreInverse : Gold → Gold → Type 0
AreInverse x y = ops.times x y ≡ ops.one

-- x less y
abbrev pub difference : Gold → Gold → Gold
difference x y = ops.plus x (ops.neg y)

-- an element that has an inverse is not 0
abbrev pub InversesAreOfNonzero : Type 0
InversesAreOfNonzero = (x y : Gold) → AreInverse x y → x ≢ ops.zero

-- and every element other than 0 has one
abbrev pub NonzerosHaveInverses : Type 0
NonzerosHaveInverses = (x : Gold) → x ≢ ops.zero → AreInverse x (ops.inverse x)

-- two elements whose difference has an inverse are different
abbrev pub InversesAreOfDifferent : Type 0
InversesAreOfDifferent = (x y z : Gold) → AreInverse (difference x y) z → x ≢ y

-- and the difference of two different elements has one
abbrev pub DifferentHaveInverses : Type 0
DifferentHaveInverses = (x y : Gold) → x ≢ y → AreInverse (difference x y) (ops.inverse (difference x y))

-- one of these
abbrev pub IsAmong : Gold → List Gold → Type 0
IsAmong x [] = ⊥
IsAmong x (c ∷ cs) = (x ≡ c) ⊎ IsAmong x cs

-- the product of an element's differences from these
abbrev pub distance : Gold → List Gold → Gold
distance x [] = ops.one
distance x (c ∷ cs) = ops.times (difference x c) (distance x cs)
