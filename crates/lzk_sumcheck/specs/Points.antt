-- The points at which a round sums: the bound variables, the round's own, and a zero or a one for each that is left.
use Rattle.std.specs.Prelude.{ℕ, ◌-◌, ◌*◌, List, ◌∷◌, ◌++◌, length}
use Rattle.lzk_field.specs.Ring.{Ops}
use Rattle.lzk_mle.specs.Multilinear.{corner}

-- the point whose last variables are the bits of z, for wires that are numbered by so many bits
abbrev pub point : {A : Type 0} → Ops A → ℕ → List A → A → ℕ → List A
point o bits bound t z = bound ++ t ∷ corner o (2 * bits - length bound - 1) z
