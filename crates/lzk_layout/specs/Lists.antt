-- The lists that a proof has.
use Rattle.std.specs.Prelude.{ℕ, List}

-- a path: its digests, and how many there is room for
pub record Digests : Type 0 where
  pub digests : List (List ℕ)
  pub room : ℕ
