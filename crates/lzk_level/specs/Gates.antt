-- How nodes are made.
use Rattle.std.specs.Prelude.{ℕ, List}

-- how a node is made from those before it: a constant, the sum of its parts, each a coefficient times a node, or the
-- product of two nodes
pub data Gate (A : Type 0) : Type 0 where
  Constant : A → Gate A
  Combine : List (A × ℕ) → Gate A
  Mul : ℕ → ℕ → Gate A
