-- Constant expressions.
use Rattle.std.specs.Prelude.{◌≡◌, ℕ}
use Rattle.std.proofs.Math.ListN.{get_or-map}
use Rattle.lzk_expr.specs.Trees as tree
use Rattle.lzk_level.specs.declared.lets.Operand.TheVariants.{Constant}
use Rattle.lzk_level.specs.Compiling.{Scope, let_at, known, constant}

module _ {A : Type 0} (s : Scope A) where
  -- the value of a let name among constants
  pub known-at : (i : ℕ) → constant s (tree.Named i) ≡ known s.ops (let_at s i)
  known-at i = get_or-map (known s.ops) s.lets i (Constant s.ops.zero)
