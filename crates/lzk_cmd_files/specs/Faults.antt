-- A fault of the outside.
use Rattle.std.specs.Prelude.{◌≡◌, ℕ, Bool, false}
use Rattle.lzk_outside.specs.Outside.{Rose}

-- its count rose, and nothing says that calls never fail
pub record Faulted (never : Bool) (before now : ℕ) : Type 0 where
  pub may : never ≡ false
  pub rose : Rose before now
