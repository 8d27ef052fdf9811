-- Bytes in the room of a caller.
use Rattle.std.specs.Prelude.{◌≡◌, ◌<◌, ◌≤◌, ◌++◌, ℕ, List, length, drop, Result, Ok, Err}
use Rattle.lzk_calls.specs.declared.refusal.Refusal.{Refusal}
use Rattle.lzk_calls.specs.declared.refusal.Refusal.TheVariants.{NoRoom}

-- they stand in front, and behind them the room is as it was
pub record ArePut (bytes old new : List ℕ) (count : ℕ) : Type 0 where
  pub count_is : count ≡ length bytes
  pub fit : length bytes ≤ length old
  pub front : new ≡ bytes ++ drop (length bytes) old

-- they do not fit, and the room is as it was
pub record DoNotFit (bytes old new : List ℕ) (count : ℕ) : Type 0 where
  pub count_is : count ≡ length bytes
  pub more : length old < length bytes
  pub same : new ≡ old

-- what becomes of bytes and a room
abbrev pub Puts : List ℕ → List ℕ → List ℕ → Result ℕ Refusal → Type 0
Puts bytes old new (Ok count) = ArePut bytes old new count
Puts bytes old new (Err (NoRoom count)) = DoNotFit bytes old new count
Puts bytes old new (Err other) = ⊥
