-- What a word reads as.
use Rattle.std.specs.Prelude.{◌≡◌, ℕ, ◌≤◌, ◌^◌, Option, Some, None}
use Rattle.lzk_expr.specs.declared.digits.Reading.{Reading}
use Rattle.lzk_expr.specs.declared.digits.Reading.TheVariants.{NotNumber, Large, Number}

abbrev pub Reads : Reading → Option ℕ → Type 0
Reads NotNumber o = o ≡ None
Reads Large o = (n : ℕ) × (o ≡ Some n) × (2 ^ 128 ≤ n)
Reads (Number n) o = o ≡ Some n

-- a number that is held, or one from 2 ^ 128 on
abbrev pub IsHeld : Option ℕ → ℕ → Type 0
IsHeld (Some m) n = n ≡ m
IsHeld None n = 2 ^ 128 ≤ n
