-- What the tables of the numbers that were met last hold.
use Rattle.std.specs.Prelude.{◌≡◌, ℕ, ◌<◌, true, List, nat_eq}
use Rattle.std.specs.List.{list_any}

-- the number is in the list, or 0, which marks a slot that is free
abbrev pub WasMet : List ℕ → ℕ → Type 0
WasMet numbers n = 0 < n → list_any (nat_eq n) numbers ≡ true

-- the two lists have the same numbers
abbrev pub HaveSame : List ℕ → List ℕ → Type 0
HaveSame xs ys = (n : ℕ) → list_any (nat_eq n) xs ≡ list_any (nat_eq n) ys
