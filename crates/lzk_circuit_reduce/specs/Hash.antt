-- The hash of a row's places.
use Rattle.std.specs.Prelude.{ℕ, ◌+◌, ◌*◌, ◌%◌, ◌^◌, List, [], ◌∷◌}

-- a hash with one number more, modulo 2^64
abbrev pub mixed : ℕ → ℕ → ℕ
mixed hash number = (hash + number) % 2 ^ 64 * 11400714819323198485 % 2 ^ 64

-- a hash with more places, each as both wires below and the coefficient's number
unfoldable pub hash_from : ℕ → List (ℕ × ℕ × ℕ) → ℕ
hash_from hash [] = hash
hash_from hash (p ∷ ps) = hash_from (mixed (mixed (mixed hash p.0) p.1) (p.2 % 2 ^ 64)) ps
