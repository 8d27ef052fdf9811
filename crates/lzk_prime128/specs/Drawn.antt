-- Random words of which elements of this field and nonces are drawn, by the words of a source.
use Rattle.std.specs.Prelude.{ℕ, ◌+◌, ◌*◌, ◌%◌, ◌^◌}
use Rattle.lzk_prime128.specs.Prime.{p}

-- word i: words 2i and 2i + 1 of the source, the first being the less significant half, reduced modulo the prime
unfoldable pub drawn : (ℕ → ℕ) → ℕ → ℕ
drawn at i = (at (2 * i % 2 ^ 64) % 2 ^ 128 + at (2 * i % 2 ^ 64 + 1) % 2 ^ 128 * 2 ^ 128) % p
