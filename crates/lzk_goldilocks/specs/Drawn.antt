-- Random words of which elements of this field and nonces are drawn, by the words of a source.
use Rattle.std.specs.Prelude.{ℕ}

-- word i: the source's
unfoldable pub drawn : (ℕ → ℕ) → ℕ → ℕ
drawn at i = at i
