-- Numbers of calls.
use Rattle.std.proofs.Common.{◌≡◌, ℕ, List, [], ◌∷◌, ap, arith}
use Rattle.std.specs.Prelude.{Contains, IsTrue}
use Rattle.lzk_outside.specs.Outside.{counted}
use Rattle.lzk_outside_memory.specs.Memory.{Settings, SinkSettings, is_empty, next_settings, next_sink_settings}

-- no number stands in an empty list
pub none_stands : (calls : List ℕ) (n : ℕ) → IsTrue (is_empty calls) → Contains calls n → ⊥
none_stands [] n none there = let lt = there.1 in omega (arith, lt)
none_stands (call ∷ calls) n none there = cc

pub one_call : (s : Settings) (n : ℕ) → n ≡ counted s.calls → record s { calls = n } ≡ next_settings s
one_call s n is = ap (λ m. record s { calls = m }) is

pub one_write : (s : SinkSettings) (n : ℕ) → n ≡ counted s.calls → record s { calls = n } ≡ next_sink_settings s
one_write s n is = ap (λ m. record s { calls = m }) is
