-- A prover who sends zeros, and a table for him that is far from codewords.
use Rattle.lzk_profile.specs.Profile.{opened_count}
use Rattle.std.specs.Prelude.{◌≡◌, ℕ, ◌-◌, ◌*◌, ◌<◌, ◌==◌, ◌&&◌, nat_lt, cond, Bool, true, List, [], ◌∷◌, replicate}
use Rattle.lzk_field.specs.Coding.{Coding}
use Rattle.lzk_field.specs.Ring.{Ops}
use Rattle.lzk_circuit.specs.Valid.{Wiring}
use Rattle.lzk_layout.specs.Sizes.{params_of}
use Rattle.lzk_soundness.specs.Count.Game.{Strategy, whole_count}

module _ {A : Type 0} (o : Ops A) (c : Wiring A) where
  -- He commits to a table, and sends zeros whatever is drawn.
  abbrev pub zeros_sent : (ℕ → ℕ → A) → Strategy A
  zeros_sent table = record {
    table = table;
    messages = λ draws. replicate (params_of c).nsum o.zero;
    ldt = λ draws. replicate (params_of c).block o.zero;
    dot = λ draws. replicate (params_of c).dblock o.zero;
    quad_head = λ draws. replicate opened_count o.zero;
    quad_tail = λ draws. replicate ((params_of c).dblock - (params_of c).block) o.zero;
  }

  -- all draws before the columns are 0
  abbrev pub zero_draws : List A
  zero_draws = replicate (whole_count c) o.zero

  -- a table whose rows 0 to 2 are zeros, and whose others are 0 in the first half of the columns and 1 in the second
  abbrev pub half_table : ℕ → ℕ → A
  half_table row column = cond (nat_lt row 3) o.zero (cond (nat_lt column (2 * (params_of c).block)) o.zero o.one)

  -- a table whose rows 0 to 2 are zeros, and whose others are 1 in every column, as a codeword is
  abbrev pub ones_table : ℕ → ℕ → A
  ones_table row column = cond (nat_lt row 3) o.zero o.one

-- its rows 0 to 2, which mask the three answers, are zeros
abbrev pub HasZeroMasks : {A : Type 0} → Ops A → (ℕ → ℕ → A) → Type 0
HasZeroMasks o table = (row column : ℕ) → row < 3 → table row column ≡ o.zero

module _ {A : Type 0} (e : Coding A) where
  -- all elements of the list are 0
  abbrev pub are_zeros : List A → Bool
  are_zeros [] = true
  are_zeros (x ∷ xs) = (e.number x == 0) && are_zeros xs

  -- the test that says yes to draws that are all 0, whatever the columns
  abbrev pub sees_zeros : List A → List ℕ → Bool
  sees_zeros draws columns = are_zeros draws
