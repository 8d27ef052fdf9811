-- Room for the rounds of a circuit.
use Rattle.std.specs.Prelude.{◌≡◌, ℕ, ◌+◌, ◌<◌, ◌≤◌, ◌^◌, List, length}
use Rattle.lzk_circuit.specs.Bits.{bits}
use Rattle.lzk_circuit.specs.Valid.{Wiring}
use Rattle.lzk_layout.specs.Places.{depth, width_at}
use Rattle.lzk_sumcheck.specs.Coefficients.{terms_at}
use Rattle.lzk_sumcheck_rounds.specs.Orders.{AreOrders}

-- an order of each layer's terms, room for so many pairs of wires, and for tables of so many places, and a list of what
-- the coefficients of each layer came to
pub record RoundsRoom (A : Type 0) : Type 0 where
  pub orders : List (List ℕ)
  pub pairs : ℕ
  pub places : ℕ
  pub bounds : List A

-- it is enough for each layer of a circuit, and for its inputs
pub record IsRoomOf {A : Type 0} (c : Wiring A) (room : RoundsRoom A) : Type 0 where
  pub orders : AreOrders c room.orders
  pub pairs : (l : ℕ) → l < depth c → length (terms_at c l) ≤ room.pairs
  pub places : (l : ℕ) → l < depth c + 1 → 2 ^ bits (width_at c l) ≤ room.places
  pub bounds : length room.bounds ≡ depth c
