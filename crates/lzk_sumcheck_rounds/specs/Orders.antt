-- Orders of a layer's terms.
use Rattle.lzk_profile.specs.Profile.{most_total}
use Rattle.std.specs.Prelude.{◌≡◌, ℕ, ◌%◌, ◌<◌, List, [], map, length, slice_index_or}
use Rattle.std.specs.List.{range_with_len}
use Rattle.std.specs.List.Sorted.{IsPermutation}
use Rattle.lzk_circuit.specs.Valid.{Wiring}
use Rattle.lzk_layout.specs.Places.{depth}
use Rattle.lzk_sumcheck.specs.Coefficients.{terms_at}

-- places, without the numbers that they are ordered by and that stand above them in words: a layer has no more terms
-- than all layers may have together, 2^21 in LZK1
abbrev pub places : List ℕ → List ℕ
places words = map (λ word. word % most_total) words

-- each place of a list stands there once
abbrev pub IsOrderOf : {X : Type 0} → List X → List ℕ → Type 0
IsOrderOf xs ks = IsPermutation (range_with_len 0 (length xs)) ks

-- an order of each layer's terms
pub record AreOrders {A : Type 0} (c : Wiring A) (orders : List (List ℕ)) : Type 0 where
  pub count : length orders ≡ depth c
  pub each : (l : ℕ) → l < depth c → IsOrderOf (terms_at c l) (slice_index_or orders l [])
