-- Weights of a layer's wires, by the tables of its two points.
use Rattle.std.specs.Prelude.{ℕ, List, map}
use Rattle.std.specs.List.{range_with_len}
use Rattle.lzk_field.specs.Ring.{Ops}
use Rattle.lzk_field.specs.Sums.{entry}

-- the weights of so many wires: an entry of the one table, plus alpha times that of the other
abbrev pub weighted : {A : Type 0} → Ops A → A → List A → List A → ℕ → List A
weighted o alpha first second n =
    map (λ g. o.plus (entry o first g) (o.times alpha (entry o second g))) (range_with_len 0 n)
