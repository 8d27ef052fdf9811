-- What extends lists of values to a point.
use Rattle.std.specs.Prelude.{◌≡◌, ℕ, ◌<◌, ◌+◌, ◌*◌, List, length, map}
use Rattle.std.specs.List.{range_with_len}
use Rattle.lzk_field.specs.Ring.{Ops}
use Rattle.lzk_field.specs.Sums.{entry, sum_below, minus, dot_product}
use Rattle.lzk_poly.specs.Extension.{extension, others}

-- the weight of the i-th of the first n points: one over the product of its differences from the others
abbrev pub weight : {A : Type 0} → Ops A → (ℕ → A) → ℕ → ℕ → A
weight o element n i = o.inverse (others o element n i (element i))

-- each value times the weight of its point
unfoldable pub weighted : {A : Type 0} → Ops A → (ℕ → A) → List A → List A
weighted o element values =
    map (λ i. o.times (entry o values i) (weight o element (length values) i)) (range_with_len 0 (length values))

-- the inverses of the differences of a point and the first ones
abbrev pub AreInverseDifferences : {A : Type 0} → Ops A → (ℕ → A) → ℕ → List A → Type 0
AreInverseDifferences o element point inverses =
    (i : ℕ) → i < length inverses → entry o inverses i ≡ o.inverse (minus o (element point) (element i))

-- the sum of weighted values' products with these inverses, times the last factor, is the value at this point of the
-- polynomial through the values
abbrev pub Extends : {A : Type 0} → Ops A → (ℕ → A) → ℕ → List A → A → Type 0
Extends {A} o element point inverses last =
    (values : List A) → length values ≡ length inverses
    → o.times (dot_product o (weighted o element values) inverses) last ≡ extension o element values point

-- the sum of a row's products with these factors, where a table has rows of as many elements
abbrev pub row_sum : {A : Type 0} → Ops A → List A → List A → ℕ → A
row_sum o table factors i =
    sum_below o (length factors) (λ s. o.times (entry o table (i * length factors + s)) (entry o factors s))
