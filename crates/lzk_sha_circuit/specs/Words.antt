-- Words over the operations of a field. A word is a function from places to entries: the entry at place i is worth 2 ^
-- i, and a word of SHA-256 has the places below 32. The formulas are meant for entries that are 0 or 1, and are defined
-- for all.
use Rattle.std.specs.Prelude.{ℕ, ◌+◌, ◌%◌, ◌^◌, nat_lt, if◌then◌else◌}
use Rattle.std.specs.Int.{bit_at}
use Rattle.lzk_field.specs.Ring.{Ops}
use Rattle.lzk_field.specs.Sums.{minus, sum_below}

-- the bits of a number, each as an element
abbrev pub constant : {A : Type 0} → (ℕ → A) → ℕ → ℕ → A
constant element n i = element (bit_at n i)

-- ROTR: rotated right by k places
abbrev pub rotated : {A : Type 0} → ℕ → (ℕ → A) → ℕ → A
rotated k w i = w ((i + k) % 32)

module _ {A : Type 0} (o : Ops A) (element : ℕ → A) where
  -- the sum of the n entries, each times what its place is worth
  abbrev pub worth : ℕ → (ℕ → A) → A
  worth n w = sum_below o n (λ i. o.times (w i) (element (2 ^ i)))

  -- SHR: shifted right by k places
  abbrev pub shifted : ℕ → (ℕ → A) → ℕ → A
  shifted k w i = if nat_lt (i + k) 32 then w (i + k) else element 0

  -- x + y - 2 * x * y
  abbrev pub exclusive_or : A → A → A
  exclusive_or x y = minus o (o.plus x y) (o.times (o.times (element 2) x) y)

  abbrev pub three_or : A → A → A → A
  three_or x y z = exclusive_or (exclusive_or x y) z

  -- e * f - e * g + g
  abbrev pub chosen : A → A → A → A
  chosen e f g = o.plus (minus o (o.times e f) (o.times e g)) g

  -- x * y + z * (x + y - 2 * x * y)
  abbrev pub most : A → A → A → A
  most x y z = o.plus (o.times x y) (o.times z (exclusive_or x y))

  -- Ch
  abbrev pub ch : (ℕ → A) → (ℕ → A) → (ℕ → A) → ℕ → A
  ch e f g i = chosen (e i) (f i) (g i)

  -- Maj
  abbrev pub maj : (ℕ → A) → (ℕ → A) → (ℕ → A) → ℕ → A
  maj x y z i = most (x i) (y i) (z i)

  -- the upper case Σ 0
  abbrev pub big_sigma0 : (ℕ → A) → ℕ → A
  big_sigma0 w i = three_or (rotated 2 w i) (rotated 13 w i) (rotated 22 w i)

  -- the upper case Σ 1
  abbrev pub big_sigma1 : (ℕ → A) → ℕ → A
  big_sigma1 w i = three_or (rotated 6 w i) (rotated 11 w i) (rotated 25 w i)

  -- the lower case σ 0
  abbrev pub small_sigma0 : (ℕ → A) → ℕ → A
  small_sigma0 w i = three_or (rotated 7 w i) (rotated 18 w i) (shifted 3 w i)

  -- the lower case σ 1
  abbrev pub small_sigma1 : (ℕ → A) → ℕ → A
  small_sigma1 w i = three_or (rotated 17 w i) (rotated 19 w i) (shifted 10 w i)
