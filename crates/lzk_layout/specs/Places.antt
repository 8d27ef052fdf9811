-- Where the sent elements and the committed entries of each layer stand, and where the copies of the factors stand in
-- the rows.
use Rattle.lzk_profile.specs.Profile.{most_bits}
use Rattle.std.specs.Prelude.{ℕ, ◌+◌, ◌*◌, ◌/◌, ◌%◌, ◌≤◌, length, take, slice_index_or}
use Rattle.std.specs.List.{sum_by}
use Rattle.lzk_circuit.specs.Bits.{bits}
use Rattle.lzk_circuit.specs.Valid.{Wiring, widths}
use Rattle.lzk_layout.specs.declared.params.Params.{Params}
use Rattle.lzk_layout.specs.declared.places.LayerPlaces.{LayerPlaces}
use Rattle.lzk_layout.specs.Sizes.{sent_count, pad_count, under_widths, sent_counts, committed_count}

-- how many layers a circuit has, the input layer not counted
abbrev pub depth : {A : Type 0} → Wiring A → ℕ
depth c = length c.layers

-- how many wires layer l has, the input layer being the one after the last; none further down
abbrev pub width_at : {A : Type 0} → Wiring A → ℕ → ℕ
width_at c l = slice_index_or (widths c) l 0

-- how many bits number the wires that layer l stands on
abbrev pub bits_under : {A : Type 0} → Wiring A → ℕ → ℕ
bits_under c l = bits (width_at c (l + 1))

-- how many bits number the outputs
abbrev pub output_bits : {A : Type 0} → Wiring A → ℕ
output_bits c = bits (width_at c 0)

-- how many rounds layer l has: one for each bit of a and each bit of b
abbrev pub round_count : {A : Type 0} → Wiring A → ℕ → ℕ
round_count c l = 2 * bits_under c l

-- the place of the first element that layer l sends: behind what the layers before it send
abbrev pub sent_at : {A : Type 0} → Wiring A → ℕ → ℕ
sent_at c l = sum_by sent_count (take l (under_widths c))

-- the place of the first pad of layer l in the committed list: behind the private inputs, and the pads of the layers
-- before it
abbrev pub pads_at : {A : Type 0} → Wiring A → ℕ → ℕ
pads_at c l = c.privates + sum_by pad_count (take l (under_widths c))

-- the place of the first factor that layer l sends, behind two elements of each round; the second factor's is the next
abbrev pub factors_sent_at : {A : Type 0} → Wiring A → ℕ → ℕ
factors_sent_at c l = sent_at c l + 2 * round_count c l

-- the place of the first factor's pad of layer l in the committed list; the second factor's stands next, and then their
-- product
abbrev pub factors_at : {A : Type 0} → Wiring A → ℕ → ℕ
factors_at c l = pads_at c l + 2 * round_count c l

-- the place in the committed list of number m of the quadratic constraints' values, three for each layer: its factors'
-- pads and their product
abbrev pub constrained_at : {A : Type 0} → Wiring A → ℕ → ℕ
constrained_at c m = factors_at c (m / 3) + m % 3

-- row and position of that value's copy: the layers' copies stand one after the other in triples of rows
abbrev pub copy_place_of : Params → ℕ → ℕ × ℕ
copy_place_of p m = (3 + p.nwrow + 3 * (m / 3 / p.wr) + m % 3, (m / 3) % p.wr)

-- the places of a layer whose elements and pads begin at these two: two rounds for each bit, and two elements and pads
-- in each, come before the factors
abbrev pub begun : ℕ → ℕ → ℕ → LayerPlaces
begun bits messages pads = record {
  bits = bits;
  messages = messages;
  factors_sent = messages + 4 * bits;
  pads = pads;
  factors = pads + 4 * bits;
}

-- the places of layer l
abbrev pub places_of : {A : Type 0} → Wiring A → ℕ → LayerPlaces
places_of c l = record {
  bits = bits_under c l;
  messages = sent_at c l;
  factors_sent = factors_sent_at c l;
  pads = pads_at c l;
  factors = factors_at c l;
}

-- a layer's two factors are among the elements that are sent, and their pads and the product among those that are
-- committed to
pub record AreWithin {A : Type 0} (c : Wiring A) (places : LayerPlaces) : Type 0 where
  pub bits : places.bits ≤ most_bits
  pub sent : places.factors_sent + 2 ≤ sent_counts c
  pub committed : places.factors + 3 ≤ committed_count c
