-- The parameters of a circuit: how long its committed list is, how it is laid out in rows, and how long a proof's file
-- is.
use Rattle.lzk_profile.specs.Profile.{opened_count, most_points, row_factor, most_committed, most_row, most_rows, most_sent}
use Rattle.std.specs.Prelude.{◌≡◌, ℕ, ◌+◌, ◌-◌, ◌*◌, ◌/◌, ◌%◌, ◌^◌, ◌≤◌, nat_le, List, [], ◌∷◌, length, drop}
use Rattle.std.specs.Int.{div_ceil}
use Rattle.std.specs.List.{sum, sum_by}
use Rattle.lzk_field.specs.Ring.{Ops}
use Rattle.lzk_circuit.specs.Bits.{least_from, bits}
use Rattle.lzk_circuit.specs.Limits.{most_layers}
use Rattle.lzk_circuit.specs.Valid.{Wiring, IsValid, widths}
use Rattle.lzk_layout.specs.declared.params.Params.{Params}

-- the least power of two, at least 64, whose square is no less than row_factor times nw
unfoldable pub row_width : ℕ → ℕ
row_width nw = 2 ^ least_from (λ k. nat_le (row_factor * nw) (2 ^ k * 2 ^ k)) nw 6

-- the widths of the layers that each layer stands on: from layer 1 on, and the input layer last
abbrev pub under_widths : {A : Type 0} → Wiring A → List ℕ
under_widths c = drop 1 (widths c)

-- two sent values for each bit of each of two wires, and the two factors
abbrev pub sent_count : ℕ → ℕ
sent_count width = 4 * bits width + 2

-- the pads of the sent values, d0, d1 and their product
abbrev pub pad_count : ℕ → ℕ
pad_count width = 4 * bits width + 3

-- NSUM: how many elements the sumchecks of all layers send
abbrev pub sent_counts : {A : Type 0} → Wiring A → ℕ
sent_counts c = sum_by sent_count (under_widths c)

-- NW: how long the committed list is, the private inputs and each layer's pads
abbrev pub committed_count : {A : Type 0} → Wiring A → ℕ
committed_count c = c.privates + sum_by pad_count (under_widths c)

-- what follows from the length of the committed list, the number of sent elements and the number of layers
abbrev pub sizes : ℕ → ℕ → ℕ → Params
sizes nw nsum layers =
    let wr = row_width nw in
    let block = opened_count + wr in
    let dblock = 2 * block - 1 in
    let mcol = 4 * block in
    let nwrow = div_ceil nw wr in
    let ntriple = div_ceil layers wr in
    record {
      nw = nw;
      wr = wr;
      block = block;
      dblock = dblock;
      mcol = mcol;
      ncol = dblock + mcol;
      nwrow = nwrow;
      ntriple = ntriple;
      nrow = 3 + nwrow + 3 * ntriple;
      nsum = nsum;
      layers = layers;
    }

abbrev pub params_of : {A : Type 0} → Wiring A → Params
params_of c = sizes (committed_count c) (sent_counts c) (length c.layers)

-- those of some valid circuit over this field
pub record AreParams {A : Type 0} (o : Ops A) (p : Params) : Type 0 where
  pub circuit : Wiring A
  pub valid : IsValid o circuit
  pub are : p ≡ params_of circuit

-- how parameters hang together, and what the limits on circuits leave of them
pub record AreBounded (p : Params) : Type 0 where
  pub nw : p.nw ≤ most_committed
  pub wide : 64 ≤ p.wr
  pub wr : p.wr ≤ most_row
  pub block : p.block ≡ opened_count + p.wr
  pub dblock : p.dblock ≡ 2 * p.block - 1
  pub mcol : p.mcol ≡ 4 * p.block
  pub ncol : p.ncol ≤ most_points
  pub nrow : p.nrow ≤ most_rows
  pub nsum : p.nsum ≤ most_sent
  pub some : 1 ≤ p.layers
  pub layers : p.layers ≤ most_layers
  pub square : p.nw ≤ p.wr * p.wr
  pub columns : p.ncol ≡ p.dblock + p.mcol
  pub nwrow : p.nwrow ≡ div_ceil p.nw p.wr
  pub ntriple : p.ntriple ≡ div_ceil p.layers p.wr
  pub rows : p.nrow ≡ 3 + p.nwrow + 3 * p.ntriple

-- row and position of entry j of the committed list
abbrev pub place_of : Params → ℕ → ℕ × ℕ
place_of p j = (3 + j / p.wr, j % p.wr)

-- how long the regions of a proof's file are, with so many bytes an element and so many digests: the magic, the
-- circuit's id, the root, the sumcheck elements, the low degree answer, the linear answer, the quadratic answer's first
-- and last values, the opened columns with their nonces, the number of digests, and the digests
abbrev pub regions : ℕ → Params → ℕ → List ℕ
regions bytes p digests =
    4 ∷ 32 ∷ 32 ∷ bytes * p.nsum ∷ bytes * p.block ∷ bytes * p.dblock ∷ bytes * opened_count
    ∷ bytes * (p.dblock - p.block) ∷ opened_count * (32 + bytes * p.nrow) ∷ 4 ∷ 32 * digests ∷ []

abbrev pub proof_length : ℕ → Params → ℕ → ℕ
proof_length bytes p digests = sum (regions bytes p digests)
