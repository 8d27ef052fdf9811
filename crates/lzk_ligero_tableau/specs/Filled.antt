-- Rows by their numbers, of the elements that stand in them, and columns of a table.
use Rattle.lzk_profile.specs.Profile.{opened_count}
use Rattle.std.specs.Prelude.{◌≡◌, ℕ, ◌+◌, ◌*◌, ◌/◌, ◌%◌, ◌≤◌, ◌<◌, List, ◌++◌, map}
use Rattle.std.specs.List.{range_with_len}
use Rattle.std.proofs.Common.{zero, suc}
use Rattle.lzk_field.specs.Bytes.{bytes_of}
use Rattle.lzk_field.specs.Coding.{Coding}
use Rattle.lzk_field.specs.Ring.{Ops}
use Rattle.lzk_field.specs.Sums.{entry}
use Rattle.lzk_poly.specs.Extension.{Reach, extension}
use Rattle.lzk_layout.specs.declared.params.Params.{Params}
use Rattle.lzk_ligero_tableau.specs.Tableau.{randoms, row0, row1, row2, rows_words, nonce_words}

module _ {A : Type 0} (o : Ops A) (e : Coding A) (word : ℕ → ℕ) (p : Params) (elements : List A) where
  -- number i of the rows with elements, which stand in a list one row after the other
  abbrev pub element_row : ℕ → List A
  element_row i =
      randoms o e word (rows_words p + opened_count * i) opened_count
      ++ map (λ s. entry o elements (i * p.wr + s)) (range_with_len 0 p.wr)

  -- row r
  abbrev pub filled_row : ℕ → List A
  filled_row zero = row0 o e word p
  filled_row (suc zero) = row1 o e word p
  filled_row (suc (suc zero)) = row2 o e word p
  filled_row (suc (suc (suc i))) = element_row i

  -- so many rows from row `first` on, at all points
  pub record AreFilled (first count : ℕ) (table : List A) : Type 0 where
    pub values : (i k : ℕ) → i < count → k < p.ncol
        → entry o table (i * p.ncol + k) ≡ extension o e.element (filled_row (first + i)) k

-- What extends the rows reaches all points: rows of so many values, and of twice as many, less one. Both have enough
-- room.
pub record AreReaching (p : Params) (short long : Reach) (short_rooms long_rooms room : ℕ) : Type 0 where
  pub short_reach : short ≡ record { count = p.block; upto = p.ncol }
  pub long_reach : long ≡ record { count = p.dblock; upto = p.ncol }
  pub short_room : short_rooms ≤ room
  pub long_room : long_rooms ≤ room

-- where value k of row i stands where there is room behind each chunk of so many rows
abbrev pub place_in_chunks : ℕ → ℕ → ℕ → ℕ → ℕ → ℕ
place_in_chunks each width room i k = i / each * (each * width + room) + i % each * width + k

-- column j of a table, from row 0 down
abbrev pub column_in : {A : Type 0} → Ops A → Params → List A → ℕ → List A
column_in o p table j = map (λ i. entry o table (i * p.ncol + (p.dblock + j))) (range_with_len 0 p.nrow)

-- the nonce of column j: two words
abbrev pub nonce_at : (ℕ → ℕ) → Params → ℕ → List ℕ
nonce_at word p j = bytes_of 16 (word (nonce_words p + 2 * j)) ++ bytes_of 16 (word (nonce_words p + 2 * j + 1))
