-- The two layers of the circuit, as rows of products.
use Rattle.std.specs.Prelude.{◌≡◌, ℕ, ◌+◌, ◌-◌, ◌*◌, ◌%◌, ◌^◌, ◌<◌, ◌≤◌, nat_lt, if◌then◌else◌, List, [], ◌∷◌, ◌++◌, None, map, length, slice_index, slice_index_or}
use Rattle.std.specs.List.{range_with_len, flat_map}
use Rattle.lzk_field.specs.Ring.{Ops}
use Rattle.lzk_circuit.specs.declared.layer.Term.{Term}
use Rattle.lzk_circuit.specs.Valid.{AreTerms}
use Rattle.lzk_circuit.specs.Wires.{coef, wire}
use Rattle.lzk_circuit_reduce.specs.Reduced.{terms_of}
use Rattle.sha2.specs.Sha256.{round_constants}
use Rattle.lzk_sha_circuit.specs.declared.products.Product.{Product}
use Rattle.lzk_sha_circuit.specs.declared.products.Entry.{Entry}
use Rattle.lzk_sha_circuit.specs.declared.bit.Bit.{Bit}
use Rattle.lzk_sha_circuit.specs.declared.bit.Bit.TheVariants.{Zero, One, Input}
use Rattle.lzk_sha_circuit.specs.declared.entries.Word.{Word}
use Rattle.lzk_sha_circuit.specs.declared.entries.Word.TheVariants.{State, Schedule, A, E}
use Rattle.lzk_sha_circuit.specs.declared.entries.Move.{Move}
use Rattle.lzk_sha_circuit.specs.declared.entries.Move.TheVariants.{Turned, Shifted}
use Rattle.lzk_sha_circuit.specs.Places.{Places, total_count, bit_of, w_place, a_place, e_place, f_place}
use Rattle.lzk_sha_circuit.specs.Products.{products_value, sizes, linear, bilinear, or_list, worth_list, or_word_list, ch_word_list, maj_word_list}

-- ---- a layer that has these rows, over so many wires

abbrev pub row_at : {X : Type 0} → List (List (Product X)) → ℕ → List (Product X)
row_at rows k = slice_index_or rows k []

abbrev pub one_row : {X : Type 0} → Ops X → List (Product X)
one_row o = record { coef = o.one; a = 0; b = 0 } ∷ []

pub record IsBuilt {X : Type 0} (o : Ops X) (width : ℕ) (rows : List (List (Product X)))
    (terms : List (Term X)) : Type 0 where
  pub ordered : AreTerms o (length rows) width None terms
  pub values : (below : List X) → length below ≡ width → (i : ℕ) → i < length rows
      → wire o (coef o terms) below i ≡ products_value o below (row_at rows i)
  pub count : length terms ≤ sizes rows
  pub one : 1 ≤ length rows → row_at rows 0 ≡ one_row o → terms_of 0 terms ≡ (0, 0, o.one) ∷ []

-- the terms of so many wires grow by those of more
abbrev pub Grows : {X : Type 0} → Ops X → ℕ → ℕ → List (Term X) → List (List (Product X)) → List (Term X) → Type 0
Grows o width wires old more new =
    (rows : List (List (Product _))) → length rows ≡ wires → IsBuilt o width rows old
    → IsBuilt o width (rows ++ more) new

-- ---- entries of words. The input wires keep their numbers in the inner layer: private input j is wire 9 + j.

abbrev pub input_count : Places → ℕ
input_count given = given.inputs + 6385

abbrev pub inner_count : Places → ℕ
inner_count given = given.inputs + 15601

-- which word of its kind it is, and how many there are of that kind
abbrev pub word_number : Word → ℕ
word_number (State k) = k
word_number (Schedule t) = t
word_number (A s) = s
word_number (E s) = s

abbrev pub word_count : Word → ℕ
word_count (State k) = 8
word_count (Schedule t) = 64
word_count (A s) = 68
word_count (E s) = 68

-- one of the words of a compression
abbrev pub IsWord : Word → Type 0
IsWord w = word_number w < word_count w

abbrev pub wire_entry : {X : Type 0} → Ops X → ℕ → Entry X
wire_entry o k = record { factor = o.one; wire = k }

-- a constant times the one
abbrev pub constant_entry : {X : Type 0} → (ℕ → X) → ℕ → Entry X
constant_entry element n = record { factor = element n; wire = 0 }

abbrev pub bits_entry : {X : Type 0} → Ops X → ℕ → ℕ → ℕ → Entry X
bits_entry o place n i = wire_entry o (9 + (place + (n - 1 - i)))

-- an input that goes on
abbrev pub pass_row : {X : Type 0} → Ops X → ℕ → List (Product X)
pass_row o k = record { coef = o.one; a = 0; b = k } ∷ []

-- b * b - b
unfoldable pub bit_row : {X : Type 0} → Ops X → ℕ → List (Product X)
bit_row o j =
    bilinear o o.one (wire_entry o (9 + j)) (wire_entry o (9 + j)) ∷ linear o (o.neg o.one) (wire_entry o (9 + j)) ∷ []

module _ {X : Type 0} (o : Ops X) (element : ℕ → X) where
  abbrev pub bit_entry : Bit → Entry X
  bit_entry Zero = constant_entry element 0
  bit_entry One = constant_entry element 1
  bit_entry (Input j) = wire_entry o (9 + j)

  unfoldable pub word_entry : Places → Word → ℕ → Entry X
  word_entry given (State k) i = bit_entry (bit_of given.state (32 * k + (31 - i)))
  word_entry given (Schedule t) i =
      if nat_lt t 16 then bit_entry (bit_of given.block (32 * t + (31 - i))) else bits_entry o (w_place given t) 32 i
  word_entry given (A s) i =
      if nat_lt s 4 then bit_entry (bit_of given.state (32 * (3 - s) + (31 - i))) else bits_entry o
      (a_place given (s - 4)) 32 i
  word_entry given (E s) i =
      if nat_lt s 4 then bit_entry (bit_of given.state (32 * (7 - s) + (31 - i))) else bits_entry o
      (e_place given (s - 4)) 32 i

  abbrev pub turned_entry : Places → Word → ℕ → ℕ → Entry X
  turned_entry given w k i = word_entry given w ((i + k) % 32)

  abbrev pub shifted_entry : Places → Word → ℕ → ℕ → Entry X
  shifted_entry given w k i = if nat_lt (i + k) 32 then word_entry given w (i + k) else constant_entry element 0

  -- the same by either move
  abbrev pub moved_entry : Places → Word → Move → ℕ → Entry X
  moved_entry given w (Turned k) = turned_entry given w k
  moved_entry given w (Shifted k) = shifted_entry given w k

  -- ---- the inner layer: the one and the inputs go on, and then exclusive ors of two entries of words

  unfoldable pub pair_rows : Places → Word → ℕ → Word → ℕ → List (List (Product X))
  pair_rows given x j y k =
      map (λ i. or_list o element o.one (turned_entry given x j i) (turned_entry given y k i)) (range_with_len 0 32)

  unfoldable pub schedule_pairs : Places → ℕ → List (List (Product X))
  schedule_pairs given t =
      pair_rows given (Schedule (t - 2)) 17 (Schedule (t - 2)) 19
      ++ pair_rows given (Schedule (t - 15)) 7 (Schedule (t - 15)) 18

  unfoldable pub round_pairs : Places → ℕ → List (List (Product X))
  round_pairs given t =
      pair_rows given (E (t + 3)) 6 (E (t + 3)) 11
      ++ (pair_rows given (A (t + 3)) 2 (A (t + 3)) 13 ++ pair_rows given (A (t + 3)) 0 (A (t + 2)) 0)

  unfoldable pub inner_rows : Places → List (List (Product X))
  inner_rows given =
      map (pass_row o) (range_with_len 0 (input_count given))
      ++ (flat_map (schedule_pairs given) (range_with_len 16 48) ++ flat_map (round_pairs given) (range_with_len 0 64))

  -- ---- where the exclusive ors of a word's entries begin in the inner layer
  abbrev pub or_entry : Places → ℕ → ℕ → Entry X
  or_entry given place i = wire_entry o (input_count given + place + i)

  abbrev pub or_place_w : ℕ → ℕ
  or_place_w t = 64 * (t - 16)

  abbrev pub or_place_round : ℕ → ℕ
  or_place_round t = 3072 + 96 * t

  -- ---- the outputs

  -- less the word that begins at a place, and 2 ^ 32 times the carry of so many bits behind it
  abbrev pub carry_list : ℕ → ℕ → List (Product X)
  carry_list place bits =
      worth_list o element (o.neg o.one) 32 (bits_entry o place 32)
      ++ worth_list o element (o.neg (element (2 ^ 32))) bits (bits_entry o (place + 32) bits)

  unfoldable pub w_row : Places → ℕ → List (Product X)
  w_row given t =
      or_word_list o element (or_entry given (or_place_w t)) (shifted_entry given (Schedule (t - 2)) 10)
      ++ (worth_list o element o.one 32 (word_entry given (Schedule (t - 7)))
      ++ (or_word_list o element (or_entry given (or_place_w t + 32)) (shifted_entry given (Schedule (t - 15)) 3)
      ++ (worth_list o element o.one 32 (word_entry given (Schedule (t - 16)))
      ++ carry_list (w_place given t) 2)))

  -- E t-4 + Σ1(E t-1) + Ch(E t-1, E t-2, E t-3) + K t + W t
  unfoldable pub first_list : Places → ℕ → List (Product X)
  first_list given t =
      worth_list o element o.one 32 (word_entry given (E t)) ++ (or_word_list o element
      (or_entry given (or_place_round t)) (turned_entry given (E (t + 3)) 25)
      ++ (ch_word_list o element (word_entry given (E (t + 3))) (word_entry given (E (t + 2)))
      (word_entry given (E (t + 1)))
      ++ (record { coef = element (slice_index round_constants t); a = 0; b = 0 } ∷ []
      ++ worth_list o element o.one 32 (word_entry given (Schedule t)))))

  unfoldable pub a_row : Places → ℕ → List (Product X)
  a_row given t =
      first_list given t ++ (or_word_list o element (or_entry given (or_place_round t + 32))
      (turned_entry given (A (t + 3)) 22)
      ++ (maj_word_list o element (word_entry given (A (t + 3))) (word_entry given (A (t + 2)))
      (word_entry given (A (t + 1))) (or_entry given (or_place_round t + 64))
      ++ carry_list (a_place given t) 3))

  unfoldable pub e_row : Places → ℕ → List (Product X)
  e_row given t =
      worth_list o element o.one 32 (word_entry given (A t))
      ++ (first_list given t ++ carry_list (e_place given t) 3)

  abbrev pub last_word_of : ℕ → Word
  last_word_of i = if nat_lt i 4 then A (67 - i) else E (71 - i)

  unfoldable pub f_row : Places → ℕ → List (Product X)
  f_row given i =
      worth_list o element o.one 32 (word_entry given (State i))
      ++ (worth_list o element o.one 32 (word_entry given (last_word_of i)) ++ carry_list (f_place given i) 1)

  unfoldable pub digest_row : Places → ℕ → List (Product X)
  digest_row given i =
      worth_list o element o.one 32 (bits_entry o (f_place given i) 32)
      ++ linear o (o.neg o.one) (wire_entry o (1 + i)) ∷ []

  unfoldable pub output_rows : Places → List (List (Product X))
  output_rows given =
      map (bit_row o) (range_with_len 0 (total_count given))
      ++ (map (w_row given) (range_with_len 16 48)
      ++ (flat_map (λ t. a_row given t ∷ e_row given t ∷ []) (range_with_len 0 64)
      ++ (map (f_row given) (range_with_len 0 8)
      ++ map (digest_row given) (range_with_len 0 8))))
