-- Bits that a circuit finds, and the numbers whose bits they are.
use Rattle.std.specs.Prelude.{◌≡◌, ℕ, ◌+◌, ◌-◌, ◌*◌, ◌/◌, ◌%◌, ◌<◌, ◌⊎◌, List, [], ◌∷◌, ◌++◌, length, map, slice_index, slice_index_or}
use Rattle.std.specs.List.{range_with_len}
use Rattle.std.specs.Int.{bit_at}
use Rattle.std.proofs.Common.{refl, sym, ap, ◌∙◌, arith, zero, suc, inl, inr, subst, ext_get_or}
use Rattle.std.proofs.lemmas.List.{length-map, get_or-map, get_or_append_left}
use Rattle.std.proofs.lemmas.List.FromFn.{length-map-range_with_len, get_or-map-range_with_len}
use Rattle.lzk_field.specs.Ring.{Ops}
use Rattle.lzk_field.specs.Sums.{entry}
use Rattle.lzk_sha_circuit.specs.declared.bit.Bit.{Bit}
use Rattle.lzk_sha_circuit.specs.declared.bit.Bit.TheVariants.{Zero, One, Input}
use Rattle.lzk_sha_circuit.specs.Compression.{found, AreBits, IsState, IsBlock, Finds}
use Rattle.lzk_sha_circuit.specs.Places.{Places, IsPlaced, IsBitOf, bit_of, bit_value, block_bit, start_word}
use Rattle.lzk_sha_circuit.proofs.Numbered.{IsBit}
use Rattle.lzk_sha_circuit.proofs.Held.{Held}

module _ {A : Type 0} (o : Ops A) (element : ℕ → A) where
  -- ---- 0 or 1
  as_choice : (x : A) → IsBit element x → (x ≡ element 0) ⊎ (x ≡ element 1)
  as_choice x (zero, lt, e) = inl e
  as_choice x (suc zero, lt, e) = inr e
  as_choice x (suc (suc n), lt, e) = absurd (omega (arith, lt))

  as_bit : (x : A) → (x ≡ element 0) ⊎ (x ≡ element 1) → IsBit element x
  as_bit x (inl e) = (0, omega arith, e)
  as_bit x (inr e) = (1, omega arith, e)

  pub are_bits : (xs : List A) → ((j : ℕ) → j < length xs → IsBit element (entry o xs j)) → AreBits o element xs
  are_bits [] h = tt
  are_bits (x ∷ xs) h = (as_choice x (h 0 (omega arith)), are_bits xs (λ j lt. h (suc j) (omega (arith, lt))))

  pub each_bit : o.zero ≡ element 0 → (xs : List A) → AreBits o element xs → (j : ℕ) → IsBit element (entry o xs j)
  each_bit z [] h j = (0, omega arith, z)
  each_bit z (x ∷ xs) h zero = as_bit x h.0
  each_bit z (x ∷ xs) h (suc j) = each_bit z xs h.1 j

  -- ---- lists of found bits
  pub found_is : (private : List A) (bits : List Bit) (n : ℕ) (f : ℕ → ℕ) → length bits ≡ n
      → ((j : ℕ) → j < n → bit_value element (entry o private) (bit_of bits j) ≡ element (f j)) → found o element private bits ≡ map element (map f (range_with_len 0 n))
  found_is private bits n f long h =
      let v = bit_value element (entry o private) in
      let left = length-map bits v in
      let numbers = length-map-range_with_len f 0 n in
      let right = length-map (map f (range_with_len 0 n)) element in
      ext_get_or o.zero (map v bits) (map element (map f (range_with_len 0 n))) (left ∙ long ∙ sym (right ∙ numbers)) (λ j lt.
      let inside : j < n = omega (arith, left, long, lt) in
      get_or-map v bits j Zero o.zero (omega (arith, long, inside)) ∙ h j inside
      ∙ ap element (sym (get_or-map-range_with_len f 0 n j j 0 inside (omega arith))) ∙ sym (get_or-map element (map f (range_with_len 0 n)) j 0 o.zero (omega (arith, numbers, inside))))

  pub found_at : (private : List A) (bits : List Bit) (n : ℕ) (f : ℕ → ℕ) → length bits ≡ n → found o element private bits ≡ map element (map f (range_with_len 0 n))
      → (j : ℕ) → j < n → bit_value element (entry o private) (bit_of bits j) ≡ element (f j)
  found_at private bits n f long h j lt =
      let v = bit_value element (entry o private) in
      let numbers = length-map-range_with_len f 0 n in
      sym (get_or-map v bits j Zero o.zero (omega (arith, long, lt)))
      ∙ ap (λ l. slice_index_or l j o.zero) h
      ∙ get_or-map element (map f (range_with_len 0 n)) j 0 o.zero (omega (arith, numbers, lt)) ∙ ap element (get_or-map-range_with_len f 0 n j j 0 lt (omega arith))

  -- what stands first decides what is found
  pub same_bit : (first further : List A) (x : Bit) → IsBitOf (length first) x → bit_value element (entry o first) x ≡ bit_value element (entry o (first ++ further)) x
  same_bit first further Zero h = refl
  same_bit first further One h = refl
  same_bit first further (Input j) h = sym (get_or_append_left first further o.zero j (h j refl))

  -- ---- the state and the block that are found
  module _ (given : Places) (placed : IsPlaced given) (private : List A) (state block : List ℕ) (finds : Finds o element given private state block) where
    state_value : (j : ℕ) → j < 256 → bit_value element (entry o private) (bit_of given.state j) ≡ element (bit_at (slice_index state (j / 32)) (31 - j % 32))
    state_value j lt =
        let eight = finds.is_state.eight in
        let many = placed.state_bits in
        found_at private given.state (32 * length state) (λ i. bit_at (slice_index state (i / 32)) (31 - i % 32)) (omega (arith, many, eight)) finds.found_state j (omega (arith, eight, lt))

    pub block_value : (j : ℕ) → j < 512 → block_bit element given (entry o private) j ≡ element (bit_at (slice_index block (j / 8)) (7 - j % 8))
    block_value j lt =
        let whole = finds.is_block.long in
        let many = placed.block_bits in
        found_at private given.block (8 * length block) (λ i. bit_at (slice_index block (i / 8)) (7 - i % 8)) (omega (arith, many, whole)) finds.found_block j (omega (arith, whole, lt))

    pub held_start : (k : ℕ) → k < 8 → Held element 32 (start_word element given (entry o private) k) (slice_index state k)
    held_start k lt =
        let eight = finds.is_state.eight in
        record {
          below = finds.is_state.words k (omega (arith, eight, lt));
          bits = λ i few.
              let word : (32 * k + (31 - i)) / 32 ≡ k = omega (arith, few) in
              let place : 31 - (32 * k + (31 - i)) % 32 ≡ i = omega (arith, few) in
              state_value (32 * k + (31 - i)) (omega (arith, lt, few)) ∙ (λ j. element (bit_at (slice_index state (word j)) (place j)));
        }

  -- ---- what stands first decides what is found
  module _ (given : Places) (placed : IsPlaced given) (first further : List A) (long : length first ≡ given.inputs) (state block : List ℕ) where
    state_same : (j : ℕ) → bit_value element (entry o first) (bit_of given.state j) ≡ bit_value element (entry o (first ++ further)) (bit_of given.state j)
    state_same j = same_bit first further (bit_of given.state j) (subst (λ n. IsBitOf n (bit_of given.state j)) (sym long) (placed.state_within j))

    block_same : (j : ℕ) → bit_value element (entry o first) (bit_of given.block j) ≡ bit_value element (entry o (first ++ further)) (bit_of given.block j)
    block_same j = same_bit first further (bit_of given.block j) (subst (λ n. IsBitOf n (bit_of given.block j)) (sym long) (placed.block_within j))

    abbrev state_number : ℕ → ℕ
    state_number j = bit_at (slice_index state (j / 32)) (31 - j % 32)

    abbrev block_number : ℕ → ℕ
    block_number j = bit_at (slice_index block (j / 8)) (7 - j % 8)

    state_count : IsState state → length given.state ≡ 32 * length state
    state_count h = let eight = h.eight in let many = placed.state_bits in omega (arith, eight, many)

    block_count : IsBlock block → length given.block ≡ 8 * length block
    block_count h = let whole = h.long in let many = placed.block_bits in omega (arith, whole, many)

    pub finds_first : Finds o element given (first ++ further) state block → Finds o element given first state block
    finds_first h = record {
      is_state = h.is_state;
      is_block = h.is_block;
      found_state =
          found_is first given.state (32 * length state) state_number (state_count h.is_state)
          (λ j lt. state_same j ∙ found_at (first ++ further) given.state (32 * length state) state_number (state_count h.is_state) h.found_state j lt);
      found_block =
          found_is first given.block (8 * length block) block_number (block_count h.is_block)
          (λ j lt. block_same j ∙ found_at (first ++ further) given.block (8 * length block) block_number (block_count h.is_block) h.found_block j lt);
    }

    pub finds_longer : Finds o element given first state block → Finds o element given (first ++ further) state block
    finds_longer h = record {
      is_state = h.is_state;
      is_block = h.is_block;
      found_state =
          found_is (first ++ further) given.state (32 * length state) state_number (state_count h.is_state)
          (λ j lt. sym (state_same j) ∙ found_at first given.state (32 * length state) state_number (state_count h.is_state) h.found_state j lt);
      found_block =
          found_is (first ++ further) given.block (8 * length block) block_number (block_count h.is_block)
          (λ j lt. sym (block_same j) ∙ found_at first given.block (8 * length block) block_number (block_count h.is_block) h.found_block j lt);
    }
