-- The private inputs of a message satisfy every block.
use Rattle.std.specs.Prelude.{◌≡◌, ℕ, ◌+◌, ◌-◌, ◌*◌, ◌/◌, ◌%◌, ◌^◌, ◌<◌, ◌≤◌, List, [], ◌++◌, length, map, take, drop, slice_index, slice_index_or}
use Rattle.std.specs.List.{range_with_len, flat_map}
use Rattle.std.specs.Int.{bit_at}
use Rattle.std.proofs.Common.{zero, suc, refl, sym, ap, ◌∙◌, arith, inl, inr, subst, length-append, length-take-le, get_or-take, get_or-append-add, ext_get_or}
use Rattle.std.proofs.lemmas.Bool.{cases_lt}
use Rattle.std.proofs.lemmas.List.{length-map, length-drop, get_or-map, get_or-drop, get_or_append_left, take-append-drop}
use Rattle.std.proofs.lemmas.List.FromFn.{length-map-range_with_len, get_or-map-range_with_len}
use Rattle.std.proofs.lemmas.Nat.Bits.{bit_at-lt}
use Rattle.lzk_field.specs.Ring.{Ops}
use Rattle.lzk_field.specs.Sums.{entry}
use Rattle.lzk_circuit.specs.Wires.{inputs_of}
use Rattle.sha2.specs.Sha256.{compress}
use Rattle.lzk_sha_circuit.specs.Compression.{Finds}
use Rattle.lzk_sha_circuit.specs.Digest.{AreBytes, HaveDigest, digest_words}
use Rattle.lzk_sha_circuit.specs.Inputs.{bit_list, compression_private}
use Rattle.lzk_sha_circuit.specs.Outputs.{AreCompressing}
use Rattle.lzk_sha_circuit.specs.Places.{bit_value}
use Rattle.lzk_sha_circuit.proofs.Chunks.{range_entry, length-range_chunks}
use Rattle.lzk_sha_circuit.proofs.Completeness.{compressing}
use Rattle.lzk_sha_circuit.proofs.Found.{found_at, are_bits, finds_first}
use Rattle.lzk_sha_circuit.proofs.Lookups.{length-compression_private, length-message, message_entry}
use Rattle.lzk_sha_circuit.proofs.Numbered.{Numbered, IsBit}
use Rattle.lzk_sha_circuit.proofs.Soundness.{begins_with}
use Rattle.lzk_sha_blocks.specs.Hashed.{block_public, block_private, AreHashing}
use Rattle.lzk_sha_blocks.specs.Witness.{state_of, block_of, block_added, digest_private}
use Rattle.lzk_sha_blocks.specs.Layout.{blocks, held, added, private_count, state_count, given_count, state_bits, block_places, public_wire, public_wires}
use Rattle.lzk_sha_blocks.proofs.LayoutLaws.{block_placed, length-state_bits, state_bit_at, public_inner, public_last}
use Rattle.lzk_sha_blocks.proofs.Steps.{is_state, next_state, digest_words_are, length-seen_public, length-seen_private, private_input, public_input, added_entry, own, compressed, first_finds, next_finds}

-- ---- where the parts of the private inputs stand
module _ {A : Type 0} (element : ℕ → A) (d : A) (m : List ℕ) where
  abbrev chunk : ℕ → List A
  chunk i = map element (state_of m i) ++ block_added element m i

  length-added : (i : ℕ) → length (block_added element m i) ≡ 6376
  length-added i = length-compression_private element [] (state_of m i) (block_of m i) d

  length-words : (i : ℕ) → length (map element (state_of m i)) ≡ 8
  length-words i = length-map (state_of m i) element ∙ (let is = is_state m i in is.eight)

  length-chunk : (i : ℕ) → length (chunk i) ≡ 6384
  length-chunk i = let a = length-words i in let b = length-added i in let both = length-append (map element (state_of m i)) (block_added element m i) in omega (arith, a, b, both)

  pub length-digest_private : length (digest_private element m) ≡ private_count (length m)
  unfolding digest_private
  length-digest_private =
      let n = blocks (length m) - 1 in
      let p = flat_map (bit_list element 8) m in
      let q = block_added element m 0 in
      let r = flat_map chunk (range_with_len 1 n) in
      let a = length-message element m in
      let b = length-added 0 in
      let c = length-range_chunks chunk 6384 length-chunk 1 n in
      let e1 = length-append p (q ++ r) in
      let e2 = length-append q r in
      omega (arith, a, b, c, e1, e2)

  pub first_at : (j : ℕ) → j < 8 * length m → slice_index_or (digest_private element m) j d ≡ element (bit_at (slice_index m (j / 8)) (7 - j % 8))
  unfolding digest_private
  first_at j lt =
      let a = length-message element m in
      get_or_append_left (flat_map (bit_list element 8) m) _ d j (omega (arith, a, lt)) ∙ message_entry element m d j lt

  chunk_at : (i j : ℕ) → 1 ≤ i → i < blocks (length m) → j < 6384 → slice_index_or (digest_private element m) (8 * length m + 6376 + 6384 * (i - 1) + j) d ≡ slice_index_or (chunk i) j d
  unfolding digest_private
  chunk_at i j some lt lj =
      let n = blocks (length m) - 1 in
      let p = flat_map (bit_list element 8) m in
      let q = block_added element m 0 in
      let r = flat_map chunk (range_with_len 1 n) in
      let a = length-message element m in
      let b = length-added 0 in
      let there : 8 * length m + 6376 + 6384 * (i - 1) + j ≡ length p + (length q + (6384 * (i - 1) + j)) = omega (arith, a, b) in
      ap (λ k. slice_index_or (p ++ (q ++ r)) k d) there
      ∙ get_or-append-add p (q ++ r) (length q + (6384 * (i - 1) + j)) d
      ∙ get_or-append-add q r (6384 * (i - 1) + j) d
      ∙ range_entry chunk 6384 length-chunk 1 n i j d some (omega (arith, some, lt)) lj

  pub words_at : (i k : ℕ) → 1 ≤ i → i < blocks (length m) → k < 8 → slice_index_or (digest_private element m) (added (length m) (i - 1) + 6376 + k) d ≡ element (slice_index (state_of m i) k)
  words_at i k some lt few =
      let there : added (length m) (i - 1) + 6376 + k ≡ 8 * length m + 6376 + 6384 * (i - 1) + k = omega arith in
      let w = length-words i in
      let is = is_state m i in
      let eight = is.eight in
      ap (λ n. slice_index_or (digest_private element m) n d) there ∙ chunk_at i k some lt (omega (arith, few))
      ∙ get_or_append_left (map element (state_of m i)) (block_added element m i) d k (omega (arith, w, few))
      ∙ get_or-map element (state_of m i) k 0 d (omega (arith, eight, few))

  pub added_at_block : (i k : ℕ) → i < blocks (length m) → k < 6376 → slice_index_or (digest_private element m) (added (length m) i + k) d ≡ slice_index_or (block_added element m i) k d
  unfolding digest_private
  added_at_block zero k lt few =
      let p = flat_map (bit_list element 8) m in
      let q = block_added element m 0 in
      let r = flat_map chunk (range_with_len 1 (blocks (length m) - 1)) in
      let a = length-message element m in
      let b = length-added 0 in
      let there : added (length m) 0 + k ≡ length p + k = omega (arith, a) in
      ap (λ n. slice_index_or (p ++ (q ++ r)) n d) there
      ∙ get_or-append-add p (q ++ r) k d ∙ get_or_append_left q r d k (omega (arith, b, few))
  added_at_block (suc i) k lt few =
      let w = length-words (suc i) in
      let there : added (length m) (suc i) + k ≡ 8 * length m + 6376 + 6384 * (suc i - 1) + (8 + k) = omega arith in
      let behind : 8 + k ≡ length (map element (state_of m (suc i))) + k = omega (arith, w) in
      ap (λ n. slice_index_or (digest_private element m) n d) there ∙ chunk_at (suc i) (8 + k) (omega arith) lt (omega (arith, few))
      ∙ ap (λ n. slice_index_or (chunk (suc i)) n d) behind ∙ get_or-append-add (map element (state_of m (suc i))) (block_added element m (suc i)) k d

-- what a compression adds stands behind what it is given
behind_given : {A : Type 0} (element : ℕ → A) (first : List A) (state block : List ℕ) → compression_private element first state block ≡ first ++ compression_private element [] state block
unfolding compression_private
behind_given element first state block = refl

-- ---- every block is satisfied
module _ {A : Type 0} (o : Ops A) (element : ℕ → A) (size : ℕ) (h : Numbered o element size) (big : 8 * 2 ^ 32 ≤ size) (m : List ℕ) (bytes : AreBytes m) where
  private : List A
  private = digest_private element m

  public : List A
  public = map element (digest_words m)

  eight : length public ≡ 8
  unfolding public
  eight = length-map (digest_words m) element ∙ ap length (digest_words_are m) ∙ (let is = is_state m (blocks (length m)) in is.eight)

  bits : (j : ℕ) → j < 8 * length m → entry o private j ≡ element (bit_at (slice_index m (j / 8)) (7 - j % 8))
  unfolding private
  bits j lt = first_at element o.zero m j lt

  abbrev seen_public : ℕ → List A
  seen_public i = block_public o (length m) (inputs_of o public private) i

  abbrev seen_private : ℕ → List A
  seen_private i = block_private o (length m) (inputs_of o public private) i

  word_input : (i k : ℕ) → i < blocks (length m) → k < 8 → entry o (seen_public i) k ≡ element (slice_index (state_of m (suc i)) k)
  unfolding private public
  word_input i k lt few =
      let n = length-map-range_with_len (public_wire (length m) i) 0 8 in
      let is = is_state m (suc i) in
      let count = is.eight in
      get_or-map (entry o (inputs_of o public private)) (public_wires (length m) i) k 0 o.zero (omega (arith, n, few))
      ∙ ap (entry o (inputs_of o public private)) (get_or-map-range_with_len (public_wire (length m) i) 0 8 k k 0 few (omega arith))
      ∙ elim (cases_lt (i + 1) (blocks (length m))) [ inl inner ↦ between i k inner few | inr outer ↦ behind i k lt outer few ] where
        between : (i k : ℕ) → i + 1 < blocks (length m) → k < 8 → entry o (inputs_of o public private) (public_wire (length m) i k) ≡ element (slice_index (state_of m (suc i)) k)
        between i k inner few =
            let there : 9 + added (length m) i + 6376 + k ≡ 9 + (added (length m) i + 6376 + k) = omega arith in
            let before : added (length m) i + 6376 + k ≡ added (length m) (suc i - 1) + 6376 + k = omega arith in
            ap (entry o (inputs_of o public private)) (public_inner (length m) i k inner ∙ there)
            ∙ private_input o (length m) public private eight (added (length m) i + 6376 + k)
            ∙ ap (entry o (digest_private element m)) before ∙ words_at element o.zero m (suc i) k (omega arith) (omega (arith, inner)) few

        behind : (i k : ℕ) → i < blocks (length m) → blocks (length m) ≤ i + 1 → k < 8 → entry o (inputs_of o public private) (public_wire (length m) i k) ≡ element (slice_index (state_of m (suc i)) k)
        behind i k lt outer few =
            let last : blocks (length m) ≡ suc i = omega (arith, lt, outer) in
            let words = digest_words_are m ∙ ap (state_of m) last in
            let is = is_state m (suc i) in
            let count = is.eight in
            ap (entry o (inputs_of o public private)) (public_last (length m) i k outer) ∙ public_input o (length m) public private eight k few
            ∙ ap (λ l. entry o (map element l) k) words ∙ get_or-map element (state_of m (suc i)) k 0 o.zero (omega (arith, count, few))

  -- what block i is given
  given : ℕ → List A
  given i = take (given_count (length m) i) (seen_private i)

  length-given : (i : ℕ) → length (given i) ≡ given_count (length m) i
  unfolding given
  length-given i =
      let all = length-seen_private o (length m) i (inputs_of o public private) in
      length-take-le (given_count (length m) i) (seen_private i) (omega (arith, all))

  added_is : (i : ℕ) → i < blocks (length m) → drop (given_count (length m) i) (seen_private i) ≡ block_added element m i
  unfolding private
  added_is i lt =
      let g = given_count (length m) i in
      let all = length-seen_private o (length m) i (inputs_of o public private) in
      let rest = length-drop g (seen_private i) in
      let long = length-compression_private element [] (state_of m i) (block_of m i) o.zero in
      ext_get_or o.zero (drop g (seen_private i)) (block_added element m i) (omega (arith, all, rest, long)) (λ k inside.
      let few : k < 6376 = omega (arith, all, rest, inside) in
      get_or-drop g (seen_private i) k o.zero ∙ added_entry o (length m) public private eight i k few ∙ added_at_block element o.zero m i k lt few)

  private_is : (i : ℕ) → i < blocks (length m) → seen_private i ≡ compression_private element (given i) (state_of m i) (block_of m i)
  unfolding given
  private_is i lt =
      let g = given_count (length m) i in
      sym (take-append-drop g (seen_private i)) ∙ ap (λ l. take g (seen_private i) ++ l) (added_is i lt)
      ∙ sym (behind_given element (take g (seen_private i)) (state_of m i) (block_of m i))

  public_is : (i : ℕ) → i < blocks (length m) → seen_public i ≡ map element (compress (state_of m i) (block_of m i))
  public_is i lt =
      let all = length-seen_public o (length m) i (inputs_of o public private) in
      let is = is_state m (suc i) in
      let count = is.eight in
      let long = length-map (state_of m (suc i)) element in
      ext_get_or o.zero (seen_public i) (map element (state_of m (suc i))) (omega (arith, all, long, count)) (λ k inside.
      let few : k < 8 = omega (arith, all, inside) in
      word_input i k lt few ∙ sym (get_or-map element (state_of m (suc i)) k 0 o.zero (omega (arith, count, few))))
      ∙ ap (map element) (sym (next_state m i))

  state_input : (i j : ℕ) → j < state_count i → Finds o element (block_places (length m) i) (seen_private i) (state_of m i) (block_of m i) → IsBit element (entry o (seen_private i) (8 * held (length m) i + j))
  state_input zero j lt finds = absurd (omega (arith, lt))
  state_input (suc i) j lt finds =
      let is = is_state m (suc i) in
      let count = is.eight in
      let b = length-state_bits (length m) (suc i) in
      let n = slice_index (state_of m (suc i)) (j / 32) in
      let value = found_at o element (seen_private (suc i)) (state_bits (length m) (suc i)) (32 * length (state_of m (suc i))) (λ k. bit_at (slice_index (state_of m (suc i)) (k / 32)) (31 - k % 32)) (omega (arith, b, count)) finds.found_state j (omega (arith, count, lt)) in
      (bit_at n (31 - j % 32), bit_at-lt n (31 - j % 32), sym (ap (bit_value element (entry o (seen_private (suc i)))) (state_bit_at (length m) i j lt)) ∙ value)

  given_bit : (i : ℕ) → Finds o element (block_places (length m) i) (seen_private i) (state_of m i) (block_of m i) → (j : ℕ) → j < given_count (length m) i → IsBit element (entry o (seen_private i) j)
  given_bit i finds j lt = elim (cases_lt j (8 * held (length m) i)) [
    | inl less ↦
        let n = slice_index m ((512 * i + j) / 8) in
        (bit_at n (7 - j % 8), bit_at-lt n (7 - j % 8), own o element size h big (length m) public private eight m refl bytes bits i j less)
    | inr more ↦
        let there : 8 * held (length m) i + (j - 8 * held (length m) i) ≡ j = omega (arith, more) in
        subst (λ k. IsBit element (entry o (seen_private i) k)) there (state_input i (j - 8 * held (length m) i) (omega (arith, more, lt)) finds)
  ]

  satisfies : (i : ℕ) → i < blocks (length m) → Finds o element (block_places (length m) i) (seen_private i) (state_of m i) (block_of m i) → AreCompressing o element (block_places (length m) i) (seen_public i) (seen_private i)
  unfolding given
  satisfies i lt finds =
      let g = given_count (length m) i in
      let all = private_is i lt in
      let split = take-append-drop g (seen_private i) in
      let first = finds_first o element (block_places (length m) i) (block_placed (length m) i) (take g (seen_private i)) (drop g (seen_private i)) (length-given i) (state_of m i) (block_of m i)
      (subst (λ (l : List A). Finds o element (block_places (length m) i) l (state_of m i) (block_of m i)) (sym split) finds) in
      let are = are_bits o element (take g (seen_private i)) (λ j inside.
      let few : j < g = omega (arith, length-given i, inside) in
      subst (IsBit element) (sym (get_or-take g (seen_private i) j o.zero few)) (given_bit i finds j few)) in
      subst (λ (l : List A). AreCompressing o element (block_places (length m) i) l (seen_private i)) (sym (public_is i lt))
      (subst (λ (l : List A). AreCompressing o element (block_places (length m) i) (map element (compress (state_of m i) (block_of m i))) l) (sym all)
      (compressing o element size h (block_places (length m) i) (block_placed (length m) i) (take g (seen_private i)) (length-given i) are (state_of m i) (block_of m i) first))

  finds_at : (i : ℕ) → i < blocks (length m) → Finds o element (block_places (length m) i) (seen_private i) (state_of m i) (block_of m i)
  finds_at zero lt = first_finds o element size h big (length m) public private eight m refl bytes bits lt
  finds_at (suc i) lt =
      let before : i < blocks (length m) = omega (arith, lt) in
      let finds = finds_at i before in
      next_finds o element size h big (length m) public private eight m refl bytes bits i lt
      (compressed o element size h big (length m) public private eight m refl bytes bits i (satisfies i before finds) finds)

  pub are_hashing : AreHashing o element (length m) (map element (digest_words m)) (digest_private element m)
  unfolding public private
  are_hashing i lt = satisfies i lt (finds_at i lt)

  pub has_digest : HaveDigest element (map element (digest_words m)) (digest_private element m) m
  has_digest =
      let long = length-digest_private element o.zero m in
      record {
        bits = begins_with o element (digest_private element m) m (omega (arith, long)) (λ j lt. first_at element o.zero m j lt);
        words = refl;
      }
