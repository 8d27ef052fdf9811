-- Where the parts of a compression's private inputs stand.
use Rattle.std.specs.Prelude.{◌≡◌, ℕ, ◌+◌, ◌-◌, ◌*◌, ◌/◌, ◌%◌, ◌<◌, ◌≤◌, List, ◌++◌, length, slice_index, slice_index_or}
use Rattle.std.specs.List.{flat_map}
use Rattle.std.specs.Int.{bit_at}
use Rattle.std.proofs.Common.{ap, ◌∙◌, arith, length-append, get_or-append-add}
use Rattle.std.proofs.lemmas.List.{get_or_append_left}
use Rattle.sha2.specs.Sha256.{schedule, rounds, round_constants}
use Rattle.lzk_sha_circuit.specs.Places.{Places, w_place, a_place, f_place}
use Rattle.lzk_sha_circuit.specs.Inputs.{bit_list, sum_list, round_list, schedule_list, rounds_list, final_list, compression_private, next_total, first_total, second_total}
use Rattle.lzk_sha_circuit.proofs.Chunks.{length-chunks, chunk_entry, range_entry, length-range_chunks, length-bit_list, bit_list_entry, length-sum_list}

module _ {A : Type 0} (element : ℕ → A) where
  pub length-round_list : (v : List ℕ) (k w : ℕ) → length (round_list element v k w) ≡ 70
  unfolding round_list
  length-round_list v k w =
      let a = first_total v k w + second_total v in
      let e = slice_index v 3 + first_total v k w in
      length-append (sum_list element 3 a) (sum_list element 3 e) ∙ (λ i. length-sum_list element 3 a i + length-sum_list element 3 e i)

  length-schedule_list : (ws : List ℕ) → length (schedule_list element ws 48) ≡ 1632
  unfolding schedule_list
  length-schedule_list ws = length-range_chunks (λ t. sum_list element 2 (next_total ws t)) 34 (λ t. length-sum_list element 2 (next_total ws t)) 16 48

  length-rounds_list : (h ws : List ℕ) → length (rounds_list element h ws 64) ≡ 4480
  unfolding rounds_list
  length-rounds_list h ws =
      length-range_chunks (λ t. round_list element (rounds h ws t) (slice_index round_constants t) (slice_index ws t)) 70 (λ t. length-round_list (rounds h ws t) (slice_index round_constants t) (slice_index ws t)) 0 64

  length-final_list : (h v : List ℕ) → length (final_list element h v 8) ≡ 264
  unfolding final_list
  length-final_list h v = length-range_chunks (λ i. sum_list element 1 (slice_index h i + slice_index v i)) 33 (λ i. length-sum_list element 1 (slice_index h i + slice_index v i)) 0 8

  module _ (first : List A) (h block : List ℕ) (d : A) where
    pub length-compression_private : length (compression_private element first h block) ≡ length first + 6376
    unfolding compression_private
    length-compression_private =
        let s = schedule block 48 in
        let p2 = schedule_list element s 48 in
        let p3 = rounds_list element h s 64 in
        let p4 = final_list element h (rounds h s 64) 8 in
        let e1 = length-append first (p2 ++ (p3 ++ p4)) in
        let e2 = length-append p2 (p3 ++ p4) in
        let e3 = length-append p3 p4 in
        let l2 = length-schedule_list s in
        let l3 = length-rounds_list h s in
        let l4 = length-final_list h (rounds h s 64) in
        omega (arith, e1, e2, e3, l2, l3, l4)

    pub first_entry : (j : ℕ) → j < length first → slice_index_or (compression_private element first h block) j d ≡ slice_index_or first j d
    unfolding compression_private
    first_entry j lt =
        let s = schedule block 48 in
        get_or_append_left first (schedule_list element s 48 ++ (rounds_list element h s 64 ++ final_list element h (rounds h s 64) 8)) d j lt

  module _ (given : Places) (first : List A) (long : length first ≡ given.inputs) (h block : List ℕ) (d : A) where
    pub schedule_entry : (t j : ℕ) → 16 ≤ t → t < 64 → j < 34 → slice_index_or (compression_private element first h block) (w_place given t + j) d ≡ slice_index_or (sum_list element 2 (next_total (schedule block 48) t)) j d
    unfolding compression_private schedule_list
    schedule_entry t j le lt lj =
        let s = schedule block 48 in
        let p2 = schedule_list element s 48 in
        let rest = rounds_list element h s 64 ++ final_list element h (rounds h s 64) 8 in
        let l1 = long in
        let l2 = length-schedule_list s in
        let there : w_place given t + j ≡ length first + (34 * (t - 16) + j) = omega (arith, l1) in
        ap (λ n. slice_index_or (first ++ (p2 ++ rest)) n d) there
        ∙ get_or-append-add first (p2 ++ rest) (34 * (t - 16) + j) d
        ∙ get_or_append_left p2 rest d (34 * (t - 16) + j) (omega (arith, l2))
        ∙ range_entry (λ t. sum_list element 2 (next_total s t)) 34 (λ t. length-sum_list element 2 (next_total s t)) 16 48 t j d le (omega arith) lj

    pub round_entry : (t j : ℕ) → t < 64 → j < 70 → slice_index_or (compression_private element first h block) (a_place given t + j) d ≡ slice_index_or (round_list element (rounds h (schedule block 48) t) (slice_index round_constants t) (slice_index (schedule block 48) t)) j d
    unfolding compression_private rounds_list
    round_entry t j lt lj =
        let s = schedule block 48 in
        let p2 = schedule_list element s 48 in
        let p3 = rounds_list element h s 64 in
        let rest = final_list element h (rounds h s 64) 8 in
        let f = λ (t : ℕ). round_list element (rounds h s t) (slice_index round_constants t) (slice_index s t) in
        let l1 = long in
        let l2 = length-schedule_list s in
        let l3 = length-rounds_list h s in
        let there : a_place given t + j ≡ length first + (length p2 + (70 * (t - 0) + j)) = omega (arith, l1, l2) in
        ap (λ n. slice_index_or (first ++ (p2 ++ (p3 ++ rest))) n d) there
        ∙ get_or-append-add first (p2 ++ (p3 ++ rest)) (length p2 + (70 * (t - 0) + j)) d
        ∙ get_or-append-add p2 (p3 ++ rest) (70 * (t - 0) + j) d
        ∙ get_or_append_left p3 rest d (70 * (t - 0) + j) (omega (arith, l3))
        ∙ range_entry f 70 (λ t. length-round_list (rounds h s t) (slice_index round_constants t) (slice_index s t)) 0 64 t j d (omega arith) (omega arith) lj

    pub final_entry : (i j : ℕ) → i < 8 → j < 33 → slice_index_or (compression_private element first h block) (f_place given i + j) d ≡ slice_index_or (sum_list element 1 (slice_index h i + slice_index (rounds h (schedule block 48) 64) i)) j d
    unfolding compression_private final_list
    final_entry i j lt lj =
        let s = schedule block 48 in
        let v = rounds h s 64 in
        let p2 = schedule_list element s 48 in
        let p3 = rounds_list element h s 64 in
        let p4 = final_list element h v 8 in
        let f = λ (i : ℕ). sum_list element 1 (slice_index h i + slice_index v i) in
        let l1 = long in
        let l2 = length-schedule_list s in
        let l3 = length-rounds_list h s in
        let there : f_place given i + j ≡ length first + (length p2 + (length p3 + (33 * (i - 0) + j))) = omega (arith, l1, l2, l3) in
        ap (λ n. slice_index_or (first ++ (p2 ++ (p3 ++ p4))) n d) there
        ∙ get_or-append-add first (p2 ++ (p3 ++ p4)) (length p2 + (length p3 + (33 * (i - 0) + j))) d
        ∙ get_or-append-add p2 (p3 ++ p4) (length p3 + (33 * (i - 0) + j)) d
        ∙ get_or-append-add p3 p4 (33 * (i - 0) + j) d
        ∙ range_entry f 33 (λ i. length-sum_list element 1 (slice_index h i + slice_index v i)) 0 8 i j d (omega arith) (omega arith) lj

  -- the bits of a message
  pub length-message : (m : List ℕ) → length (flat_map (bit_list element 8) m) ≡ 8 * length m
  length-message = length-chunks (bit_list element 8) 8 (length-bit_list element 8)

  pub message_entry : (m : List ℕ) (d : A) (j : ℕ) → j < 8 * length m → slice_index_or (flat_map (bit_list element 8) m) j d ≡ element (bit_at (slice_index m (j / 8)) (7 - j % 8))
  message_entry m d j lt =
      let split : j ≡ 8 * (j / 8) + j % 8 = omega arith in
      let byte : j / 8 < length m = omega (arith, lt) in
      let place : j % 8 < 8 = omega arith in
      ap (λ n. slice_index_or (flat_map (bit_list element 8) m) n d) split
      ∙ chunk_entry (bit_list element 8) 8 (length-bit_list element 8) m (j / 8) (j % 8) d 0 byte place
      ∙ bit_list_entry element 8 (slice_index m (j / 8)) (j % 8) d place
