-- One level of a path: what its private inputs say, and that every two nodes have such.
use Rattle.std.proofs.Common.{◌≡◌, ℕ, ◌+◌, ◌-◌, ◌*◌, ◌/◌, ◌%◌, ◌<◌, List, [], ◌∷◌, ◌++◌, length, map, zero, suc, refl, sym, ap, subst, ◌∙◌, arith, inl, inr, slice_index, lt-ltb, ext_get_or, length-append, mod-eq_of_lt, get_or-append-add, take, get_or-take}
use Rattle.std.specs.Prelude.{if◌then◌else◌, ◌↔◌}
use Rattle.std.specs.Int.{bit_at}
use Rattle.std.specs.List.{range_with_len}
use Rattle.std.proofs.lemmas.Bool.{cases_lt}
use Rattle.std.proofs.lemmas.List.{length-map, get_or-map, get_or_past, get_or_append_left}
use Rattle.std.proofs.lemmas.List.FromFn.{length-map-range_with_len, get_or-map-range_with_len}
use Rattle.std.proofs.lemmas.Nat.Bits.{bit_at-lt}
use Rattle.sha2.specs.Sha256.{compress, word_at}
use Rattle.lzk_field.specs.Sums.{entry}
use Rattle.lzk_goldilocks.specs.Prime.{p}
use Rattle.lzk_goldilocks.specs.Elements.{ops, of_number}
use Rattle.lzk_goldilocks.specs.declared.element.Gold.{Gold}
use Rattle.lzk_sha_circuit.specs.declared.bit.Bit.{Bit}
use Rattle.lzk_sha_circuit.specs.declared.bit.Bit.TheVariants.{Zero, Input}
use Rattle.lzk_sha_circuit.specs.Compression.{IsState, IsBlock, Finds, AreBits}
use Rattle.lzk_sha_circuit.specs.Outputs.{AreCompressing}
use Rattle.lzk_sha_circuit.specs.Places.{Places, IsPlaced, IsBitOf, bit_of, bit_value, block_bit, bits_from, w_place}
use Rattle.lzk_sha_circuit.proofs.Block.{held_block, message_bytes}
use Rattle.lzk_sha_circuit.proofs.Compressed.{found_is_compressed, satisfied_is_compression}
use Rattle.lzk_sha_circuit.proofs.Exactly.{satisfied_exactly}
use Rattle.lzk_sha_circuit.proofs.Found.{found_is, are_bits, each_bit}
use Rattle.lzk_sha_circuit.proofs.MessagePlaces.{input_within, zero_within}
use Rattle.lzk_sha_circuit.proofs.Numbered.{gold_numbered}
use Rattle.lzk_sha_circuit.proofs.Soundness.{spelled, length-spelled, spelled_bytes, spelled_bit}
use Rattle.lzk_sha_path.specs.Levels.{bits_worth, side, chosen_word, AreChosen, block_number, first_inputs, block_bits, node_bits, level_places, IsLevel}
use Rattle.lzk_sha_path.specs.Roots.{block_of, node_state, node_of, parent_of, child}
use Rattle.lzk_sha_path.proofs.NodeBits.{node_number, length-node_bits, node_within, node_value, state_below}
use Rattle.lzk_sha_path.proofs.Worth.{word_worth, worth_same}
use Rattle.lzk_sha_path.proofs.Blocks.{is_block, left_word, right_word, words_from, words_from_at, length-words_from, word_below, words_state, block_is}

-- ---- what the compression is given
block_bit_at : (j : ℕ) → j < 512 → bit_of block_bits j ≡ Input j
unfolding block_bits
block_bit_at j lt = get_or-map-range_with_len (λ i. Input i) 0 512 j j Zero lt (omega arith)

length-block_bits : length block_bits ≡ 512
unfolding block_bits
length-block_bits = length-map-range_with_len (λ i. Input i) 0 512

block_within : (j : ℕ) → IsBitOf 513 (bit_of block_bits j)
block_within j = elim (cases_lt j 512) [
  | inl less ↦ subst (IsBitOf 513) (sym (block_bit_at j less)) (input_within 513 j (omega (arith, less)))
  | inr more ↦ subst (IsBitOf 513) (sym (get_or_past block_bits j Zero (let long = length-block_bits in omega (arith, long, more)))) (zero_within 513)
]

pub placed : IsPlaced level_places
placed = record {
  few = omega arith;
  state_bits = length-node_bits;
  block_bits = length-block_bits;
  state_within = node_within 513;
  block_within = block_within;
}

abbrev pub the_places : List Bit → List Bit → Places
the_places state block = record { inputs = 513; state = state; block = block }

pub places_are : (state block : List Bit) → state ≡ node_bits → block ≡ block_bits → the_places state block ≡ level_places
places_are state block e f i = the_places (e i) (f i)

-- ---- where the private inputs begin with the bits of a block
module _ (private : List Gold) (block : List ℕ) (is : IsBlock block) (bits : (j : ℕ) → j < 512 → entry ops private j ≡ of_number (block_number block j)) where
  block_value : (j : ℕ) → j < 512 → block_bit of_number level_places (entry ops private) j ≡ of_number (block_number block j)
  block_value j lt = ap (bit_value of_number (entry ops private)) (block_bit_at j lt) ∙ bits j lt

  pub finds : Finds ops of_number level_places private node_state block
  finds =
      let long = is.long in
      let b = length-block_bits in
      record {
        is_state = record { eight = refl; words = λ k lt. state_below k lt };
        is_block = is;
        found_state = found_is ops of_number private node_bits (32 * length node_state) node_number length-node_bits (λ j inside. node_value of_number (entry ops private) j inside);
        found_block = found_is ops of_number private block_bits (8 * length block) (block_number block) (omega (arith, b, long)) (λ j inside. block_value j (omega (arith, long, inside)));
      }

  word_bit : (t : ℕ) → t < 16 → (k : ℕ) → k < 32 → entry ops private (32 * t + k) ≡ of_number (bit_at (word_at block (4 * t)) (31 - k))
  word_bit t lt k few =
      let i = 31 - k in
      let j = 32 * t + (31 - i) in
      let there : 32 * t + k ≡ j = omega (arith, few) in
      let held = held_block of_number level_places (entry ops private) block is.long is.bytes block_value t lt in
      let inside : j < 512 = omega (arith, lt) in
      ap (entry ops private) there
      ∙ sym (ap (bit_value of_number (entry ops private)) (block_bit_at j inside))
      ∙ sym (ap (λ b. if b then block_bit of_number level_places (entry ops private) j else bits_from (entry ops private) (w_place level_places t) 32 i) (lt-ltb t 16 lt))
      ∙ held.bits i (omega arith)

  word_is : (t : ℕ) → t < 16 → bits_worth private (32 * t) 32 ≡ of_number (word_at block (4 * t))
  word_is t lt = word_worth private (32 * t) (word_at block (4 * t)) (word_bit t lt) (word_below block (message_bytes block is.bytes) (4 * t))

  pub chosen_is : (d i : ℕ) → d < 2 → i < 8 → side private ≡ d → chosen_word private i ≡ of_number (word_at block (4 * (8 * d + i)))
  chosen_is d i small lt e =
      let there : 256 * side private + 32 * i ≡ 32 * (8 * d + i) = omega (arith, e) in
      ap (λ at. bits_worth private at 32) there ∙ word_is (8 * d + i) (omega (arith, lt, small))

side_is : (x : Gold) (d : ℕ) → d < 2 → x ≡ of_number d → x.n ≡ d
side_is x d small e = ap (λ (y : Gold). y.n) e ∙ mod-eq_of_lt (omega (arith, small))

-- ---- from private inputs to nodes

-- a node, the side on which it stands, the one beside it, and the node above
pub record Step (node above : List Gold) : Type 0 where
  pub low : List ℕ
  pub sibling : List ℕ
  pub turn : ℕ
  pub is_low : IsState low
  pub is_sibling : IsState sibling
  pub small : turn < 2
  pub node_is : node ≡ map of_number low
  pub above_is : above ≡ map of_number (parent_of turn low sibling)

by_side : (node above : List Gold) (block : List ℕ) → IsBlock block → (d : ℕ) → d < 2 → node ≡ map of_number (words_from block (8 * d)) → above ≡ map of_number (compress node_state block) → Step node above
by_side node above block is zero small en ea = record {
  low = words_from block 0;
  sibling = words_from block 8;
  turn = 0;
  is_low = words_state block is.bytes 0;
  is_sibling = words_state block is.bytes 8;
  small = small;
  node_is = en;
  above_is = ea ∙ ap (λ b. map of_number (compress node_state b)) (sym (block_is block is));
}
by_side node above block is (suc zero) small en ea = record {
  low = words_from block 8;
  sibling = words_from block 0;
  turn = 1;
  is_low = words_state block is.bytes 8;
  is_sibling = words_state block is.bytes 0;
  small = small;
  node_is = en;
  above_is = ea ∙ ap (λ b. map of_number (compress node_state b)) (sym (block_is block is));
}
by_side node above block is (suc (suc d)) small en ea = absurd (omega (arith, small))

words_are : (node : List Gold) (words : List ℕ) → length node ≡ 8 → length words ≡ 8 → ((i : ℕ) → i < 8 → entry ops node i ≡ of_number (slice_index words i)) → node ≡ map of_number words
words_are node words ln lw h =
    let long = length-map words of_number in
    ext_get_or ops.zero node (map of_number words) (omega (arith, ln, lw, long)) (λ i lt.
    let inside : i < 8 = omega (arith, ln, lt) in
    h i inside ∙ sym (get_or-map of_number words i 0 ops.zero (omega (arith, lw, inside))))

-- the side is a bit
pub side_small : (node above private : List Gold) → length above ≡ 8 → length private ≡ 6889 → AreCompressing ops of_number level_places above private → side private < 2
side_small node above private short long zeros =
    let both = satisfied_is_compression ops of_number p gold_numbered (omega arith) level_places above private placed short long zeros in
    let bit = each_bit ops of_number refl private both.0 512 in
    let e = side_is (entry ops private 512) bit.0 bit.1 bit.2 in
    omega (arith, e, bit.1)

pub level_forward : (node above private : List Gold) → length node ≡ 8 → length above ≡ 8 → length private ≡ 6889 → IsLevel node above private → Step node above
level_forward node above private ln short long h =
    let both = satisfied_is_compression ops of_number p gold_numbered (omega arith) level_places above private placed short long h.compressed in
    let bit = each_bit ops of_number refl private both.0 in
    let block = spelled of_number 64 (entry ops private) bit in
    let is : IsBlock block = record { long = length-spelled of_number 64 (entry ops private) bit; bytes = spelled_bytes of_number 64 (entry ops private) bit } in
    let bits : (j : ℕ) → j < 512 → entry ops private j ≡ of_number (block_number block j) = λ j lt. spelled_bit of_number 64 (entry ops private) bit j lt in
    let made = found_is_compressed ops of_number p gold_numbered (omega arith) level_places above private node_state block placed short h.compressed (finds private block is bits) in
    let d = side private in
    let small : d < 2 = side_small node above private short long h.compressed in
    by_side node above block is d small
    (words_are node (words_from block (8 * d)) ln (length-words_from block (8 * d)) (λ i lt.
    h.chosen i lt ∙ chosen_is private block is bits d i small lt refl ∙ ap of_number (sym (words_from_at block (8 * d) i lt))))
    made.words

-- ---- from nodes to private inputs

child_word : (left right : List ℕ) → IsState left → IsState right → (d i : ℕ) → d < 2 → i < 8 → word_at (block_of left right) (4 * (8 * d + i)) ≡ slice_index (child d left right) i
child_word left right hl hr zero i small lt =
    let e : 8 * 0 + i ≡ i = omega arith in
    ap (λ k. word_at (block_of left right) (4 * k)) e ∙ left_word left right hl hr i lt
child_word left right hl hr (suc zero) i small lt = right_word left right hl hr i lt
child_word left right hl hr (suc (suc d)) i small lt = absurd (omega (arith, small))

child_eight : (left right : List ℕ) → IsState left → IsState right → (d : ℕ) → length (child d left right) ≡ 8
child_eight left right hl hr zero = hl.eight
child_eight left right hl hr (suc d) = hr.eight

-- private inputs that begin with the bits of two nodes and a side
pub record Begins (left right : List ℕ) (d : ℕ) (private : List Gold) : Type 0 where
  pub bits : (j : ℕ) → j < 512 → entry ops private j ≡ of_number (block_number (block_of left right) j)
  pub turn : entry ops private 512 ≡ of_number d

pub is_level : (node above private : List Gold) (left right : List ℕ) (d : ℕ) → IsState left → IsState right → d < 2 → Begins left right d private
    → node ≡ map of_number (child d left right) → AreCompressing ops of_number level_places above private → IsLevel node above private
is_level node above private left right d hl hr small b en zeros = record {
  compressed = zeros;
  chosen = λ i lt.
      let inside : i < length (child d left right) = omega (arith, child_eight left right hl hr d, lt) in
      ap (λ l. entry ops l i) en ∙ get_or-map of_number (child d left right) i 0 ops.zero inside
      ∙ ap of_number (sym (child_word left right hl hr d i small lt))
      ∙ sym (chosen_is private (block_of left right) (is_block left right) b.bits d i small lt (side_is (entry ops private 512) d small b.turn));
}

-- what the compression is given
abbrev pub given_of : List ℕ → List ℕ → ℕ → List Gold
given_of left right d = first_inputs (block_of left right) d

abbrev number_at : List ℕ → List ℕ → ℕ → Gold
number_at left right j = of_number (block_number (block_of left right) j)

module _ (left right : List ℕ) (d : ℕ) (small : d < 2) where
  bits : List Gold
  bits = map (number_at left right) (range_with_len 0 512)

  length-bits : length bits ≡ 512
  unfolding bits
  length-bits = length-map-range_with_len (number_at left right) 0 512

  pub length-given : length (given_of left right d) ≡ 513
  unfolding bits
  length-given = omega (arith, length-append bits (of_number d ∷ []), length-bits)

  given_bit : (j : ℕ) → j < 512 → entry ops (given_of left right d) j ≡ of_number (block_number (block_of left right) j)
  unfolding bits
  given_bit j lt =
      get_or_append_left bits (of_number d ∷ []) ops.zero j (omega (arith, length-bits, lt))
      ∙ get_or-map-range_with_len (number_at left right) 0 512 j j ops.zero lt (omega arith)

  given_turn : entry ops (given_of left right d) 512 ≡ of_number d
  unfolding bits
  given_turn =
      let there : 512 ≡ length bits + 0 = omega (arith, length-bits) in
      ap (entry ops (given_of left right d)) there ∙ get_or-append-add bits (of_number d ∷ []) 0 ops.zero

  pub given_bits : AreBits ops of_number (given_of left right d)
  given_bits =
      are_bits ops of_number (given_of left right d) (λ j lt.
      elim (cases_lt j 512) [
        | inl less ↦ (block_number (block_of left right) j, bit_at-lt (slice_index (block_of left right) (j / 8)) (7 - j % 8), given_bit j less)
        | inr more ↦
            let e : j ≡ 512 = omega (arith, length-given, lt, more) in
            (d, small, ap (entry ops (given_of left right d)) e ∙ given_turn)
      ])

  pub given_finds : Finds ops of_number level_places (given_of left right d) node_state (block_of left right)
  given_finds = finds (given_of left right d) (block_of left right) (is_block left right) given_bit

  pub given_begins : (further : List Gold) → Begins left right d (given_of left right d ++ further)
  given_begins further =
      let g = given_of left right d in
      record {
        bits = λ j lt. get_or_append_left g further ops.zero j (omega (arith, length-given, lt)) ∙ given_bit j lt;
        turn = get_or_append_left g further ops.zero 512 (omega (arith, length-given)) ∙ given_turn;
      }

completed : (node above : List Gold) (left right : List ℕ) (d : ℕ) → IsState left → IsState right → d < 2 → length above ≡ 8
    → node ≡ map of_number (child d left right) → above ≡ map of_number (node_of left right) → (private : List Gold) × (length private ≡ 6889) × IsLevel node above private
completed node above left right d hl hr small short en ea =
    let g = given_of left right d in
    let more = (satisfied_exactly ops of_number p gold_numbered (omega arith) level_places above g placed short (length-given left right d small)).1
    (given_bits left right d small, (node_state, block_of left right, given_finds left right d small, ea)) in (
      g ++ more.0,
      omega (arith, length-append g more.0, length-given left right d small, more.1),
      is_level node above (g ++ more.0) left right d hl hr small (given_begins left right d small more.0) en more.2,
    )

pub level_backward : (node above : List Gold) → length above ≡ 8 → Step node above → (private : List Gold) × (length private ≡ 6889) × IsLevel node above private
level_backward node above short s = by_turn s.turn s.low s.sibling s.is_low s.is_sibling s.small s.node_is s.above_is where
  by_turn : (d : ℕ) (low sibling : List ℕ) → IsState low → IsState sibling → d < 2 → node ≡ map of_number low → above ≡ map of_number (parent_of d low sibling)
      → (private : List Gold) × (length private ≡ 6889) × IsLevel node above private
  by_turn zero low sibling hl hs small en ea = completed node above low sibling 0 hl hs small short en ea
  by_turn (suc zero) low sibling hl hs small en ea = completed node above sibling low 1 hs hl small short en ea
  by_turn (suc (suc d)) low sibling hl hs small en ea = absurd (omega (arith, small))

-- ---- what the statement says

-- it sees the words of both nodes, and the first private inputs
module _ (node above private : List Gold) (ln : length node ≡ 8) (small : side private < 2) where
  front_entry : (k : ℕ) → k < 513 → entry ops (take 513 private) k ≡ entry ops private k
  front_entry k lt = get_or-take 513 private k ops.zero lt

  front_word : (i : ℕ) → i < 8 → chosen_word (take 513 private) i ≡ chosen_word private i
  front_word i lt =
      let turn : side (take 513 private) ≡ side private = ap (λ (x : Gold). x.n) (front_entry 512 (omega arith)) in
      ap (λ d. bits_worth (take 513 private) (256 * d + 32 * i) 32) turn
      ∙ worth_same (take 513 private) private (256 * side private + 32 * i) 32 (λ k few. front_entry (256 * side private + 32 * i + k) (omega (arith, small, lt, few)))

  node_entry : (i : ℕ) → i < 8 → entry ops (node ++ above) i ≡ entry ops node i
  node_entry i lt = get_or_append_left node above ops.zero i (omega (arith, ln, lt))

  pub chosen_front : AreChosen (node ++ above) (take 513 private) ↔ AreChosen node private
  chosen_front = (
    λ h i lt. sym (node_entry i lt) ∙ h i lt ∙ front_word i lt,
    λ h i lt. node_entry i lt ∙ h i lt ∙ sym (front_word i lt),
  )

pub side_front : (private : List Gold) → side private < 2 → side (take 513 private) < 2
side_front private small =
    subst (λ (n : ℕ). n < 2) (sym (ap (λ (x : Gold). x.n) (get_or-take 513 private 512 ops.zero (omega arith)))) small

-- the statement and the compression side by side
pub level_exactly : (whole statement block : Type 0) (node above private : List Gold) → length node ≡ 8 → length above ≡ 8 → length private ≡ 6889 → whole ↔ (statement × block)
    → (side (take 513 private) < 2 → statement ↔ AreChosen (node ++ above) (take 513 private)) → block ↔ AreCompressing ops of_number level_places above private → whole ↔ IsLevel node above private
level_exactly whole statement block node above private ln la lp both f g = (
  λ w.
      let (s, b) = both.0 w in
      let zeros = g.0 b in
      let small = side_small node above private la lp zeros in
      record { compressed = zeros; chosen = (chosen_front node above private ln small).0 ((f (side_front private small)).0 s) },
  λ h.
      let small = side_small node above private la lp h.compressed in
      both.1 ((f (side_front private small)).1 ((chosen_front node above private ln small).1 h.chosen), g.1 h.compressed),
)
