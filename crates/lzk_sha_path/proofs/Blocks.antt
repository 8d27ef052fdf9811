-- The block that two nodes are, and the words of a block.
use Rattle.std.proofs.Common.{◌≡◌, ℕ, ◌+◌, ◌*◌, ◌^◌, ◌<◌, ◌≤◌, List, [], ◌∷◌, ◌++◌, length, take, drop, map, zero, suc, refl, sym, ap, subst, ◌∙◌, arith, slice_index, mod-lt, append_assoc, length-append, length-drop, get_or-append-add}
use Rattle.std.specs.List.{range_with_len}
use Rattle.std.specs.Int.{w32, to_be_bytes, byte_at}
use Rattle.std.proofs.lemmas.List.{get_or_append_left, get_or-drop, take-append-drop, take_all, take_more}
use Rattle.std.proofs.lemmas.List.FromFn.{length-map-range_with_len, get_or-map-range_with_len}
use Rattle.std.proofs.lemmas.Nat.{be_bytes_4}
use Rattle.sha2.specs.Sha256.{word_at, digest_bytes}
use Rattle.lzk_sha_circuit.specs.Compression.{IsState, IsBlock}
use Rattle.lzk_sha_circuit.specs.Digest.{AreBytes}
use Rattle.lzk_sha_circuit.proofs.Block.{Bytes, both_bytes, message_bytes}
use Rattle.lzk_sha_circuit.proofs.Digests.{word_of_digest}
use Rattle.lzk_sha_path.specs.Roots.{block_of}

-- ---- the bytes of words are bytes
four_bytes : (a b c d : ℕ) → a < 256 → b < 256 → c < 256 → d < 256 → Bytes (a ∷ b ∷ c ∷ d ∷ [])
four_bytes a b c d la lb lc ld zero = la
four_bytes a b c d la lb lc ld (suc zero) = lb
four_bytes a b c d la lb lc ld (suc (suc zero)) = lc
four_bytes a b c d la lb lc ld (suc (suc (suc zero))) = ld
four_bytes a b c d la lb lc ld (suc (suc (suc (suc k)))) = omega arith

byte-lt : (i n : ℕ) → byte_at i n < 256
byte-lt zero n = omega arith
byte-lt (suc i) n = mod-lt _ (omega arith)

word_bytes : (n : ℕ) → Bytes (to_be_bytes w32 n)
word_bytes n = four_bytes (byte_at 3 n) (byte_at 2 n) (byte_at 1 n) (byte_at 0 n) (byte-lt 3 n) (byte-lt 2 n) (byte-lt 1 n) (byte-lt 0 n)

node_bytes : (h : List ℕ) (n : ℕ) → Bytes (digest_bytes h n)
unfolding digest_bytes
node_bytes h zero = λ k. omega arith
node_bytes h (suc n) = both_bytes (digest_bytes h n) (to_be_bytes w32 (slice_index h n)) (node_bytes h n) (word_bytes (slice_index h n))

length-node : (h : List ℕ) (n : ℕ) → length (digest_bytes h n) ≡ 4 * n
unfolding digest_bytes
length-node h zero = refl
length-node h (suc n) =
    omega (arith, length-append (digest_bytes h n) (to_be_bytes w32 (slice_index h n)), length-node h n)

bytes_are : (m : List ℕ) → Bytes m → AreBytes m
bytes_are m h k lt = h k

pub is_block : (left right : List ℕ) → IsBlock (block_of left right)
is_block left right = record {
  long = omega (arith, length-append (digest_bytes left 8) (digest_bytes right 8), length-node left 8, length-node right 8);
  bytes = bytes_are (block_of left right) (both_bytes (digest_bytes left 8) (digest_bytes right 8) (node_bytes left 8) (node_bytes right 8));
}

-- ---- the words of a block that two nodes are
word_here : (a b : List ℕ) (i j : ℕ) → ((k : ℕ) → k < 4 → slice_index a (i + k) ≡ slice_index b (j + k)) → word_at a i ≡ word_at b j
word_here a b i j h =
    let zero_i : i + 0 ≡ i = omega arith in
    let zero_j : j + 0 ≡ j = omega arith in
    let first : slice_index a i ≡ slice_index b j =
    ap (slice_index a) (sym zero_i) ∙ h 0 (omega arith) ∙ ap (slice_index b) zero_j in
    λ x. word (first x) (h 1 (omega arith) x) (h 2 (omega arith) x) (h 3 (omega arith) x) where
      word : ℕ → ℕ → ℕ → ℕ → ℕ
      word p q r s = word_at (p ∷ q ∷ r ∷ s ∷ []) 0

module _ (left right : List ℕ) (is_left : IsState left) (is_right : IsState right) where
  below : (h : List ℕ) → IsState h → (i : ℕ) → i < 8 → slice_index h i < 2 ^ 32
  below h is i lt = is.words i (let e = is.eight in omega (arith, e, lt))

  pub left_word : (i : ℕ) → i < 8 → word_at (block_of left right) (4 * i) ≡ slice_index left i
  left_word i lt =
      let long = length-node left 8 in
      word_here (block_of left right) (digest_bytes left 8) (4 * i) (4 * i)
      (λ k few. get_or_append_left (digest_bytes left 8) (digest_bytes right 8) 0 (4 * i + k) (omega (arith, long, lt, few)))
      ∙ word_of_digest left (below left is_left) i lt

  pub right_word : (i : ℕ) → i < 8 → word_at (block_of left right) (4 * (8 + i)) ≡ slice_index right i
  right_word i lt =
      let long = length-node left 8 in
      word_here (block_of left right) (digest_bytes right 8) (4 * (8 + i)) (4 * i)
      (λ k few.
      let there : 4 * (8 + i) + k ≡ length (digest_bytes left 8) + (4 * i + k) = omega (arith, long) in
      ap (slice_index (block_of left right)) there ∙ get_or-append-add (digest_bytes left 8) (digest_bytes right 8) (4 * i + k) 0)
      ∙ word_of_digest right (below right is_right) i lt

-- ---- every block is one that two nodes are

-- eight words of a block, from word number s on
abbrev pub words_from : List ℕ → ℕ → List ℕ
words_from block s = map (λ i. word_at block (4 * i)) (range_with_len s 8)

pub words_from_at : (block : List ℕ) (s i : ℕ) → i < 8 → slice_index (words_from block s) i ≡ word_at block (4 * (s + i))
words_from_at block s i lt = get_or-map-range_with_len (λ k. word_at block (4 * k)) s 8 i (s + i) 0 lt refl

pub length-words_from : (block : List ℕ) (s : ℕ) → length (words_from block s) ≡ 8
length-words_from block s = length-map-range_with_len (λ k. word_at block (4 * k)) s 8

small_word : (b0 b1 b2 b3 : ℕ) → b0 < 256 → b1 < 256 → b2 < 256 → b3 < 256 → word_at (b0 ∷ b1 ∷ b2 ∷ b3 ∷ []) 0 < 2 ^ 32
small_word b0 b1 b2 b3 l0 l1 l2 l3 = omega (arith, l0, l1, l2, l3)

pub word_below : (b : List ℕ) → Bytes b → (i : ℕ) → word_at b i < 2 ^ 32
word_below b h i = small_word (slice_index b i) (slice_index b (i + 1)) (slice_index b (i + 2)) (slice_index b (i + 3)) (h i) (h (i + 1)) (h (i + 2)) (h (i + 3))

pub words_state : (block : List ℕ) → AreBytes block → (s : ℕ) → IsState (words_from block s)
words_state block bytes s = record {
  eight = length-words_from block s;
  words = λ k lt.
      let inside : k < 8 = omega (arith, length-words_from block s, lt) in
      subst (λ (n : ℕ). n < 2 ^ 32) (sym (words_from_at block s k inside)) (word_below block (message_bytes block bytes) (4 * (s + k)));
}

four_of : (b0 b1 b2 b3 : ℕ) → b0 < 256 → b1 < 256 → b2 < 256 → b3 < 256 → to_be_bytes w32 (word_at (b0 ∷ b1 ∷ b2 ∷ b3 ∷ []) 0) ≡ b0 ∷ b1 ∷ b2 ∷ b3 ∷ []
four_of b0 b1 b2 b3 l0 l1 l2 l3 =
    be_bytes_4 (b0 ∷ b1 ∷ b2 ∷ b3 ∷ []) (word_at (b0 ∷ b1 ∷ b2 ∷ b3 ∷ []) 0) refl (four_bytes b0 b1 b2 b3 l0 l1 l2 l3) refl

four_taken : (b : List ℕ) (n : ℕ) → n + 4 ≤ length b
    → take (n + 4) b ≡ take n b ++ slice_index b n ∷ slice_index b (n + 1) ∷ slice_index b (n + 2) ∷ slice_index b (n + 3) ∷ []
four_taken b n le =
    let x0 = slice_index b n in
    let x1 = slice_index b (n + 1) in
    let x2 = slice_index b (n + 2) in
    let x3 = slice_index b (n + 3) in
    let a1 : n + 1 + 1 ≡ n + 2 = omega arith in
    let a2 : n + 2 + 1 ≡ n + 3 = omega arith in
    let a3 : n + 3 + 1 ≡ n + 4 = omega arith in
    let t1 = take_more b n 0 (omega (arith, le)) in
    let t2 = ap (λ k. take k b) (sym a1) ∙ take_more b (n + 1) 0 (omega (arith, le)) in
    let t3 = ap (λ k. take k b) (sym a2) ∙ take_more b (n + 2) 0 (omega (arith, le)) in
    let t4 = ap (λ k. take k b) (sym a3) ∙ take_more b (n + 3) 0 (omega (arith, le)) in
    t4 ∙ ap (λ l. l ++ x3 ∷ []) (t3 ∙ ap (λ l. l ++ x2 ∷ []) (t2 ∙ ap (λ l. l ++ x1 ∷ []) t1))
    ∙ ap (λ l. l ++ x3 ∷ []) (ap (λ l. l ++ x2 ∷ []) (append_assoc (take n b) (x0 ∷ []) (x1 ∷ [])) ∙ append_assoc (take n b) (x0 ∷ x1 ∷ []) (x2 ∷ []))
    ∙ append_assoc (take n b) (x0 ∷ x1 ∷ x2 ∷ []) (x3 ∷ [])

bytes_back : (h b : List ℕ) → Bytes b → (n : ℕ) → 4 * n ≤ length b → ((i : ℕ) → i < n → slice_index h i ≡ word_at b (4 * i)) → digest_bytes h n ≡ take (4 * n) b
unfolding digest_bytes
bytes_back h b bytes zero le words = nothing b where
  nothing : (b : List ℕ) → [] ≡ take 0 b
  nothing [] = refl
  nothing (x ∷ b) = refl
bytes_back h b bytes (suc n) le words =
    let m = 4 * n in
    let next : 4 * suc n ≡ m + 4 = omega arith in
    let four = four_of (slice_index b m) (slice_index b (m + 1)) (slice_index b (m + 2)) (slice_index b (m + 3)) (bytes m) (bytes (m + 1)) (bytes (m + 2)) (bytes (m + 3)) in
    let before = bytes_back h b bytes n (omega (arith, le)) (λ i lt. words i (omega (arith, lt))) in
    let here = ap (to_be_bytes w32) (words n (omega arith)) ∙ four in
    (λ x. before x ++ here x) ∙ sym (ap (λ k. take k b) next ∙ four_taken b m (omega (arith, le)))

dropped_bytes : (b : List ℕ) → Bytes b → (n : ℕ) → Bytes (drop n b)
dropped_bytes b h n k = subst (λ (x : ℕ). x < 256) (sym (get_or-drop n b k 0)) (h (n + k))

pub block_is : (block : List ℕ) → IsBlock block → block_of (words_from block 0) (words_from block 8) ≡ block
block_is block is =
    let long = is.long in
    let bytes = message_bytes block is.bytes in
    let rest = length-drop 32 block in
    let first : digest_bytes (words_from block 0) 8 ≡ take 32 block =
    bytes_back (words_from block 0) block bytes 8 (omega (arith, long)) (λ i lt. let e : 0 + i ≡ i = omega arith in words_from_at block 0 i lt ∙ ap (λ k. word_at block (4 * k)) e) in
    let second : digest_bytes (words_from block 8) 8 ≡ take 32 (drop 32 block) =
    bytes_back (words_from block 8) (drop 32 block) (dropped_bytes block bytes 32) 8 (omega (arith, long, rest)) (λ i lt.
    words_from_at block 8 i lt ∙ sym (word_here (drop 32 block) block (4 * i) (4 * (8 + i)) (λ k few.
    let there : 32 + (4 * i + k) ≡ 4 * (8 + i) + k = omega arith in
    get_or-drop 32 block (4 * i + k) 0 ∙ ap (slice_index block) there))) in
    (λ x. first x ++ (second ∙ take_all 32 (drop 32 block) (omega (arith, long, rest))) x) ∙ take-append-drop 32 block
