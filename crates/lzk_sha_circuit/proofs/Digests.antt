-- The digest of a message of one block.
use Rattle.std.specs.Prelude.{◌≡◌, ℕ, ◌+◌, ◌-◌, ◌*◌, ◌/◌, ◌%◌, ◌^◌, ◌<◌, ◌≤◌, List, length, replicate, slice_index}
use Rattle.std.specs.Int.{w64, to_be_bytes}
use Rattle.std.proofs.Common.{sym, ap, ◌∙◌, arith, take_all, length-append}
use Rattle.std.proofs.lemmas.List.{length-replicate}
use Rattle.std.proofs.lemmas.Nat.{from_be_bytes-to_be_bytes_4}
use Rattle.sha2.specs.Sha256.{sha256, digest_bytes, word_at, compress, hash_after, initial_hash_256, padded_message, padding}
use Rattle.lzk_sha_circuit.proofs.Standard.{eight_cases}

pub length-padding : (n : ℕ) → n ≤ 55 → n + length (padding n) ≡ 64
length-padding n le =
    let zeros = length-replicate {A = ℕ} ((119 - n % 64) % 64) 0 in
    let both = length-append (replicate ((119 - n % 64) % 64) 0) (to_be_bytes w64 (n * 8 % 2 ^ 64)) in
    omega (arith, zeros, both)

pub length-padded : (m : List ℕ) → length m ≤ 55 → length (padded_message m) ≡ 64
length-padded m le = length-append m (padding (length m)) ∙ length-padding (length m) le

-- the state behind the one block
pub sha256_is : (m : List ℕ) → length m ≤ 55 → sha256 m ≡ digest_bytes (compress initial_hash_256 (padded_message m)) 8
unfolding sha256 hash_after
sha256_is m le =
    let long = length-padded m le in
    let one : length (padded_message m) / 64 ≡ 1 = omega (arith, long) in
    ap (λ n. digest_bytes (hash_after initial_hash_256 (padded_message m) n) 8) one
    ∙ ap (λ b. digest_bytes (compress initial_hash_256 b) 8) (take_all 64 (padded_message m) (omega (arith, long)))

pub word_of_digest : (h : List ℕ) → ((i : ℕ) → i < 8 → slice_index h i < 2 ^ 32) → (i : ℕ) → i < 8 → word_at (digest_bytes h 8) (4 * i) ≡ slice_index h i
unfolding digest_bytes
word_of_digest h below i lt =
    eight_cases (λ j. slice_index h j < 2 ^ 32 → word_at (digest_bytes h 8) (4 * j) ≡ slice_index h j)
    (from_be_bytes-to_be_bytes_4 (slice_index h 0)) (from_be_bytes-to_be_bytes_4 (slice_index h 1)) (from_be_bytes-to_be_bytes_4 (slice_index h 2)) (from_be_bytes-to_be_bytes_4 (slice_index h 3))
    (from_be_bytes-to_be_bytes_4 (slice_index h 4)) (from_be_bytes-to_be_bytes_4 (slice_index h 5)) (from_be_bytes-to_be_bytes_4 (slice_index h 6)) (from_be_bytes-to_be_bytes_4 (slice_index h 7))
    i lt (below i lt)

-- word i of the digest is word i of the state
pub digest_word : (m : List ℕ) → length m ≤ 55 → (h : List ℕ) → h ≡ compress initial_hash_256 (padded_message m) → ((i : ℕ) → i < 8 → slice_index h i < 2 ^ 32)
    → (i : ℕ) → i < 8 → word_at (sha256 m) (4 * i) ≡ slice_index h i
digest_word m le h e below i lt = ap (λ d. word_at d (4 * i)) (sha256_is m le ∙ ap (λ s. digest_bytes s 8) (sym e)) ∙ word_of_digest h below i lt
