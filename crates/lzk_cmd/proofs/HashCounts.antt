-- The numbers of inputs of a message.
use Rattle.std.proofs.Common.{◌≡◌, ◌≤◌, ℕ, true, List, length, sym, ◌∙◌, arith}
use Rattle.std.specs.Prelude.{◌*◌, ◌==◌, nat_le, ◌&&◌}
use Rattle.std.proofs.lemmas.Bool.{and_parts, eqb-true, leb-true}
use Rattle.std.proofs.lemmas.List.{length-map}
use Rattle.std.proofs.lemmas.List.FromFn.{length-map-range_with_len}
use Rattle.std.specs.List.{flat_map}
use Rattle.sha2.specs.Sha256.{initial_hash_256, padded_message, sha256, word_at}
use Rattle.lzk_circuit.specs.Valid.{Wiring}
use Rattle.lzk_goldilocks.specs.declared.element.Gold.{Gold as GoldElement}
use Rattle.lzk_goldilocks.specs.Elements as gold
use Rattle.lzk_ligero_proof.specs.Proving.{HaveCounts}
use Rattle.lzk_sha_circuit.specs.Digest.{digest_words}
use Rattle.lzk_sha_circuit.specs.Inputs.{bit_list, sha_private}
use Rattle.lzk_sha_circuit.specs.Places.{private_count}
use Rattle.lzk_sha_circuit.proofs.Lookups.{length-compression_private, length-message}
use Rattle.lzk_cmd_prove.specs.Hashed.{digest_inputs, is_for}
use Rattle.lzk_cmd_words.specs.Keys.{are_digits, is_count, number_of}

-- digits of a number of bytes keep its bound
pub count_fits : (count : List ℕ) → is_count 55 count ≡ true → number_of count ≤ 55
count_fits count h =
    let behind = and_parts (nat_le 1 (length count) && nat_le (length count) 9) (are_digits count && nat_le (number_of count) 55) h in
    leb-true (number_of count) 55 (and_parts (are_digits count) (nat_le (number_of count) 55) behind.1).1

-- the inputs of a message are as many as a circuit of its counts has
pub length-digest : (message : List ℕ) → length (digest_inputs message) ≡ 8
unfolding digest_words
length-digest message = length-map (digest_words message) gold.of_number ∙ length-map-range_with_len (λ i. word_at (sha256 message) (4 * i)) 0 8

pub length-sha_private : (message : List ℕ) → length (sha_private gold.of_number message) ≡ private_count (length message)
length-sha_private message =
    let first = flat_map (bit_list gold.of_number 8) message in
    let all = length-compression_private gold.of_number first initial_hash_256 (padded_message message) gold.ops.zero in
    let bits = length-message gold.of_number message in
    omega (arith, all, bits)

pub hash_counts : (message : List ℕ) (c : Wiring GoldElement) → is_for (length message) c ≡ true → HaveCounts c (digest_inputs message) (sha_private gold.of_number message)
hash_counts message c fits =
    let both = and_parts (c.publics == 8) (c.privates == private_count (length message)) fits in (
      length-digest message ∙ sym (eqb-true c.publics 8 both.0),
      length-sha_private message ∙ sym (eqb-true c.privates (private_count (length message)) both.1),
    )
