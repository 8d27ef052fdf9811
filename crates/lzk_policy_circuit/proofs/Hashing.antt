-- What the circuit of SHA-256 is known to do.
use Rattle.std.proofs.Common.{◌≡◌, ℕ, List, length, map, arith}
use Rattle.lzk_goldilocks.specs.Prime.{p}
use Rattle.lzk_goldilocks.specs.Elements.{ops, of_number}
use Rattle.lzk_goldilocks.specs.declared.element.Gold.{Gold}
use Rattle.lzk_sha_circuit.specs.Digest.{AreBytes, HaveDigest, digest_words}
use Rattle.lzk_sha_circuit.proofs.Numbered.{gold_numbered}
use Rattle.lzk_sha_blocks.specs.Hashed.{AreHashing}
use Rattle.lzk_sha_blocks.specs.Layout.{private_count}
use Rattle.lzk_sha_blocks.specs.Witness.{digest_private}
use Rattle.lzk_sha_blocks.proofs.HashLaws.{hashing_is_of_message}
use Rattle.lzk_sha_blocks.proofs.Filling.{are_hashing, has_digest, length-digest_private}

-- inputs that satisfy it begin with the bits of a message, whose digest is public
pub spelled_message : (len : ℕ) (public private : List Gold) → length public ≡ 8 → length private ≡ private_count len → AreHashing ops of_number len public private
    → (m : List ℕ) × (length m ≡ len) × AreBytes m × HaveDigest of_number public private m
spelled_message len public private short long zeros =
    hashing_is_of_message ops of_number p gold_numbered (omega arith) len public private short long zeros

-- so many inputs a message has
pub private_long : (m : List ℕ) → length (digest_private of_number m) ≡ private_count (length m)
private_long m = length-digest_private of_number ops.zero m

module _ (m : List ℕ) (bytes : AreBytes m) where
  -- they have its bits and its digest, and satisfy it
  pub private_digest : HaveDigest of_number (map of_number (digest_words m)) (digest_private of_number m) m
  private_digest = has_digest ops of_number p gold_numbered (omega arith) m bytes

  pub private_satisfies : AreHashing ops of_number (length m) (map of_number (digest_words m)) (digest_private of_number m)
  private_satisfies = are_hashing ops of_number p gold_numbered (omega arith) m bytes
