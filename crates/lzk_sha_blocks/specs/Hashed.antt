-- What the blocks of a message claim together.
use Rattle.std.specs.Prelude.{◌≡◌, ℕ, ◌<◌, List, length, map}
use Rattle.lzk_field.specs.Ring.{Ops}
use Rattle.lzk_field.specs.Sums.{entry}
use Rattle.lzk_circuit.specs.Wires.{inputs_of}
use Rattle.lzk_sha_circuit.specs.Digest.{AreBytes, HaveDigest, digest_words}
use Rattle.lzk_sha_circuit.specs.Outputs.{AreCompressing}
use Rattle.lzk_sha_blocks.specs.Witness.{digest_private}
use Rattle.lzk_sha_blocks.specs.Layout.{blocks, private_count, block_places, public_wires, private_wires}

module _ {A : Type 0} (o : Ops A) (len : ℕ) (inputs : List A) where
  -- what block i sees of the whole's input layer
  abbrev pub block_public : ℕ → List A
  block_public i = map (entry o inputs) (public_wires len i)

  abbrev pub block_private : ℕ → List A
  block_private i = map (entry o inputs) (private_wires len i)

module _ {A : Type 0} (o : Ops A) (element : ℕ → A) (len : ℕ) (inputs : List A) where
  -- every output of block i is 0
  abbrev pub IsBlockSatisfied : ℕ → Type 0
  IsBlockSatisfied i =
      AreCompressing o element (block_places len i) (block_public o len inputs i) (block_private o len inputs i)

  -- each of the first n blocks is satisfied
  abbrev pub AreBlocksSatisfied : ℕ → Type 0
  AreBlocksSatisfied n = (i : ℕ) → i < n → IsBlockSatisfied i

-- every block of a message of so many bytes is
abbrev pub AreHashing : {A : Type 0} → Ops A → (ℕ → A) → ℕ → List A → List A → Type 0
AreHashing o element len public private = AreBlocksSatisfied o element len (inputs_of o public private) (blocks len)

-- The private inputs begin with a message whose digest the public inputs are.
abbrev pub HashingIsOfMessage : {A : Type 0} → Ops A → (ℕ → A) → Type 0
HashingIsOfMessage o element =
    (len : ℕ) (public private : List _) → length public ≡ 8 → length private ≡ private_count len
    → AreHashing o element len public private
    → (message : List ℕ) × (length message ≡ len) × AreBytes message × HaveDigest element public private message

-- The inputs of every message satisfy its blocks, with the words of its digest.
abbrev pub MessagesHash : {A : Type 0} → Ops A → (ℕ → A) → Type 0
MessagesHash o element = (message : List ℕ) → AreBytes message →
    AreHashing o element (length message) (map element (digest_words message)) (digest_private element message)
    × HaveDigest element (map element (digest_words message)) (digest_private element message) message
