-- Texts by the bits of their bytes, as elements of the field; the highest bit of a byte stands first, as in the circuit
-- of SHA-256.
use Rattle.std.specs.Prelude.{◌≡◌, ℕ, zero, suc, ◌*◌, List, [], ◌∷◌, length, map, take, drop, reverse}
use Rattle.std.specs.List.{flat_map}
use Rattle.lzk_goldilocks.specs.Elements.{of_number}
use Rattle.lzk_goldilocks.specs.declared.element.Gold.{Gold}
use Rattle.lzk_sha_circuit.specs.Digest.{AreBytes}
use Rattle.lzk_sha_circuit.specs.Inputs.{bit_list}
use Rattle.lzk_gadgets.specs.Spelled.{AreBits, worth}

-- the bits of a text
abbrev pub text_bits : List ℕ → List Gold
text_bits text = flat_map (bit_list of_number 8) text

-- these are they
abbrev pub AreBitsOf : List ℕ → List Gold → Type 0
AreBitsOf text xs = xs ≡ text_bits text

-- what eight entries are worth, the first one the most
abbrev pub byte_worth : List Gold → Gold
byte_worth xs = worth (reverse xs)

-- what n times eight entries are worth, eight by eight
abbrev pub byte_worths : ℕ → List Gold → List Gold
byte_worths zero xs = []
byte_worths (suc n) xs = byte_worth (take 8 xs) ∷ byte_worths n (drop 8 xs)

-- every text is spelled by so many bits
abbrev pub TextsAreSpelled : Type 0
TextsAreSpelled =
    (text : List ℕ) → (xs : List Gold) × (length xs ≡ 8 * length text) × AreBits xs × AreBitsOf text xs

-- and eight by eight they are worth its bytes
abbrev pub WorthsAreBytes : Type 0
WorthsAreBytes = (text : List ℕ) (xs : List Gold) → AreBytes text → AreBitsOf text xs →
    byte_worths (length text) xs ≡ map of_number text

-- they spell no other text
abbrev pub BitsAreOfOneText : Type 0
BitsAreOfOneText = (text other : List ℕ) (xs : List Gold) → AreBytes text → AreBytes other →
    AreBitsOf text xs → AreBitsOf other xs → text ≡ other
