-- The circuits of compressions, and of messages of so many bytes.
use Rattle.std.specs.Prelude.{◌≡◌, ℕ, ◌≤◌, List, length, map}
use Rattle.lzk_goldilocks.specs.Elements.{ops, of_number}
use Rattle.lzk_goldilocks.specs.declared.element.Gold.{Gold}
use Rattle.lzk_circuit.specs.Valid.{Wiring, IsValid}
use Rattle.lzk_circuit.specs.Wires.{inputs_of, wires_of}
use Rattle.lzk_circuit_reduce.specs.Reduced.{IsReduced}
use Rattle.lzk_sha_circuit.specs.Digest.{AreBytes, digest_words}
use Rattle.lzk_sha_circuit.specs.Inputs.{sha_private}
use Rattle.lzk_sha_circuit.specs.Outputs.{AreSatisfying, compression_outputs, sha_outputs}
use Rattle.lzk_sha_circuit.specs.Places.{Places, IsPlaced, private_count, total_count}

-- It has the counts of what is given, two layers, and on every input the definition's outputs; and it is reduced.
pub record IsCompressionCircuit (given : Places) (c : Wiring Gold) : Type 0 where
  pub version : c.version ≡ 1
  pub publics : c.publics ≡ 8
  pub privates : c.privates ≡ total_count given
  pub layers : length c.layers ≡ 2
  pub outputs : (public private : List Gold) → length public ≡ 8 → length private ≡ total_count given →
      wires_of ops c.layers (inputs_of ops public private) ≡ compression_outputs ops of_number given public private
  pub reduced : IsReduced ops c.layers

-- there is such a circuit for whatever is given
abbrev pub SomeCompressionCircuit : Type 0
SomeCompressionCircuit =
    (given : Places) → IsPlaced given → (c : Wiring Gold) × IsCompressionCircuit given c × IsValid ops c

-- It has the counts of such a message, two layers, and on every input the definition's outputs; and it is reduced.
pub record IsShaCircuit (len : ℕ) (c : Wiring Gold) : Type 0 where
  pub version : c.version ≡ 1
  pub publics : c.publics ≡ 8
  pub privates : c.privates ≡ private_count len
  pub layers : length c.layers ≡ 2
  pub outputs : (public private : List Gold) → length public ≡ 8 → length private ≡ private_count len
      → wires_of ops c.layers (inputs_of ops public private) ≡ sha_outputs ops of_number len public private
  pub reduced : IsReduced ops c.layers

-- there is such a circuit for each number of bytes that one block holds
abbrev pub SomeShaCircuit : Type 0
SomeShaCircuit = (len : ℕ) → len ≤ 55 → (c : Wiring Gold) × IsShaCircuit len c × IsValid ops c

-- the bits of every such message and of the words that lead to its digest satisfy the circuit, with the words of its
-- digest
abbrev pub MessagesSatisfy : Type 0
MessagesSatisfy =
    (message : List ℕ) → length message ≤ 55 → AreBytes message
    → AreSatisfying ops of_number (length message) (map of_number (digest_words message))
    (sha_private of_number message)
