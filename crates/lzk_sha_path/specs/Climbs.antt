-- Paths from a leaf to a root, in terms of elements and in terms of nodes.
use Rattle.std.specs.Prelude.{◌≡◌, ℕ, zero, suc, ◌-◌, ◌*◌, ◌^◌, ◌<◌, ◌↔◌, List, ◌++◌, length, map, take, drop}
use Rattle.lzk_circuit.specs.Checks.{IsSatisfied}
use Rattle.lzk_circuit.specs.Valid.{Wiring}
use Rattle.lzk_circuit.specs.Wires.{inputs_of}
use Rattle.lzk_goldilocks.specs.Elements.{ops, number, of_number}
use Rattle.lzk_goldilocks.specs.declared.element.Gold.{Gold}
use Rattle.lzk_sha_circuit.specs.Compression.{IsState}
use Rattle.lzk_sha_path.specs.Levels.{IsLevel}
use Rattle.lzk_sha_path.specs.Roots.{root_of, AreNodes}

-- the private inputs of one level
abbrev pub level_count : ℕ
level_count = 6889

-- how many private inputs there are: those of each level, and between two levels the words of the node
abbrev pub private_count : ℕ → ℕ
private_count depth = 6897 * depth - 8

-- the words of the first level's upper node, where there are further levels
abbrev pub between : List Gold → List Gold
between private = take 8 (drop level_count private)

-- the words of the node above so many levels, where there are further levels
abbrev pub middle_of : ℕ → List Gold → List Gold
middle_of count private = take 8 (drop (private_count count) private)

-- so many levels lead from the words of a leaf to those of a root
abbrev pub AreClimbing : ℕ → List Gold → List Gold → List Gold → Type 0
AreClimbing zero leaf root private = leaf ≡ root
AreClimbing (suc zero) leaf root private = IsLevel leaf root private
AreClimbing (suc (suc n)) leaf root private =
    IsLevel leaf (between private) (take level_count private)
    × AreClimbing (suc n) (between private) root (drop 6897 private)

-- The elements are the words of a leaf and of a root, and so many nodes beside a path lead from that leaf, which has
-- this number in its row, to that root.
pub record IsClimb (depth : ℕ) (leaf root : List Gold) : Type 0 where
  pub node : List ℕ
  pub index : ℕ
  pub siblings : List (List ℕ)
  pub is_node : IsState node
  pub are_nodes : AreNodes siblings
  pub count : length siblings ≡ depth
  pub within : index < 2 ^ depth
  pub leaf_is : leaf ≡ map of_number node
  pub root_is : root ≡ map of_number (root_of node index siblings)

-- a circuit has the inputs of so many levels, and these lead from the words of a leaf to those of a root
pub record IsOfLevels (count : ℕ) (c : Wiring Gold) : Type 0 where
  pub version : c.version ≡ 1
  pub publics : c.publics ≡ 16
  pub privates : c.privates ≡ private_count count
  pub satisfied : (leaf root private : List Gold) → length leaf ≡ 8 → length root ≡ 8
      → length private ≡ private_count count
      → IsSatisfied ops number c.layers (inputs_of ops (leaf ++ root) private) ↔ AreClimbing count leaf root private
