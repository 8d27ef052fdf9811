-- Trees of SHA-256 nodes (FIPS 180-4). A node is a state: eight words of 32 bits.
use Rattle.std.specs.Prelude.{ℕ, zero, suc, ◌/◌, ◌%◌, nat_lt, if◌then◌else◌, List, [], ◌∷◌, ◌++◌}
use Rattle.sha2.specs.Sha256.{initial_hash_224, digest_bytes, compress}
use Rattle.lzk_sha_circuit.specs.Compression.{IsState}

-- the block that two nodes are: their bytes, the left one's first
abbrev pub block_of : List ℕ → List ℕ → List ℕ
block_of left right = digest_bytes left 8 ++ digest_bytes right 8

-- the state from which nodes are made: the initial hash value of SHA-224 (5.3.2), from which no SHA-256 digest is
abbrev pub node_state : List ℕ
node_state = initial_hash_224

-- the node above two nodes: the state behind this one block
abbrev pub node_of : List ℕ → List ℕ → List ℕ
node_of left right = compress node_state (block_of left right)

-- the node above the node of this number in its row and the one beside it: a node of even number is the left one
abbrev pub parent_of : ℕ → List ℕ → List ℕ → List ℕ
parent_of index node sibling = if nat_lt (index % 2) 1 then node_of node sibling else node_of sibling node

-- the root above the node of this number in its row, where these stand beside the path, the lowest first
abbrev pub root_of : List ℕ → ℕ → List (List ℕ) → List ℕ
root_of node index [] = node
root_of node index (sibling ∷ siblings) = root_of (parent_of index node sibling) (index / 2) siblings

-- each of these is a node
abbrev pub AreNodes : List (List ℕ) → Type 0
AreNodes [] = Unit {0}
AreNodes (node ∷ nodes) = IsState node × AreNodes nodes

-- of two nodes the left one on side 0, and the right one on others
abbrev pub child : ℕ → List ℕ → List ℕ → List ℕ
child zero left right = left
child (suc side) left right = right
