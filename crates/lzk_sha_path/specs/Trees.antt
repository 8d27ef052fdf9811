-- Records under a root, and what is compressed on the way from each to it. A collision is two different things that are
-- compressed to one state.
use Rattle.std.specs.Prelude.{◌≡◌, ◌≢◌, ℕ, ◌+◌, ◌/◌, ◌%◌, ◌^◌, ◌<◌, ◌≤◌, ◌⊎◌, nat_lt, if◌then◌else◌, List, [], ◌∷◌, ◌++◌, length, map}
use Rattle.std.specs.List.{Contains, range_with_len}
use Rattle.sha2.specs.Sha256.{compress}
use Rattle.lzk_goldilocks.specs.Elements.{of_number}
use Rattle.lzk_sha_circuit.specs.Digest.{AreBytes, digest_words}
use Rattle.lzk_sha_blocks.specs.Layout.{blocks}
use Rattle.lzk_sha_blocks.specs.Witness as hashed
use Rattle.lzk_sha_path.specs.Climbs.{IsClimb}
use Rattle.lzk_sha_path.specs.Roots.{node_state, block_of, parent_of, root_of, AreNodes}

-- a record: at most 119 bytes, which are one block or two with their padding
pub record IsRecord (m : List ℕ) : Type 0 where
  pub short : length m ≤ 119
  pub bytes : AreBytes m

-- what is compressed: a block, from a first state
pub record Compressed : Type 0 where
  pub state : List ℕ
  pub block : List ℕ

-- the state after it
abbrev pub state_after : Compressed → List ℕ
state_after c = compress c.state c.block

-- block i of a record, from the state before it, which is the initial hash value of SHA-256 before the first
abbrev pub of_block : List ℕ → ℕ → Compressed
of_block m i = record { state = hashed.state_of m i; block = hashed.block_of m i }

-- the blocks of a record
abbrev pub of_record : List ℕ → List Compressed
of_record m = map (of_block m) (range_with_len 0 (blocks (length m)))

-- two nodes: their block, from the state from which nodes are made
abbrev pub of_nodes : List ℕ → List ℕ → Compressed
of_nodes left right = record { state = node_state; block = block_of left right }

-- the node of this number in its row and the one beside it
abbrev pub of_pair : ℕ → List ℕ → List ℕ → Compressed
of_pair index node sibling = if nat_lt (index % 2) 1 then of_nodes node sibling else of_nodes sibling node

-- all that is compressed on the way from a node to the root above it, the lowest first
abbrev pub way_up : List ℕ → ℕ → List (List ℕ) → List Compressed
way_up node index [] = []
way_up node index (sibling ∷ siblings) =
    of_pair index node sibling ∷ way_up (parent_of index node sibling) (index / 2) siblings

-- and from a record: first its blocks
abbrev pub way_of : List ℕ → ℕ → List (List ℕ) → List Compressed
way_of m index siblings = of_record m ++ way_up (digest_words m) index siblings

-- two different ones with one state after both
pub record IsCollision (one other : Compressed) : Type 0 where
  pub differ : one ≢ other
  pub same : state_after one ≡ state_after other

-- something on a way and something on another one are a collision
abbrev pub Collide : List Compressed → List Compressed → Type 0
Collide way others =
    (one : Compressed) × (other : Compressed) × Contains way one × Contains others other × IsCollision one other

-- the state after the first of a record's two blocks is the one from which nodes are made
abbrev pub LeadsToNodes : List ℕ → Type 0
LeadsToNodes m = (56 ≤ length m) × (state_after (of_block m 0) ≡ node_state)

-- what no one is believed to know: two records whose ways collide, or one that leads to nodes
abbrev pub Break : List ℕ → List Compressed → List ℕ → List Compressed → Type 0
Break m way other others = Collide way others ⊎ (LeadsToNodes m ⊎ LeadsToNodes other)

-- Two records under one root, of which the first stands where the second does or above it, that is, at the number of
-- the second one's leaf with so many bits less: they are one record in one row, or their ways collide, or one leads to
-- nodes.
abbrev pub RecordsAreLeaves : Type 0
RecordsAreLeaves =
    (m other : List ℕ) (index number deeper : ℕ) (siblings beside : List (List ℕ)) → IsRecord m → IsRecord other
    → AreNodes siblings → AreNodes beside
    → root_of (digest_words m) index siblings ≡ root_of (digest_words other) number beside
    → length beside ≡ deeper + length siblings
    → number / 2 ^ deeper % 2 ^ length siblings ≡ index % 2 ^ length siblings
    → ((deeper ≡ 0) × (m ≡ other)) ⊎ Break m (way_of m index siblings) other (way_of other number beside)

-- the records that are issued under a root: one at each place of a row so many levels below it, and the nodes beside
-- its path
pub record IsIssued (depth : ℕ) (root : List ℕ) (leaf : ℕ → List ℕ) (beside : ℕ → List (List ℕ)) : Type 0 where
  pub records : (i : ℕ) → i < 2 ^ depth → IsRecord (leaf i)
  pub nodes : (i : ℕ) → i < 2 ^ depth → AreNodes (beside i)
  pub count : (i : ℕ) → i < 2 ^ depth → length (beside i) ≡ depth
  pub under : (i : ℕ) → i < 2 ^ depth → root_of (digest_words (leaf i)) i (beside i) ≡ root

-- Whatever record leads to that root, by however many levels, is the one that was issued at its place, or its way
-- collides with that of one that was issued, or one of these two leads to nodes.
abbrev pub OnlyIssuedLead : Type 0
OnlyIssuedLead =
    (depth : ℕ) (root : List ℕ) (leaf : ℕ → List ℕ) (beside : ℕ → List (List ℕ)) (m : List ℕ) (index : ℕ)
    (siblings : List (List ℕ)) → IsIssued depth root leaf beside → IsRecord m → AreNodes siblings
    → root_of (digest_words m) index siblings ≡ root
    → ((length siblings ≡ depth) × (m ≡ leaf (index % 2 ^ depth)))
    ⊎ ((i : ℕ) × (i < 2 ^ depth) × Break m (way_of m index siblings) (leaf i) (way_of (leaf i) i (beside i)))

-- the same of what the circuit of so many levels shows
abbrev pub OnlyIssuedClimb : Type 0
OnlyIssuedClimb =
    (depth levels : ℕ) (root : List ℕ) (leaf : ℕ → List ℕ) (beside : ℕ → List (List ℕ)) (m : List ℕ)
    → IsIssued depth root leaf beside → IsRecord m
    → (c : IsClimb levels (map of_number (digest_words m)) (map of_number root))
    → ((levels ≡ depth) × (m ≡ leaf c.index))
    ⊎ ((i : ℕ) × (i < 2 ^ depth) × Break m (way_of m c.index c.siblings) (leaf i) (way_of (leaf i) i (beside i)))
