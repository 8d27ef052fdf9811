-- What is checked of a proof beside its answers: the circuit's id, how many digests its path has, and its root.
use Rattle.lzk_profile.specs.Profile.{opened_count}
use Rattle.std.specs.Prelude.{◌≡◌, ℕ, List, [], length, map, slice_index_or}
use Rattle.std.specs.List.{range_with_len}
use Rattle.lzk_field.specs.Coding.{Coding}
use Rattle.lzk_field.specs.Ring.{Ops}
use Rattle.lzk_merkle.specs.Leaf.{leaf_of}
use Rattle.lzk_merkle.specs.Nodes as tree
use Rattle.lzk_circuit.specs.Valid.{Wiring}
use Rattle.lzk_circbytes.specs.Files.{id_of}
use Rattle.lzk_layout.specs.declared.params.Params.{Params}
use Rattle.lzk_layout.specs.declared.proof.Proof.{Proof}
use Rattle.lzk_accept.specs.Checks.{column}

-- the id is the circuit's
abbrev pub HasCircuitId : {A : Type 0} → Coding A → Wiring A → Proof A → Type 0
HasCircuitId e c proof = proof.id ≡ id_of e c

-- how many digests the drawn columns need
abbrev pub needed_digests : Params → List ℕ → ℕ
needed_digests p columns = tree.needed p.mcol columns

-- there are as many digests as the drawn columns need
abbrev pub HasPathCount : {A : Type 0} → Params → Proof A → List ℕ → Type 0
HasPathCount p proof columns = length proof.path.digests ≡ needed_digests p columns

-- the digest of the k-th opened column with its nonce
abbrev pub leaf_at : {A : Type 0} → Ops A → Coding A → Params → Proof A → ℕ → List ℕ
leaf_at o e p proof k = leaf_of e.bytes e.number (slice_index_or proof.nonces k []) (column o p proof k)

-- the digests of the opened columns
abbrev pub leaves_of : {A : Type 0} → Ops A → Coding A → Params → Proof A → List (List ℕ)
leaves_of o e p proof = map (leaf_at o e p proof) (range_with_len 0 opened_count)

-- the root that the opened columns and the path lead to
abbrev pub found_root : {A : Type 0} → Ops A → Coding A → Params → Proof A → List ℕ → List ℕ
found_root o e p proof columns = tree.root_of p.mcol columns (leaves_of o e p proof) proof.path.digests

-- it is the proof's root
abbrev pub HasRoot : {A : Type 0} → Ops A → Coding A → Params → Proof A → List ℕ → Type 0
HasRoot o e p proof columns = found_root o e p proof columns ≡ proof.root
