-- Two openings under one root: what they show at a common place is the same, or two strings with one digest are found.
use Rattle.lzk_profile.specs.Profile.{opened_count}
use Rattle.std.specs.Prelude.{◌≡◌, ◌≢◌, ℕ, ◌+◌, ◌*◌, ◌/◌, ◌<◌, cond, List, [], ◌++◌, length, map, slice_index, slice_index_or}
use Rattle.std.proofs.Common.{zero, suc}
use Rattle.sha2.specs.Sha256.{sha256}
use Rattle.lzk_field.specs.Bytes.{elements_bytes}
use Rattle.lzk_field.specs.Coding.{Coding}
use Rattle.lzk_field.specs.Ring.{Ops}
use Rattle.lzk_merkle.specs.Nodes.{AreOpened, needed, node, root_of}
use Rattle.lzk_circuit.specs.Valid.{Wiring, IsValid}
use Rattle.lzk_layout.specs.Sizes.{params_of}
use Rattle.lzk_layout.specs.declared.params.Params.{Params}
use Rattle.lzk_layout.specs.declared.proof.Proof.{Proof}
use Rattle.lzk_accept.specs.Checks.{column}
use Rattle.lzk_verify.specs.Checks.{leaf_at, leaves_of, HasRoot}
use Rattle.lzk_verify.specs.Verdict.{OpensFile, given}
use Rattle.lzk_soundness.specs.Drawn.Picks.{are_same}

-- which leaves are opened, their digests, and the digests of the path
pub record Opening : Type 0 where
  pub opened : List ℕ
  pub leaves : List (List ℕ)
  pub path : List (List ℕ)

module _ (n : ℕ) where
  -- node i of a tree of n leaves, by an opening
  abbrev pub node_of : Opening → ℕ → List ℕ
  node_of a i = node n a.opened a.leaves a.path i

  -- the string of which it is the digest, above the leaves
  abbrev pub string_of : Opening → ℕ → List ℕ
  string_of a i = node_of a (2 * i) ++ node_of a (2 * i + 1)

  -- The strings of the lowest node above node i at which two openings have one digest; those of the node k + 1 levels
  -- up where there is none below it.
  abbrev pub clash : ℕ → Opening → Opening → ℕ → List ℕ × List ℕ
  clash zero a b i = (string_of a (i / 2), string_of b (i / 2))
  clash (suc k) a b i =
      cond (are_same (node_of a (i / 2)) (node_of b (i / 2))) (string_of a (i / 2), string_of b (i / 2))
      (clash k a b (i / 2))

  -- opened leaves of the tree, and digests of 32 bytes, as many as there are leaves opened and as the path has nodes
  pub record IsOpeningOf (a : Opening) : Type 0 where
    pub opened : AreOpened n a.opened
    pub leaves : (k : ℕ) → k < length a.opened → length (slice_index_or a.leaves k []) ≡ 32
    pub path : (k : ℕ) → k < needed n a.opened → length (slice_index_or a.path k []) ≡ 32

-- two different strings with one SHA-256 digest
pub record IsCollision (strings : List ℕ × List ℕ) : Type 0 where
  pub differ : strings.0 ≢ strings.1
  pub same : sha256 strings.0 ≡ sha256 strings.1

-- Where two openings under one root show different digests at a common leaf, a collision is found.
abbrev pub LeavesBind : Type 0
LeavesBind =
    (n : ℕ) (a b : Opening) (k l : ℕ) → IsOpeningOf n a → IsOpeningOf n b
    → root_of n a.opened a.leaves a.path ≡ root_of n b.opened b.leaves b.path
    → k < length a.opened → l < length b.opened → slice_index a.opened k ≡ slice_index b.opened l
    → slice_index_or a.leaves k [] ≢ slice_index_or b.leaves l []
    → IsCollision (clash n n a b (n + slice_index a.opened k))

module _ {A : Type 0} (o : Ops A) (e : Coding A) (p : Params) where
  -- what a proof opens at these columns
  abbrev pub opening_of : Proof A → List ℕ → Opening
  opening_of proof columns =
      record { opened = columns; leaves = leaves_of o e p proof; path = proof.path.digests }

  -- the string of which its k-th opened column's leaf is the digest: a nonce and the column's elements
  abbrev pub column_string : Proof A → ℕ → List ℕ
  column_string proof k =
      slice_index_or proof.nonces k [] ++ elements_bytes e.bytes (map e.number (column o p proof k))

  -- a proof opens these columns of the tree under its root, and its digests have 32 bytes
  pub record OpensColumns (proof : Proof A) (columns : List ℕ) : Type 0 where
    pub count : length columns ≡ opened_count
    pub opened : AreOpened p.mcol columns
    pub path : (k : ℕ) → k < needed p.mcol columns → length (slice_index_or proof.path.digests k []) ≡ 32
    pub root : HasRoot o e p proof columns

  -- the strings of two opened columns where their leaves are the same, or those that the trees give
  abbrev pub column_clash : Proof A → Proof A → List ℕ → List ℕ → ℕ → ℕ → List ℕ × List ℕ
  column_clash x y columns others k l =
      cond (are_same (leaf_at o e p x k) (leaf_at o e p y l)) (column_string x k, column_string y l)
      (clash p.mcol p.mcol (opening_of x columns) (opening_of y others) (p.mcol + slice_index columns k))

-- Where two proofs under one root open a common column, and what they open there is not the same string, a collision is
-- found.
abbrev pub ColumnsBind : {A : Type 0} → Ops A → Coding A → Type 0
ColumnsBind {A} o e =
    (p : Params) (x y : Proof A) (columns others : List ℕ) (k l : ℕ) → OpensColumns o e p x columns
    → OpensColumns o e p y others → x.root ≡ y.root → k < opened_count → l < opened_count
    → slice_index columns k ≡ slice_index others l → column_string o e p x k ≢ column_string o e p y l
    → IsCollision (column_clash o e p x y columns others k l)

-- So with two files that open under one root, as accepted ones do, of one circuit and of any sessions and public
-- inputs.
abbrev pub FilesBind : {A : Type 0} → Ops A → Coding A → Type 0
FilesBind {A} o e =
    (c : Wiring A) (session other : List ℕ) (public publics : List A) (file another : List ℕ) (x y : Proof A)
    (k l : ℕ) → IsValid o c → OpensFile o e c session public file x → OpensFile o e c other publics another y
    → x.root ≡ y.root → k < opened_count → l < opened_count
    → (let columns = (given o e c session public x).columns in
    let others = (given o e c other publics y).columns in
    slice_index columns k ≡ slice_index others l
    → column_string o e (params_of c) x k ≢ column_string o e (params_of c) y l
    → IsCollision (column_clash o e (params_of c) x y columns others k l))

-- Different columns with their nonces are different strings.
abbrev pub ColumnsTellApart : {A : Type 0} → Ops A → Coding A → Type 0
ColumnsTellApart {A} o e =
    (p : Params) (x y : Proof A) (k l : ℕ)
    → length (slice_index_or x.nonces k []) ≡ 32 → length (slice_index_or y.nonces l []) ≡ 32
    → length (column o p x k) ≡ length (column o p y l) → column_string o e p x k ≡ column_string o e p y l
    → (slice_index_or x.nonces k [] ≡ slice_index_or y.nonces l []) × (column o p x k ≡ column o p y l)
