-- What the asserts of a statement claim of its inputs.
use Rattle.std.specs.Prelude.{◌≡◌, ℕ, ◌+◌, ◌≤◌, ◌↔◌, List, [], ◌∷◌, length, map}
use Rattle.lzk_field.specs.Ring.{Ops}
use Rattle.lzk_field.specs.Sums.{entry}
use Rattle.lzk_level.specs.Nodes.{Nodes, node_count, node_values, IsNode}

-- the nodes of a statement, and those that it asserts to be 0
pub record Claims (A : Type 0) : Type 0 where
  pub nodes : Nodes A
  pub asserts : List ℕ

-- as many values as the statement has inputs
pub record AreInputs {A : Type 0} (s : Claims A) (public private : List A) : Type 0 where
  pub publics : length public ≡ s.nodes.publics
  pub privates : length private ≡ s.nodes.privates

-- a node's value at these inputs
abbrev pub value : {A : Type 0} → Ops A → Claims A → List A → List A → ℕ → A
value o s public private k = entry o (node_values o s.nodes public private) k

-- the values of several nodes
abbrev pub values : {A : Type 0} → Ops A → Claims A → List A → List A → List ℕ → List A
values o s public private ks = map (value o s public private) ks

-- each of these nodes is one of the first n
abbrev pub AreNodes : ℕ → List ℕ → Type 0
AreNodes n [] = Unit {0}
AreNodes n (k ∷ ks) = IsNode n k × AreNodes n ks

-- each of these nodes is 0
abbrev pub AreZero : {A : Type 0} → Ops A → List A → List ℕ → Type 0
AreZero o vs [] = Unit {0}
AreZero o vs (k ∷ ks) = (entry o vs k ≡ o.zero) × AreZero o vs ks

-- every assert holds at these inputs
abbrev pub Holds : {A : Type 0} → Ops A → Claims A → List A → List A → Type 0
Holds o s public private = AreZero o (node_values o s.nodes public private) s.asserts

-- each element is 0
abbrev pub AreAllZero : {A : Type 0} → Ops A → List A → Type 0
AreAllZero o [] = Unit {0}
AreAllZero o (x ∷ xs) = (x ≡ o.zero) × AreAllZero o xs

-- t is s with at most so many nodes more: it has the same inputs, and each node of s has the value that it has in s
pub record Keeps {A : Type 0} (o : Ops A) (most : ℕ) (s t : Claims A) : Type 0 where
  pub publics : t.nodes.publics ≡ s.nodes.publics
  pub privates : t.nodes.privates ≡ s.nodes.privates
  pub more : node_count s.nodes ≤ node_count t.nodes
  pub few : node_count t.nodes ≤ node_count s.nodes + most
  pub same : (public private : List A) → AreInputs s public private → (k : ℕ) → k ≤ node_count s.nodes →
      value o t public private k ≡ value o s public private k

-- t is s with this node and at most so many nodes in all, and claims neither more nor less
pub record Makes {A : Type 0} (o : Ops A) (most : ℕ) (s t : Claims A) (node : ℕ) : Type 0 where
  pub keeps : Keeps o most s t
  pub there : IsNode (node_count t.nodes) node
  pub count : length t.asserts ≡ length s.asserts
  pub holds : (public private : List A) → AreInputs s public private →
      Holds o t public private ↔ Holds o s public private

-- the same of several nodes
pub record Yields {A : Type 0} (o : Ops A) (most : ℕ) (s t : Claims A) (nodes : List ℕ) : Type 0 where
  pub keeps : Keeps o most s t
  pub there : AreNodes (node_count t.nodes) nodes
  pub count : length t.asserts ≡ length s.asserts
  pub holds : (public private : List A) → AreInputs s public private →
      Holds o t public private ↔ Holds o s public private

-- t is s with at most so many nodes and exactly so many asserts more, and claims what s claims and this, neither more
-- nor less
pub record Adds {A : Type 0} (o : Ops A) (most asserts : ℕ) (s t : Claims A)
    (claim : List A → List A → Type 0) : Type 0 where
  pub keeps : Keeps o most s t
  pub count : length t.asserts ≡ length s.asserts + asserts
  pub claims : (public private : List A) → AreInputs s public private →
      Holds o t public private ↔ (Holds o s public private × claim public private)
