-- The checks of asserted nodes, in a circuit of version 2.
use Rattle.std.specs.Prelude.{◌≡◌, ℕ, ◌+◌, ◌-◌, ◌*◌, ◌<◌, ◌≤◌, ◌==◌, nat_lt, List, [], ◌++◌, length, map, take, count_by}
use Rattle.std.proofs.Common.{zero, suc}
use Rattle.std.specs.List.{filter}
use Rattle.lzk_profile.specs.Profile.{most_wires, most_total}
use Rattle.lzk_field.specs.Ring.{Ops}
use Rattle.lzk_field.specs.Sums.{entry}
use Rattle.lzk_circuit.specs.declared.layer.Layer.{Layer}
use Rattle.lzk_circuit.specs.Checks.{checks_of, check_count}
use Rattle.lzk_circuit.specs.Valid.{Wiring, AreLayersOf}
use Rattle.lzk_circuit.specs.Wires.{inputs_of}
use Rattle.lzk_circuit_reduce.specs.Attached.{IsReducedAsserting}
use Rattle.lzk_circuit_reduce.specs.Reduced.{output_count}
use Rattle.lzk_circuit_reduce.specs.Renumbering.{at}
use Rattle.lzk_level.specs.Bounds.{node_depths, layer_count, total, greatest}
use Rattle.lzk_level.specs.Levels.{IsGraph, AreWeights, AreValues, Begins}
use Rattle.lzk_level.specs.Nodes.{Nodes, node_values}
use Rattle.lzk_level.specs.Gates.{Gate}

-- The place of the k-th of nodes with these depths, when they stand by depth from the largest, those of one depth in
-- their order: so many are deeper, and so many are as deep and stand before it.
abbrev pub check_of : List ℕ → ℕ → ℕ
check_of ds k = count_by (nat_lt (at ds k)) ds + count_by (λ d. d == at ds k) (take k ds)

-- on every input, each asserted node's check is its value
abbrev pub HasChecks : {A : Type 0} → Ops A → (A → ℕ) → Nodes A → List ℕ → Wiring A → Type 0
HasChecks o number n asserts c =
    (public private : List _) → length public ≡ n.publics → length private ≡ n.privates → (k : ℕ) → k < length asserts
    → entry o (checks_of o number c.layers (inputs_of o public private)) (check_of (map (at (node_depths n)) asserts) k)
    ≡ entry o (node_values o n public private) (at asserts k)

-- the nodes with a depth, in their order
abbrev pub of_depth : List ℕ → ℕ → List ℕ → List ℕ
of_depth depths depth nodes = filter (λ k. at depths k == depth) nodes

-- The first layer has a wire for each asserted node of the uppermost level and of the level below it: no further node
-- is carried up to it, and each is asserted by an inner layer.
abbrev pub HasFewOutputs : {A : Type 0} → Nodes A → List ℕ → Wiring A → Type 0
HasFewOutputs n asserts c =
    let depths = node_depths n in
    let count = layer_count n asserts in
    output_count c.layers ≡ length (of_depth depths count asserts) + length (of_depth depths (count - 1) asserts)

-- the nodes of depths below one, the deepest first
abbrev pub by_depth : List ℕ → List ℕ → ℕ → List ℕ
by_depth depths nodes zero = []
by_depth depths nodes (suc depth) = of_depth depths depth nodes ++ by_depth depths nodes depth

-- the layers of a circuit of version 2 keep the limit on terms
pub record KeepLimits {A : Type 0} (inputs : ℕ) (made : List (Gate A)) (depths asserts : List ℕ)
    (count : ℕ) : Type 0 where
  pub weights : List ℕ
  pub are : AreWeights inputs made weights
  pub most : count * (length depths + length asserts) + total weights + total (map (at weights) asserts) ≤ most_total

-- asserted nodes over these gates, the layers that they need, and that they keep the limits
pub record AreAsserts {A : Type 0} (inputs : ℕ) (made : List (Gate A)) (depths asserts : List ℕ)
    (count : ℕ) : Type 0 where
  pub graph : IsGraph inputs made depths
  pub few : length depths + length asserts ≤ most_wires
  pub some : 1 ≤ length asserts
  pub nodes : (i : ℕ) → i < length asserts → (1 ≤ at asserts i) × (at asserts i < length depths)
  pub is : count ≡ greatest 1 (map (at depths) asserts)
  pub limits : KeepLimits inputs made depths asserts count

-- reduced layers of version 2 with a check for each asserted node, the nodes being sorted by depth from the largest
pub record AreAsserting {A : Type 0} (o : Ops A) (number : A → ℕ) (inputs : ℕ) (made : List (Gate A))
    (depths asserts : List ℕ) (count : ℕ) (layers : List (Layer A)) : Type 0 where
  pub layers_count : length layers ≡ count
  pub valid : AreLayersOf o 2 inputs layers
  pub checks_count : check_count number layers ≡ length asserts
  pub first_count : output_count layers
      ≡ length (of_depth depths count asserts) + length (of_depth depths (count - 1) asserts)
  pub checks : (values ins : List A) → AreValues o inputs made values → Begins o inputs values ins
      → checks_of o number layers ins ≡ map (entry o values) (by_depth depths asserts (suc count))
  pub reduced : IsReducedAsserting o layers
