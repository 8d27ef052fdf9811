-- From nodes within the limits to their circuit.
use Rattle.std.specs.Prelude.{◌≡◌, ℕ, ◌+◌, ◌-◌, ◌*◌, ◌<◌, ◌≤◌, min, ◌^◌, nat_le, if◌then◌else◌, Some, None, List, [], ◌∷◌, length, map, replicate}
use Rattle.std.proofs.Common.{zero, suc, inl, inr, refl, sym, ap, ◌∙◌, arith, subst}
use Rattle.std.proofs.lemmas.Bool.{cases_lt, lt-leb, le-leb}
use Rattle.std.proofs.lemmas.List.{length-append, length-replicate}
use Rattle.lzk_profile.specs.Profile.{most_privates, most_wires, most_total}
use Rattle.lzk_field.specs.Ring.{Ops}
use Rattle.lzk_circuit.specs.declared.layer.Layer.{Layer}
use Rattle.lzk_circuit.proofs.VersionLaws.{one-valid}
use Rattle.lzk_circuit.specs.Valid.{wiring, wiring_of, AreLayers, AreLayersOf, IsValid}
use Rattle.lzk_circuit.specs.Wires.{inputs_of}
use Rattle.lzk_level.specs.Gates.{Gate}
use Rattle.lzk_level.specs.declared.fault.LevelFault.{LevelFault}
use Rattle.lzk_level.specs.declared.fault.LevelFault.TheVariants.{Layers, LayerWires, Terms}
use Rattle.lzk_level.specs.Nodes.{Nodes, nodes_from, node_values, gate_value, after, AreGates}
use Rattle.lzk_circuit_reduce.specs.Renumbering.{at}
use Rattle.lzk_level.specs.Bounds.{greatest, total, gate_depth, gate_weight, node_depths, node_weights, layer_count, wire_bound, limit_fault, level_fault_with}
use Rattle.lzk_level.specs.Levels.{AreDepths, AreWeights, AreValues, Begins, IsGraph}
use Rattle.lzk_level.proofs.AfterLaws.{after-length, after-front, depths-are, weights-are, values-are}

-- no limit is passed
pub record Within (layers wires terms : ℕ) : Type 0 where
  pub layers_most : layers ≤ 512
  pub wires_most : wires ≤ most_wires
  pub terms_most : terms ≤ most_total

pub within-limits : (layers wires terms : ℕ) → limit_fault layers wires terms ≡ None → Within layers wires terms
within-limits layers wires terms e = elim (cases_lt 512 layers) [
  | inl l ↦ absurd (some_none (Layers layers) (sym (over_layers layers wires terms l) ∙ e))
  | inr l ↦ elim (cases_lt most_wires wires) [
    | inl m ↦ absurd (some_none (LayerWires wires) (sym (over_wires layers wires terms l m) ∙ e))
    | inr m ↦ elim (cases_lt most_total terms) [
      | inl n ↦ absurd (some_none (Terms (min (2 ^ 64 - 1) terms)) (sym (over_terms layers wires terms l m n) ∙ e))
      | inr n ↦ record { layers_most = l; wires_most = m; terms_most = n }
    ]
  ]
]
  where
    some_none : (f : LevelFault) → Some f ≡ None → ⊥
    some_none f e = cc

    over_layers : (layers wires terms : ℕ) → 512 < layers → limit_fault layers wires terms ≡ Some (Layers layers)
    over_layers layers wires terms l = ap (λ b. if b then (if nat_le wires most_wires then (if nat_le terms most_total then None else Some (Terms (min (2 ^ 64 - 1) terms))) else Some (LayerWires wires)) else Some (Layers layers)) (lt-leb layers 512 l)

    over_wires : (layers wires terms : ℕ) → layers ≤ 512 → most_wires < wires → limit_fault layers wires terms ≡ Some (LayerWires wires)
    over_wires layers wires terms l m =
        ap (λ b. if b then (if nat_le wires most_wires then (if nat_le terms most_total then None else Some (Terms (min (2 ^ 64 - 1) terms))) else Some (LayerWires wires)) else Some (Layers layers)) (le-leb layers 512 l)
        ∙ ap (λ b. if b then (if nat_le terms most_total then None else Some (Terms (min (2 ^ 64 - 1) terms))) else Some (LayerWires wires)) (lt-leb wires most_wires m)

    over_terms : (layers wires terms : ℕ) → layers ≤ 512 → wires ≤ most_wires → most_total < terms → limit_fault layers wires terms ≡ Some (Terms (min (2 ^ 64 - 1) terms))
    over_terms layers wires terms l m n =
        ap (λ b. if b then (if nat_le wires most_wires then (if nat_le terms most_total then None else Some (Terms (min (2 ^ 64 - 1) terms))) else Some (LayerWires wires)) else Some (Layers layers)) (le-leb layers 512 l)
        ∙ ap (λ b. if b then (if nat_le terms most_total then None else Some (Terms (min (2 ^ 64 - 1) terms))) else Some (LayerWires wires)) (le-leb wires most_wires m)
        ∙ ap (λ b. if b then None else Some (Terms (min (2 ^ 64 - 1) terms))) (lt-leb terms most_total n)

-- no more layers than are allowed
pub layers-most : {A : Type 0} (further : ℕ) (n : Nodes A) (outputs : List ℕ) → level_fault_with further n outputs ≡ None → layer_count n outputs ≤ 512
layers-most further n outputs fits =
    let wires = wire_bound n + further in
    (within-limits (layer_count n outputs) wires (layer_count n outputs * wires + total (node_weights n) + total (map (at (node_weights n)) outputs)) fits).layers_most

pub greatest-some : (m : ℕ) (ns : List ℕ) → m ≤ greatest m ns
greatest-some m [] = omega arith
greatest-some m (n ∷ ns) = omega (arith, greatest-some m ns)

pub greatest-each : (m : ℕ) (ds ks : List ℕ) (i : ℕ) → i < length ks → at ds (at ks i) ≤ greatest m (map (at ds) ks)
greatest-each m ds [] i l = absurd (omega (arith, l))
greatest-each m ds (k ∷ ks) zero l = omega arith
greatest-each m ds (k ∷ ks) (suc i) l = omega (arith, greatest-each m ds ks i (omega (arith, l)))

module _ {A : Type 0} where
  pub depths-long : (publics privates : ℕ) (made : List (Gate A)) → length (node_depths (nodes_from publics privates made)) ≡ 1 + (publics + privates) + length made
  depths-long publics privates made =
      let start : List ℕ = replicate (1 + (publics + privates)) 0 in
      after-length gate_depth start made ∙ ap (λ k. k + length made) (length-replicate (1 + (publics + privates)) 0)

  pub weights-long : (publics privates : ℕ) (made : List (Gate A)) → length (node_weights (nodes_from publics privates made)) ≡ 1 + (publics + privates) + length made
  weights-long publics privates made =
      let one : ℕ = 1 in
      let start : List ℕ = 0 ∷ replicate (publics + privates) one in
      after-length gate_weight start made ∙ omega (arith, length-replicate (publics + privates) one)

  -- nodes within the limit on wires are a graph
  pub is-graph : (inputs publics privates : ℕ) (made : List (Gate A)) (depths : List ℕ) → inputs ≡ 1 + (publics + privates) → depths ≡ node_depths (nodes_from publics privates made) → AreGates (publics + privates) made
      → 1 + (publics + privates) + length made ≤ most_wires → IsGraph inputs made depths
  is-graph inputs publics privates made depths width e h few =
      let long : length depths ≡ 1 + (publics + privates) + length made = ap length e ∙ depths-long publics privates made in
      let before : publics + privates ≡ inputs - 1 = omega (arith, width) in
      let gates = subst (λ n. AreGates n made) before h in
      let one : 1 ≤ inputs = omega (arith, width) in
      record {
        one = one;
        few = omega (arith, long, few);
        gates = gates;
        depths_are = subst (AreDepths inputs made) (sym (e ∙ ap (λ n. after gate_depth (replicate n 0) made) (sym width))) (depths-are inputs made one gates);
      }

  pub ready-weights : (publics privates : ℕ) (made : List (Gate A)) (inputs : ℕ) → inputs ≡ 1 + (publics + privates) → AreGates (publics + privates) made → AreWeights inputs made (node_weights (nodes_from publics privates made))
  ready-weights publics privates made inputs e h = subst (λ n. AreWeights n made (node_weights (nodes_from publics privates made))) (sym e) (weights-are (publics + privates) made h)

module _ {A : Type 0} (o : Ops A) where
  pub valid-layers : (publics privates inputs : ℕ) (layers : List (Layer A)) → publics ≤ 65535 → privates ≤ most_privates → inputs ≡ 1 + (publics + privates) → 1 ≤ length layers → length layers ≤ 512 → AreLayers o inputs layers → IsValid o (wiring publics privates layers)
  valid-layers publics privates inputs layers p q e some most h =
      let width : inputs ≡ 1 + publics + privates = omega (arith, e) in
      one-valid o publics privates layers p q some most (subst (λ n. AreLayers o n layers) width h)

  pub valid-layers-v2 : (publics privates inputs : ℕ) (layers : List (Layer A)) → publics ≤ 65535 → privates ≤ most_privates → inputs ≡ 1 + (publics + privates) → 1 ≤ length layers → length layers ≤ 512 → AreLayersOf o 2 inputs layers
      → IsValid o (wiring_of 2 publics privates layers)
  valid-layers-v2 publics privates inputs layers p q e some most h =
      let width : inputs ≡ 1 + publics + privates = omega (arith, e) in
      record { version = inr refl; publics = p; privates = q; some = some; depth = most; layers = subst (λ n. AreLayersOf o 2 n layers) width h }

  pub ready-values : (publics privates inputs : ℕ) (made : List (Gate A)) (public private : List A) → inputs ≡ 1 + (publics + privates) → AreGates (publics + privates) made → length public ≡ publics → length private ≡ privates
      → AreValues o inputs made (node_values o (nodes_from publics privates made) public private)
  ready-values publics privates inputs made public private e h p q =
      let before : publics + privates ≡ inputs - 1 = omega (arith, e) in
      values-are o inputs made public private (omega (arith, e, p, q)) (subst (λ n. AreGates n made) before h)

  pub inputs-long : (publics privates : ℕ) (public private : List A) → length public ≡ publics → length private ≡ privates → length (inputs_of o public private) ≡ 1 + publics + privates
  inputs-long publics privates public private p q = omega (arith, p, q, length-append public private)

  pub ready-inputs : (publics privates inputs : ℕ) (made : List (Gate A)) (public private : List A) → inputs ≡ 1 + (publics + privates) → length public ≡ publics → length private ≡ privates
      → Begins o inputs (node_values o (nodes_from publics privates made) public private) (inputs_of o public private)
  ready-inputs publics privates inputs made public private e p q =
      let ins = inputs_of o public private in
      let long : length ins ≡ inputs = omega (arith, e, p, q, length-append public private) in
      record { width = long; each = λ k l. after-front o.zero (gate_value o) ins made k (omega (arith, l, long)) }
