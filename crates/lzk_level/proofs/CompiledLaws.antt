-- A finished circuit of a source's nodes.
use Rattle.std.specs.Prelude.{◌≡◌, ℕ, ◌<◌, None, List, length, map, count_by, Result, Ok, Err, IfOk, IfErr, IsErrAnd}
use Rattle.std.proofs.Common.{sym, ap, ap₂, ◌∙◌, subst, arith}
use Rattle.lzk_field.specs.Ring.{Ops, RingLaws}
use Rattle.lzk_field.specs.Sums.{entry}
use Rattle.lzk_goldilocks.specs.Elements as gold
use Rattle.lzk_gf128.specs.Elements as gf
use Rattle.lzk_circuit.specs.Checks.{checks_of, check_count}
use Rattle.lzk_circuit.specs.Valid.{Wiring}
use Rattle.lzk_circuit.specs.Wires.{inputs_of}
use Rattle.lzk_expr.specs.SourceValues.{source_value}
use Rattle.lzk_circbytes.specs.declared.any.AnyCircuit.TheVariants.{Gold, Gf}
use Rattle.lzk_expr.specs.Trees.{Statement, SourceTree, is_public, is_private, is_assertion}
use Rattle.lzk_expr.specs.declared.ast.FieldId.TheVariants.{Goldilocks, Gf2_128}
use Rattle.lzk_level.specs.declared.fault.LevelError.{LevelError}
use Rattle.lzk_level.specs.declared.fault.LevelError.TheVariants.{Fault, OutOfMemory}
use Rattle.lzk_level.specs.Nodes.{Nodes, node_count, IsNode, node_values}
use Rattle.lzk_circuit_reduce.specs.Renumbering.{at}
use Rattle.lzk_circuit_reduce.specs.Attached.{IsReducedAsserting}
use Rattle.lzk_circuit_reduce.specs.Reduced.{IsReduced}
use Rattle.lzk_level.specs.Bounds.{layer_count, level_fault, level_fault_v2, node_depths, IsFaultOf, IsLevelError}
use Rattle.lzk_level.specs.Checking.{check_of, HasChecks, HasFewOutputs}
use Rattle.lzk_level.specs.Meanings.{HasOutputs}
use Rattle.lzk_level.specs.Compilable.{statements_size, AreNodes}
use Rattle.lzk_level.specs.Compiling.{scope, inputs_alone, nodes_of}
use Rattle.lzk_level.specs.Compiled.{HasValues, HasCheckedValues, limit_passed, limit_passed_v2, layers_in, limit_in, limit_in_v2, output_depths, IsCompilable}
use Rattle.lzk_level.specs.CompiledCode.{IsCompiled, limit_of, IsCircuitIn, limit_of_made}
use Rattle.lzk_level.specs.declared.compiling.Version.{Version}
use Rattle.lzk_level.specs.declared.compiling.Version.TheVariants.{One, Two}
use Rattle.lzk_level.specs.Finished.{AreBuilt, IsCircuitOver, IsCircuitOverV2}
use Rattle.lzk_level.specs.SomeCircuit.{IsCircuitOf, IsCircuitOfV2}
use Rattle.lzk_level.proofs.TowerLaws.{mapped-at}
use Rattle.lzk_level.proofs.MadeLaws.{Grown}
use Rattle.lzk_level.proofs.SourceLaws.{node-of, statements-grown, outputs-there, outputs-count, source-value}

module _ {A : Type 0} (o : Ops A) (element : ℕ → A) (ss : List Statement) where
  grown : Grown (inputs_alone ss) (nodes_of o element ss).nodes (statements_size ss)
  grown = statements-grown (scope o element _) (inputs_alone ss) ss

  pub built-publics : (n : Nodes A) → n ≡ (nodes_of o element ss).nodes → n.publics ≡ count_by is_public ss
  built-publics n is = ap (λ (m : Nodes A). m.publics) is ∙ grown.publics

  pub built-privates : (n : Nodes A) → n ≡ (nodes_of o element ss).nodes → n.privates ≡ count_by is_private ss
  built-privates n is = ap (λ (m : Nodes A). m.privates) is ∙ grown.privates

  pub built-count : (ks : List ℕ) → ks ≡ (nodes_of o element ss).outputs → length ks ≡ count_by is_assertion ss
  built-count ks is = ap length is ∙ outputs-count (scope o element _) (inputs_alone ss) ss

  pub built-nodes : (n : Nodes A) (ks : List ℕ) → n ≡ (nodes_of o element ss).nodes → ks ≡ (nodes_of o element ss).outputs → (i : ℕ) → i < length ks → IsNode (node_count n) (at ks i)
  built-nodes n ks is outputs =
      node-of (node_count n) ks (subst (λ (m : Nodes A). AreNodes (node_count m) ks) (sym is) (subst (λ l. AreNodes (node_count (nodes_of o element ss).nodes) l) (sym outputs) (outputs-there (scope o element _) (inputs_alone ss) ss)))

  pub has-values : (r : RingLaws o) (n : Nodes A) (ks : List ℕ) (circuit : Result (Wiring A) LevelError) → n ≡ (nodes_of o element ss).nodes → ks ≡ (nodes_of o element ss).outputs → IsCompilable ss
      → IfOk circuit (λ c. c.publics ≡ n.publics) → IfOk circuit (λ c. c.privates ≡ n.privates) → IfOk circuit (HasOutputs o n ks) → IfOk circuit (HasValues o element ss)
  has-values r n ks (Err e) is outputs good p q h = h
  has-values r n ks (Ok c) is outputs good p q h = λ public private a b.
      h public private (a ∙ p) (b ∙ q) ∙ ap₂ (λ (m : Nodes A) l. map (entry o (node_values o m public private)) l) is outputs
      ∙ source-value o r element public private ss (a ∙ p ∙ built-publics n is) (b ∙ q ∙ built-privates n is) good.inputs

  fault-of : (n : Nodes A) (ks : List ℕ) (e : LevelError) → n ≡ (nodes_of o element ss).nodes → ks ≡ (nodes_of o element ss).outputs → IsLevelError n ks e → IsFaultOf (limit_passed (nodes_of o element ss)) e
  fault-of n ks (Fault f) is outputs h = sym (ap₂ (λ (m : Nodes A) l. level_fault m l) is outputs) ∙ h
  fault-of n ks OutOfMemory is outputs h = h

  pub built-fault : (n : Nodes A) (ks : List ℕ) (circuit : Result (Wiring A) LevelError) → n ≡ (nodes_of o element ss).nodes → ks ≡ (nodes_of o element ss).outputs → IfErr circuit (IsLevelError n ks) → IfErr circuit (IsFaultOf (limit_passed (nodes_of o element ss)))
  built-fault n ks (Ok c) is outputs h = h
  built-fault n ks (Err e) is outputs h = fault-of n ks e is outputs h

  pub built-fault-v2 : (n : Nodes A) (ks : List ℕ) (circuit : Result (Wiring A) LevelError) → n ≡ (nodes_of o element ss).nodes → ks ≡ (nodes_of o element ss).outputs → IfErr circuit (IsFaultOf (level_fault_v2 n ks))
      → IfErr circuit (IsFaultOf (limit_passed_v2 (nodes_of o element ss)))
  built-fault-v2 n ks circuit is outputs h = subst (λ f. IfErr circuit (IsFaultOf f)) (ap₂ (λ (m : Nodes A) l. level_fault_v2 m l) is outputs) h

  pub built-within-v2 : (n : Nodes A) (ks : List ℕ) → n ≡ (nodes_of o element ss).nodes → ks ≡ (nodes_of o element ss).outputs → level_fault_v2 n ks ≡ None → limit_passed_v2 (nodes_of o element ss) ≡ None
  built-within-v2 n ks is outputs h = sym (ap₂ (λ (m : Nodes A) l. level_fault_v2 m l) is outputs) ∙ h

  pub checked-values : (r : RingLaws o) (number : A → ℕ) (n : Nodes A) (ks : List ℕ) (c : Wiring A) → n ≡ (nodes_of o element ss).nodes → ks ≡ (nodes_of o element ss).outputs → IsCompilable ss
      → c.publics ≡ n.publics → c.privates ≡ n.privates → HasChecks o number n ks c → HasCheckedValues o number element ss c
  checked-values r number n ks c is outputs good p q h public private a b k l =
      let checks = checks_of o number c.layers (inputs_of o public private) in
      let within : k < length ks = omega (arith, l, built-count ks outputs) in
      let depths : map (at (node_depths n)) ks ≡ output_depths (nodes_of o element ss) = ap₂ (λ (m : Nodes A) l. map (at (node_depths m)) l) is outputs in
      let values : map (entry o (node_values o n public private)) ks ≡ source_value o element public private ss =
      ap₂ (λ (m : Nodes A) l. map (entry o (node_values o m public private)) l) is outputs ∙ source-value o r element public private ss (a ∙ p ∙ built-publics n is) (b ∙ q ∙ built-privates n is) good.inputs in
      ap (λ ds. entry o checks (check_of ds k)) (sym depths) ∙ h public private (a ∙ p) (b ∙ q) k within
      ∙ sym (mapped-at o (entry o (node_values o n public private)) ks k within) ∙ ap (λ xs. entry o xs k) values

module _ {A : Type 0} (o : Ops A) (element : ℕ → A) (ss : List Statement) (r : RingLaws o) (n : Nodes A) (ks : List ℕ) (b : AreBuilt o element ss n ks) where
  pub circuit-over : (circuit : Result (Wiring A) LevelError) → IfOk circuit (λ c. c.version ≡ 1) → IfOk circuit (λ c. c.publics ≡ n.publics) → IfOk circuit (λ c. c.privates ≡ n.privates)
      → IfOk circuit (λ c. length c.layers ≡ layer_count n ks) → IfOk circuit (HasOutputs o n ks) → IfOk circuit (λ c. IsReduced o c.layers) → IfOk circuit (λ _. level_fault n ks ≡ None)
      → IfOk circuit (IsCircuitOver o element ss)
  circuit-over (Err e) version publics privates layers outputs reduced within = tt
  circuit-over (Ok c) version publics privates layers outputs reduced within = record {
    version_is = version;
    publics = publics ∙ built-publics o element ss n b.nodes;
    privates = privates ∙ built-privates o element ss n b.nodes;
    layers = layers ∙ ap₂ (λ (m : Nodes A) l. layer_count m l) b.nodes b.outputs_are;
    values = has-values o element ss r n ks (Ok c) b.nodes b.outputs_are b.compilable publics privates outputs;
    reduced = reduced;
    within = sym (ap₂ (λ (m : Nodes A) l. level_fault m l) b.nodes b.outputs_are) ∙ within;
  }

  pub circuit-over-v2 : (number : A → ℕ) (circuit : Result (Wiring A) LevelError) → IfOk circuit (λ c. c.version ≡ 2) → IfOk circuit (λ c. c.publics ≡ n.publics) → IfOk circuit (λ c. c.privates ≡ n.privates)
      → IfOk circuit (λ c. length c.layers ≡ layer_count n ks) → IfOk circuit (λ c. check_count number c.layers ≡ length ks) → IfOk circuit (HasChecks o number n ks) → IfOk circuit (HasFewOutputs n ks)
      → IfOk circuit (λ c. IsReducedAsserting o c.layers) → IfOk circuit (λ _. level_fault_v2 n ks ≡ None) → IfOk circuit (IsCircuitOverV2 o number element ss)
  circuit-over-v2 number (Err e) version publics privates layers count checks outputs reduced within = tt
  circuit-over-v2 number (Ok c) version publics privates layers count checks outputs reduced within = record {
    version_is = version;
    publics = publics ∙ built-publics o element ss n b.nodes;
    privates = privates ∙ built-privates o element ss n b.nodes;
    layers = layers ∙ ap₂ (λ (m : Nodes A) l. layer_count m l) b.nodes b.outputs_are;
    count = count ∙ built-count o element ss ks b.outputs_are;
    checks = checked-values o element ss r number n ks c b.nodes b.outputs_are b.compilable publics privates checks;
    outputs = subst (λ l. HasFewOutputs (nodes_of o element ss).nodes l c) b.outputs_are (subst (λ (m : Nodes A). HasFewOutputs m ks c) b.nodes outputs);
    reduced = reduced;
    within = built-within-v2 o element ss n ks b.nodes b.outputs_are within;
  }

-- the circuit over the field that a source names
pub gold-circuit : (s : SourceTree) (c : Wiring _) → Goldilocks ≡ s.field_is → IsCircuitOver gold.ops gold.of_number s.statements c → IsCircuitOf s (Gold c)
gold-circuit s c is h = record {
  version_is = h.version_is;
  field_is = is;
  publics = h.publics;
  privates = h.privates;
  layers = h.layers ∙ ap (λ f. layers_in f s.statements) is;
  outputs = h.values;
  reduced = h.reduced;
}

pub gf-circuit : (s : SourceTree) (c : Wiring _) → Gf2_128 ≡ s.field_is → IsCircuitOver gf.ops gf.of_number s.statements c → IsCircuitOf s (Gf c)
gf-circuit s c is h = record {
  version_is = h.version_is;
  field_is = is;
  publics = h.publics;
  privates = h.privates;
  layers = h.layers ∙ ap (λ f. layers_in f s.statements) is;
  outputs = h.values;
  reduced = h.reduced;
}

pub gold-circuit-v2 : (s : SourceTree) (c : Wiring _) → Goldilocks ≡ s.field_is → IsCircuitOverV2 gold.ops gold.number gold.of_number s.statements c → IsCircuitOfV2 s (Gold c)
gold-circuit-v2 s c is h = record {
  version_is = h.version_is;
  field_is = is;
  publics = h.publics;
  privates = h.privates;
  layers = h.layers ∙ ap (λ f. layers_in f s.statements) is;
  checks = (h.count, h.checks);
  outputs = h.outputs;
  reduced = h.reduced;
}

pub gf-circuit-v2 : (s : SourceTree) (c : Wiring _) → Gf2_128 ≡ s.field_is → IsCircuitOverV2 gf.ops gf.number gf.of_number s.statements c → IsCircuitOfV2 s (Gf c)
gf-circuit-v2 s c is h = record {
  version_is = h.version_is;
  field_is = is;
  publics = h.publics;
  privates = h.privates;
  layers = h.layers ∙ ap (λ f. layers_in f s.statements) is;
  checks = (h.count, h.checks);
  outputs = h.outputs;
  reduced = h.reduced;
}

-- in either version
pub gold-compiled : (v : Version) (s : SourceTree) (c : Wiring _) → Goldilocks ≡ s.field_is → IsCircuitIn v gold.ops gold.number gold.of_number s.statements c → IsCompiled v s (Gold c)
gold-compiled One s c is h = gold-circuit s c is h
gold-compiled Two s c is h = gold-circuit-v2 s c is h

pub gold-limit : (v : Version) (s : SourceTree) → Goldilocks ≡ s.field_is → limit_of_made v (nodes_of gold.ops gold.of_number s.statements) ≡ limit_of v s
gold-limit One s is = ap (λ f. limit_in f s.statements) is
gold-limit Two s is = ap (λ f. limit_in_v2 f s.statements) is

pub gold-within : (v : Version) (s : SourceTree) (c : Wiring _) → Goldilocks ≡ s.field_is → IsCircuitIn v gold.ops gold.number gold.of_number s.statements c → limit_of v s ≡ None
gold-within One s c is h = sym (gold-limit One s is) ∙ h.within
gold-within Two s c is h = sym (gold-limit Two s is) ∙ h.within

pub gf-compiled : (v : Version) (s : SourceTree) (c : Wiring _) → Gf2_128 ≡ s.field_is → IsCircuitIn v gf.ops gf.number gf.of_number s.statements c → IsCompiled v s (Gf c)
gf-compiled One s c is h = gf-circuit s c is h
gf-compiled Two s c is h = gf-circuit-v2 s c is h

pub gf-limit : (v : Version) (s : SourceTree) → Gf2_128 ≡ s.field_is → limit_of_made v (nodes_of gf.ops gf.of_number s.statements) ≡ limit_of v s
gf-limit One s is = ap (λ f. limit_in f s.statements) is
gf-limit Two s is = ap (λ f. limit_in_v2 f s.statements) is

pub gf-within : (v : Version) (s : SourceTree) (c : Wiring _) → Gf2_128 ≡ s.field_is → IsCircuitIn v gf.ops gf.number gf.of_number s.statements c → limit_of v s ≡ None
gf-within One s c is h = sym (gf-limit One s is) ∙ h.within
gf-within Two s c is h = sym (gf-limit Two s is) ∙ h.within

-- an error that was handed on
pub handed_on : {X : Type 0} (r : Result X LevelError) (P : LevelError → Type 0) (e : LevelError) → IsErrAnd r (λ d. d ≡ e) → P e → IfErr r P
handed_on (Ok x) P e h k = tt
handed_on (Err d) P e h k = subst P (sym h) k
