-- A source within the limits of version 2 has a circuit of version 2 with a file.
use Rattle.std.specs.Prelude.{◌≡◌, ℕ, ◌+◌, ◌*◌, ◌^◌, ◌<◌, ◌≤◌, min, None, List, length, map, reverse, count_by}
use Rattle.std.proofs.Common.{inr, refl, sym, ap, ◌∙◌, arith, subst}
use Rattle.std.proofs.Math.ListN.{replicate}
use Rattle.lzk_profile.specs.Profile.{most_privates}
use Rattle.lzk_field.specs.Ring.{Ops, Laws}
use Rattle.lzk_goldilocks.specs.Prime.{p, element_bytes, field_byte}
use Rattle.lzk_goldilocks.specs.Elements as gold
use Rattle.lzk_gf128.specs.Elements as gf
use Rattle.lzk_circuit.specs.Checks.{checks_of, check_count}
use Rattle.lzk_circuit.specs.Valid.{Wiring, wiring_of, AreLayersOf, IsValid}
use Rattle.lzk_circuit.specs.Wires.{inputs_of}
use Rattle.lzk_circbytes.specs.declared.any.AnyCircuit.TheVariants.{Gold, Gf}
use Rattle.lzk_circbytes.specs.Numbered.{shape, numbered}
use Rattle.lzk_circbytes.specs.Spelling.{file_of}
use Rattle.lzk_circbytes.proofs.OneFile.{file_of-IsFile}
use Rattle.lzk_expr.specs.Trees.{Statement, SourceTree, is_public, is_private}
use Rattle.lzk_expr.specs.declared.ast.FieldId.{FieldId}
use Rattle.lzk_expr.specs.declared.ast.FieldId.TheVariants.{Goldilocks, Gf2_128}
use Rattle.lzk_circuit_reduce.specs.Attached.{IsReducedAsserting}
use Rattle.lzk_circuit_reduce.specs.Renumbering.{at}
use Rattle.lzk_circuit_reduce.proofs.AssertedForm.{some_asserting}
use Rattle.lzk_circuit_reduce.proofs.NormalLaws.{zero_or_not}
use Rattle.lzk_level.specs.Nodes.{Nodes, node_count, IsNode, node_values}
use Rattle.lzk_level.specs.Bounds.{node_depths, node_weights, layer_count, wire_bound, total, level_fault_v2}
use Rattle.lzk_level.specs.Checking.{of_depth, HasChecks, HasFewOutputs}
use Rattle.lzk_level.proofs.Unshared.{targets_below}
use Rattle.lzk_level.specs.Compiling.{scope, inputs_alone, nodes_of}
use Rattle.lzk_level.specs.Compiled.{HasCheckedValues, HasAsManyChecks, HasFewMade, limit_passed_v2, limit_in_v2, layers_in, layers_needed, IsCompilable}
use Rattle.lzk_level.specs.SomeCircuit.{HasSomeCircuitV2, SomeCircuitV2}
use Rattle.lzk_level.proofs.AssertedLaws.{asserts-of, laid, laid-asserting, check-value}
use Rattle.lzk_level.proofs.CheckingLaws.{depth-each, depth-few}
use Rattle.lzk_level.proofs.CompiledLaws.{built-publics, built-privates, built-count, built-nodes, checked-values}
use Rattle.lzk_level.proofs.FinishLaws.{ready-values, ready-inputs, within-limits, greatest-some}
use Rattle.lzk_level.proofs.FormedLaws.{compilable}
use Rattle.lzk_level.proofs.MadeGates.{HasGates, statements-gates}
use Rattle.lzk_level.proofs.SomeTower.{at-flat, topped}

module _ {A : Type 0} (o : Ops A) (size : ℕ) (number : A → ℕ) (element : ℕ → A) (bytes : ℕ) (laws : Laws o size number element bytes) where
  -- a reduced circuit of version 2 whose checks are these nodes
  record IsFinished (n : Nodes A) (asserts : List ℕ) (c : Wiring A) : Type 0 where
    pub version : c.version ≡ 2
    pub publics : c.publics ≡ n.publics
    pub privates : c.privates ≡ n.privates
    pub layers : length c.layers ≡ layer_count n asserts
    pub count : check_count number c.layers ≡ length asserts
    pub checks : HasChecks o number n asserts c
    pub outputs : HasFewOutputs n asserts c
    pub reduced : IsReducedAsserting o c.layers
    pub valid : IsValid o c

  finished : (n : Nodes A) (asserts : List ℕ) → n.publics ≤ 65535 → n.privates ≤ most_privates → HasGates n → 1 ≤ length asserts → ((i : ℕ) → i < length asserts → IsNode (node_count n) (at asserts i))
      → level_fault_v2 n asserts ≡ None → (c : Wiring A) × IsFinished n asserts c
  finished n asserts fewer few gates some nodes fits =
      let inputs = 1 + (n.publics + n.privates) in
      let depths = node_depths n in
      let count = layer_count n asserts in
      let w = within-limits count (wire_bound n + length asserts) (count * (wire_bound n + length asserts) + total (node_weights n) + total (map (at (node_weights n)) asserts)) fits in
      let given = asserts-of n asserts gates some nodes fits in
      let below = given.graph.gates in
      let d = given.graph.depths_are in
      let few_nodes = given.few in
      let one : 1 ≤ count = greatest-some 1 (map (at depths) asserts) in
      let last = replicate (length depths) count in
      let outputs = of_depth depths count asserts in
      let needed : (i : ℕ) → i < length asserts → min count (at depths (at asserts i) + 1) ≤ at last (at asserts i) = λ i l. omega (arith, at-flat (length depths) count (at asserts i) (given.nodes i l).1) in
      let each = depth-each depths (λ k. (1 ≤ k) × (k < length depths)) count asserts given.nodes in
      let (top, t) = topped o laws.ring laws.field (zero_or_not o size number element bytes laws.numbers) n.made depths inputs (omega arith) below d (omega (arith, few_nodes)) count outputs one
      (omega (arith, depth-few depths count asserts, w.wires_most)) (λ i l. (each i l).0.1) (λ i l. omega (arith, (each i l).1)) in
      let layers = reverse top in
      let targets = targets_below depths last asserts count in
      let l = laid o inputs n.made depths last asserts count outputs top layers targets one given needed refl t refl refl in
      let r = l.is_ready in
      let (all, form) = some_asserting o size number element bytes laws inputs targets layers (omega (arith, l.long, one)) (omega arith) l.terms_are r.layers_are l.ones_are r.targets r.narrow_are r.checks r.few_wires r.few_terms in
      let is = laid-asserting o inputs n.made depths last asserts number count targets layers all one (omega arith) l form in
      let high : length all ≡ count = is.layers_count in
      let width : inputs ≡ 1 + n.publics + n.privates = omega arith in (
        wiring_of 2 n.publics n.privates all,
        record {
          version = refl;
          publics = refl;
          privates = refl;
          layers = high;
          count = is.checks_count;
          checks = λ public private hp hq k l.
              let ins = inputs_of o public private in
              let values = node_values o n public private in
              let v = ready-values o n.publics n.privates inputs n.made public private refl gates hp hq in
              let begins = ready-inputs o n.publics n.privates inputs n.made public private refl hp hq in
              check-value o depths asserts count values (checks_of o number all ins) k l refl (is.checks values ins v begins);
          outputs = is.first_count;
          reduced = is.reduced;
          valid = record { version = inr refl; publics = fewer; privates = few; some = omega (arith, high, one); depth = omega (arith, high, w.layers_most); layers = subst (λ k. AreLayersOf o 2 k all) width is.valid };
        },
      )

  -- a circuit of a source's statements over a field
  record IsMade (ss : List Statement) (c : Wiring A) : Type 0 where
    pub version : c.version ≡ 2
    pub publics : c.publics ≡ count_by is_public ss
    pub privates : c.privates ≡ count_by is_private ss
    pub layers : length c.layers ≡ layers_needed (nodes_of o element ss)
    pub count : HasAsManyChecks number ss c
    pub checks : HasCheckedValues o number element ss c
    pub outputs : HasFewMade (nodes_of o element ss) c
    pub reduced : IsReducedAsserting o c.layers
    pub valid : IsValid o c

  made : (ss : List Statement) → IsCompilable ss → limit_passed_v2 (nodes_of o element ss) ≡ None → (c : Wiring A) × IsMade ss c
  made ss good fits =
      let m = nodes_of o element ss in
      let n = m.nodes in
      let p = built-publics o element ss n refl in
      let q = built-privates o element ss n refl in
      let many = built-count o element ss m.outputs refl in
      let gates : HasGates n = statements-gates (scope o element _) (inputs_alone ss) ss good.inputs tt tt in
      let (c, is) = finished n m.outputs (omega (arith, p, good.publics)) (omega (arith, q, good.privates)) gates (omega (arith, many, good.some)) (built-nodes o element ss n m.outputs refl refl) fits in (
        c,
        record {
          version = is.version;
          publics = is.publics ∙ p;
          privates = is.privates ∙ q;
          layers = is.layers;
          count = is.count ∙ many;
          checks = checked-values o element ss laws.ring number n m.outputs c refl refl good is.publics is.privates is.checks;
          outputs = is.outputs;
          reduced = is.reduced;
          valid = is.valid;
        },
      )

pub has_circuit_v2 : (source : SourceTree) → IsCompilable source.statements → limit_in_v2 source.field_is source.statements ≡ None → HasSomeCircuitV2 source
has_circuit_v2 source good fits = over source.field_is refl fits
  where
    over : (f : FieldId) → source.field_is ≡ f → limit_in_v2 f source.statements ≡ None → HasSomeCircuitV2 source
    over Goldilocks e limit =
        let ss = source.statements in
        let (c, is) = made gold.ops p gold.number gold.of_number element_bytes gold.laws ss good limit in (
          Gold c,
          file_of (shape field_byte element_bytes p) (numbered gold.number c),
          record { version_is = is.version; field_is = sym e; publics = is.publics; privates = is.privates; layers = is.layers ∙ ap (λ g. layers_in g ss) (sym e); checks = (is.count, is.checks); outputs = is.outputs; reduced = is.reduced },
          file_of-IsFile gold.ops p gold.number gold.of_number element_bytes gold.laws field_byte c is.valid,
        )
    over Gf2_128 e limit =
        let ss = source.statements in
        let (c, is) = made gf.ops (2 ^ 128) gf.number gf.of_number 16 gf.laws ss good limit in (
          Gf c,
          file_of (shape 2 16 (2 ^ 128)) (numbered gf.number c),
          record { version_is = is.version; field_is = sym e; publics = is.publics; privates = is.privates; layers = is.layers ∙ ap (λ g. layers_in g ss) (sym e); checks = (is.count, is.checks); outputs = is.outputs; reduced = is.reduced },
          file_of-IsFile gf.ops (2 ^ 128) gf.number gf.of_number 16 gf.laws 2 c is.valid,
        )

pub some_circuit_v2 : SomeCircuitV2
some_circuit_v2 source formed fits = has_circuit_v2 source (compilable source formed) fits
