-- A source within the limits has a circuit with a file.
use Rattle.std.specs.Prelude.{◌≡◌, ℕ, ◌+◌, ◌-◌, ◌*◌, ◌^◌, ◌<◌, ◌≤◌, None, List, length, map, reverse, count_by, Ok}
use Rattle.std.proofs.Common.{refl, sym, ap, ◌∙◌, arith, subst}
use Rattle.std.proofs.lemmas.List.{length-reverse}
use Rattle.lzk_profile.specs.Profile.{most_privates, most_wires}
use Rattle.lzk_field.specs.Ring.{Ops, Laws}
use Rattle.lzk_goldilocks.specs.Prime.{p, element_bytes, field_byte}
use Rattle.lzk_goldilocks.specs.Elements as gold
use Rattle.lzk_gf128.specs.Elements as gf
use Rattle.lzk_circuit.specs.Valid.{Wiring, wiring, IsValid}
use Rattle.lzk_circuit.specs.Wires.{inputs_of}
use Rattle.lzk_circbytes.specs.declared.any.AnyCircuit.TheVariants.{Gold, Gf}
use Rattle.lzk_circbytes.specs.Numbered.{shape, numbered}
use Rattle.lzk_circbytes.specs.Spelling.{file_of}
use Rattle.lzk_circbytes.proofs.OneFile.{file_of-IsFile}
use Rattle.lzk_expr.specs.Trees.{Statement, SourceTree, is_public, is_private}
use Rattle.lzk_expr.specs.declared.ast.FieldId.{FieldId}
use Rattle.lzk_expr.specs.declared.ast.FieldId.TheVariants.{Goldilocks, Gf2_128}
use Rattle.lzk_circuit_reduce.specs.Reduced.{IsReduced}
use Rattle.lzk_circuit_reduce.specs.Renumbering.{at}
use Rattle.lzk_circuit_reduce.proofs.EachReduced.{some_reduced}
use Rattle.lzk_circuit_reduce.proofs.NormalLaws.{zero_or_not}
use Rattle.lzk_level.specs.Nodes.{Nodes, node_count, IsNode, AreGates, node_values}
use Rattle.lzk_level.specs.Bounds.{node_depths, node_weights, layer_count, wire_bound, term_bound, level_fault}
use Rattle.lzk_level.specs.Meanings.{HasOutputs}
use Rattle.lzk_level.specs.Compiling.{scope, inputs_alone, nodes_of}
use Rattle.lzk_level.specs.Compiled.{HasValues, limit_passed, limit_in, layers_in, layers_needed, IsCompilable}
use Rattle.lzk_level.specs.SomeCircuit.{HasSomeCircuit, SomeCircuit}
use Rattle.lzk_level.proofs.AfterLaws.{depths-are}
use Rattle.lzk_level.proofs.CompiledLaws.{built-publics, built-privates, built-count, built-nodes, has-values}
use Rattle.lzk_level.proofs.FinishLaws.{ready-weights, ready-values, ready-inputs, inputs-long, valid-layers, within-limits, greatest-some, greatest-each, depths-long}
use Rattle.lzk_level.proofs.FormedLaws.{compilable}
use Rattle.lzk_level.proofs.MadeGates.{HasGates, statements-gates}
use Rattle.lzk_level.proofs.SomeTower.{topped}

module _ {A : Type 0} (o : Ops A) (size : ℕ) (number : A → ℕ) (element : ℕ → A) (bytes : ℕ) (laws : Laws o size number element bytes) where
  -- a reduced circuit whose outputs are these nodes
  record IsFinished (n : Nodes A) (outputs : List ℕ) (c : Wiring A) : Type 0 where
    pub version : c.version ≡ 1
    pub publics : c.publics ≡ n.publics
    pub privates : c.privates ≡ n.privates
    pub layers : length c.layers ≡ layer_count n outputs
    pub values : HasOutputs o n outputs c
    pub reduced : IsReduced o c.layers
    pub valid : IsValid o c

  finished : (n : Nodes A) (outputs : List ℕ) → n.publics ≤ 65535 → n.privates ≤ most_privates → HasGates n → 1 ≤ length outputs → length outputs ≤ most_wires → ((i : ℕ) → i < length outputs → IsNode (node_count n) (at outputs i))
      → level_fault n outputs ≡ None → (c : Wiring A) × IsFinished n outputs c
  finished n outputs fewer few gates some most nodes fits =
      let inputs = 1 + (n.publics + n.privates) in
      let depths = node_depths n in
      let count = layer_count n outputs in
      let w = within-limits count (wire_bound n) (term_bound n outputs) fits in
      let before : n.publics + n.privates ≡ inputs - 1 = omega arith in
      let below : AreGates (inputs - 1) n.made = subst (λ k. AreGates k n.made) before gates in
      let d = depths-are inputs n.made (omega arith) below in
      let long : length depths ≡ wire_bound n = depths-long n.publics n.privates n.made ∙ omega arith in
      let one : 1 ≤ count = greatest-some 1 (map (at depths) outputs) in
      let (top, t) = topped o laws.ring laws.field (zero_or_not o size number element bytes laws.numbers) n.made depths inputs (omega arith) below d (omega (arith, long, w.wires_most)) count outputs one most
      (λ i l. omega (arith, long, (nodes i l).1)) (λ i l. greatest-each 1 depths outputs i l) in
      let product : count * length depths ≡ count * wire_bound n = ap (λ k. count * k) long in
      let valid = t.valid (node_weights n) (ready-weights n.publics n.privates n.made inputs refl gates) some (λ i l. (nodes i l).0) (omega (arith, product, w.terms_most)) in
      let (kept, is) = some_reduced o size number element bytes laws inputs (reverse top) (omega (arith, length-reverse top, t.count_is, one)) valid t.ones in
      let deep : length kept ≡ count = is.count ∙ length-reverse top ∙ t.count_is in (
        wiring n.publics n.privates kept,
        record {
          version = refl;
          publics = refl;
          privates = refl;
          layers = deep;
          values = λ public private hp hq.
              is.values (inputs_of o public private) (omega (arith, inputs-long o n.publics n.privates public private hp hq))
              ∙ t.values (node_values o n public private) (inputs_of o public private) (ready-values o n.publics n.privates inputs n.made public private refl gates hp hq) (ready-inputs o n.publics n.privates inputs n.made public private refl hp hq);
          reduced = is.reduced;
          valid = valid-layers o n.publics n.privates inputs kept fewer few refl (omega (arith, deep, one)) (omega (arith, deep, w.layers_most)) is.valid;
        },
      )

  -- a circuit of a source's statements over a field
  record IsMade (ss : List Statement) (c : Wiring A) : Type 0 where
    pub version : c.version ≡ 1
    pub publics : c.publics ≡ count_by is_public ss
    pub privates : c.privates ≡ count_by is_private ss
    pub layers : length c.layers ≡ layers_needed (nodes_of o element ss)
    pub values : HasValues o element ss c
    pub reduced : IsReduced o c.layers
    pub valid : IsValid o c

  made : (ss : List Statement) → IsCompilable ss → limit_passed (nodes_of o element ss) ≡ None → (c : Wiring A) × IsMade ss c
  made ss good fits =
      let m = nodes_of o element ss in
      let n = m.nodes in
      let p = built-publics o element ss n refl in
      let q = built-privates o element ss n refl in
      let many = built-count o element ss m.outputs refl in
      let gates : HasGates n = statements-gates (scope o element _) (inputs_alone ss) ss good.inputs tt tt in
      let (c, is) = finished n m.outputs (omega (arith, p, good.publics)) (omega (arith, q, good.privates)) gates (omega (arith, many, good.some)) (omega (arith, many, good.asserts)) (built-nodes o element ss n m.outputs refl refl) fits in (
        c,
        record {
          version = is.version;
          publics = is.publics ∙ p;
          privates = is.privates ∙ q;
          layers = is.layers;
          values = has-values o element ss laws.ring n m.outputs (Ok c) refl refl good is.publics is.privates is.values;
          reduced = is.reduced;
          valid = is.valid;
        },
      )

pub has_circuit : (source : SourceTree) → IsCompilable source.statements → limit_in source.field_is source.statements ≡ None → HasSomeCircuit source
has_circuit source good fits = over source.field_is refl fits
  where
    over : (f : FieldId) → source.field_is ≡ f → limit_in f source.statements ≡ None → HasSomeCircuit source
    over Goldilocks e limit =
        let ss = source.statements in
        let (c, is) = made gold.ops p gold.number gold.of_number element_bytes gold.laws ss good limit in (
          Gold c,
          file_of (shape field_byte element_bytes p) (numbered gold.number c),
          record {
            version_is = is.version;
            field_is = sym e;
            publics = is.publics;
            privates = is.privates;
            layers = is.layers ∙ ap (λ g. layers_in g ss) (sym e);
            outputs = is.values;
            reduced = is.reduced;
          },
          file_of-IsFile gold.ops p gold.number gold.of_number element_bytes gold.laws field_byte c is.valid,
        )
    over Gf2_128 e limit =
        let ss = source.statements in
        let (c, is) = made gf.ops (2 ^ 128) gf.number gf.of_number 16 gf.laws ss good limit in (
          Gf c,
          file_of (shape 2 16 (2 ^ 128)) (numbered gf.number c),
          record {
            version_is = is.version;
            field_is = sym e;
            publics = is.publics;
            privates = is.privates;
            layers = is.layers ∙ ap (λ g. layers_in g ss) (sym e);
            outputs = is.values;
            reduced = is.reduced;
          },
          file_of-IsFile gf.ops (2 ^ 128) gf.number gf.of_number 16 gf.laws 2 c is.valid,
        )

pub some_circuit : SomeCircuit
some_circuit source formed fits = has_circuit source (compilable source formed) fits
