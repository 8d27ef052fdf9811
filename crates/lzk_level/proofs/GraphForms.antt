-- The forms of a graph's nodes.
use Rattle.std.specs.Prelude.{◌≡◌, ℕ, ◌+◌, ◌-◌, ◌<◌, ◌≤◌, Option, Some, None, List, [], ◌∷◌, length}
use Rattle.std.proofs.Common.{zero, suc, sym, ap, ◌∙◌, arith, subst, get_or}
use Rattle.lzk_field.specs.Ring.{Ops}
use Rattle.lzk_circuit.specs.declared.layer.Term.{Term}
use Rattle.lzk_circuit.specs.Valid.{AreTerms}
use Rattle.lzk_circuit_reduce.specs.Renumbering.{at}
use Rattle.lzk_level.specs.declared.forms.Forms.{Forms}
use Rattle.lzk_level.specs.Gates.{Gate, Constant, Combine, Mul}
use Rattle.lzk_level.specs.Bounds.{at_parts, greatest, gate_depth}
use Rattle.lzk_level.specs.Forms.{IsNodeForm, AreForms}
use Rattle.lzk_level.specs.Levels.{IsGraph, AreValues, AreWeights}
use Rattle.lzk_level.specs.Uses.{node_form, AreBefore, IsFormed}
use Rattle.lzk_level.specs.Wires.{AreFormValues, AreFormWeights}
use Rattle.lzk_level.proofs.NodeLaws.{heavy}

-- a node that was made is not at the level of the inputs
deep-gate : {A : Type 0} (depths : List ℕ) (gate : Gate A) → 1 ≤ gate_depth depths gate
deep-gate depths (Constant c) = omega arith
deep-gate depths (Combine parts) = some-depth (at_parts depths parts)
  where
    some-depth : (ns : List ℕ) → 1 ≤ greatest 1 ns
    some-depth [] = omega arith
    some-depth (n ∷ ns) = omega (arith, some-depth ns)
deep-gate depths (Mul x y) = omega arith

-- the terms of a row name wires below its width
row-before : {A : Type 0} (o : Ops A) (k : ℕ) (before : Option (Term A)) (ts : List (Term A)) → AreTerms o 1 k before ts → AreBefore k ts
row-before o k before [] h i d l = absurd (omega (arith, l))
row-before o k before (t ∷ ts) h zero d l = let one = h.0 in (omega (arith, one.a, one.b), one.b)
row-before o k before (t ∷ ts) h (suc i) d l = row-before o k (Some t) ts h.2 i d (omega (arith, l))

module _ {A : Type 0} (o : Ops A) (inputs : ℕ) (made : List (Gate A)) (depths : List ℕ) (forms : Forms A) (graph : IsGraph inputs made depths) (are : AreForms o inputs made depths forms.starts.items forms.terms.items) where
  -- what is known of a form, by the node's number
  pub form-of : (k : ℕ) → inputs ≤ k → k < length depths → IsNodeForm o inputs made depths k (node_form inputs forms k)
  form-of k behind l =
      let is : inputs + (k - inputs) ≡ k = omega (arith, behind) in
      subst (λ n. IsNodeForm o inputs made depths n (node_form inputs forms k)) is (are.each (k - inputs) (omega (arith, l, behind, graph.depths_are.count)))

  pub formed-graph : IsFormed inputs forms depths
  formed-graph = record {
    one = graph.one;
    within = omega (arith, graph.depths_are.count);
    few = graph.few;
    starts = omega (arith, are.count, graph.depths_are.count);
    at_inputs = graph.depths_are.at_inputs;
    deep = λ k behind l.
        let i = k - inputs in
        let is : inputs + i ≡ k = omega (arith, behind) in
        let none : Gate A = Mul 0 0 in
        let depth : at depths k ≡ gate_depth depths (get_or made i none) = ap (at depths) (sym is) ∙ graph.depths_are.gates i none (omega (arith, behind, l, graph.depths_are.count)) in
        subst (λ n. 1 ≤ n) (sym depth) (deep-gate depths (get_or made i none));
    before = λ k behind l. let f = form-of k behind l in row-before o k None (node_form inputs forms k) f.row;
    under = λ k behind l. let f = form-of k behind l in f.under;
  }

  pub values-formed : (values : List A) → AreValues o inputs made values → AreFormValues o inputs (length depths) (node_form inputs forms) values
  values-formed values v = record { one = v.one; each = λ k behind l. let f = form-of k behind l in f.value values v }

  pub weights-formed : (weights : List ℕ) → AreWeights inputs made weights → AreFormWeights inputs (length depths) (node_form inputs forms) weights
  weights-formed weights w = record {
    many = omega (arith, w.count, graph.depths_are.count);
    some = λ k one l. heavy inputs made weights k graph.one w graph.gates one (omega (arith, l, graph.depths_are.count));
    each = λ k behind l. let f = form-of k behind l in f.short weights w;
  }
