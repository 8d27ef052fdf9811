-- Rows and layers over other numbers of the wires below, and layers whose wires with the same terms are one.
use Rattle.std.specs.Prelude.{◌≡◌, ℕ, ◌+◌, ◌<◌, ◌≤◌, None, List, length}
use Rattle.lzk_field.specs.Ring.{Ops}
use Rattle.lzk_circuit.specs.declared.layer.Layer.{Layer}
use Rattle.lzk_circuit.specs.Valid.{AreTerms, AreLayers}
use Rattle.lzk_circuit.specs.Wires.{coef, wire, layer_values}
use Rattle.lzk_circuit.specs.declared.layer.Term.{Term}
use Rattle.lzk_circuit_reduce.specs.Renumbering.{at, of_wire, terms_before, AreNumbersBelow, AreCopies, IsOne}
use Rattle.lzk_circuit_reduce.specs.Rows.{IsRow, row_value}
use Rattle.lzk_circuit_reduce.specs.Reduced.{HasOne, HaveOnes, AreDifferent, AreInnerDifferent, AreSameOutputs, output_count}

-- a row that counts what these terms do, over the wires below with these numbers
pub record IsRenumbered {A : Type 0} (o : Ops A) (numbers : List ℕ) (terms row : List (Term A)) : Type 0 where
  pub is : (width : ℕ) → AreNumbersBelow width numbers → IsRow o width row
  pub value : (old new : List A) → AreCopies o numbers old new → row_value o new row ≡ row_value o old terms
  pub short : length row ≤ length terms
  pub one : IsOne o terms → at numbers 0 ≡ 0 → IsOne o row

-- the row of a layer's wire g over the wires below with these numbers, whose terms stand from start to end
pub record IsRowOf {A : Type 0} (o : Ops A) (layer : Layer A) (numbers : List ℕ) (g start end : ℕ)
    (row : List (Term A)) : Type 0 where
  pub end_is : end ≡ terms_before (g + 1) layer.terms
  pub is : (width : ℕ) → AreNumbersBelow width numbers → IsRow o width row
  pub value : (old new : List A) → AreCopies o numbers old new
      → row_value o new row ≡ row_value o old (of_wire g layer.terms)
  pub short : start + length row ≤ end
  pub one : IsOne o (of_wire g layer.terms) → at numbers 0 ≡ 0 → IsOne o row

-- layers with the same outputs, in which no two inner wires have the same terms
pub record AreSharedLayers {A : Type 0} (o : Ops A) (inputs : ℕ) (layers kept : List (Layer A)) : Type 0 where
  pub count : length kept ≡ length layers
  pub valid : AreLayers o inputs kept
  pub outputs : output_count kept ≡ output_count layers
  pub values : AreSameOutputs o inputs kept layers
  pub ones : HaveOnes o kept
  pub different : AreInnerDifferent kept

-- a layer over the wires below with these numbers, where those that are alike are one; its own wires' numbers in it
pub record IsSharedLayer {A : Type 0} (o : Ops A) (layer : Layer A) (numbers : List ℕ) (kept : Layer A)
    (wires : List ℕ) : Type 0 where
  pub count : length wires ≡ layer.wires
  pub below : AreNumbersBelow kept.wires wires
  pub first : at wires 0 ≡ 0
  pub some : 1 ≤ kept.wires
  pub fewer : kept.wires ≤ layer.wires
  pub terms : (width : ℕ) → AreNumbersBelow width numbers → AreTerms o kept.wires width None kept.terms
  pub values : (old new : List A) → length old ≡ length numbers → AreNumbersBelow (length new) numbers
      → AreCopies o numbers old new
      → AreCopies o wires (layer_values o layer old) (layer_values o kept new)
  pub one : HasOne o layer → at numbers 0 ≡ 0 → HasOne o kept
  pub different : AreDifferent kept
  pub short : length kept.terms ≤ length layer.terms

-- a layer over the wires below with these numbers
pub record IsMovedLayer {A : Type 0} (o : Ops A) (layer : Layer A) (numbers : List ℕ) (moved : Layer A) : Type 0 where
  pub wires : moved.wires ≡ layer.wires
  pub terms : (width : ℕ) → AreNumbersBelow width numbers → AreTerms o layer.wires width None moved.terms
  pub values : (old new : List A) → length old ≡ length numbers → AreNumbersBelow (length new) numbers
      → AreCopies o numbers old new
      → (g : ℕ) → g < layer.wires → wire o (coef o moved.terms) new g ≡ wire o (coef o layer.terms) old g
  pub short : length moved.terms ≤ length layer.terms
