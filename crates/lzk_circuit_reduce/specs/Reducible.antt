-- What the reduction takes.
use Rattle.std.specs.Prelude.{ℕ, ◌<◌, ◌≤◌, true, Bool, IsTrue, Option, Some, List, [], ◌∷◌, length}
use Rattle.std.specs.Coded.{Coded, Coded-set, coded_bool, ×_prop, le_prop, Unit-prop}
use mathlib.Core.HLevel.{×₃_prop}
use Rattle.std.specs.List.{AllByRecursion-prop}
use denote.Struct.Props as logic
use Rattle.lzk_field.specs.Ring.{Ops}
use Rattle.lzk_circuit.specs.declared.layer.Term.{Term}
use Rattle.lzk_circuit.specs.declared.layer.Layer.{Layer}
use Rattle.lzk_circuit.specs.Valid.{IsTerm, follows, AreTerms, IsLayer, AreLayers, Under, under_of}
use Rattle.lzk_circuit_reduce.specs.Reduced.{HasOne, HaveOnesUnder, HaveOnes}
use Rattle.lzk_circuit_reduce.specs.Targets.{targets_at, behind, AreBelow, AreTargets}

-- layers over so many inputs, the inner ones of which hand on the one, and the wires that they assert
pub record AreReducible {A : Type 0} (o : Ops A) (inputs : ℕ) (ws : List (List ℕ))
    (layers : List (Layer A)) : Type 0 where
  pub some : 1 ≤ length layers
  pub valid : AreLayers o inputs layers
  pub ones : HaveOnes o layers
  pub targets : AreTargets inputs ws layers

IsTerm-prop : {A : Type 0} (o : Ops A) (wires width : ℕ) (t : Term A) → IsProp (IsTerm o wires width t)
IsTerm-prop o wires width t = Prim.hlevel logic.props

IsTrue-prop : (b : Bool) → IsProp (IsTrue b)
IsTrue-prop b = Coded-set coded_bool b true

pub AreTerms-prop : {A : Type 0} (o : Ops A) (wires width : ℕ) (before : Option (Term A)) (ts : List (Term A))
    → IsProp (AreTerms o wires width before ts)
AreTerms-prop o wires width before [] = Unit-prop
AreTerms-prop o wires width before (t ∷ ts) =
    ×₃_prop (IsTerm-prop o wires width t) (IsTrue-prop (follows before t)) (AreTerms-prop o wires width (Some t) ts)

IsLayer-prop : {A : Type 0} (o : Ops A) (under : Under) (layer : Layer A) → IsProp (IsLayer o under layer)
IsLayer-prop o under layer = Prim.hlevel (logic.props, AreTerms-prop)

AreLayers-prop : {A : Type 0} (o : Ops A) (inputs : ℕ) (layers : List (Layer A)) → IsProp (AreLayers o inputs layers)
AreLayers-prop o inputs [] = Unit-prop
AreLayers-prop o inputs (layer ∷ layers) =
    ×_prop (IsLayer-prop o (under_of inputs layers) layer) (AreLayers-prop o inputs layers)

HasOne-prop : {A : Type 0} → Coded A → (o : Ops A) (layer : Layer A) → IsProp (HasOne o layer)
HasOne-prop code o layer = Prim.hlevel (logic.props, code)

HaveOnesUnder-prop : {A : Type 0} → Coded A → (o : Ops A) (layers : List (Layer A)) → IsProp (HaveOnesUnder o layers)
HaveOnesUnder-prop code o [] = Unit-prop
HaveOnesUnder-prop code o (layer ∷ layers) =
    ×_prop (HasOne-prop code o layer) (HaveOnesUnder-prop code o layers)

HaveOnes-prop : {A : Type 0} → Coded A → (o : Ops A) (layers : List (Layer A)) → IsProp (HaveOnes o layers)
HaveOnes-prop code o [] = Unit-prop
HaveOnes-prop code o (layer ∷ layers) = HaveOnesUnder-prop code o layers

AreBelow-prop : (width : ℕ) (ws : List ℕ) → IsProp (AreBelow width ws)
AreBelow-prop width ws = AllByRecursion-prop (λ w. w < width) (λ w. le_prop) ws

AreTargets-prop : {A : Type 0} (inputs : ℕ) (ws : List (List ℕ)) (layers : List (Layer A))
    → IsProp (AreTargets inputs ws layers)
AreTargets-prop inputs ws [] = Unit-prop
AreTargets-prop inputs ws (layer ∷ layers) =
    ×_prop (AreBelow-prop (under_of inputs layers).width (targets_at ws 0)) (AreTargets-prop inputs (behind ws) layers)

pub AreReducible-prop : {A : Type 0} → Coded A → (o : Ops A) (inputs : ℕ) (ws : List (List ℕ))
    (layers : List (Layer A)) → IsProp (AreReducible o inputs ws layers)
AreReducible-prop code o inputs ws layers =
    Prim.hlevel (logic.props, AreLayers-prop, HaveOnes-prop code, AreTargets-prop)
