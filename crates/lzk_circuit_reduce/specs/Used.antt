-- Layers without the wires that nothing uses.
use Rattle.std.specs.Prelude.{◌≡◌, ℕ, ◌==◌, ◌||◌, cond, true, Bool, List, [], ◌∷◌, ◌++◌, length, map, drop}
use Rattle.std.specs.List.{range_with_len}
use Rattle.lzk_circuit.specs.declared.layer.Term.{Term}
use Rattle.lzk_field.specs.Ring.{Ops}
use Rattle.lzk_circuit.specs.declared.layer.Layer.{Layer}
use Rattle.lzk_circuit.specs.Valid.{AreLayers, under_of}
use Rattle.lzk_circuit_reduce.specs.Renumbering.{at}
use Rattle.lzk_circuit_reduce.specs.Marks.{is_marked, names, marked_before}
use Rattle.lzk_circuit_reduce.specs.Targets.{targets_at, behind, is_in}

-- so many wires, all of them marked
abbrev pub all_true : ℕ → List Bool
all_true count = map (λ k. true) (range_with_len 0 count)

-- so many wires below, of which wire 0 is marked, and each that a marked wire's term names, or that is asserted
abbrev pub named_marks : {A : Type 0} → ℕ → List Bool → List (Term A) → List ℕ → List Bool
named_marks width marks ts ws = map (λ k. ((k == 0) || names marks ts k) || is_in ws k) (range_with_len 0 width)

-- a term with other numbers
abbrev pub numbered_term : {A : Type 0} → List ℕ → List ℕ → Term A → Term A
numbered_term above below t = record { g = at above t.g; a = at below t.a; b = at below t.b; coef = t.coef }

-- a marked wire's term, each number being that among the marked ones
abbrev pub used_term : {A : Type 0} → List Bool → List Bool → Term A → Term A
used_term marks below t = record { g = marked_before marks t.g; a = marked_before below t.a; b = marked_before below t.b; coef = t.coef }

-- the terms of marked wires
abbrev pub used_terms : {A : Type 0} → List Bool → List Bool → List (Term A) → List (Term A)
used_terms marks below [] = []
used_terms marks below (t ∷ ts) = cond (is_marked marks t.g) (used_term marks below t ∷ used_terms marks below ts) (used_terms marks below ts)

abbrev pub used_layer : {A : Type 0} → List Bool → List Bool → Layer A → Layer A
used_layer marks below layer = record { wires = marked_before marks (length marks); terms = used_terms marks below layer.terms }

-- the marks of the wires below terms: those of the first of these layers, or of the inputs, which all stay
abbrev pub marks_of_under : {A : Type 0} → ℕ → List Bool → List (Term A) → List ℕ → List (Layer A) → List Bool
marks_of_under inputs marks ts ws [] = all_true inputs
marks_of_under inputs marks ts ws (layer ∷ layers) = named_marks layer.wires marks ts ws

-- the marked wires of the first layer, and what they need of the others
abbrev pub used_layers : {A : Type 0} → ℕ → List Bool → List (List ℕ) → List (Layer A) → List (Layer A)
used_layers inputs marks ws [] = []
used_layers inputs marks ws (layer ∷ layers) =
    used_layer marks (marks_of_under inputs marks layer.terms (targets_at ws 0) layers) layer
    ∷ used_layers inputs (marks_of_under inputs marks layer.terms (targets_at ws 0) layers) (behind ws) layers

-- what they assert
abbrev pub used_targets : {A : Type 0} → ℕ → List Bool → List (List ℕ) → List (Layer A) → List (List ℕ)
used_targets inputs marks ws [] = []
used_targets inputs marks ws (layer ∷ layers) =
    map (marked_before (marks_of_under inputs marks layer.terms (targets_at ws 0) layers)) (targets_at ws 0)
    ∷ used_targets inputs (marks_of_under inputs marks layer.terms (targets_at ws 0) layers) (behind ws) layers

-- marks for all wires of the first layer
abbrev pub all_of : {A : Type 0} → List (Layer A) → List Bool
all_of [] = []
all_of (layer ∷ layers) = all_true layer.wires

-- what stays where all wires of the first layer do
pub record IsPruned {A : Type 0} (inputs : ℕ) (ws : List (List ℕ)) (layers : List (Layer A)) (moved : List (List ℕ))
    (kept : List (Layer A)) : Type 0 where
  pub kept_are : kept ≡ used_layers inputs (all_of layers) ws layers
  pub moved_are : moved ≡ used_targets inputs (all_of layers) ws layers

-- these are what stays of the first l layers; of the next one these wires stay
pub record ArePrunedTo {A : Type 0} (o : Ops A) (inputs : ℕ) (ws : List (List ℕ)) (layers : List (Layer A))
    (marks : List Bool) (l : ℕ) (moved : List (List ℕ)) (kept : List (Layer A)) : Type 0 where
  pub is : IsPruned inputs ws layers
      (moved ++ used_targets inputs marks (drop l ws) (drop l layers))
      (kept ++ used_layers inputs marks (drop l ws) (drop l layers))
  pub rest : AreLayers o inputs (drop l layers)
  pub count : length marks ≡ (under_of inputs (drop l layers)).width
