-- How large two circuits are side by side, level by level. Both end at level 0, which holds the outputs, and the one
-- with fewer layers begins with copies of its inputs.
use Rattle.std.specs.Prelude.{◌≡◌, ℕ, zero, suc, ◌+◌, ◌<◌, ◌≤◌, max, None, List, [], ◌∷◌, length, drop}
use Rattle.lzk_field.specs.Ring.{Ops}
use Rattle.lzk_field.specs.Sums.{entry}
use Rattle.lzk_circuit.specs.declared.layer.Layer.{Layer}
use Rattle.lzk_circuit.specs.Limits.{most_wires, most_total}
use Rattle.lzk_circuit.specs.Valid.{Wiring, input_width, under_of, ArePlaced, MayEachStand}
use Rattle.lzk_circuit.specs.Wires.{wires_of}
use Rattle.lzk_circuit_reduce.specs.Renumbering.{AreNumbersBelow, AreCopies}
use Rattle.lzk_circuit_beside.specs.declared.error.BesideError.{BesideError}
use Rattle.lzk_circuit_beside.specs.declared.error.BesideError.TheVariants.{Fault, OutOfMemory}

-- how many wires the first of these layers has; the inputs where there is none
abbrev pub first_wires : {A : Type 0} → ℕ → List (Layer A) → ℕ
first_wires inputs [] = inputs
first_wires inputs (layer ∷ layers) = layer.wires

-- and how many terms; a copy is one term
abbrev pub first_terms : {A : Type 0} → ℕ → List (Layer A) → ℕ
first_terms inputs [] = inputs
first_terms inputs (layer ∷ layers) = length layer.terms

-- the wires of a circuit at a level
abbrev pub level_wires : {A : Type 0} → Wiring A → ℕ → ℕ
level_wires c l = first_wires (input_width c) (drop l c.layers)

-- the terms of a circuit at a level
abbrev pub level_terms : {A : Type 0} → Wiring A → ℕ → ℕ
level_terms c l = first_terms (input_width c) (drop l c.layers)

-- the wires and the terms of two circuits at a level
abbrev pub both_wires : {A : Type 0} → Wiring A → Wiring A → ℕ → ℕ
both_wires c d l = level_wires c l + level_wires d l

abbrev pub both_terms : {A : Type 0} → Wiring A → Wiring A → ℕ → ℕ
both_terms c d l = level_terms c l + level_terms d l

-- the sum over n levels, the first of which is l
abbrev pub sum_levels : (ℕ → ℕ) → ℕ → ℕ → ℕ
sum_levels f l zero = 0
sum_levels f l (suc n) = sum_levels f (l + 1) n + f l

-- the layers have so many wires, the first of them as many as f says of l
abbrev pub AreWide : {A : Type 0} → (ℕ → ℕ) → ℕ → List (Layer A) → Type 0
AreWide f l [] = Unit {0}
AreWide f l (layer ∷ layers) = (layer.wires ≡ f l) × AreWide f (l + 1) layers

-- and at most so many terms
abbrev pub AreShort : {A : Type 0} → (ℕ → ℕ) → ℕ → List (Layer A) → Type 0
AreShort f l [] = Unit {0}
AreShort f l (layer ∷ layers) = (length layer.terms ≤ f l) × AreShort f (l + 1) layers

-- the terms of each layer may stand there in a circuit of this version, over the wires below
abbrev pub AreAllStanding : {A : Type 0} → Ops A → ℕ → ℕ → List (Layer A) → Type 0
AreAllStanding o version inputs [] = Unit {0}
AreAllStanding o version inputs (layer ∷ layers) =
    ArePlaced layer.wires (under_of inputs layers).width None layer.terms
    × MayEachStand o version None layer.terms
    × AreAllStanding o version inputs layers

-- as many levels as the circuit with more layers has
abbrev pub level_count : {A : Type 0} → Wiring A → Wiring A → ℕ
level_count c d = max (length c.layers) (length d.layers)

-- two circuits keep the limits of one where they stand side by side
pub record FitBeside {A : Type 0} (c d : Wiring A) : Type 0 where
  pub each : (l : ℕ) → l < level_count c d → both_wires c d l ≤ most_wires
  pub wires : sum_levels (both_wires c d) 0 (level_count c d) ≤ most_total
  pub terms : sum_levels (both_terms c d) 0 (level_count c d) ≤ most_total

-- A whole is as large as two circuits side by side: it has their wires at each level, and at most their terms. So
-- whether a third fits beside the whole is told by the sizes of the three.
pub record IsSizedBeside {A : Type 0} (c d whole : Wiring A) : Type 0 where
  pub depth : length whole.layers ≡ level_count c d
  pub wires : (l : ℕ) → l < level_count c d → level_wires whole l ≡ both_wires c d l
  pub terms : (l : ℕ) → l < level_count c d → level_terms whole l ≤ both_terms c d l

-- a circuit of this version may have parts of these versions
abbrev pub MayHaveParts : {A : Type 0} → ℕ → Wiring A → Wiring A → Type 0
MayHaveParts version c d = version ≡ 1 → (c.version ≡ 1) × (d.version ≡ 1)

-- the layers of two circuits side by side, over so many inputs of the whole: how many there are, how large they are,
-- and that their terms are in their places
pub record AreLevels {A : Type 0} (o : Ops A) (version inputs : ℕ) (c d : Wiring A) (layers : List (Layer A))
    : Type 0 where
  pub count : length layers ≡ level_count c d
  pub each : AreWide (both_wires c d) 0 layers
  pub short : AreShort (both_terms c d) 0 layers
  pub wires : (under_of inputs layers).wires ≡ sum_levels (both_wires c d) 0 (length layers)
  pub terms : (under_of inputs layers).terms ≤ sum_levels (both_terms c d) 0 (length layers)
  pub placed : AreAllStanding o version inputs layers

-- values of the wires below level l of two circuits, under these numbers among the values below, over these inputs
pub record AreJoinedValues {A : Type 0} (o : Ops A) (c d : Wiring A) (l : ℕ) (left right : List ℕ)
    (x y below : List A) : Type 0 where
  pub first_count : length x ≡ input_width c
  pub first_one : entry o x 0 ≡ o.one
  pub second_count : length y ≡ input_width d
  pub second_one : entry o y 0 ≡ o.one
  pub left_below : AreNumbersBelow (length below) left
  pub right_below : AreNumbersBelow (length below) right
  pub left_copies : AreCopies o left (wires_of o (drop (l + 1) c.layers) x) below
  pub right_copies : AreCopies o right (wires_of o (drop (l + 1) d.layers) y) below

-- a fault is answered only where they do not keep the limits
abbrev pub IsCause : {A : Type 0} → Wiring A → Wiring A → BesideError → Type 0
IsCause c d (Fault fault) = FitBeside c d → ⊥
IsCause c d OutOfMemory = Unit {0}
