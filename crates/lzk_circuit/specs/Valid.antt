-- Which circuits are valid.
use Rattle.std.specs.Prelude.{◌≡◌, ◌≢◌, ◌⊎◌, ℕ, ◌+◌, ◌<◌, ◌≤◌, ◌==◌, ◌&&◌, ◌||◌, nat_lt, Bool, true, IsTrue, Option, Some, None, List, [], ◌∷◌, ◌++◌, length, map}
use Rattle.lzk_circuit.specs.declared.layer.Term.{Term}
use Rattle.lzk_circuit.specs.declared.layer.Layer.{Layer}
use Rattle.lzk_circuit.specs.Limits.{most_publics, most_privates, most_layers, most_wires, most_total}
use Rattle.lzk_field.specs.Ring.{Ops}

-- a circuit: its version, its numbers of inputs, and its layers, the outputs' first
pub record Wiring (A : Type 0) : Type 0 where
  pub version : ℕ
  pub publics : ℕ
  pub privates : ℕ
  pub layers : List (Layer A)

abbrev pub wiring_of : {A : Type 0} → ℕ → ℕ → ℕ → List (Layer A) → Wiring A
wiring_of version publics privates layers = record {
  version = version;
  publics = publics;
  privates = privates;
  layers = layers;
}

-- a circuit of version 1
abbrev pub wiring : {A : Type 0} → ℕ → ℕ → List (Layer A) → Wiring A
wiring publics privates layers = wiring_of 1 publics privates layers

-- how many wires the input layer has: the one, and the inputs
abbrev pub input_width : {A : Type 0} → Wiring A → ℕ
input_width c = 1 + c.publics + c.privates

-- what the layers below a place are: the width of the uppermost, and the wires and terms of all together, the input
-- layer's not counted
pub record Under : Type 0 where
  pub width : ℕ
  pub wires : ℕ
  pub terms : ℕ

-- below the last layer stand the inputs alone
abbrev pub above_inputs : ℕ → Under
above_inputs inputs = record { width = inputs; wires = 0; terms = 0 }

abbrev pub above_layer : {A : Type 0} → Under → Layer A → Under
above_layer under layer = record {
  width = layer.wires;
  wires = under.wires + layer.wires;
  terms = under.terms + length layer.terms;
}

abbrev pub under_of : {A : Type 0} → ℕ → List (Layer A) → Under
under_of inputs [] = above_inputs inputs
under_of inputs (layer ∷ layers) = above_layer (under_of inputs layers) layer

-- t comes before u by (g, a, b)
abbrev pub precedes : {A : Type 0} → Term A → Term A → Bool
precedes t u = nat_lt t.g u.g || ((t.g == u.g) && (nat_lt t.a u.a || ((t.a == u.a) && nat_lt t.b u.b)))

-- t may stand behind the term before it
abbrev pub follows : {A : Type 0} → Option (Term A) → Term A → Bool
follows None t = true
follows (Some s) t = precedes s t

-- A term is in its place, in a layer with so many wires over a layer with so many: its wire is there, and the two below
-- it, of which b is no earlier than a. Of its coefficient nothing is said.
pub record IsPlaced {A : Type 0} (wires width : ℕ) (t : Term A) : Type 0 where
  pub g : t.g < wires
  pub a : t.a ≤ t.b
  pub b : t.b < width

-- each is in its place, and comes after the one before it
abbrev pub ArePlaced : {A : Type 0} → ℕ → ℕ → Option (Term A) → List (Term A) → Type 0
ArePlaced wires width before [] = Unit {0}
ArePlaced wires width before (t ∷ ts) =
    IsPlaced wires width t × IsTrue (follows before t) × ArePlaced wires width (Some t) ts

-- the terms of each layer are in their places over the layer below, those of the last one over so many inputs
abbrev pub AreLayersPlaced : {A : Type 0} → ℕ → List (Layer A) → Type 0
AreLayersPlaced inputs [] = Unit {0}
AreLayersPlaced inputs (layer ∷ layers) =
    ArePlaced layer.wires (under_of inputs layers).width None layer.terms × AreLayersPlaced inputs layers

-- a term of version 1, of a layer with so many wires, over a layer with so many: it is in its place, and its
-- coefficient is not 0
pub record IsTerm {A : Type 0} (o : Ops A) (wires width : ℕ) (t : Term A) : Type 0 where
  pub g : t.g < wires
  pub a : t.a ≤ t.b
  pub b : t.b < width
  pub coef : t.coef ≢ o.zero

-- each is a term, and comes after the one before it
abbrev pub AreTerms : {A : Type 0} → Ops A → ℕ → ℕ → Option (Term A) → List (Term A) → Type 0
AreTerms o wires width before [] = Unit {0}
AreTerms o wires width before (t ∷ ts) =
    IsTerm o wires width t × IsTrue (follows before t) × AreTerms o wires width (Some t) ts

pub record IsLayer {A : Type 0} (o : Ops A) (under : Under) (layer : Layer A) : Type 0 where
  pub some : 1 ≤ layer.wires
  pub most : layer.wires ≤ most_wires
  pub wires : under.wires + layer.wires ≤ most_total
  pub terms : under.terms + length layer.terms ≤ most_total
  pub each : AreTerms o layer.wires under.width None layer.terms

-- Each layer stands on the one below it, the last one on the inputs. These are the layers of version 1.
abbrev pub AreLayers : {A : Type 0} → Ops A → ℕ → List (Layer A) → Type 0
AreLayers o inputs [] = Unit {0}
AreLayers o inputs (layer ∷ layers) = IsLayer o (under_of inputs layers) layer × AreLayers o inputs layers

-- Where one of two terms of one wire has the coefficient 0, the two do not stand behind each other. As terms ascend, a
-- term with coefficient 0 is thereby the only one of its wire.
abbrev pub AreApart : {A : Type 0} → Ops A → Option (Term A) → Term A → Type 0
AreApart o None t = Unit {0}
AreApart o (Some s) t = s.g ≡ t.g → (s.coef ≢ o.zero) × (t.coef ≢ o.zero)

-- The coefficient of a term may stand behind that of the term before it: in version 1 it is not 0, and in version 2 it
-- may be, apart from other terms of its wire.
pub record MayStand {A : Type 0} (o : Ops A) (version : ℕ) (before : Option (Term A)) (t : Term A) : Type 0 where
  pub nonzero : version ≡ 1 → t.coef ≢ o.zero
  pub apart : version ≢ 1 → AreApart o before t

-- each coefficient may stand behind the one before it
abbrev pub MayEachStand : {A : Type 0} → Ops A → ℕ → Option (Term A) → List (Term A) → Type 0
MayEachStand o version before [] = Unit {0}
MayEachStand o version before (t ∷ ts) = MayStand o version before t × MayEachStand o version (Some t) ts

-- a layer of a circuit of this version, over the layers below
pub record IsLayerOf {A : Type 0} (o : Ops A) (version : ℕ) (under : Under) (layer : Layer A) : Type 0 where
  pub some : 1 ≤ layer.wires
  pub most : layer.wires ≤ most_wires
  pub wires : under.wires + layer.wires ≤ most_total
  pub terms : under.terms + length layer.terms ≤ most_total
  pub each : ArePlaced layer.wires under.width None layer.terms
  pub coefs : MayEachStand o version None layer.terms

abbrev pub AreLayersOf : {A : Type 0} → Ops A → ℕ → ℕ → List (Layer A) → Type 0
AreLayersOf o version inputs [] = Unit {0}
AreLayersOf o version inputs (layer ∷ layers) =
    IsLayerOf o version (under_of inputs layers) layer × AreLayersOf o version inputs layers

pub record IsValid {A : Type 0} (o : Ops A) (c : Wiring A) : Type 0 where
  pub version : (c.version ≡ 1) ⊎ (c.version ≡ 2)
  pub publics : c.publics ≤ most_publics
  pub privates : c.privates ≤ most_privates
  pub some : 1 ≤ length c.layers
  pub depth : length c.layers ≤ most_layers
  pub layers : AreLayersOf o c.version (input_width c) c.layers

-- how wide the layers are, and the input layer last
abbrev pub widths : {A : Type 0} → Wiring A → List ℕ
widths c = map (λ layer. layer.wires) c.layers ++ input_width c ∷ []

-- as many lists as layers and one for the inputs, each as long as its layer is wide
abbrev pub HaveWidths : {A : Type 0} → Wiring A → List (List A) → Type 0
HaveWidths c values = map length values ≡ widths c
