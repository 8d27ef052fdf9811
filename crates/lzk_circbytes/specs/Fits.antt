-- What the parts of a circuit's file are like, over what the parts before them left.
use Rattle.std.specs.Prelude.{◌≡◌, ℕ, ◌+◌, ◌^◌, ◌<◌, ◌≤◌, List, [], ◌∷◌, ◌++◌, length, Option, None, true, IsTrue, nat_eq}
use Rattle.std.specs.Int.{w32, to_le_bytes}
use Rattle.std.specs.List.{list_any}
use Rattle.lzk_profile.specs.Profile.{file_letter}
use Rattle.lzk_circuit.specs.Limits.{most_publics, most_privates, most_layers, most_wires, most_total}
use Rattle.lzk_circuit.specs.declared.layer.Term.{Term}
use Rattle.lzk_circuit.specs.declared.layer.Layer.{Layer}
use Rattle.lzk_circuit.specs.Valid.{Under, above_inputs, above_layer, Wiring}
use Rattle.lzk_circuit.specs.Faults.{are_apart}
use Rattle.lzk_circbytes.specs.Numbered.{Shape, is_coefficient, coefs_of}
use Rattle.lzk_circbytes.specs.Reading.{stands_behind, wire_before, as_before, as_last}
use Rattle.lzk_circbytes.specs.Spelling.{index_of, constants_bytes}

-- each item fits what the items before it left
abbrev pub FitAlong : {S A : Type 0} → (S → A → S) → (S → A → Type 0) → S → List A → Type 0
FitAlong next Fits s [] = Unit {0}
FitAlong next Fits s (x ∷ xs) = Fits s x × FitAlong next Fits (next s x) xs

pub record FitsTerm (coefs : List ℕ) (wires below : ℕ) (before : Option (Term ℕ)) (t : Term ℕ) : Type 0 where
  pub g : t.g < wires
  pub a : t.a ≤ t.b
  pub b : t.b < below
  pub rising : wire_before before ≤ t.g
  pub behind : stands_behind before t.g t.a t.b ≡ true
  pub number : index_of coefs t.coef < length coefs
  pub apart : are_apart (λ n. n) before t ≡ true

pub record FitsLayer (coefs : List ℕ) (under : Under) (l : Layer ℕ) : Type 0 where
  pub some : 1 ≤ l.wires
  pub wires : l.wires ≤ most_wires
  pub all_wires : under.wires + l.wires ≤ most_total
  pub all_terms : under.terms + length l.terms ≤ most_total
  pub terms : FitAlong as_before (FitsTerm coefs l.wires under.width) None l.terms

pub record FitsConstant (shape : Shape) (before c : ℕ) : Type 0 where
  pub above : before < c
  pub below : c < shape.size

-- constants that rise from above 0 to below the field's size
abbrev pub AreConstants : Shape → ℕ → List ℕ → Type 0
AreConstants shape before cs = FitAlong as_last (FitsConstant shape) before cs

-- what stands behind the field's byte, with these constants and with the layers from the inputs up
pub record FitsWiring (shape : Shape) (version publics privates : ℕ) (layers : List (Layer ℕ))
    (cs : List ℕ) : Type 0 where
  pub few_publics : publics ≤ most_publics
  pub few_privates : privates ≤ most_privates
  pub some : 1 ≤ length layers
  pub depth : length layers ≤ most_layers
  pub few_constants : length cs ≤ most_total
  pub rising : AreConstants shape 0 cs
  pub each : FitAlong above_layer (FitsLayer (coefs_of version cs)) (above_inputs (1 + publics + privates)) layers
  -- each constant is a coefficient
  pub used : (c : ℕ) → IsTrue (list_any (nat_eq c) cs) → IsTrue (is_coefficient layers c)

-- what lets a term be written behind the one before: its steps are no less than 0, and its coefficient is a constant
pub record CanWrite (coefs : List ℕ) (before : Option (Term ℕ)) (t : Term ℕ) : Type 0 where
  pub rising : wire_before before ≤ t.g
  pub a : t.a ≤ t.b
  pub number : index_of coefs t.coef < length coefs

abbrev pub CanWriteAll : List ℕ → List (Term ℕ) → Type 0
CanWriteAll coefs terms = FitAlong as_before (CanWrite coefs) None terms

-- the layers' terms can be written
abbrev pub CanWriteLayers : List ℕ → List (Layer ℕ) → Type 0
CanWriteLayers coefs [] = Unit {0}
CanWriteLayers coefs (layer ∷ layers) =
    CanWriteAll coefs layer.terms × (length layer.terms < 2 ^ 32) × CanWriteLayers coefs layers

-- all that stands before the layers
abbrev pub head_bytes : Shape → Wiring ℕ → List ℕ → List ℕ
head_bytes shape c cs =
    76 ∷ file_letter ∷ 67 ∷ (48 + c.version) ∷ shape.id ∷ (to_le_bytes w32 c.publics ++ (to_le_bytes w32 c.privates
    ++ (to_le_bytes w32 (length c.layers) ++ (to_le_bytes w32 (length cs) ++ constants_bytes shape cs))))
