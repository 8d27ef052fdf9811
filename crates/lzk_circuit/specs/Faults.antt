-- The first fault of layers that make no valid circuit, in the order in which they are checked.
use Rattle.std.specs.Prelude.{ℕ, ◌+◌, ◌==◌, ◌&&◌, ◌||◌, nat_lt, nat_le, not, true, Bool, cond, Option, Some, None, List, [], ◌∷◌, length}
use Rattle.lzk_circuit.specs.declared.layer.Term.{Term}
use Rattle.lzk_circuit.specs.declared.layer.Layer.{Layer}
use Rattle.lzk_circuit.specs.declared.fault.CircuitKind.{CircuitKind}
use Rattle.lzk_circuit.specs.declared.fault.CircuitKind.TheVariants.{Range, Order, ZeroCoef, Limit, Assertion}
use Rattle.lzk_circuit.specs.declared.fault.CircuitFault.{CircuitFault}
use Rattle.lzk_circuit.specs.Limits.{most_publics, most_privates, most_layers, most_wires, most_total}
use Rattle.lzk_circuit.specs.Valid.{Under, under_of, follows}

-- the first of two faults
abbrev pub first_of : {X : Type 0} → Option X → Option X → Option X
first_of None y = y
first_of (Some x) y = Some x

-- a fault of this kind, unless the check holds
abbrev pub unless : {X : Type 0} → Bool → X → Option X
unless holds fault = cond holds None (Some fault)

abbrev pub over_limit : ℕ → CircuitFault
over_limit layer = record { kind = Limit; layer = layer; place = 0 }

-- not both of one wire, or neither has the coefficient 0
abbrev pub are_apart : {A : Type 0} → (A → ℕ) → Option (Term A) → Term A → Bool
are_apart number None t = true
are_apart number (Some s) t = not (s.g == t.g) || (not (number s.coef == 0) && not (number t.coef == 0))

-- version 1 takes no coefficient 0, version 2 takes one that is apart
abbrev pub coef_fault : {A : Type 0} → (A → ℕ) → ℕ → Option (Term A) → Term A → Option CircuitKind
coef_fault number version before t =
    cond (version == 1) (unless (not (number t.coef == 0)) ZeroCoef) (unless (are_apart number before t) Assertion)

abbrev pub term_fault : {A : Type 0} → (A → ℕ) → ℕ → ℕ → ℕ → Option (Term A) → Term A → Option CircuitKind
term_fault number version wires width before t =
    first_of (unless (nat_lt t.g wires && (nat_le t.a t.b && nat_lt t.b width)) Range)
    (first_of (unless (follows before t) Order) (coef_fault number version before t))

abbrev pub at_term : ℕ → ℕ → Option CircuitKind → Option CircuitFault
at_term layer place None = None
at_term layer place (Some kind) = Some (record { kind = kind; layer = layer; place = place })

-- the first fault of terms, the first of which has this place
abbrev pub terms_fault : {A : Type 0} → (A → ℕ) → ℕ → ℕ → ℕ → ℕ → Option (Term A) → ℕ → List (Term A)
    → Option CircuitFault
terms_fault number version layer wires width before place [] = None
terms_fault number version layer wires width before place (t ∷ ts) =
    first_of (at_term layer place (term_fault number version wires width before t))
    (terms_fault number version layer wires width (Some t) (place + 1) ts)

abbrev pub limits_fault : ℕ → ℕ → ℕ → ℕ → ℕ → Option CircuitFault
limits_fault l under_wires under_terms wires terms =
    unless (nat_le 1 wires &&
    (nat_le wires most_wires && (nat_le (under_wires + wires) most_total && nat_le (under_terms + terms) most_total)))
    (over_limit l)

abbrev pub layer_fault : {A : Type 0} → (A → ℕ) → ℕ → ℕ → Under → Layer A → Option CircuitFault
layer_fault number version l under layer =
    first_of (limits_fault l under.wires under.terms layer.wires (length layer.terms))
    (terms_fault number version l layer.wires under.width None 0 layer.terms)

-- the first fault of layers, the first of which has this number: the last one is checked first
abbrev pub layers_fault : {A : Type 0} → (A → ℕ) → ℕ → ℕ → ℕ → List (Layer A) → Option CircuitFault
layers_fault number version inputs l [] = None
layers_fault number version inputs l (layer ∷ layers) =
    first_of (layers_fault number version inputs (l + 1) layers)
    (layer_fault number version l (under_of inputs layers) layer)

abbrev pub counts_fault : ℕ → ℕ → ℕ → Option CircuitFault
counts_fault publics privates depth =
    unless
    (nat_le publics most_publics && (nat_le privates most_privates && (nat_le 1 depth && nat_le depth most_layers)))
    (over_limit 0)

abbrev pub first_fault : {A : Type 0} → (A → ℕ) → ℕ → ℕ → ℕ → List (Layer A) → Option CircuitFault
first_fault number version publics privates layers =
    first_of (counts_fault publics privates (length layers))
    (layers_fault number version (1 + publics + privates) 0 layers)
