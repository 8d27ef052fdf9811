-- The first fault of terms and of layers, one step at a time.
use Rattle.std.specs.Result.{IfOk, IsErrAnd}
use Rattle.std.specs.Prelude.{◌≡◌, ℕ, ◌+◌, Result, Ok, Err, Option, Some, None, List, [], ◌∷◌, length, drop}
use Rattle.std.proofs.Common.{◌≤◌, zero, suc, ◌<◌, Bool, true, false, leb, ◌&&◌, refl, sym, ap, ◌∙◌, arith, subst, get_or}
use Rattle.std.proofs.lemmas.List.{drop_more, drop_all}
use Rattle.std.proofs.lemmas.Bool.{and_parts, leb-true}
use Rattle.lzk_circuit.specs.Limits.{most_wires, most_total}
use Rattle.lzk_circuit.specs.declared.layer.Term.{Term}
use Rattle.lzk_circuit.specs.declared.layer.Layer.{Layer}
use Rattle.lzk_circuit.specs.declared.fault.CircuitKind.{CircuitKind}
use Rattle.lzk_circuit.specs.declared.fault.CircuitFault.{CircuitFault}
use Rattle.lzk_circuit.specs.Valid.{Under, under_of}
use Rattle.lzk_circuit.specs.Faults.{unless, over_limit, first_of, term_fault, at_term, terms_fault, limits_fault, layer_fault, layers_fault}

-- what an arm that is no Some tells
pub no_some : {X : Type 0} (o : Option X) → ((x : X) → o ≡ Some x → ⊥) → o ≡ None
no_some None h = refl
no_some (Some x) h = absurd (h x refl)

-- a call that failed has nothing to say of what it made
pub not-if-ok : {T E : Type 0} (P : T → Type 0) (r : Result T E) (Q : E → Type 0) → IsErrAnd r Q → IfOk r P
not-if-ok P (Ok x) Q h = absurd h
not-if-ok P (Err e) Q h = tt

-- the items from one on
pub from_here : {X : Type 0} (xs : List X) (i : ℕ) (x : X) → i < length xs → x ≡ get_or xs i x → drop i xs ≡ x ∷ drop (i + 1) xs
from_here xs i x lt is = drop_more xs i x lt ∙ ap (λ y. y ∷ drop (i + 1) xs) (sym is)

-- what is within the limits
pub limits-within : (l under_wires under_terms wires terms : ℕ) → limits_fault l under_wires under_terms wires terms ≡ None → (under_wires + wires ≤ most_total) × (under_terms + terms ≤ most_total)
limits-within l under_wires under_terms wires terms e =
    let all = holds (leb 1 wires && (leb wires most_wires && (leb (under_wires + wires) most_total && leb (under_terms + terms) most_total))) e in
    let some = and_parts (leb 1 wires) (leb wires most_wires && (leb (under_wires + wires) most_total && leb (under_terms + terms) most_total)) all in
    let more = and_parts (leb wires most_wires) (leb (under_wires + wires) most_total && leb (under_terms + terms) most_total) some.1 in
    let both = and_parts (leb (under_wires + wires) most_total) (leb (under_terms + terms) most_total) more.1 in
    (leb-true _ _ both.0, leb-true _ _ both.1)
  where
    holds : (b : Bool) → unless b (over_limit l) ≡ None → b ≡ true
    holds true h = refl
    holds false h = absurd cc

module _ {A : Type 0} (number : A → ℕ) (version : ℕ) where
  pub terms-end : (l wires width i : ℕ) (before : Option (Term A)) (ts : List (Term A)) (all : Option CircuitFault) → length ts ≤ i → terms_fault number version l wires width before i (drop i ts) ≡ all → all ≡ None
  terms-end l wires width i before ts all le h = sym h ∙ ap (terms_fault number version l wires width before i) (drop_all i ts le)

  pub term-passes : (l wires width i : ℕ) (before : Option (Term A)) (ts rest : List (Term A)) (t : Term A) (all : Option CircuitFault) → drop i ts ≡ t ∷ rest → term_fault number version wires width before t ≡ None
      → terms_fault number version l wires width before i (drop i ts) ≡ all → terms_fault number version l wires width (Some t) (i + 1) rest ≡ all
  term-passes l wires width i before ts rest t all front none h =
      sym (ap (λ f. first_of (at_term l i f) (terms_fault number version l wires width (Some t) (i + 1) rest)) none) ∙ sym (ap (terms_fault number version l wires width before i) front) ∙ h

  pub term-fails : (l wires width i : ℕ) (before : Option (Term A)) (ts rest : List (Term A)) (t : Term A) (all : Option CircuitFault) (kind : CircuitKind) → drop i ts ≡ t ∷ rest → term_fault number version wires width before t ≡ Some kind
      → terms_fault number version l wires width before i (drop i ts) ≡ all → all ≡ Some (record { kind = kind; layer = l; place = i })
  term-fails l wires width i before ts rest t all kind front some h =
      sym h ∙ ap (terms_fault number version l wires width before i) front ∙ ap (λ f. first_of (at_term l i f) (terms_fault number version l wires width (Some t) (i + 1) rest)) some

  -- a fault of the layers from one on is the first of all
  pub layers-fail : (inputs k l m : ℕ) (layers : List (Layer A)) (fault : CircuitFault) → m ≡ k + l → layers_fault number version inputs m (drop l layers) ≡ Some fault → layers_fault number version inputs k layers ≡ Some fault
  layers-fail inputs k zero m layers fault e h = let e' : m ≡ k = omega arith in subst (λ n. layers_fault number version inputs n layers ≡ Some fault) e' h
  layers-fail inputs k (suc l) m [] fault e h = cc
  layers-fail inputs k (suc l) m (layer ∷ layers) fault e h =
      ap (λ f. first_of f (layer_fault number version k (under_of inputs layers) layer)) (layers-fail inputs (k + 1) l m layers fault (omega arith) h)

  -- the layers from one on, where those behind it have no fault
  pub layer-first : (inputs l : ℕ) (under : Under) (layer : Layer A) (layers rest : List (Layer A)) → drop l layers ≡ layer ∷ rest → layers_fault number version inputs (l + 1) rest ≡ None → under_of inputs rest ≡ under
      → layers_fault number version inputs l (drop l layers) ≡ layer_fault number version l under layer
  layer-first inputs l under layer layers rest front none is =
      ap (layers_fault number version inputs l) front ∙ ap (λ f. first_of f (layer_fault number version l (under_of inputs rest) layer)) none ∙ ap (λ u. layer_fault number version l u layer) is

  pub limits-fail : (l : ℕ) (under : Under) (layer : Layer A) (fault : CircuitFault) → limits_fault l under.wires under.terms layer.wires (length layer.terms) ≡ Some fault → layer_fault number version l under layer ≡ Some fault
  limits-fail l under layer fault h = ap (λ f. first_of f (terms_fault number version l layer.wires under.width None 0 layer.terms)) h

  pub limits-pass : (l : ℕ) (under : Under) (layer : Layer A) (fault : Option CircuitFault) → limits_fault l under.wires under.terms layer.wires (length layer.terms) ≡ None
      → terms_fault number version l layer.wires under.width None 0 layer.terms ≡ fault → layer_fault number version l under layer ≡ fault
  limits-pass l under layer fault none h = ap (λ f. first_of f (terms_fault number version l layer.wires under.width None 0 layer.terms)) none ∙ h

  -- the layer at a place stops the walk down to it
  pub walk-fails : (inputs l : ℕ) (under : Under) (layer : Layer A) (layers : List (Layer A)) (fault : CircuitFault) → l < length layers → layer ≡ get_or layers l layer
      → layers_fault number version inputs (l + 1) (drop (l + 1) layers) ≡ None → under_of inputs (drop (l + 1) layers) ≡ under → layer_fault number version l under layer ≡ Some fault → layers_fault number version inputs 0 layers ≡ Some fault
  walk-fails inputs l under layer layers fault h is none below e =
      let front : drop l layers ≡ layer ∷ drop (l + 1) layers = drop_more layers l layer h ∙ ap (λ x. x ∷ drop (l + 1) layers) (sym is) in
      layers-fail inputs 0 l l layers fault (omega arith) (layer-first inputs l under layer layers (drop (l + 1) layers) front none below ∙ e)
