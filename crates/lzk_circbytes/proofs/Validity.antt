-- What a file's reader takes is what is valid.
use Rattle.std.proofs.Common.{◌≡◌, ◌≢◌, ℕ, suc, cond, ◌<◌, ◌≤◌, true, false, ltb, eqb, ◌||◌, ◌&&◌, List, [], ◌∷◌, length, map, Option, Some, None, refl, sym, ap, subst, ◌∙◌, arith, inl, inr, ltb-true}
use Rattle.std.specs.Option.{option_map}
use Rattle.std.specs.List.{list_any, AllByRecursion}
use mathlib.Core.List.{reverse_aux}
use Rattle.std.proofs.lemmas.Bool.{eqb-true, eqb-false, eq-eqb, ne_eqb, or_left, or_right, or_cases, and_parts}
use Rattle.std.proofs.lemmas.List.{length-map}
use Rattle.lzk_field.specs.Ring.{Ops, NumberLaws}
use Rattle.lzk_circuit.specs.declared.layer.Term.{Term}
use Rattle.lzk_circuit.specs.declared.layer.Layer.{Layer}
use Rattle.lzk_circuit.specs.Valid.{Under, above_inputs, above_layer, under_of, follows, ArePlaced, MayStand, MayEachStand, IsLayerOf, AreLayersOf}
use Rattle.lzk_circuit.specs.Faults.{are_apart}
use Rattle.lzk_circuit.proofs.ValidLaws.{apart-from, apart-to}
use Rattle.lzk_circbytes.specs.Numbered.{Shape, shape, numbered_term, numbered_layer, coefs_of}
use Rattle.lzk_circbytes.specs.Reading.{stands_behind, wire_before, as_before}
use Rattle.lzk_circbytes.specs.Spelling.{index_of}
use Rattle.lzk_circbytes.specs.Fits.{FitAlong, FitsTerm, FitsLayer, AreConstants}
use Rattle.lzk_circbytes.proofs.Ascending.{Above, Has, above_each}

-- ---- where a number stands in a list

pub index_has : (cs : List ℕ) (n : ℕ) → index_of cs n < length cs → Has cs n
index_has [] n lt = absurd (omega arith)
index_has (x ∷ cs) n lt =
    elim (eqb x n) as (λ b. eqb x n ≡ b → Has (x ∷ cs) n) [
      | true ↦ λ e. or_left (eqb n x) (list_any (eqb n) cs) (eq-eqb n x (sym (eqb-true x n e)))
      | false ↦ λ e. or_right (eqb n x) (list_any (eqb n) cs) (index_has cs n (later x cs n lt e))
    ] refl
  where
    later : (y : ℕ) (ys : List ℕ) (k : ℕ) → index_of (y ∷ ys) k < length (y ∷ ys) → eqb y k ≡ false → index_of ys k < length ys
    later y ys k less e = let step : index_of (y ∷ ys) k ≡ suc (index_of ys k) = rw e refl in omega (arith, less, step)

pub has_index : (cs : List ℕ) (n : ℕ) → Has cs n → index_of cs n < length cs
has_index [] n e = absurd cc
has_index (x ∷ cs) n e =
    elim (eqb x n) as (λ b. eqb x n ≡ b → index_of (x ∷ cs) n < length (x ∷ cs)) [
      | true ↦ λ same. let here : index_of (x ∷ cs) n ≡ 0 = rw same refl in omega (arith, here)
      | false ↦ λ other.
          let step : index_of (x ∷ cs) n ≡ suc (index_of cs n) = rw other refl in
          let rest : Has cs n =
          elim (or_cases (eqb n x) (list_any (eqb n) cs) e) [ inl same ↦ absurd (eqb-false x n other (sym (eqb-true n x same))) | inr later ↦ later ] in
          omega (arith, step, has_index cs n rest)
    ] refl

-- ---- constants

pub Above-constants : (shape : Shape) (m : ℕ) (cs : List ℕ) → AreConstants shape m cs → Above m cs
Above-constants shape m [] h = tt
Above-constants shape m (c ∷ cs) h = (h.0.above, Above-constants shape c cs h.1)

pub constants-from_Above : (shape : Shape) (m : ℕ) (cs : List ℕ) → Above m cs → ((n : ℕ) → Has cs n → n < shape.size) → AreConstants shape m cs
constants-from_Above shape m [] h small = tt
constants-from_Above shape m (c ∷ cs) h small = (
  record { above = h.0; below = small c (or_left (eqb c c) (list_any (eqb c) cs) (eq-eqb c c refl)) },
  constants-from_Above shape c cs h.1 (λ n e. small n (or_right (eqb n c) (list_any (eqb n) cs) e)),
)

-- ---- terms and layers

module _ {A : Type 0} (o : Ops A) (number : A → ℕ) where
  stands : (before : Option (Term A)) (t : Term A) → stands_behind (option_map (numbered_term number) before) t.g t.a t.b ≡ follows before t
  stands None t = refl
  stands (Some s) t = refl

  rises : (before : Option (Term A)) (t : Term A) → follows before t ≡ true → wire_before (option_map (numbered_term number) before) ≤ t.g
  rises None t h = omega arith
  rises (Some s) t h =
      elim (or_cases (ltb s.g t.g) (eqb s.g t.g && (ltb s.a t.a || (eqb s.a t.a && ltb s.b t.b))) h) [
        | inl less ↦ omega (arith, ltb-true s.g t.g less)
        | inr same ↦ omega (arith, eqb-true s.g t.g (and_parts (eqb s.g t.g) (ltb s.a t.a || (eqb s.a t.a && ltb s.b t.b)) same).0)
      ]

  -- each coefficient is one of the constants
  abbrev pub AreIn : List ℕ → List (Term A) → Type 0
  AreIn cs terms = AllByRecursion (λ t. Has cs (number t.coef)) terms

  abbrev pub AreAllIn : List ℕ → List (Layer A) → Type 0
  AreAllIn cs layers = AllByRecursion (λ layer. AreIn cs layer.terms) layers

  module _ (size : ℕ) (element : ℕ → A) (bytes : ℕ) (laws : NumberLaws o size number element bytes) (version : ℕ) where
    -- whether a coefficient is 0 is seen by its number
    apart_same : (before : Option (Term A)) (t : Term A) → are_apart (λ n. n) (option_map (numbered_term number) before) (numbered_term number t) ≡ are_apart number before t
    apart_same None t = refl
    apart_same (Some s) t = refl

    stand_valid : (cs : List ℕ) → Above 0 cs → (wires below : ℕ) (before : Option (Term A)) (t : Term A)
        → FitsTerm (coefs_of version cs) wires below (option_map (numbered_term number) before) (numbered_term number t) → MayStand o version before t
    stand_valid cs up wires below before t h = record {
      nonzero = λ one e.
          let other : eqb version 2 ≡ false = ne_eqb version 2 (λ two. omega (arith, one, two)) in
          let found : index_of cs (number t.coef) < length cs = subst (λ b. index_of (cond b (0 ∷ cs) cs) (number t.coef) < length (cond b (0 ∷ cs) cs)) other h.number in
          omega (arith, above_each 0 cs (number t.coef) up (index_has cs (number t.coef) found), ap number e, laws.zero_number);
      apart = λ two. apart-from o size number element bytes laws before t (sym (apart_same before t) ∙ h.apart);
    }

    pub terms_valid : (cs : List ℕ) → Above 0 cs → (wires below : ℕ) (before : Option (Term A)) (terms : List (Term A))
        → FitAlong as_before (FitsTerm (coefs_of version cs) wires below) (option_map (numbered_term number) before) (map (numbered_term number) terms)
        → ArePlaced wires below before terms × MayEachStand o version before terms
    terms_valid cs up wires below before [] h = (tt, tt)
    terms_valid cs up wires below before (t ∷ ts) h =
        let rest = terms_valid cs up wires below (Some t) ts h.1 in
        ((record { g = h.0.g; a = h.0.a; b = h.0.b }, sym (stands before t) ∙ h.0.behind, rest.0), (stand_valid cs up wires below before t h.0, rest.1))

    -- terms of which each is apart from the one before it
    pub terms_fit : (cs : List ℕ) (wires below : ℕ) (before : Option (Term A)) (terms : List (Term A)) → ArePlaced wires below before terms → MayEachStand o 2 before terms → AreIn cs terms
        → FitAlong as_before (FitsTerm cs wires below) (option_map (numbered_term number) before) (map (numbered_term number) terms)
    terms_fit cs wires below before [] h coefs in_cs = tt
    terms_fit cs wires below before (t ∷ ts) h coefs in_cs =
        let stands_there = coefs.0 in (
          record {
            g = h.0.g;
            a = h.0.a;
            b = h.0.b;
            rising = rises before t h.1;
            behind = stands before t ∙ h.1;
            number = has_index cs (number t.coef) in_cs.0;
            apart = apart_same before t ∙ apart-to o size number element bytes laws before t (stands_there.apart two_not_one);
          },
          terms_fit cs wires below (Some t) ts h.2 coefs.1 in_cs.1,
        )
      where
        two_not_one : ◌≢◌ {A = ℕ} 2 1
        two_not_one e = omega (arith, e)

    pub layer_valid : (cs : List ℕ) → Above 0 cs → (under : Under) (layer : Layer A) → FitsLayer (coefs_of version cs) under (numbered_layer number layer) → IsLayerOf o version under layer
    layer_valid cs up under layer h =
        let each = terms_valid cs up layer.wires under.width None layer.terms h.terms in
        record {
          some = h.some;
          most = h.wires;
          wires = h.all_wires;
          terms = omega (arith, h.all_terms, length-map layer.terms (numbered_term number));
          each = each.0;
          coefs = each.1;
        }

    pub layer_fits : (cs : List ℕ) (under : Under) (layer : Layer A) → IsLayerOf o 2 under layer → AreIn cs layer.terms → FitsLayer cs under (numbered_layer number layer)
    layer_fits cs under layer h in_cs = record {
      some = h.some;
      wires = h.most;
      all_wires = h.wires;
      all_terms = omega (arith, h.terms, length-map layer.terms (numbered_term number));
      terms = terms_fit cs layer.wires under.width None layer.terms h.each h.coefs in_cs;
    }

    pub under_same : (inputs : ℕ) (layers : List (Layer A)) → under_of inputs (map (numbered_layer number) layers) ≡ under_of inputs layers
    under_same inputs [] = refl
    under_same inputs (layer ∷ layers) =
        let ih = under_same inputs layers in
        let e : length (map (numbered_term number) layer.terms) ≡ length layer.terms = length-map layer.terms (numbered_term number) in
        rw (ih, e) refl

    pub layers_valid : (cs : List ℕ) → Above 0 cs → (inputs : ℕ) (layers under : List (Layer A)) → AreLayersOf o version inputs under
        → FitAlong above_layer (FitsLayer (coefs_of version cs)) (under_of inputs (map (numbered_layer number) under)) (map (numbered_layer number) layers)
        → AreLayersOf o version inputs (reverse_aux layers under)
    layers_valid cs up inputs [] under valid h = valid
    layers_valid cs up inputs (layer ∷ layers) under valid h =
        let one : IsLayerOf o version (under_of inputs under) layer = layer_valid cs up (under_of inputs under) layer (subst (λ (u : Under). FitsLayer (coefs_of version cs) u (numbered_layer number layer)) (under_same inputs under) h.0) in
        layers_valid cs up inputs layers (layer ∷ under) (one, valid) h.1

    pub layers_fit : (cs : List ℕ) (inputs : ℕ) (layers : List (Layer A)) (above : List (Layer ℕ)) → AreLayersOf o 2 inputs layers → AreAllIn cs layers
        → FitAlong above_layer (FitsLayer cs) (under_of inputs (map (numbered_layer number) layers)) above
        → FitAlong above_layer (FitsLayer cs) (above_inputs inputs) (reverse_aux (map (numbered_layer number) layers) above)
    layers_fit cs inputs [] above valid in_cs h = h
    layers_fit cs inputs (layer ∷ layers) above valid in_cs h =
        let one : FitsLayer cs (under_of inputs (map (numbered_layer number) layers)) (numbered_layer number layer) =
        subst (λ (u : Under). FitsLayer cs u (numbered_layer number layer)) (sym (under_same inputs layers)) (layer_fits cs (under_of inputs layers) layer valid.0 in_cs.0) in
        layers_fit cs inputs layers (numbered_layer number layer ∷ above) valid.1 in_cs.1 (one, h)
