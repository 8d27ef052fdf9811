-- Nodes within the limits have their layers.
use Rattle.std.specs.Prelude.{◌≡◌, ℕ, ◌+◌, ◌-◌, ◌<◌, ◌≤◌, None, List, [], ◌∷◌, ◌++◌, length, map, replicate}
use Rattle.std.proofs.Common.{zero, suc, inl, inr, refl, ap, ◌∙◌, arith, subst, get_or}
use Rattle.std.proofs.lemmas.Bool.{cases_Bool}
use Rattle.std.proofs.lemmas.List.{length-append, length-map, length-replicate, get_or-replicate, take_all}
use Rattle.lzk_profile.specs.Profile.{most_wires}
use Rattle.lzk_field.specs.Ring.{Ops, RingLaws, FieldLaws}
use Rattle.lzk_circuit.specs.declared.layer.Term.{Term}
use Rattle.lzk_circuit.specs.declared.layer.Layer.{Layer}
use Rattle.lzk_circuit.specs.Valid.{AreTerms}
use Rattle.lzk_circuit_reduce.specs.Rows.{placed}
use Rattle.lzk_circuit_reduce.specs.Renumbering.{at}
use Rattle.lzk_circuit_reduce.proofs.AppendLaws.{stacked-terms, stacked-before, stacked-added}
use Rattle.lzk_circuit_reduce.proofs.NormalLaws.{ZeroOrNot}
use Rattle.lzk_level.specs.Gates.{Gate, Constant, Combine, Mul}
use Rattle.lzk_level.specs.Nodes.{ArePartsOf, IsGate, AreGates}
use Rattle.lzk_level.specs.Levels.{has_wire, AreDepths}
use Rattle.lzk_level.proofs.Unshared.{place_in, width_of, row_at, AreLast, AreNeeded, ArePartsNeeded, lengths_in, lengths_of, AreStacked}
use Rattle.lzk_level.proofs.InnerLaws.{Inner, inner-starts, inner-skips, inner-adds, Outer, outer-starts, outer-adds}
use Rattle.lzk_level.proofs.NodeLaws.{gate-at}
use Rattle.lzk_level.proofs.OneLaws.{has-one}
use Rattle.lzk_level.proofs.SomeLevelRows.{level-rows}
use Rattle.lzk_level.proofs.TowerLaws.{Tower, tower-starts, tower-adds, tower-ends}

module _ {A : Type 0} where
  -- a gate over the first nodes is one over more
  more-parts : (m n : ℕ) (ps : List (A × ℕ)) → m ≤ n → ArePartsOf m ps → ArePartsOf n ps
  more-parts m n [] l h = tt
  more-parts m n (p ∷ ps) l h = let node = h.0 in ((node.0, omega (arith, node.1, l)), more-parts m n ps l h.1)

  more-nodes : (m n : ℕ) (gate : Gate A) → m ≤ n → IsGate m gate → IsGate n gate
  more-nodes m n (Constant c) l h = tt
  more-nodes m n (Combine parts) l h = (h.0, more-parts m n parts l h.1)
  more-nodes m n (Mul x y) l h =
      let left = h.0 in
      let right = h.1 in
      ((left.0, omega (arith, left.1, l)), (right.0, omega (arith, right.1, l)))

module _ {A : Type 0} (o : Ops A) (r : RingLaws o) (rows : List (List (Term A))) where
  -- the terms of an inner layer
  record InnerTerms (depths last : List ℕ) (level k : ℕ) : Type 0 where
    pub wires : ℕ
    pub terms : List (Term A)
    pub are : Inner o depths last level rows k wires terms

  inner-to : (depths last : List ℕ) (level k : ℕ) → k ≤ length rows → InnerTerms depths last level k
  inner-to depths last level zero l = record { wires = 0; terms = []; are = inner-starts o depths last level rows }
  inner-to depths last level (suc k) l =
      let i = inner-to depths last level k (omega (arith, l)) in
      let row = row_at rows k in
      elim (cases_Bool (has_wire depths last level k)) [
        | inr away ↦ record { wires = i.wires; terms = i.terms; are = inner-skips o depths last level rows k i.wires i.terms away i.are }
        | inl here ↦ record {
          wires = i.wires + 1;
          terms = i.terms ++ map (placed i.wires) row;
          are = inner-adds o depths last level rows k i.wires i.terms (i.terms ++ map (placed i.wires) row) row here (omega (arith, l)) refl
              (λ width h w. stacked-terms o i.wires width i.terms row h w) (λ below j m. stacked-before o r i.wires j below i.terms row m) (λ below h w. stacked-added o r i.wires below i.terms row h w)
              (length-append i.terms (map (placed i.wires) row) ∙ ap (λ n. length i.terms + n) (length-map row (placed i.wires))) refl i.are;
        }
      ]

  -- the terms of the outputs' layer
  record OuterTerms (outputs : List ℕ) (g : ℕ) : Type 0 where
    pub terms : List (Term A)
    pub are : Outer o rows outputs g terms

  outer-to : (outputs : List ℕ) → (g : ℕ) → g ≤ length outputs → OuterTerms outputs g
  outer-to outputs zero l = record { terms = []; are = outer-starts o rows outputs }
  outer-to outputs (suc g) l =
      let i = outer-to outputs g (omega (arith, l)) in
      let row = row_at rows (at outputs g) in
      let next : g + 1 ≡ suc g = omega arith in
      record {
        terms = i.terms ++ map (placed g) row;
        are = subst (λ n. Outer o rows outputs n (i.terms ++ map (placed g) row)) next
            (outer-adds o rows outputs g i.terms (i.terms ++ map (placed g) row) row (omega (arith, l)) refl (λ width h w. stacked-terms o g width i.terms row h w)
            (λ below j m. stacked-before o r g j below i.terms row m) (λ below h w. stacked-added o r g below i.terms row h w) (length-append i.terms (map (placed g) row) ∙ ap (λ n. length i.terms + n) (length-map row (placed g))) i.are);
      }

pub at-flat : (n m k : ℕ) → k < n → at (replicate n m) k ≡ m
at-flat n m k l = get_or-replicate n k m 0 l

-- every node is needed up to the uppermost level
module _ {A : Type 0} where
  parts-needed : (n level count : ℕ) (ps : List (A × ℕ)) → level ≤ count → ArePartsOf n ps → ArePartsNeeded (replicate (suc n) count) level ps
  parts-needed n level count [] up h = tt
  parts-needed n level count (p ∷ ps) up h = let node = h.0 in (omega (arith, up, at-flat (suc n) count p.1 (omega (arith, node.1))), parts-needed n level count ps up h.1)

  gate-needed : (n level count : ℕ) (gate : Gate A) → level ≤ count → IsGate n gate → AreNeeded (replicate (suc n) count) level gate
  gate-needed n level count (Constant c) up h = tt
  gate-needed n level count (Combine parts) up h = parts-needed n level count parts up h.1
  gate-needed n level count (Mul x y) up h =
      let left = h.0 in
      let right = h.1 in
      (omega (arith, up, at-flat (suc n) count x (omega (arith, left.1))), omega (arith, up, at-flat (suc n) count y (omega (arith, right.1))))

  flat-last : (inputs count : ℕ) (made : List (Gate A)) (depths : List ℕ) → 1 ≤ inputs → 1 ≤ count → AreGates (inputs - 1) made → AreDepths inputs made depths → AreLast inputs made depths (replicate (length depths) count)
  flat-last inputs count made depths first some gates d =
      let long : suc (length depths - 1) ≡ length depths = omega (arith, first, d.count) in
      record {
        count = length-replicate (length depths) count;
        at_inputs = λ k l. omega (arith, some, at-flat (length depths) count k (omega (arith, l, d.count)));
        gates = λ i g li up.
            let gate = get_or made i g in
            let level = at depths (inputs + i) in
            subst (λ n. AreNeeded (replicate n count) level gate) long
            (gate-needed (length depths - 1) level count gate (omega (arith, up, at-flat (length depths) count (inputs + i) (omega (arith, li, d.count))))
            (more-nodes (inputs - 1 + i) (length depths - 1) gate (omega (arith, li, d.count, first)) (gate-at (inputs - 1) i made g gates li)));
      }

module _ {A : Type 0} (o : Ops A) (r : RingLaws o) (f : FieldLaws o) (decide : ZeroOrNot o) (made : List (Gate A)) (depths : List ℕ) (inputs : ℕ)
    (first : 1 ≤ inputs) (gates : AreGates (inputs - 1) made) (d : AreDepths inputs made depths) (few : length depths ≤ most_wires) where
  tower-to : (last : List ℕ) (level : ℕ) → AreLast inputs made depths last → level < at last 0 → (layers : List (Layer A)) × Tower o inputs made depths last level layers
  tower-to last zero w high = ([], tower-starts o inputs made depths last d w)
  tower-to last (suc n) w high =
      let (layers, t) = tower-to last n w (omega (arith, high)) in
      let level = suc n in
      let some : 1 ≤ level = omega arith in
      let back : n ≡ level - 1 = omega arith in
      let (rows, are) = level-rows o r f decide made depths last inputs level some (omega (arith, high)) first gates d w in
      let i = inner-to o r rows depths last level (length rows) (omega arith) in
      let layer : Layer A = record { wires = i.wires; terms = i.terms } in
      let wires : i.wires ≡ width_of depths last level = i.are.next ∙ ap (place_in depths last level) are.count in (
        layers ++ layer ∷ [],
        tower-adds o inputs made depths last level layers (layers ++ layer ∷ []) layer rows some few first high d refl are.count are.terms are.value are.short
            wires (λ width h. subst (λ k. AreTerms o k width None i.terms) wires (i.are.ordered width h)) (λ below h k l up. i.are.each below h k (omega (arith, l, are.count)) up) (i.are.count ∙ ap (lengths_in depths last level rows) are.count)
            (has-one o depths last level rows (length rows) i.terms (d.at_inputs 0 (omega (arith, first))) high (omega arith) i.are.one (are.one (omega (arith, first, d.count)))) (subst (λ k. Tower o inputs made depths last k layers) back t),
      )

  -- the layers for outputs
  pub topped : (count : ℕ) (outputs : List ℕ) → 1 ≤ count → length outputs ≤ most_wires → ((i : ℕ) → i < length outputs → at outputs i < length depths) → ((i : ℕ) → i < length outputs → at depths (at outputs i) ≤ count)
      → (layers : List (Layer A)) × AreStacked o inputs made depths (replicate (length depths) count) count outputs layers
  topped count outputs some most nodes deep =
      let last = replicate (length depths) count in
      let w = flat-last inputs count made depths first some gates d in
      let top : at last 0 ≡ count = at-flat (length depths) count 0 (omega (arith, first, d.count)) in
      let (layers, t) = tower-to last (count - 1) w (omega (arith, some, top)) in
      let (rows, are) = level-rows o r f decide made depths last inputs count some (omega (arith, top)) first gates d w in
      let i = outer-to o r rows outputs (length outputs) (omega arith) in
      let layer : Layer A = record { wires = length outputs; terms = i.terms } in (
        layers ++ layer ∷ [],
        tower-ends o inputs made depths last count layers (layers ++ layer ∷ []) layer rows outputs some first gates d refl are.count are.terms refl most are.value are.short
            i.are.ordered i.are.each (i.are.count ∙ ap (lengths_of rows) (take_all (length outputs) outputs (omega arith))) nodes deep (λ i l. omega (arith, at-flat (length depths) count (at outputs i) (nodes i l))) t,
      )
