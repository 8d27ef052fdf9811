-- The row of a node, by the rows and wires below.
use Rattle.std.specs.Prelude.{◌≡◌, ℕ, ◌+◌, ◌-◌, ◌<◌, ◌≤◌, true, List, [], ◌∷◌, length, map}
use Rattle.std.proofs.Common.{zero, suc, inl, inr, refl, sym, ap, ◌∙◌, arith, subst, get_or}
use Rattle.std.proofs.lemmas.Bool.{cases_lt}
use Rattle.lzk_field.specs.Ring.{Ops, RingLaws}
use Rattle.lzk_field.specs.Sums.{entry}
use Rattle.lzk_field.proofs.RingBasics.{one_times}
use Rattle.lzk_circuit.specs.declared.layer.Term.{Term}
use Rattle.lzk_level.specs.Gates.{Gate, Constant, Combine, Mul}
use Rattle.lzk_level.specs.Nodes.{combined, gate_value, ArePartsOf, IsGate, AreGates}
use Rattle.lzk_circuit_reduce.specs.Renumbering.{at}
use Rattle.lzk_level.specs.Bounds.{at_parts, total, greatest, gate_depth, gate_weight}
use Rattle.lzk_circuit_reduce.specs.Rows.{row_value}
use Rattle.lzk_level.specs.Levels.{AreDepths, AreWeights, AreValues, has_wire}
use Rattle.lzk_level.proofs.Unshared.{width_of, AreShort, AreFactorsBelow, AreNeeded, ArePartsNeeded, AreLast, HaveValues, Stands, placed_value, AreWirePlaces}
use Rattle.lzk_level.proofs.CombineLaws.{value-at, length-at}
use Rattle.lzk_level.proofs.LevelLaws.{place-below, wire-there}

module _ {A : Type 0} where
  pub gate-at : (n i : ℕ) (made : List (Gate A)) (d : Gate A) → AreGates n made → i < length made → IsGate (n + i) (get_or made i d)
  gate-at n i [] d h l = absurd (omega (arith, l))
  gate-at n zero (g ∷ gs) d h l = let e : n ≡ n + 0 = omega arith in subst (λ m. IsGate m g) e h.0
  gate-at n (suc i) (g ∷ gs) d h l = let e : n + 1 + i ≡ n + suc i = omega arith in subst (λ m. IsGate m (get_or gs i d)) e (gate-at (n + 1) i gs d h.1 (omega (arith, l)))

  -- the parts are no deeper than the level
  abbrev AllOf : List ℕ → ℕ → List (A × ℕ) → Type 0
  AllOf depths level [] = Unit {0}
  AllOf depths level (p ∷ ps) = (at depths p.1 ≤ level) × AllOf depths level ps

  parts-depth : (depths : List ℕ) (ps : List (A × ℕ)) (level : ℕ) → greatest 1 (at_parts depths ps) ≤ level → AllOf depths level ps
  parts-depth depths [] level h = tt
  parts-depth depths (p ∷ ps) level h = (omega (arith, h), parts-depth depths ps level (omega (arith, h)))

  -- so many places, none at or behind the width
  pub factors-below : (depths last below : List ℕ) (n level : ℕ) (gate : Gate A) → 1 ≤ level → n < length depths → IsGate n gate → gate_depth depths gate ≤ level → AreNeeded last level gate → AreWirePlaces depths last (level - 1) below → AreFactorsBelow (width_of depths last (level - 1)) below gate
  factors-below depths last below n level (Constant c) some l h d need p = tt
  factors-below depths last below n level (Combine parts) some l h d need p = tt
  factors-below depths last below n level (Mul x y) some l h d need p =
      let left = h.0 in
      let right = h.1 in
      let dx = wire-there depths last (level - 1) x (omega (arith, d)) (omega (arith, need.0, some)) in
      let dy = wire-there depths last (level - 1) y (omega (arith, d)) (omega (arith, need.1, some)) in (
        subst (λ q. q < width_of depths last (level - 1)) (sym (p.1 x (omega (arith, l, left.1)) dx)) (place-below depths last (level - 1) x (length depths) (omega (arith, l, left.1)) dx),
        subst (λ q. q < width_of depths last (level - 1)) (sym (p.1 y (omega (arith, l, right.1)) dy)) (place-below depths last (level - 1) y (length depths) (omega (arith, l, right.1)) dy),
      )

  lighter : (level : ℕ) (depths weights : List ℕ) (rows : List (List (Term A))) (ps : List (A × ℕ)) → AreShort depths level weights rows → ArePartsOf (length rows - 1) ps → total (at_parts (map length rows) ps) ≤ total (at_parts weights ps)
  lighter level depths weights rows [] s h = omega arith
  lighter level depths weights rows (p ∷ ps) s h =
      let node = h.0 in
      let first = (s p.1 (omega (arith, node.0, node.1))).1 node.0 in
      omega (arith, length-at rows p.1, first, lighter level depths weights rows ps s h.1)

  -- a row is no longer than its gate is heavy
  pub gate-short : (level : ℕ) (depths weights : List ℕ) (rows : List (List (Term A))) (gate : Gate A) → AreShort depths level weights rows → IsGate (length rows - 1) gate → gate_weight (map length rows) gate ≤ gate_weight weights gate
  gate-short level depths weights rows (Constant c) s h = omega arith
  gate-short level depths weights rows (Combine parts) s h = lighter level depths weights rows parts s h.1
  gate-short level depths weights rows (Mul x y) s h = omega arith

  some-weight : (weights : List ℕ) (m : ℕ) (gate : Gate A) → ((k : ℕ) → 1 ≤ k → k ≤ m → 1 ≤ at weights k) → IsGate m gate → 1 ≤ gate_weight weights gate
  some-weight weights m (Constant c) f h = omega arith
  some-weight weights m (Combine []) f h = absurd (omega (arith, h.0))
  some-weight weights m (Combine (p ∷ ps)) f h = let node = h.1.0 in omega (arith, f p.1 node.0 node.1)
  some-weight weights m (Mul x y) f h = omega arith

  -- every node has some weight
  heavy-below : (inputs : ℕ) (made : List (Gate A)) (weights : List ℕ) → 1 ≤ inputs → AreWeights inputs made weights → AreGates (inputs - 1) made → (n k : ℕ) → k < n → 1 ≤ k → k < inputs + length made → 1 ≤ at weights k
  heavy-below inputs made weights some w h zero k l one m = absurd (omega (arith, l))
  heavy-below inputs made weights some w h (suc n) k l one m = elim (cases_lt k inputs) [
    | inl before ↦ omega (arith, w.at_inputs k one before)
    | inr after ↦
        let i = k - inputs in
        let li : i < length made = omega (arith, after, m) in
        let e : inputs + i ≡ k = omega (arith, after) in
        let gate = get_or made i (Mul 0 0) in
        let is : at weights k ≡ gate_weight weights gate = ap (at weights) (sym e) ∙ w.gates i (Mul 0 0) li in
        omega (arith, is, some-weight weights (inputs - 1 + i) gate (λ j one' le. heavy-below inputs made weights some w h n j (omega (arith, le, l, e, some)) one' (omega (arith, le, m, e, some))) (gate-at (inputs - 1) i made (Mul 0 0) h li))
  ]

  pub heavy : (inputs : ℕ) (made : List (Gate A)) (weights : List ℕ) (k : ℕ) → 1 ≤ inputs → AreWeights inputs made weights → AreGates (inputs - 1) made → 1 ≤ k → k < inputs + length made → 1 ≤ at weights k
  heavy inputs made weights k some w h one m = heavy-below inputs made weights some w h (suc k) k (omega arith) one m

module _ {A : Type 0} (o : Ops A) (r : RingLaws o) where
  same-combined : (depths last : List ℕ) (level : ℕ) (values wires : List A) (rows : List (List (Term A))) (ps : List (A × ℕ)) → HaveValues o depths last level values wires rows → AllOf depths level ps → ArePartsNeeded last level ps → ArePartsOf (length rows - 1) ps
      → combined o (map (row_value o wires) rows) ps ≡ combined o values ps
  same-combined depths last level values wires rows [] v d need h = refl
  same-combined depths last level values wires rows (p ∷ ps) v d need h =
      let node = h.0 in
      ap (λ w. o.plus (o.times p.0 w) (combined o (map (row_value o wires) rows) ps)) (value-at o r wires rows p.1 ∙ v p.1 (omega (arith, node.0, node.1)) d.0 need.0)
      ∙ ap (o.plus (o.times p.0 (entry o values p.1))) (same-combined depths last level values wires rows ps v d.1 need.1 h.1)

  -- by the rows and wires below, a gate counts its value
  pub gate-counts : (depths last below : List ℕ) (level : ℕ) (values wires : List A) (rows : List (List (Term A))) (gate : Gate A) → 1 ≤ level → length rows ≤ length depths → HaveValues o depths last level values wires rows → Stands o depths last (level - 1) values wires
      → AreWirePlaces depths last (level - 1) below → IsGate (length rows - 1) gate → gate_depth depths gate ≤ level → AreNeeded last level gate → placed_value o (map (row_value o wires) rows) below wires gate ≡ gate_value o values gate
  gate-counts depths last below level values wires rows (Constant c) some l v s p h d need = refl
  gate-counts depths last below level values wires rows (Combine parts) some l v s p h d need = same-combined depths last level values wires rows parts v (parts-depth depths parts level d) need h.1
  gate-counts depths last below level values wires rows (Mul x y) some l v s p h d need =
      let left = h.0 in
      let right = h.1 in
      let wire : (k : ℕ) → k < length depths → has_wire depths last (level - 1) k ≡ true → entry o wires (at below k) ≡ entry o values k = λ k lk dk. ap (entry o wires) (p.1 k lk dk) ∙ s.each k lk dk in
      ap (λ w. o.times w (entry o wires (at below y))) (wire x (omega (arith, l, left.0, left.1)) (wire-there depths last (level - 1) x (omega (arith, d)) (omega (arith, need.0, some))))
      ∙ ap (o.times (entry o values x)) (wire y (omega (arith, l, right.0, right.1)) (wire-there depths last (level - 1) y (omega (arith, d)) (omega (arith, need.1, some))))

  -- the first wire is the one
  pub first-one : (inputs : ℕ) (made : List (Gate A)) (depths last : List ℕ) (level : ℕ) (values wires : List A) → 1 ≤ inputs → level < at last 0 → AreDepths inputs made depths → AreValues o inputs made values → Stands o depths last level values wires → entry o wires 0 ≡ o.one
  first-one inputs made depths last level values wires some high d v s =
      let zero_depth : at depths 0 ≡ 0 = d.at_inputs 0 (omega (arith, some)) in
      s.each 0 (omega (arith, some, d.count)) (wire-there depths last level 0 (omega (arith, zero_depth)) high) ∙ v.one

  -- one term goes on from below
  pub copy-counts : (wires : List A) (p : ℕ) (x y : A) → entry o wires 0 ≡ o.one → x ≡ o.one → entry o wires p ≡ y → o.times x (o.times (entry o wires 0) (entry o wires p)) ≡ y
  copy-counts wires p x y one e is =
      ap (λ w. o.times w (o.times (entry o wires 0) (entry o wires p))) e ∙ one_times o r _ ∙ ap (λ w. o.times w (entry o wires p)) one ∙ one_times o r (entry o wires p) ∙ is

module _ {A : Type 0} (o : Ops A) where
  -- what is known of the gate of node k in the level of its depth
  pub record GateFacts (inputs : ℕ) (made : List (Gate A)) (depths last : List ℕ) (level k : ℕ) (gate : Gate A) : Type 0 where
    pub is_gate : IsGate (k - 1) gate
    pub depth : gate_depth depths gate ≤ level
    pub needed : AreNeeded last level gate
    pub value : (values : List A) → AreValues o inputs made values → gate_value o values gate ≡ entry o values k
    pub weight : (weights : List ℕ) → AreWeights inputs made weights → gate_weight weights gate ≡ at weights k

  pub gate-facts : (inputs : ℕ) (made : List (Gate A)) (depths last : List ℕ) (level k : ℕ) (gate : Gate A) → 1 ≤ inputs → AreDepths inputs made depths → AreLast inputs made depths last → level ≤ at last k → AreGates (inputs - 1) made → 1 ≤ level → at depths k ≤ level → level ≤ at depths k
      → k < length depths → gate ≡ get_or made (k - inputs) gate → GateFacts inputs made depths last level k gate
  gate-facts inputs made depths last level k gate some d w high h one most least l is =
      let behind : inputs ≤ k = elim (cases_lt k inputs) [ inl before ↦ absurd (omega (arith, d.at_inputs k before, one, least)) | inr after ↦ after ] in
      let i = k - inputs in
      let li : i < length made = omega (arith, behind, l, d.count) in
      let place : inputs + i ≡ k = omega (arith, behind) in
      let below : inputs - 1 + i ≡ k - 1 = omega (arith, behind, some) in
      let same : at depths (inputs + i) ≡ level = omega (arith, ap (at depths) place, most, least) in
      record {
        is_gate = subst (λ n. IsGate n gate) below (subst (IsGate (inputs - 1 + i)) (sym is) (gate-at (inputs - 1) i made gate h li));
        depth = omega (arith, most, sym (ap (at depths) (sym place) ∙ d.gates i gate li ∙ ap (gate_depth depths) (sym is)));
        needed = subst (λ n. AreNeeded last n gate) same (subst (AreNeeded last (at depths (inputs + i))) (sym is) (w.gates i gate li (omega (arith, same, ap (at last) place, high))));
        value = λ values v. sym (ap (entry o values) (sym place) ∙ v.gates i gate li ∙ ap (gate_value o values) (sym is));
        weight = λ weights w. sym (ap (at weights) (sym place) ∙ w.gates i gate li ∙ ap (gate_weight weights) (sym is));
      }
