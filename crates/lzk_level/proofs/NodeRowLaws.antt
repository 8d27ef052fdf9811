-- The rows of gates, and of the nodes that a level needs.
use Rattle.std.specs.Prelude.{◌≡◌, ℕ, ◌-◌, ◌<◌, ◌≤◌, min, max, true, List, [], ◌∷◌, length}
use Rattle.std.proofs.Common.{zero, suc, inl, inr, refl, sym, ap, ap₂, ◌∙◌, arith, subst, get_or}
use Rattle.std.proofs.lemmas.Bool.{cases_lt}
use Rattle.lzk_field.specs.Ring.{Ops, RingLaws, FieldLaws}
use Rattle.lzk_field.specs.Sums.{entry}
use Rattle.lzk_field.proofs.RingBasics.{one_times}
use Rattle.lzk_circuit.specs.declared.layer.Term.{Term}
use Rattle.lzk_circuit_reduce.specs.Rows.{term_value, ordered}
use Rattle.lzk_circuit_reduce.specs.Renumbering.{at}
use Rattle.lzk_circuit_reduce.proofs.RowLaws.{row-of-one}
use Rattle.lzk_level.specs.Gates.{Gate, Constant, Combine, Mul}
use Rattle.lzk_level.specs.Nodes.{AreGates}
use Rattle.lzk_level.specs.Levels.{has_wire, AreDepths}
use Rattle.lzk_level.proofs.Unshared.{place_in, width_of, AreLast, AreRows, AreAllRows, IsSingle, IsSumOf, IsGateRow, IsNodeRow, AreWirePlaces}
use Rattle.lzk_level.proofs.LevelLaws.{place-below, wire-there}
use Rattle.lzk_level.proofs.NodeLaws.{gate-counts, copy-counts, first-one, heavy, gate-short, factors-below, gate-facts}

module _ {A : Type 0} (o : Ops A) where
  pub all-rows : (width : ℕ) (rows : List (List (Term A))) → AreRows o width rows → AreAllRows o width rows
  all-rows width [] h k = tt
  all-rows width (r ∷ rs) h zero = h 0 (omega arith)
  all-rows width (r ∷ rs) h (suc k) = all-rows width rs (λ i l. h (suc i) (omega (arith, l))) k

module _ {A : Type 0} (o : Ops A) (r : RingLaws o) (places : List ℕ) (rows : List (List (Term A))) where
  pub constant-row : (c : A) (row : List (Term A)) → IsSingle o c 0 0 row → IsGateRow o places rows (Constant c) row
  constant-row c row s = record {
    terms = λ width some all factors. s.terms width (omega (arith, some)) (omega (arith, some));
    value = λ below one.
        s.value below ∙ ap (λ x. o.times c (o.times x (entry o below 0))) one ∙ ap (λ x. o.times c (o.times o.one x)) one ∙ ap (o.times c) (r.times_one o.one) ∙ r.times_one c;
    short = s.short;
  }

  pub sum-row : (parts : List (A × ℕ)) (row : List (Term A)) → IsSumOf o rows parts row → IsGateRow o places rows (Combine parts) row
  sum-row parts row s = record { terms = λ width some all factors. s.terms width all; value = λ below one. s.value below; short = s.short }

  pub product-row : (c : A) (x y : ℕ) (row : List (Term A)) → c ≡ o.one → IsSingle o c (at places x) (at places y) row → IsGateRow o places rows (Mul x y) row
  product-row c x y row is s = record {
    terms = λ width some all factors. s.terms width factors.0 factors.1;
    value = λ below one.
        let factors = o.times (entry o below (at places x)) (entry o below (at places y)) in
        s.value below ∙ ap (λ k. o.times k factors) is ∙ one_times o r factors;
    short = s.short;
  }

module _ {A : Type 0} (o : Ops A) (r : RingLaws o) (f : FieldLaws o) (made : List (Gate A)) (depths last : List ℕ) (inputs level : ℕ)
    (some : 1 ≤ level) (most : level ≤ at last 0) (first : 1 ≤ inputs) (gates : AreGates (inputs - 1) made) (d : AreDepths inputs made depths) (w : AreLast inputs made depths last)
    (places : List ℕ) (are_places : AreWirePlaces depths last (level - 1) places) (rows : List (List (Term A))) where
  zero_depth : at depths 0 ≡ 0
  zero_depth = d.at_inputs 0 (omega (arith, first))

  first_wire : has_wire depths last (level - 1) 0 ≡ true
  first_wire = wire-there depths last (level - 1) 0 (omega (arith, zero_depth)) (omega (arith, most, some))

  -- a node that is less deep goes on from below
  pub copied : (row : List (Term A)) → length rows < length depths → at depths (length rows) < level → level ≤ at last (length rows)
      → row ≡ ordered o.one 0 (at places (length rows)) ∷ [] → IsNodeRow o inputs made depths last level rows row
  copied row next deep need is =
      let k = length rows in
      let p = place_in depths last (level - 1) k in
      let low : 0 < width_of depths last (level - 1) = omega (arith, place-below depths last (level - 1) 0 (length depths) (omega (arith, next)) first_wire) in
      let here : has_wire depths last (level - 1) k ≡ true = wire-there depths last (level - 1) k (omega (arith, deep)) (omega (arith, need, some)) in
      let high : p < width_of depths last (level - 1) = place-below depths last (level - 1) k (length depths) next here in
      let placed : row ≡ ordered o.one 0 p ∷ [] = is ∙ ap (λ n. ordered o.one 0 n ∷ []) (are_places.1 k next here) in
      let lesser : min 0 p ≡ 0 = omega arith in
      let greater : max 0 p ≡ p = omega arith in
      subst (IsNodeRow o inputs made depths last level rows) (sym placed) (record {
        terms = λ all. row-of-one o (width_of depths last (level - 1)) (ordered o.one 0 p) refl (omega arith) (omega (arith, low, high)) f.one_not_zero;
        value = λ values wires v s counted l needed.
            let one = first-one o r inputs made depths last (level - 1) values wires first (omega (arith, most, some)) d v s in
            r.plus_zero (term_value o wires (ordered o.one 0 p)) ∙ ap₂ (λ a b. o.times o.one (o.times (entry o wires a) (entry o wires b))) lesser greater
            ∙ copy-counts o r wires p o.one (entry o values k) one refl (s.each k next here);
        short = λ weights h short. ((λ less. omega arith), (λ behind. omega (arith, heavy inputs made weights k first h gates behind (omega (arith, next, d.count)))));
        one = λ none. ap (λ n. ordered o.one 0 n ∷ []) (ap (place_in depths last (level - 1)) none);
      })

  -- and one of this depth has the row of its gate
  pub gated : (gate : Gate A) (row : List (Term A)) → length rows < length depths → at depths (length rows) ≤ level → level ≤ at depths (length rows) → level ≤ at last (length rows)
      → gate ≡ get_or made (length rows - inputs) gate → IsGateRow o places rows gate row → IsNodeRow o inputs made depths last level rows row
  gated gate row next up least need is n =
      let k = length rows in
      let behind : inputs ≤ k = elim (cases_lt k inputs) [ inl before ↦ absurd (omega (arith, d.at_inputs k before, some, least)) | inr after ↦ after ] in
      let facts = gate-facts o inputs made depths last level k gate first d w need gates some up least next is in
      record {
        terms = λ all.
            n.terms (width_of depths last (level - 1)) (omega (arith, place-below depths last (level - 1) 0 (length depths) (omega (arith, next)) first_wire)) (all-rows o (width_of depths last (level - 1)) rows all)
            (factors-below depths last places (k - 1) level gate some (omega (arith, next)) facts.is_gate facts.depth facts.needed are_places);
        value = λ values wires v s counted l needed.
            n.value wires (first-one o r inputs made depths last (level - 1) values wires first (omega (arith, most, some)) d v s)
            ∙ gate-counts o r depths last places level values wires rows gate some (omega (arith, next)) counted s are_places facts.is_gate facts.depth facts.needed ∙ facts.value values v;
        short = λ weights h short.
            let lighter = gate-short level depths weights rows gate short facts.is_gate in
            ((λ less. absurd (omega (arith, less, least))), (λ some. omega (arith, n.short, lighter, facts.weight weights h)));
        one = λ none. absurd (omega (arith, none, behind, first));
      }
