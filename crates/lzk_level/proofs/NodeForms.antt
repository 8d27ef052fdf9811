-- What the forms of nodes are, gate by gate.
use Rattle.std.specs.Prelude.{◌≡◌, ℕ, ◌+◌, ◌-◌, ◌<◌, ◌≤◌, None, List, [], ◌∷◌, ◌++◌, length, take, drop, Result, Ok, Err, IfOk}
use Rattle.std.proofs.Common.{refl, sym, ap, ◌∙◌, arith, subst, get_or}
use Rattle.std.proofs.lemmas.List.{take-append-drop}
use Rattle.std.proofs.lemmas.List.Elements.{All-cons, All-nil}
use Rattle.lzk_field.specs.Ring.{Ops, RingLaws}
use Rattle.lzk_field.specs.Sums.{entry}
use Rattle.lzk_field.proofs.RingBasics.{one_times}
use Rattle.lzk_circuit.specs.declared.layer.Term.{Term}
use Rattle.lzk_circuit_reduce.specs.Renumbering.{at}
use Rattle.lzk_circuit_reduce.specs.Rows.{IsRow, AreUnder, row_value}
use Rattle.lzk_circuit_reduce.proofs.AttachedLayers.{terms-wider}
use Rattle.lzk_level.specs.Gates.{Gate, Constant, Combine, Mul}
use Rattle.lzk_level.specs.Bounds.{at_parts, total, greatest, gate_depth, gate_weight}
use Rattle.lzk_level.specs.Forms.{IsNodeForm, IsNext, IsPart, AreParts, IsProduct, IsSumForm}
use Rattle.lzk_level.specs.Levels.{AreValues, AreWeights, IsGraph}
use Rattle.lzk_level.specs.Nodes.{combined, gate_value, ArePartsOf, IsGate}
use Rattle.lzk_level.proofs.CombineLaws.{combined-append, total-parts-append}
use Rattle.lzk_level.proofs.NodeLaws.{gate-at, heavy}

module _ {A : Type 0} where
  -- each gate stands above the inputs
  some-depth : (depths : List ℕ) (gate : Gate A) → 1 ≤ gate_depth depths gate
  some-depth depths (Constant c) = omega arith
  some-depth depths (Combine parts) = some-greatest (at_parts depths parts)
    where
      some-greatest : (ns : List ℕ) → 1 ≤ greatest 1 ns
      some-greatest [] = omega arith
      some-greatest (n ∷ ns) = omega (arith, some-greatest ns)
  some-depth depths (Mul x y) = omega arith

  -- what is known of a graph's made node
  pub record MadeFacts (o : Ops A) (inputs : ℕ) (made : List (Gate A)) (depths : List ℕ) (i depth : ℕ) (gate : Gate A) : Type 0 where
    pub first : 1 ≤ inputs
    pub bottom : at depths 0 ≡ 0
    pub high : 1 ≤ depth
    pub is_gate : IsGate (inputs - 1 + i) gate
    pub depth_of : gate_depth depths gate ≡ depth
    pub value : (values : List A) → AreValues o inputs made values → gate_value o values gate ≡ entry o values (inputs + i)
    pub weight : (weights : List ℕ) → AreWeights inputs made weights → gate_weight weights gate ≡ at weights (inputs + i)

  pub made-facts : (o : Ops A) (inputs : ℕ) (made : List (Gate A)) (depths starts : List ℕ) (terms : List (Term A)) (i depth : ℕ) (gate : Gate A) → IsNext o inputs made depths starts terms i depth → gate ≡ get_or made i gate → MadeFacts o inputs made depths i depth gate
  made-facts o inputs made depths starts terms i depth gate n is =
      let g = n.graph in
      let d = g.depths_are in
      let same : gate_depth depths gate ≡ depth = ap (gate_depth depths) is ∙ sym (d.gates i gate n.there) ∙ sym n.depth_is in
      record {
        first = g.one;
        bottom = d.at_inputs 0 (omega (arith, g.one));
        high = omega (arith, some-depth depths gate, same);
        is_gate = subst (IsGate (inputs - 1 + i)) (sym is) (gate-at (inputs - 1) i made gate g.gates n.there);
        depth_of = same;
        value = λ values v. sym (v.gates i gate n.there ∙ ap (gate_value o values) (sym is));
        weight = λ weights w. sym (w.gates i gate n.there ∙ ap (gate_weight weights) (sym is));
      }

  pub next-high : (o : Ops A) (inputs : ℕ) (made : List (Gate A)) (depths starts : List ℕ) (terms : List (Term A)) (i depth : ℕ) → IsNext o inputs made depths starts terms i depth → 1 ≤ depth
  next-high o inputs made depths starts terms i depth n =
      let d = n.graph.depths_are in
      omega (arith, n.depth_is, d.gates i (Mul 0 0) n.there, some-depth depths (get_or made i (Mul 0 0)))

  -- a part is one of the graph's nodes
  pub part-within : (o : Ops A) (inputs : ℕ) (made : List (Gate A)) (depths starts : List ℕ) (terms : List (Term A)) (i depth k : ℕ) → IsNext o inputs made depths starts terms i depth → IsPart depths (inputs + i) depth k → k < length depths
  part-within o inputs made depths starts terms i depth k n p = let d = n.graph.depths_are in omega (arith, n.there, p.before, d.count)

  -- the parts of a sum stand before it, and no deeper
  pub parts-are : (depths : List ℕ) (ps : List (A × ℕ)) (m n depth : ℕ) → n ≡ m + 1 → greatest 1 (at_parts depths ps) ≤ depth → ArePartsOf m ps → AreParts depths n depth ps
  parts-are depths [] m n depth e l h = All-nil (λ (p : A × ℕ). IsPart depths n depth p.1)
  parts-are depths (p ∷ ps) m n depth e l h =
      let node = h.0 in
      All-cons (λ (q : A × ℕ). IsPart depths n depth q.1) p ps (record { some = node.0; before = omega (arith, e, node.1); most = omega (arith, l) }) (parts-are depths ps m n depth e (omega (arith, l)) h.1)

module _ {A : Type 0} (o : Ops A) (r : RingLaws o) where
  open o use {plus, times}

  -- one term in a row that had none
  pub product-of : {X E : Type 0} (result : Result X E) (c : A) (a b : ℕ) (none row : List (Term A)) → none ≡ []
      → ((width : ℕ) → IsRow o width none → a < width → b < width → IfOk result (λ _. IsRow o width row))
      → ((ns : List ℕ) (d : ℕ) → AreUnder ns d none → at ns a < d → at ns b < d → IfOk result (λ _. AreUnder ns d row))
      → ((below : List A) → IfOk result (λ _. row_value o below row ≡ plus (times c (times (entry o below a) (entry o below b))) (row_value o below none)))
      → IfOk result (λ _. length row ≤ length none + 1) → IfOk result (λ _. IsProduct o c a b row)
  product-of (Err e) c a b none row is terms under value short = tt
  product-of (Ok x) c a b none row is terms under value short = record {
    terms = λ width la lb. terms width (subst (IsRow o width) (sym is) tt) la lb;
    under = λ ns d la lb. under ns d (subst (AreUnder ns d) (sym is) (λ j t l. absurd (omega (arith, l)))) la lb;
    value = λ below.
        let product = times c (times (entry o below a) (entry o below b)) in
        value below ∙ ap (λ us. plus product (row_value o below us)) is ∙ r.plus_zero product;
    short = omega (arith, short, ap length is);
  }

  one-node : (values : List A) (c : A) (k : ℕ) → entry o values 0 ≡ o.one → times c (times (entry o values 0) (entry o values k)) ≡ times c (entry o values k)
  one-node values c k one = ap (λ x. times c (times x (entry o values k))) one ∙ ap (times c) (one_times o r (entry o values k))

  -- one part more
  value-of-part : (values : List A) (ps : List (A × ℕ)) (p : A × ℕ) → combined o values (ps ++ p ∷ []) ≡ plus (combined o values ps) (times p.0 (entry o values p.1))
  value-of-part values ps p = combined-append o r values ps (p ∷ []) ∙ ap (plus (combined o values ps)) (r.plus_zero (times p.0 (entry o values p.1)))

  weight-of-part : (weights : List ℕ) (ps : List (A × ℕ)) (p : A × ℕ) → total (at_parts weights (ps ++ p ∷ [])) ≡ total (at_parts weights ps) + at weights p.1
  weight-of-part weights ps p = total-parts-append weights ps (p ∷ []) ∙ omega arith

  pub no-parts : (inputs : ℕ) (made : List (Gate A)) (depths : List ℕ) (n depth : ℕ) → IsSumForm o inputs made depths n depth [] []
  no-parts inputs made depths n depth = record {
    terms = tt;
    under = λ j t l. absurd (omega (arith, l));
    value = λ values v. refl;
    short = λ weights w. omega arith;
  }

  -- a part that is less deep stands for itself
  pub part-below : {X E : Type 0} (result : Result X E) (inputs : ℕ) (made : List (Gate A)) (depths : List ℕ) (n depth : ℕ) (ps : List (A × ℕ)) (p : A × ℕ) (old new : List (Term A)) → IsGraph inputs made depths → n ≤ inputs + length made
      → IsPart depths n depth p.1 → at depths p.1 < depth
      → ((width : ℕ) → IsRow o width old → 0 < width → p.1 < width → IfOk result (λ _. IsRow o width new))
      → ((ns : List ℕ) (d : ℕ) → AreUnder ns d old → at ns 0 < d → at ns p.1 < d → IfOk result (λ _. AreUnder ns d new))
      → ((below : List A) → IfOk result (λ _. row_value o below new ≡ plus (times p.0 (times (entry o below 0) (entry o below p.1))) (row_value o below old)))
      → IfOk result (λ _. length new ≤ length old + 1)
      → IsSumForm o inputs made depths n depth ps old → IfOk result (λ _. IsSumForm o inputs made depths n depth (ps ++ p ∷ []) new)
  part-below (Err e) inputs made depths n depth ps p old new g top is low terms under value short s = tt
  part-below (Ok x) inputs made depths n depth ps p old new g top is low terms under value short s =
      let bottom : at depths 0 ≡ 0 = g.depths_are.at_inputs 0 (omega (arith, g.one)) in
      record {
        terms = terms n s.terms (omega (arith, is.before)) is.before;
        under = under depths depth s.under (omega (arith, bottom, low)) low;
        value = λ values v.
            value values ∙ ap (λ x. plus x (row_value o values old)) (one-node values p.0 p.1 v.one) ∙ r.plus_comm (times p.0 (entry o values p.1)) (row_value o values old)
            ∙ ap (λ x. plus x (times p.0 (entry o values p.1))) (s.value values v) ∙ sym (value-of-part values ps p);
        short = λ weights w.
            omega (arith, short, s.short weights w, weight-of-part weights ps p, heavy inputs made weights p.1 g.one w g.gates is.some (omega (arith, is.before, top)));
      }

  -- one of the same depth has its form added
  pub part-beside : {X E : Type 0} (result : Result X E) (inputs : ℕ) (made : List (Gate A)) (depths : List ℕ) (n depth : ℕ) (ps : List (A × ℕ)) (p : A × ℕ) (old new form : List (Term A))
      → IsPart depths n depth p.1 → depth ≤ at depths p.1 → IsNodeForm o inputs made depths p.1 form
      → ((width : ℕ) → IsRow o width old → IsRow o width form → IfOk result (λ _. IsRow o width new))
      → ((ns : List ℕ) (d : ℕ) → AreUnder ns d old → AreUnder ns d form → IfOk result (λ _. AreUnder ns d new))
      → ((below : List A) → IfOk result (λ _. row_value o below new ≡ plus (row_value o below old) (times p.0 (row_value o below form))))
      → IfOk result (λ _. length new ≤ length old + length form)
      → IsSumForm o inputs made depths n depth ps old → IfOk result (λ _. IsSumForm o inputs made depths n depth (ps ++ p ∷ []) new)
  part-beside (Err e) inputs made depths n depth ps p old new form is deep f terms under value short s = tt
  part-beside (Ok x) inputs made depths n depth ps p old new form is deep f terms under value short s =
      let same : at depths p.1 ≡ depth = omega (arith, is.most, deep) in
      record {
        terms = terms n s.terms (terms-wider o 1 p.1 n None form (omega (arith, is.before)) f.row);
        under = under depths depth s.under (subst (λ d. AreUnder depths d form) same f.under);
        value = λ values v.
            value values ∙ ap (λ x. plus x (times p.0 (row_value o values form))) (s.value values v) ∙ ap (λ x. plus (combined o values ps) (times p.0 x)) (f.value values v) ∙ sym (value-of-part values ps p);
        short = λ weights w. omega (arith, short, s.short weights w, weight-of-part weights ps p, f.short weights w);
      }

  -- both halves of a sum, merged
  pub sum-of-two : (inputs : ℕ) (made : List (Gate A)) (depths : List ℕ) (n depth i : ℕ) (ps front back : List (A × ℕ)) (left right sum : List (Term A)) → front ≡ take i ps → back ≡ drop i ps
      → IsSumForm o inputs made depths n depth front left → IsSumForm o inputs made depths n depth back right
      → ((width : ℕ) → IsRow o width left → IsRow o width right → IsRow o width sum)
      → ((ns : List ℕ) (d : ℕ) → AreUnder ns d left → AreUnder ns d right → AreUnder ns d sum)
      → ((below : List A) → row_value o below sum ≡ plus (row_value o below left) (row_value o below right))
      → length sum ≤ length left + length right → IsSumForm o inputs made depths n depth ps sum
  sum-of-two inputs made depths n depth i ps front back left right sum f b l m terms under value short =
      let whole : ps ≡ front ++ back = sym (ap (λ xs. xs ++ back) f ∙ ap (λ ys. take i ps ++ ys) b ∙ take-append-drop i ps) in
      record {
        terms = terms n l.terms m.terms;
        under = under depths depth l.under m.under;
        value = λ values v.
            value values ∙ ap (λ w. plus w (row_value o values right)) (l.value values v) ∙ ap (plus (combined o values front)) (m.value values v) ∙ sym (combined-append o r values front back) ∙ ap (combined o values) (sym whole);
        short = λ weights w. omega (arith, short, l.short weights w, m.short weights w, total-parts-append weights front back, ap (λ qs. total (at_parts weights qs)) whole);
      }

  module _ (inputs : ℕ) (made : List (Gate A)) (depths : List ℕ) (i depth : ℕ) where
    pub constant-form : (c : A) (row : List (Term A)) → depth ≡ at depths (inputs + i) → MadeFacts o inputs made depths i depth (Constant c) → IsProduct o c 0 0 row → IsNodeForm o inputs made depths (inputs + i) row
    constant-form c row deep f p = record {
      row = p.terms (inputs + i) (omega (arith, f.first)) (omega (arith, f.first));
      under = p.under depths (at depths (inputs + i)) (omega (arith, f.bottom, f.high, deep)) (omega (arith, f.bottom, f.high, deep));
      value = λ values v. p.value values ∙ one-node values c 0 v.one ∙ ap (times c) v.one ∙ r.times_one c ∙ f.value values v;
      short = λ weights w. omega (arith, p.short, f.weight weights w);
    }

    pub product-form : (c : A) (x y : ℕ) (row : List (Term A)) → depth ≡ at depths (inputs + i) → MadeFacts o inputs made depths i depth (Mul x y) → c ≡ o.one → IsProduct o c x y row → IsNodeForm o inputs made depths (inputs + i) row
    product-form c x y row deep f one p =
        let left = f.is_gate.0 in
        let right = f.is_gate.1 in
        record {
          row = p.terms (inputs + i) (omega (arith, f.first, left.1)) (omega (arith, f.first, right.1));
          under = p.under depths (at depths (inputs + i)) (omega (arith, f.depth_of, deep)) (omega (arith, f.depth_of, deep));
          value = λ values v. p.value values ∙ ap (λ k. times k (times (entry o values x) (entry o values y))) one ∙ one_times o r (times (entry o values x) (entry o values y)) ∙ f.value values v;
          short = λ weights w. omega (arith, p.short, f.weight weights w);
        }

    pub sum-form : (ps : List (A × ℕ)) (row : List (Term A)) → depth ≡ at depths (inputs + i) → MadeFacts o inputs made depths i depth (Combine ps) → IsSumForm o inputs made depths (inputs + i) depth ps row → IsNodeForm o inputs made depths (inputs + i) row
    sum-form ps row deep f s = record {
      row = s.terms;
      under = subst (λ d. AreUnder depths d row) deep s.under;
      value = λ values v. s.value values v ∙ f.value values v;
      short = λ weights w. omega (arith, s.short weights w, f.weight weights w);
    }
