-- The wires of a level, node by node.
use Rattle.std.specs.Prelude.{◌≡◌, ℕ, ◌+◌, ◌-◌, ◌<◌, ◌≤◌, nat_le, cond, Bool, true, false, None, List, [], ◌∷◌, length}
use Rattle.std.proofs.Common.{zero, suc, ◌⊎◌, inl, inr, refl, sym, ap, ◌∙◌, arith, subst}
use Rattle.std.proofs.lemmas.Bool.{cases_lt, true≢false, le-leb, lt-leb}
use Rattle.std.proofs.lemmas.List.FromFn.{get_or-map-range_with_len}
use Rattle.lzk_field.specs.Ring.{Ops, RingLaws}
use Rattle.lzk_field.specs.Sums.{entry}
use Rattle.lzk_circuit.specs.declared.layer.Term.{Term}
use Rattle.lzk_circuit.specs.declared.layer.Layer.{Layer}
use Rattle.lzk_circuit.specs.Valid.{AreTerms}
use Rattle.lzk_circuit.specs.Wires.{coef, wire, layer_values}
use Rattle.lzk_circuit_reduce.specs.declared.kept.KeptWires.{KeptWires}
use Rattle.lzk_circuit_reduce.specs.Kept.{IsKept, IsTable}
use Rattle.lzk_circuit_reduce.specs.Reduced.{terms_of}
use Rattle.lzk_circuit_reduce.specs.Renumbering.{at, of_wire, triples, IsOne}
use Rattle.lzk_circuit_reduce.specs.Rows.{row_value}
use Rattle.lzk_circuit_reduce.proofs.KeptLaws.{kept-terms, kept-different}
use Rattle.lzk_circuit_reduce.proofs.RenumberLaws.{wire-value}
use Rattle.lzk_circuit_reduce.proofs.SharedWireLaws.{Taking, placed-value, placed-one}
use Rattle.lzk_level.specs.Levels.{has_wire}
use Rattle.lzk_level.specs.Wires.{AreFormValues, AreFormWeights, AreWires, CarryValues, IsLight, IsNodeRow, IsLevelLayer, weight_in}
use Rattle.lzk_level.proofs.LevelLaws.{wire-there, wire-needed}

-- a node that weighs in a level weighs in the next
weight-grows : (depths : List ℕ) (level : ℕ) (weights : List ℕ) (k : ℕ) → cond (nat_le (at depths k) (level - 1)) (at weights k) 0 ≤ cond (nat_le (at depths k) level) (at weights k) 0
weight-grows depths level weights k = elim (cases_lt (level - 1) (at depths k)) [
  | inl deep ↦ omega (arith, ap (λ b. cond b (at weights k) 0) (lt-leb (at depths k) (level - 1) deep))
  | inr up ↦ omega (arith, ap (λ b. cond b (at weights k) 0) (le-leb (at depths k) (level - 1) up), ap (λ b. cond b (at weights k) 0) (le-leb (at depths k) level (omega (arith, up))))
]

-- one node more, without a wire
light-skips : (depths : List ℕ) (level : ℕ) (weights : List ℕ) (k n : ℕ) → n + weight_in depths (level - 1) weights k ≤ k + weight_in depths level weights k → n + weight_in depths (level - 1) weights (suc k) ≤ suc k + weight_in depths level weights (suc k)
light-skips depths level weights k n h = omega (arith, h, weight-grows depths level weights k)

-- one node more, with so many terms
light-adds : (depths : List ℕ) (level : ℕ) (weights : List ℕ) (k n m more : ℕ) → 1 ≤ level → at depths k ≤ level → IsLight depths level weights k m → more ≤ n + m → n + weight_in depths (level - 1) weights k ≤ k + weight_in depths level weights k
    → more + weight_in depths (level - 1) weights (suc k) ≤ suc k + weight_in depths level weights (suc k)
light-adds depths level weights k n m more some up light l h =
    let heavy = at weights k in
    let old = weight_in depths (level - 1) weights k in
    let new = weight_in depths level weights k in
    elim (cases_lt (at depths k) level) [
      | inl less ↦ omega (
        arith,
        h,
        l,
        light.0 less,
        ap (λ b. cond b heavy 0 + old) (le-leb (at depths k) (level - 1) (omega (arith, less, some))),
        ap (λ b. cond b heavy 0 + new) (le-leb (at depths k) level up),
      )
      | inr same ↦ omega (
        arith,
        h,
        l,
        light.1 same,
        ap (λ b. cond b heavy 0 + old) (lt-leb (at depths k) (level - 1) (omega (arith, same, some))),
        ap (λ b. cond b heavy 0 + new) (le-leb (at depths k) level up),
      )
    ]

not_true : (b : Bool) → (b ≡ true → ⊥) → b ≡ false
not_true true h = absurd (h refl)
not_true false h = refl

last_or : (j k : ℕ) → j < suc k → (j < k) ⊎ (j ≡ k)
last_or j k l = elim (cases_lt j k) [ inl m ↦ inl m | inr m ↦ inr (omega (arith, l, m)) ]

-- a node that no level above uses has no wire
wire-away : (depths last : List ℕ) (level k : ℕ) → at last k ≤ level → has_wire depths last level k ≡ true → ⊥
wire-away depths last level k low here = omega (arith, low, wire-needed depths last level k here)

-- a node without a wire is not the one
pub not-the-one : (depths last : List ℕ) (level k : ℕ) → at depths 0 ≡ 0 → level < at last 0 → has_wire depths last level k ≡ false → 1 ≤ k
not-the-one depths last level zero zero_depth high away = absurd (true≢false (sym (wire-there depths last level 0 (omega (arith, zero_depth)) high) ∙ away))
not-the-one depths last level (suc k) zero_depth high away = omega arith

module _ {A : Type 0} (o : Ops A) (number_of : A → ℕ) (inputs : ℕ) (form : ℕ → List (Term A)) (depths last : List ℕ) (level : ℕ) (below : List ℕ) where
  -- the wires of the first k nodes, over so many
  pub record HaveWires (width k : ℕ) (kept : KeptWires A) (here : List ℕ) : Type 0 where
    pub is : IsKept o number_of width kept
    pub numbers : (j : ℕ) → j < k → has_wire depths last level j ≡ true → at here j < kept.count
    pub some : 1 ≤ k → 1 ≤ kept.count
    pub one : 1 ≤ k → at here 0 ≡ 0
    pub first : 1 ≤ k → IsOne o (of_wire 0 kept.terms.items)
    pub values : (values wires : List A) → AreFormValues o inputs (length depths) form values → CarryValues o depths last (level - 1) below values wires → (j : ℕ) → j < k → has_wire depths last level j ≡ true
        → row_value o wires (of_wire (at here j) kept.terms.items) ≡ entry o values j

  pub record Sharing (k : ℕ) (kept : KeptWires A) (here : List ℕ) : Type 0 where
    pub table : IsTable kept
    pub room : length here ≡ length depths
    pub few : kept.count ≤ k
    pub light : (weights : List ℕ) → AreFormWeights inputs (length depths) form weights → length kept.terms.items + weight_in depths (level - 1) weights k ≤ k + weight_in depths level weights k
    pub over : (width : ℕ) → AreWires depths last (level - 1) width below → HaveWires width k kept here

  -- no wires yet
  pub sharing-begins : (none : KeptWires A) (here : List ℕ) → IsTable none → length here ≡ length depths → none.count ≡ 0 → length none.terms.items ≡ 0 → ((width : ℕ) → IsKept o number_of width none) → Sharing 0 none here
  sharing-begins none here table room none_there empty is = record {
    table = table;
    room = room;
    few = omega (arith, none_there);
    light = λ weights h. omega (arith, empty);
    over = λ width below_are. record {
      is = is width;
      numbers = λ j l. absurd (omega (arith, l));
      some = λ l. absurd (omega (arith, l));
      one = λ l. absurd (omega (arith, l));
      first = λ l. absurd (omega (arith, l));
      values = λ values wires v c j l. absurd (omega (arith, l));
    };
  }

  -- a node without a wire, which is not the one
  pub sharing-skips : (k : ℕ) (kept : KeptWires A) (here : List ℕ) → 1 ≤ k → has_wire depths last level k ≡ false → Sharing k kept here → Sharing (suc k) kept here
  sharing-skips k kept here behind away s = record {
    table = s.table;
    room = s.room;
    few = omega (arith, s.few);
    light = λ weights h. light-skips depths level weights k (length kept.terms.items) (s.light weights h);
    over = λ width below_are.
        let v = s.over width below_are in
        record {
          is = v.is;
          numbers = λ j l there. elim (last_or j k l) [ inl m ↦ v.numbers j m there | inr e ↦ absurd (true≢false (sym there ∙ ap (has_wire depths last level) e ∙ away)) ];
          some = λ _. v.some behind;
          one = λ _. v.one behind;
          first = λ _. v.first behind;
          values = λ values wires f c j l there. elim (last_or j k l) [ inl m ↦ v.values values wires f c j m there | inr e ↦ absurd (true≢false (sym there ∙ ap (has_wire depths last level) e ∙ away)) ];
        };
  }

  -- nodes that are passed
  pub sharing-passes : (n k : ℕ) (kept : KeptWires A) (here : List ℕ) → 1 ≤ k → k ≤ n → ((j : ℕ) → k ≤ j → j < n → at last j ≤ level) → Sharing k kept here → Sharing n kept here
  sharing-passes zero k kept here behind up passed s = subst (λ i. Sharing i kept here) (let e : k ≡ 0 = omega (arith, up) in e) s
  sharing-passes (suc n) k kept here behind up passed s = elim (cases_lt n k) [
    | inl top ↦ subst (λ i. Sharing i kept here) (let e : k ≡ suc n = omega (arith, up, top) in e) s
    | inr below_top ↦
        let old = sharing-passes n k kept here behind below_top (λ j l m. passed j l (omega (arith, m))) s in
        sharing-skips n kept here (omega (arith, behind, below_top)) (not_true (has_wire depths last level n) (wire-away depths last level n (passed n below_top (omega arith)))) old
  ]

  -- a node with a wire, which has this row
  pub sharing-adds : (k w : ℕ) (kept more : KeptWires A) (old here : List ℕ) (row : List (Term A)) → 1 ≤ level → at depths k ≤ level → length here ≡ length old → at here k ≡ w → ((j : ℕ) → j < k → at here j ≡ at old j)
      → IsNodeRow o inputs form depths last level below k row → Taking o number_of kept more row w → Sharing k kept old → Sharing (suc k) more here
  sharing-adds k w kept more old here row some_level up room at_is before r t s = record {
    table = t.table;
    room = room ∙ s.room;
    few = omega (arith, s.few, t.count);
    light = λ weights h. light-adds depths level weights k (length kept.terms.items) (length row) (length more.terms.items) some_level up (r.light weights h) t.short (s.light weights h);
    over = λ width below_are.
        let v = s.over width below_are in
        let row_is = r.is width below_are in
        let taken = t.terms width v.is row_is in
        record {
          is = t.still width v.is row_is;
          numbers = λ j l there. elim (last_or j k l) [
            | inl m ↦ omega (arith, before j m, v.numbers j m there, t.grows)
            | inr e ↦ omega (arith, ap (at here) e, at_is, t.wire width v.is row_is)
          ];
          some = λ _. omega (arith, t.wire width v.is row_is);
          one = λ _. elim (cases_lt 0 k) [
            | inl m ↦ before 0 m ∙ v.one m
            | inr z ↦ let same : 0 ≡ k = omega (arith, z) in ap (at here) same ∙ at_is ∙ t.first width v.is (omega (arith, s.few, z))
          ];
          first = λ _. elim (cases_lt 0 k) [
            | inl m ↦ ap triples (t.before width v.is row_is 0 (v.some m)) ∙ v.first m
            | inr z ↦ subst (λ i. IsOne o (of_wire i more.terms.items)) (t.first width v.is (omega (arith, s.few, z))) (ap triples taken ∙ placed-one o w row (r.one (omega (arith, z)) below_are.one))
          ];
          values = λ values wires f c j l there. elim (last_or j k l) [
            | inl m ↦
                ap (λ i. row_value o wires (of_wire i more.terms.items)) (before j m)
                ∙ ap (row_value o wires) (t.before width v.is row_is (at old j) (v.numbers j m there)) ∙ v.values values wires f c j m there
            | inr e ↦ subst (λ i. row_value o wires (of_wire (at here i) more.terms.items) ≡ entry o values i) (sym e)
                (ap (λ i. row_value o wires (of_wire i more.terms.items)) at_is ∙ ap (row_value o wires) taken ∙ placed-value o w wires row ∙ r.value values wires f c)
          ];
        };
  }

module _ {A : Type 0} (o : Ops A) (r : RingLaws o) (number_of : A → ℕ) (inputs : ℕ) (form : ℕ → List (Term A)) (depths last : List ℕ) (level : ℕ) (below : List ℕ) where
  value-at : (layer : Layer A) (wires : List A) (g : ℕ) → g < layer.wires → AreTerms o layer.wires (length wires) None layer.terms → entry o (layer_values o layer wires) g ≡ row_value o wires (of_wire g layer.terms)
  value-at layer wires g l h = get_or-map-range_with_len (wire o (coef o layer.terms) wires) 0 layer.wires g g o.zero l (omega arith) ∙ wire-value o r layer.wires layer.terms wires g l h

  -- the layer of these wires
  pub shared-layer : (width n : ℕ) (kept : KeptWires A) (here : List ℕ) (layer : Layer A) → n ≡ length depths → at depths 0 ≡ 0 → 1 ≤ length depths → level < at last 0 → layer.wires ≡ kept.count → layer.terms ≡ kept.terms.items → AreWires depths last (level - 1) width below
      → Sharing o number_of inputs form depths last level below n kept here → IsLevelLayer o inputs form depths last (level - 1) level width below here layer
  shared-layer width n kept here layer top zero_depth some high wires_is terms_is below_are s =
      let v = s.over width below_are in
      let behind : 1 ≤ n = omega (arith, top, some) in
      let terms : AreTerms o layer.wires width None layer.terms = subst (λ ts. AreTerms o layer.wires width None ts) (sym terms_is) (subst (λ k. AreTerms o k width None kept.terms.items) (sym wires_is) (kept-terms o width kept v.is)) in
      let number : (k : ℕ) → k < length depths → has_wire depths last level k ≡ true → at here k < layer.wires = λ k l there. omega (arith, wires_is, v.numbers k (omega (arith, l, top)) there) in
      let carried : (values wires : List A) → length wires ≡ width → AreFormValues o inputs (length depths) form values → CarryValues o depths last (level - 1) below values wires → (k : ℕ) → k < length depths → has_wire depths last level k ≡ true
      → entry o (layer_values o layer wires) (at here k) ≡ entry o values k = λ values wires e f c k l there.
      value-at layer wires (at here k) (number k l there) (subst (λ w. AreTerms o layer.wires w None layer.terms) (sym e) terms)
      ∙ ap (λ ts. row_value o wires (of_wire (at here k) ts)) terms_is ∙ v.values values wires f c k (omega (arith, l, top)) there in
      record {
        wires = record { count = s.room; some = omega (arith, v.some behind, wires_is); one = v.one behind; each = number };
        few = omega (arith, s.few, wires_is, top);
        terms = terms;
        values = λ values wires e f c. record {
          one = ap (entry o (layer_values o layer wires)) (sym (v.one behind)) ∙ carried values wires e f c 0 some (wire-there depths last level 0 (omega (arith, zero_depth)) high) ∙ f.one;
          each = carried values wires e f c;
        };
        one = ap (terms_of 0) terms_is ∙ v.first behind;
        different = λ i j l m e. kept-different o width kept v.is i j l (omega (arith, m, wires_is)) (sym (ap (terms_of i) terms_is) ∙ e ∙ ap (terms_of j) terms_is);
        light = λ weights h. subst (λ k. length layer.terms + weight_in depths (level - 1) weights k ≤ k + weight_in depths level weights k) top (subst (λ ts. length ts + weight_in depths (level - 1) weights n ≤ n + weight_in depths level weights n) (sym terms_is) (s.light weights h));
      }
