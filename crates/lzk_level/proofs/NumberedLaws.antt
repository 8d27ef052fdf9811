-- Rows of forms over the numbers of wires.
use Rattle.std.specs.Prelude.{◌≡◌, ℕ, ◌+◌, ◌-◌, ◌<◌, ◌≤◌, true, List, [], ◌∷◌, ◌++◌, length, take, drop}
use Rattle.std.proofs.Common.{inl, inr, refl, sym, ap, ◌∙◌, arith, subst, get_or}
use Rattle.std.proofs.lemmas.Bool.{cases_lt}
use Rattle.std.proofs.lemmas.List.{take_more, take-append-drop, length-append}
use Rattle.std.proofs.lemmas.List.Elements.{All-take, All-drop}
use Rattle.lzk_field.specs.Ring.{Ops, RingLaws, FieldLaws}
use Rattle.lzk_field.specs.Sums.{entry}
use Rattle.lzk_field.proofs.RingBasics.{one_times}
use Rattle.lzk_circuit.specs.declared.layer.Term.{Term}
use Rattle.lzk_circuit_reduce.specs.Renumbering.{at, IsOne}
use Rattle.lzk_circuit_reduce.specs.Rows.{IsRow, IsUnder, AreUnder, row_value, term_value}
use Rattle.lzk_circuit_reduce.proofs.RowLaws.{row-of-one, value-append}
use Rattle.lzk_level.specs.declared.forms.Forms.{Forms}
use Rattle.lzk_level.specs.Levels.{has_wire}
use Rattle.lzk_level.specs.Uses.{node_form, IsFormed, AreUses}
use Rattle.lzk_level.specs.Wires.{AreWires, CarryValues, CarryTerm, CarryTerms, IsDue, IsFormRow, IsNodeRow, going_on}
use Rattle.lzk_level.proofs.LevelLaws.{wire-there}

module _ {A : Type 0} where
  -- a term of a list under numbers, as a loop comes to it
  pub under-at : (numbers : List ℕ) (width : ℕ) (ts : List (Term A)) (i : ℕ) (t : Term A) → i < length ts → t ≡ get_or ts i t → AreUnder numbers width ts → IsUnder numbers width t
  under-at numbers width ts i t l e h = subst (IsUnder numbers width) (sym e) (h i t l)

  under-front : (numbers : List ℕ) (width i : ℕ) (ts front : List (Term A)) → front ≡ take i ts → AreUnder numbers width ts → AreUnder numbers width front
  under-front numbers width i ts front e h = subst (AreUnder numbers width) (sym e) (All-take (IsUnder numbers width) i ts h)

  under-back : (numbers : List ℕ) (width i : ℕ) (ts back : List (Term A)) → back ≡ drop i ts → AreUnder numbers width ts → AreUnder numbers width back
  under-back numbers width i ts back e h = subst (AreUnder numbers width) (sym e) (All-drop (IsUnder numbers width) i ts h)

  halves : (i : ℕ) (ts front back : List (Term A)) → front ≡ take i ts → back ≡ drop i ts → ts ≡ front ++ back
  halves i ts front back e f = sym (ap (λ xs. xs ++ back) e ∙ ap (λ ys. take i ts ++ ys) f ∙ take-append-drop i ts)

  halves-count : (i : ℕ) (ts front back : List (Term A)) → front ≡ take i ts → back ≡ drop i ts → length front + length back ≡ length ts
  halves-count i ts front back e f = sym (length-append front back) ∙ ap length (sym (halves i ts front back e f))

module _ {A : Type 0} (o : Ops A) (r : RingLaws o) where
  open o use {plus, times}

  pub carry-at : (numbers : List ℕ) (values wires : List A) (ts : List (Term A)) (i : ℕ) (t : Term A) → i < length ts → t ≡ get_or ts i t → CarryTerms o numbers values wires ts → CarryTerm o numbers values wires t
  carry-at numbers values wires ts i t l e h = subst (CarryTerm o numbers values wires) (sym e) (h i t l)

  carry-front : (numbers : List ℕ) (values wires : List A) (i : ℕ) (ts front : List (Term A)) → front ≡ take i ts → CarryTerms o numbers values wires ts → CarryTerms o numbers values wires front
  carry-front numbers values wires i ts front e h = subst (CarryTerms o numbers values wires) (sym e) (All-take (CarryTerm o numbers values wires) i ts h)

  carry-back : (numbers : List ℕ) (values wires : List A) (i : ℕ) (ts back : List (Term A)) → back ≡ drop i ts → CarryTerms o numbers values wires ts → CarryTerms o numbers values wires back
  carry-back numbers values wires i ts back e h = subst (CarryTerms o numbers values wires) (sym e) (All-drop (CarryTerm o numbers values wires) i ts h)

  -- a term over numbers counts what it counts over the nodes
  pub term-carried : (numbers : List ℕ) (values wires : List A) (t : Term A) (a b : ℕ) → a ≡ at numbers t.a → b ≡ at numbers t.b → CarryTerm o numbers values wires t
      → times t.coef (times (entry o wires a) (entry o wires b)) ≡ term_value o values t
  term-carried numbers values wires t a b ea eb h =
      ap (λ x. times t.coef (times x (entry o wires b))) (ap (entry o wires) ea ∙ h.0) ∙ ap (λ y. times t.coef (times (entry o values t.a) y)) (ap (entry o wires) eb ∙ h.1)

  -- one term more
  pub value-adds : (values : List A) (ts : List (Term A)) (i : ℕ) (t : Term A) (x old new : A) → i < length ts → t ≡ get_or ts i t → x ≡ term_value o values t → new ≡ plus x old → old ≡ row_value o values (take i ts) → new ≡ row_value o values (take (i + 1) ts)
  value-adds values ts i t x old new l e is n h =
      let s = row_value o values (take i ts) in
      let more : row_value o values (take (i + 1) ts) ≡ plus s (plus (term_value o values t) o.zero) =
      ap (row_value o values) (take_more ts i t l) ∙ value-append o r values (take i ts) (get_or ts i t ∷ []) ∙ ap (λ u. plus s (plus (term_value o values u) o.zero)) (sym e) in
      n ∙ ap (plus x) h ∙ r.plus_comm x s ∙ ap (plus s) (is ∙ sym (r.plus_zero (term_value o values t))) ∙ sym more

  value-halves : (values : List A) (i : ℕ) (ts front back : List (Term A)) (x y : A) → front ≡ take i ts → back ≡ drop i ts → x ≡ row_value o values front → y ≡ row_value o values back → plus x y ≡ row_value o values ts
  value-halves values i ts front back x y e f hx hy =
      ap (λ w. plus w y) hx ∙ ap (plus (row_value o values front)) hy ∙ sym (value-append o r values front back) ∙ ap (row_value o values) (sym (halves i ts front back e f))

  -- both halves of a row, merged
  pub two-rows : (numbers : List ℕ) (i : ℕ) (ts front back left right sum : List (Term A)) → front ≡ take i ts → back ≡ drop i ts → IsFormRow o numbers front left → IsFormRow o numbers back right
      → ((width : ℕ) → IsRow o width left → IsRow o width right → IsRow o width sum) → ((below : List A) → row_value o below sum ≡ plus (row_value o below left) (row_value o below right)) → length sum ≤ length left + length right
      → IsFormRow o numbers ts sum
  two-rows numbers i ts front back left right sum e f l m is value short = record {
    is = λ width u. is width (l.is width (under-front numbers width i ts front e u)) (m.is width (under-back numbers width i ts back f u));
    value = λ values wires h.
        value wires ∙ value-halves values i ts front back (row_value o wires left) (row_value o wires right) e f (l.value values wires (carry-front numbers values wires i ts front e h)) (m.value values wires (carry-back numbers values wires i ts back f h));
    short = omega (arith, short, l.short, m.short, halves-count i ts front back e f);
  }

  -- a wire that goes on has the value of the one below, where the first is one
  goes-on-value : (wires : List A) (number : ℕ) (row : List (Term A)) → row ≡ going_on o number ∷ [] → entry o wires 0 ≡ o.one → row_value o wires row ≡ entry o wires number
  goes-on-value wires number row e one =
      let x = entry o wires number in
      ap (row_value o wires) e ∙ r.plus_zero (times o.one (times (entry o wires 0) x)) ∙ one_times o r (times (entry o wires 0) x) ∙ ap (λ y. times y x) one ∙ one_times o r x

module _ {A : Type 0} (o : Ops A) where
  goes-on-row : FieldLaws o → (width number : ℕ) (row : List (Term A)) → row ≡ going_on o number ∷ [] → number < width → IsRow o width row
  goes-on-row f width number row e l = subst (IsRow o width) (sym e) (row-of-one o width (going_on o number) refl (omega arith) l f.one_not_zero)

  goes-on-one : (row : List (Term A)) → row ≡ going_on o 0 ∷ [] → IsOne o row
  goes-on-one row e = subst (IsOne o) (sym e) refl

module _ {A : Type 0} (inputs : ℕ) (forms : Forms A) (depths last : List ℕ) (formed : IsFormed inputs forms depths) (uses : AreUses inputs forms depths last) where
  -- a node of a level's own depth was made
  pub made-there : (level k : ℕ) → 1 ≤ level → level ≤ at depths k → inputs ≤ k
  made-there level k some deep = elim (cases_lt k inputs) [ inl before ↦ absurd (omega (arith, formed.at_inputs k before, some, deep)) | inr after ↦ after ]

  -- the nodes of the form of a node that is due in the level of its depth have wires below
  pub named-wire : (level k : ℕ) → IsDue depths last level k → level ≤ at depths k → (i : ℕ) (t : Term A) → i < length (node_form inputs forms k)
      → let u = get_or (node_form inputs forms k) i t in (u.a < length depths) × (u.b < length depths) × (has_wire depths last (level - 1) u.a ≡ true) × (has_wire depths last (level - 1) u.b ≡ true)
  named-wire level k due deep i t l =
      let behind = made-there level k due.some deep in
      let is : at depths k ≡ level = omega (arith, due.up, deep) in
      let u = get_or (node_form inputs forms k) i t in
      let before = formed.before k behind due.node i t l in
      let under = formed.under k behind due.node i t l in
      let used = uses.made k behind due.node (omega (arith, is, due.used)) i t l in (
        omega (arith, before.0, due.node),
        omega (arith, before.1, due.node),
        wire-there depths last (level - 1) u.a (omega (arith, under.0, is)) (omega (arith, used.0, is, due.some)),
        wire-there depths last (level - 1) u.b (omega (arith, under.1, is)) (omega (arith, used.1, is, due.some)),
      )

  form-under : (level k width : ℕ) (numbers : List ℕ) → IsDue depths last level k → level ≤ at depths k → AreWires depths last (level - 1) width numbers → AreUnder numbers width (node_form inputs forms k)
  form-under level k width numbers due deep w i t l =
      let n = named-wire level k due deep i t l in
      let u = get_or (node_form inputs forms k) i t in
      (w.each u.a n.0 n.2, w.each u.b n.1 n.3)

  form-carried : (o : Ops A) (level k : ℕ) (numbers : List ℕ) (values wires : List A) → IsDue depths last level k → level ≤ at depths k → CarryValues o depths last (level - 1) numbers values wires → CarryTerms o numbers values wires (node_form inputs forms k)
  form-carried o level k numbers values wires due deep c i t l =
      let n = named-wire level k due deep i t l in
      let u = get_or (node_form inputs forms k) i t in
      (c.each u.a n.0 n.2, c.each u.b n.1 n.3)

  -- a node that is less deep than the level has a wire below
  wire-under : (level k : ℕ) → IsDue depths last level k → at depths k < level → has_wire depths last (level - 1) k ≡ true
  wire-under level k due less = wire-there depths last (level - 1) k (omega (arith, less)) (omega (arith, due.used, due.some))

  -- the row of a node that goes on from below
  pub copied : (o : Ops A) → RingLaws o → FieldLaws o → (level k number : ℕ) (below : List ℕ) (row : List (Term A)) → IsDue depths last level k → at depths k < level → number ≡ at below k → row ≡ going_on o number ∷ [] → IsNodeRow o inputs (node_form inputs forms) depths last level below k row
  copied o r f level k number below row due less e is =
      let there = wire-under level k due less in
      record {
        is = λ width w. goes-on-row o f width number row is (omega (arith, e, w.each k due.node there));
        value = λ values wires v c. goes-on-value o r wires number row is c.one ∙ ap (entry o wires) e ∙ c.each k due.node there;
        light = λ weights h. ((λ up. omega (arith, ap length is)), (λ deep. absurd (omega (arith, deep, less))));
        one = λ zero none. goes-on-one o row (is ∙ ap (λ n. going_on o n ∷ []) (e ∙ ap (at below) zero ∙ none));
      }

  -- that of one in the level of its depth
  pub formed-row : (o : Ops A) (level k : ℕ) (below : List ℕ) (form row : List (Term A)) → IsDue depths last level k → level ≤ at depths k → form ≡ node_form inputs forms k → IsFormRow o below form row → IsNodeRow o inputs (node_form inputs forms) depths last level below k row
  formed-row o level k below form row due deep e f =
      let behind = made-there level k due.some deep in
      record {
        is = λ width w. f.is width (subst (AreUnder below width) (sym e) (form-under level k width below due deep w));
        value = λ values wires v c. f.value values wires (subst (CarryTerms o below values wires) (sym e) (form-carried o level k below values wires due deep c)) ∙ ap (row_value o values) e ∙ v.each k behind due.node;
        light = λ weights h. ((λ less. absurd (omega (arith, less, deep))), (λ up. omega (arith, f.short, ap length e, h.each k behind due.node)));
        one = λ zero none. absurd (omega (arith, behind, formed.one, zero));
      }
