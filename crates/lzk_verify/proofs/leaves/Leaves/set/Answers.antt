use Rattle.std.proofs.Common.{◌≡◌, ℕ, ◌+◌, ◌*◌, ◌%◌, ◌<◌, length, ap, sym, subst, ◌∙◌, arith}
use Rattle.std.specs.Prelude.{slice_set}
use Rattle.std.specs.Vec.{with_items}
use Rattle.std.proofs.lemmas.List.{with_items_is}
use Rattle.lzk_merkle.specs.Leaf.{leaf_of}
use Rattle.lzk_verify.specs.declared.leaves.Leaves.TheInside.{Inside}
use Rattle.lzk_verify.specs.Leaves.{LeafList, AreThree, AreSound, with_three, with_leaves}
use Rattle.lzk_verify.proofs.LeafLaws.{length_with, length_four, first_waits, second_waits, third_waits, four_made, few_wait, three_fit}
use Rattle.lzk_verify.proofs.leaves.Leaves.set.Goals.{in-0, in-1, in-2, in_default}
use Rattle.lzk_verify.proofs.leaves.Leaves.set.Goals as goal

pub set-requires-after_bounds : goal.set-requires-after_bounds
set-requires-after_bounds g c κs within = c.requires.rows ∙ sym (ap (λ (l : LeafList). l.rows) c.self.view_is)

pub set-requires-in-1-after_bounds : goal.set-requires-in-1-after_bounds
set-requires-in-1-after_bounds g c κs within = c.requires.rows ∙ sym (ap (λ (l : LeafList). l.rows) c.self.view_is) ∙ sym c.self.invariant.columns.second.elements

pub set-requires-in-2-after_bounds : goal.set-requires-in-2-after_bounds
set-requires-in-2-after_bounds g c κs within = c.requires.rows ∙ sym (ap (λ (l : LeafList). l.rows) c.self.view_is) ∙ sym c.self.invariant.columns.third.elements

pub make_four-requires-clause-columns : goal.make_four-requires-clause-columns
make_four-requires-clause-columns g c κs within =
    let d = c.self.inside in
    let rows : length c.args.elements.now ≡ length d.columns.first.elements.items = c.requires.rows ∙ sym (ap (λ (l : LeafList). l.rows) c.self.view_is) in
    subst (λ (z : ℕ × ℕ). AreThree z.0 z.1 d.columns) (λ i. (sym (ap length c.deref_mut-in_default.ensures.value) i, sym rows i)) c.self.invariant.columns

pub make_four-requires-clause-inside : goal.make_four-requires-clause-inside
make_four-requires-clause-inside g c κs within =
    let f = g.F.Field.coding in
    let d = c.self.inside in
    omega (arith, c.requires.inside, ap (λ (l : LeafList). length l.items) c.self.view_is, length_with f.bytes f.number d.waiting d.columns d.made.items, ap length c.deref_mut-in_default.ensures.value)

pub make_four-requires-clause-bytes : goal.make_four-requires-clause-bytes
make_four-requires-clause-bytes g c κs within =
    let rows = c.requires.rows ∙ sym (ap (λ (l : LeafList). l.rows) c.self.view_is) in
    ap length c.deref_mut.ensures.value ∙ c.self.invariant.bytes_are ∙ ap (λ n. 4 * (32 + n * g.F.Field.coding.bytes)) (sym rows)

pub overflow_add-self : goal.overflow_add-self
overflow_add-self g c = elim c.match-self.branch [
  | in-0 w ↦ omega (arith, ap (λ (y : Inside g.row.F.Denot). y.waiting) w.self-inside-is, c.self.invariant.few)
  | in-1 w ↦ omega (arith, ap (λ (y : Inside g.row.F.Denot). y.waiting) w.self-inside-is, c.self.invariant.few)
  | in-2 w ↦ omega (arith, ap (λ (y : Inside g.row.F.Denot). y.waiting) w.self-inside-is, c.self.invariant.few)
  | in_default w ↦ omega (arith, ap (λ (y : Inside g.row.F.Denot). y.waiting) w.self-inside-is, c.self.invariant.few)
]

pub invariant_of-self : goal.invariant_of-self
invariant_of-self g c =
    let f = g.F.Field.coding in
    let d = c.self.inside in
    let i = c.self.invariant in
    let rows : length c.args.elements.now ≡ length d.columns.first.elements.items = c.requires.rows ∙ sym (ap (λ (l : LeafList). l.rows) c.self.view_is) in
    let place : c.args.place < length d.made.items = omega (arith, c.requires.inside, ap (λ (l : LeafList). length l.items) c.self.view_is, length_with f.bytes f.number d.waiting d.columns d.made.items) in
    let own : (y : Inside g.row.F.Denot) → c.match-self.self-inside ≡ y → AreSound f.bytes ((y.waiting + 1) % 4) y.columns y.made.items y.bytes.items
    → AreSound f.bytes ((c.match-self.self-inside.waiting + 1) % 4) c.match-self.self-inside.columns c.match-self.self-inside.made.items c.match-self.self-inside.bytes.items =
    λ y e s. subst (λ (y : Inside g.row.F.Denot). AreSound f.bytes ((y.waiting + 1) % 4) y.columns y.made.items y.bytes.items) (sym e) s in
    elim c.match-self.branch [
      | in-0 w ↦ own _ w.self-inside-is (record {
        few = few_wait d.waiting;
        columns = three_fit (length d.made.items) (length d.columns.first.elements.items) (record d.columns { first = w.set.new.self }) (record { place = subst (λ n. n < length d.made.items) (sym w.set.ensures.place) place; elements = ap length w.set.ensures.elements ∙ rows }) i.columns.second i.columns.third;
        bytes_are = i.bytes_are ∙ ap (λ n. 4 * (32 + n * f.bytes)) (sym (ap length w.set.ensures.elements ∙ rows));
      })
      | in-1 w ↦ own _ w.self-inside-is (record {
        few = few_wait d.waiting;
        columns = three_fit (length d.made.items) (length d.columns.first.elements.items) (record d.columns { second = w.set-in-1.new.self }) i.columns.first (record { place = subst (λ n. n < length d.made.items) (sym w.set-in-1.ensures.place) place; elements = ap length w.set-in-1.ensures.elements ∙ rows }) i.columns.third;
        bytes_are = i.bytes_are;
      })
      | in-2 w ↦ own _ w.self-inside-is (record {
        few = few_wait d.waiting;
        columns = three_fit (length d.made.items) (length d.columns.first.elements.items) (record d.columns { third = w.set-in-2.new.self }) i.columns.first i.columns.second (record { place = subst (λ n. n < length d.made.items) (sym w.set-in-2.ensures.place) place; elements = ap length w.set-in-2.ensures.elements ∙ rows });
        bytes_are = i.bytes_are;
      })
      | in_default w ↦
          let made = w.make_four.new.made in
          let leaf = leaf_of f.bytes f.number c.args.nonce.now c.args.elements.now in
          let made_is : made ≡ slice_set (with_three f.bytes f.number d.columns d.made.items) c.args.place leaf = w.make_four.ensures ∙ ap (λ xs. slice_set (with_three f.bytes f.number d.columns xs) c.args.place leaf) w.deref_mut-in_default.ensures.value in
          let size : length made ≡ length d.made.items = length_four f.bytes f.number d.columns d.made.items made c.args.place leaf made_is in
          let whole : (with_items d.made made).items ≡ made = with_items_is d.made made (omega (arith, size, d.made.ok.0)) in
          let bytes = w.make_four.new.bytes in
          let kept : length bytes ≡ length d.bytes.items = w.make_four.auto.bytes ∙ ap length w.deref_mut.ensures.value in
          own _ w.self-inside-is (record {
            few = few_wait d.waiting;
            columns = subst (λ n. AreThree n (length d.columns.first.elements.items) d.columns) (sym (ap length whole ∙ size)) i.columns;
            bytes_are = ap length (with_items_is d.bytes bytes (omega (arith, kept, d.bytes.ok.0))) ∙ kept ∙ i.bytes_are;
          })
    ]

pub returns : goal.returns
returns g c =
    let f = g.F.Field.coding in
    let d = c.self.inside in
    let old = c.args.self.now in
    let leaf = leaf_of f.bytes f.number c.args.nonce.now c.args.elements.now in
    let rows : length c.args.elements.now ≡ old.rows = c.requires.rows in
    let own : (y : Inside g.row.F.Denot) → c.match-self.self-inside ≡ y → with_leaves f.bytes f.number ((y.waiting + 1) % 4) y.columns y.made.items ≡ slice_set (with_leaves f.bytes f.number d.waiting d.columns d.made.items) c.args.place leaf → length y.columns.first.elements.items ≡ old.rows
    → ◌≡◌ {A = LeafList} (record { items = with_leaves f.bytes f.number ((c.match-self.self-inside.waiting + 1) % 4) c.match-self.self-inside.columns c.match-self.self-inside.made.items; rows = length c.match-self.self-inside.columns.first.elements.items }) (record { items = slice_set old.items c.args.place leaf; rows = old.rows }) =
    λ y e items long i. record {
      items = (ap (λ (y : Inside g.row.F.Denot). with_leaves f.bytes f.number ((y.waiting + 1) % 4) y.columns y.made.items) e ∙ items ∙ ap (λ (l : LeafList). slice_set l.items c.args.place leaf) c.self.view_is) i;
      rows = (ap (λ (y : Inside g.row.F.Denot). length y.columns.first.elements.items) e ∙ long) i;
    } in
    elim c.match-self.branch [
      | in-0 w ↦ own _ w.self-inside-is (first_waits f.bytes f.number d.columns w.set.new.self d.made.items d.waiting c.args.place c.args.nonce.now c.args.elements.now w.set.ensures.place w.set.ensures.nonce w.set.ensures.elements w.in-0.is) (ap length w.set.ensures.elements ∙ rows)
      | in-1 w ↦ own _ w.self-inside-is (second_waits f.bytes f.number d.columns w.set-in-1.new.self d.made.items d.waiting c.args.place c.args.nonce.now c.args.elements.now w.set-in-1.ensures.place w.set-in-1.ensures.nonce w.set-in-1.ensures.elements w.in-1.is) (ap (λ (l : LeafList). l.rows) c.self.view_is)
      | in-2 w ↦ own _ w.self-inside-is (third_waits f.bytes f.number d.columns w.set-in-2.new.self d.made.items d.waiting c.args.place c.args.nonce.now c.args.elements.now w.set-in-2.ensures.place w.set-in-2.ensures.nonce w.set-in-2.ensures.elements w.in-2.is) (ap (λ (l : LeafList). l.rows) c.self.view_is)
      | in_default w ↦
          let made = w.make_four.new.made in
          let leaf = leaf_of f.bytes f.number c.args.nonce.now c.args.elements.now in
          let made_is : made ≡ slice_set (with_three f.bytes f.number d.columns d.made.items) c.args.place leaf = w.make_four.ensures ∙ ap (λ xs. slice_set (with_three f.bytes f.number d.columns xs) c.args.place leaf) w.deref_mut-in_default.ensures.value in
          let size : length made ≡ length d.made.items = length_four f.bytes f.number d.columns d.made.items made c.args.place leaf made_is in
          let whole : (with_items d.made made).items ≡ made = with_items_is d.made made (omega (arith, size, d.made.ok.0)) in
          let three : d.waiting ≡ 3 = omega (arith, c.self.invariant.few) in
          own _ w.self-inside-is (four_made f.bytes f.number d.columns d.made.items (with_items d.made made).items d.waiting c.args.place leaf three (whole ∙ made_is)) (ap (λ (l : LeafList). l.rows) c.self.view_is)
    ]
