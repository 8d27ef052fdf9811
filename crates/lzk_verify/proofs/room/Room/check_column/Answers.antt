use Rattle.std.proofs.Common.{◌≡◌, ◌+◌, List, length, take, ap, sym, subst, ◌∙◌, arith}
use Rattle.std.proofs.lemmas.List.{length-take-le, with_items_is}
use Rattle.std.specs.Vec.{with_items}
use Rattle.lzk_poly.specs.Extension.{Reach}
use Rattle.lzk_verify.specs.Desk as spec
use Rattle.lzk_verify.specs.Desk.{Rooms, HasFactors, WeightedAnswers}
use Rattle.lzk_verify.specs.Extending.{AreInverseDifferences, Extends}
use Rattle.lzk_verify.proofs.Extended.{first_inverses}
use Rattle.lzk_verify.proofs.room.Room.check_column.Given.{Over}
use Rattle.lzk_verify.proofs.room.Room.check_column.Goals as goal
use Rattle.lzk_verify.proofs.room.Room.check_column.Goals.{After-is_quadratic_at}

pub overflow_add-point : goal.overflow_add-point
overflow_add-point g c = let b = c.args.column.now.plan.now.bounded in omega (arith, b.columns, b.ncol, c.requires.index)

pub invariant_of-products : goal.invariant_of-products
invariant_of-products g c =
    let p = c.args.column.now.plan.now.params in
    let b = c.args.column.now.plan.now.bounded in
    let is : c.self.inside.weights.products ≡ spec.products p = ap (λ (r : Rooms g.row.F.Denot). r.products) c.self.view_is ∙ c.requires.rooms.products in
    let count : c.self.inside.weights.products.count ≡ p.dblock = ap (λ (w : Reach). w.count) is in
    let upto : c.self.inside.weights.products.upto ≡ p.ncol = ap (λ (w : Reach). w.upto) is in
    record {
      behind = omega (arith, count);
      reached = omega (arith, upto, b.columns, c.requires.index);
      limit = omega (arith, upto, b.ncol);
    }

pub set_inverses-requires-clause-behind : goal.set_inverses-requires-clause-behind
set_inverses-requires-clause-behind g c κs within =
    omega (arith, ap length c.deref_mut.ensures.value, ap (λ (r : Rooms g.row.F.Denot). r.inverses) c.self.view_is, c.requires.rooms.inverses)

pub invariant_of-rows : goal.invariant_of-rows
invariant_of-rows g c =
    let p = c.args.column.now.plan.now.params in
    let b = c.args.column.now.plan.now.bounded in
    let is : c.self.inside.weights.rows ≡ spec.rows p = ap (λ (r : Rooms g.row.F.Denot). r.rows) c.self.view_is ∙ c.requires.rooms.rows in
    let count : c.self.inside.weights.rows.count ≡ p.block = ap (λ (w : Reach). w.count) is in
    let upto : c.self.inside.weights.rows.upto ≡ p.ncol = ap (λ (w : Reach). w.upto) is in
    record {
      behind = omega (arith, count, b.block, b.wide, b.dblock);
      reached = omega (arith, upto, b.columns, c.requires.index);
      limit = omega (arith, upto, b.ncol);
    }

pub invariant_of-check : goal.invariant_of-check
invariant_of-check g c =
    let p = c.args.column.now.plan.now.params in
    let inverses = c.self.inside.answered.inverses in
    let were : length c.deref_mut.result.now ≡ length inverses.items = ap length c.deref_mut.ensures.value in
    let same : length c.set_inverses.new.list ≡ inverses.len = omega (arith, c.set_inverses.ensures.length, were, inverses.ok.0) in
    record {
      combined_fits = subst (HasFactors p) (sym (ap (λ (r : Rooms g.row.F.Denot). r.combined) c.self.view_is)) c.requires.rooms.combined;
      inverses_fit = ap length (c.deref.ensures.value ∙ with_items_is inverses c.set_inverses.new.list same) ∙ c.set_inverses.ensures.length ∙ were ∙ ap (λ (r : Rooms g.row.F.Denot). r.inverses) c.self.view_is ∙ c.requires.rooms.inverses;
    }

pub is_low_degree_at-requires-clause-ldt : goal.is_low_degree_at-requires-clause-ldt
is_low_degree_at-requires-clause-ldt g c κs within =
    ap length (c.deref-2.ensures.value ∙ ap (λ (a : WeightedAnswers g.row.F.Denot). a.ldt) c.answers.view_is ∙ ap (λ (r : Rooms g.row.F.Denot). r.answers.ldt) c.self.view_is) ∙ c.requires.rooms.answers.ldt

pub is_linear_at-requires-clause-dot : goal.is_linear_at-requires-clause-dot
is_linear_at-requires-clause-dot g c κs within =
    ap length (c.deref-3.ensures.value ∙ ap (λ (a : WeightedAnswers g.row.F.Denot). a.dot) c.answers.view_is ∙ ap (λ (r : Rooms g.row.F.Denot). r.answers.dot) c.self.view_is) ∙ c.requires.rooms.answers.dot

pub is_quadratic_at-requires-clause-quadratic : goal.is_quadratic_at-requires-clause-quadratic
is_quadratic_at-requires-clause-quadratic g c κs within =
    ap length (c.deref-4.ensures.value ∙ ap (λ (a : WeightedAnswers g.row.F.Denot). a.quadratic) c.answers.view_is ∙ ap (λ (r : Rooms g.row.F.Denot). r.answers.quadratic) c.self.view_is) ∙ c.requires.rooms.answers.quadratic

-- the inverses at hand are those that were set
set_are : (g : Over) (c : After-is_quadratic_at g) → c.deref.result.now ≡ c.set_inverses.new.list
set_are g c =
    let inverses = c.self.inside.answered.inverses in
    c.deref.ensures.value ∙ with_items_is inverses c.set_inverses.new.list (omega (arith, c.set_inverses.ensures.length, ap length c.deref_mut.ensures.value, inverses.ok.0))

inverses_are : (g : Over) (c : After-is_quadratic_at g) → AreInverseDifferences g.F.Field.ops g.F.Field.coding.element (c.args.column.now.plan.now.params.dblock + c.args.index) c.deref.result.now
inverses_are g c = subst (AreInverseDifferences g.F.Field.ops g.F.Field.coding.element (c.args.column.now.plan.now.params.dblock + c.args.index)) (sym (set_are g c)) c.set_inverses.ensures.inverses

long_inverses : (g : Over) (c : After-is_quadratic_at g) → length c.deref.result.now ≡ c.args.column.now.plan.now.params.dblock
long_inverses g c =
    ap length (set_are g c) ∙ c.set_inverses.ensures.length ∙ ap length c.deref_mut.ensures.value ∙ ap (λ (r : Rooms g.row.F.Denot). r.inverses) c.self.view_is ∙ c.requires.rooms.inverses

-- they extend the values of a row, and those of a product of two rows
extends_rows : (g : Over) (c : After-is_quadratic_at g)
    → Extends g.F.Field.ops g.F.Field.coding.element (c.args.column.now.plan.now.params.dblock + c.args.index) (take c.args.column.now.plan.now.params.block c.deref.result.now) c.last_factor-row_last.result
extends_rows g c =
    let f = g.F.Field in
    let p = c.args.column.now.plan.now.params in
    let b = c.args.column.now.plan.now.bounded in
    let xs : List g.row.F.Denot = c.deref.result.now in
    c.last_factor-row_last.ensures (take p.block xs)
    (length-take-le p.block xs (omega (arith, long_inverses g c, b.block, b.wide, b.dblock)) ∙ sym (ap (λ (r : Rooms g.row.F.Denot). r.rows.count) c.self.view_is ∙ ap (λ (w : Reach). w.count) c.requires.rooms.rows))
    (first_inverses f.ops f.coding.element (p.dblock + c.args.index) p.block xs (inverses_are g c))

extends_products : (g : Over) (c : After-is_quadratic_at g)
    → Extends g.F.Field.ops g.F.Field.coding.element (c.args.column.now.plan.now.params.dblock + c.args.index) c.deref.result.now c.last_factor-last.result
extends_products g c =
    c.last_factor-last.ensures c.deref.result.now
    (long_inverses g c ∙ sym (ap (λ (r : Rooms g.row.F.Denot). r.products.count) c.self.view_is ∙ ap (λ (w : Reach). w.count) c.requires.rooms.products))
    (inverses_are g c)

pub returns-clause-low_degree : goal.returns-clause-low_degree
returns-clause-low_degree g c = λ values is.
    let all = (goal.at.returns-clause-low_degree g c).After-is_quadratic_at in
    c.is_low_degree_at.ensures (c.args.column.now.plan.now.params.dblock + c.args.index) values
    (c.deref-2.ensures.value ∙ ap (λ (a : WeightedAnswers g.row.F.Denot). a.ldt) c.answers.view_is ∙ ap (λ (r : Rooms g.row.F.Denot). r.answers.ldt) c.self.view_is ∙ is)
    (extends_rows g all)

pub returns-clause-linear : goal.returns-clause-linear
returns-clause-linear g c = λ values lists is are.
    let all = (goal.at.returns-clause-linear g c).After-is_quadratic_at in
    let f = g.F.Field in
    c.is_linear_at.ensures (c.args.column.now.plan.now.params.dblock + c.args.index) values lists
    (c.deref-3.ensures.value ∙ ap (λ (a : WeightedAnswers g.row.F.Denot). a.dot) c.answers.view_is ∙ ap (λ (r : Rooms g.row.F.Denot). r.answers.dot) c.self.view_is ∙ is)
    (extends_rows g all)
    (extends_products g all)
    (subst (λ (r : Rooms g.row.F.Denot). spec.AreWeightedRows f.ops f.coding.element c.args.column.now.plan.now.params r.combined lists) (sym c.self.view_is) are)

pub returns-clause-quadratic : goal.returns-clause-quadratic
returns-clause-quadratic g c = λ values is.
    let all = (goal.at.returns-clause-quadratic g c).After-is_quadratic_at in
    c.is_quadratic_at.ensures (c.args.column.now.plan.now.params.dblock + c.args.index) values
    (c.deref-4.ensures.value ∙ ap (λ (a : WeightedAnswers g.row.F.Denot). a.quadratic) c.answers.view_is ∙ ap (λ (r : Rooms g.row.F.Denot). r.answers.quadratic) c.self.view_is ∙ is)
    (extends_products g all)

pub returns-clause-room : goal.returns-clause-room
returns-clause-room g c =
    let v = c.self.view_is in
    let inverses = c.self.inside.answered.inverses in
    let same : length c.set_inverses.new.list ≡ length inverses.items = c.set_inverses.ensures.length ∙ ap length c.deref_mut.ensures.value in
    let count : length (with_items inverses c.set_inverses.new.list).items ≡ c.args.self.now.inverses =
    ap length (with_items_is inverses c.set_inverses.new.list (omega (arith, same, inverses.ok.0))) ∙ same ∙ ap (λ (r : Rooms g.row.F.Denot). r.inverses) v in
    λ i. record {
      forms = (v i).forms;
      combined = (v i).combined;
      answers = (v i).answers;
      inverses = count i;
      nodes = (v i).nodes;
      rows = (v i).rows;
      products = (v i).products;
    }
