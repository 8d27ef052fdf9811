use Rattle.std.proofs.Common.{◌≡◌, length, ap, sym, ◌∙◌, arith}
use Rattle.std.specs.Vec.{with_items}
use Rattle.std.proofs.lemmas.List.{with_items_is}
use Rattle.lzk_poly.specs.Extension.{Reach}
use Rattle.lzk_verify.specs.Desk.{WeightedAnswers}
use Rattle.lzk_verify.specs.Extending.{weighted}
use Rattle.lzk_verify.proofs.Extended.{length_weighted}
use Rattle.lzk_verify.proofs.weighted.Weighted.set.Goals as goal

pub set_weighted-requires-clause-values : goal.set_weighted-requires-clause-values
set_weighted-requires-clause-values g c κs within = c.ldt_of.ensures.length ∙ sym (ap (λ (w : Reach). w.count) c.requires.rows)

pub set_weighted-requires-clause-room : goal.set_weighted-requires-clause-room
set_weighted-requires-clause-room g c κs within =
    ap length c.deref_mut.ensures.value ∙ ap (λ (a : WeightedAnswers g.row.F.Denot). length a.ldt) c.self.view_is ∙ c.requires.room.ldt ∙ sym (ap (λ (w : Reach). w.count) c.requires.rows)

pub set_weighted-requires-2-clause-values : goal.set_weighted-requires-2-clause-values
set_weighted-requires-2-clause-values g c κs within = c.dot_of.ensures.length ∙ sym (ap (λ (w : Reach). w.count) c.requires.products)

pub set_weighted-requires-2-clause-room : goal.set_weighted-requires-2-clause-room
set_weighted-requires-2-clause-room g c κs within =
    ap length c.deref_mut-2.ensures.value ∙ ap (λ (a : WeightedAnswers g.row.F.Denot). length a.dot) c.self.view_is ∙ c.requires.room.dot ∙ sym (ap (λ (w : Reach). w.count) c.requires.products)

pub fill_quadratic-requires-clause-room : goal.fill_quadratic-requires-clause-room
fill_quadratic-requires-clause-room g c κs within =
    ap length c.deref_mut-3.ensures.value ∙ ap (λ (a : WeightedAnswers g.row.F.Denot). length a.quadratic) c.self.view_is ∙ c.requires.room.quadratic

pub weigh-requires-after_bounds : goal.weigh-requires-after_bounds
weigh-requires-after_bounds g c κs within =
    let room = c.self.inside.quadratic in
    let filled = c.fill_quadratic.new.values in
    let long : length filled ≡ room.len = omega (arith, c.fill_quadratic.ensures.room, ap (λ (a : WeightedAnswers g.row.F.Denot). length a.quadratic) c.self.view_is, c.requires.room.quadratic, room.ok.0) in
    ap length (c.deref_mut-4.ensures.value ∙ with_items_is room filled long) ∙ c.fill_quadratic.ensures.room ∙ sym (ap (λ (w : Reach). w.count) c.requires.products)

pub returns : goal.returns
returns g c =
    let f = g.F.Field in
    let d = c.self.inside in
    let view = c.self.view_is in
    let ldt = c.set_weighted.ensures in
    let ldt_long : length c.set_weighted.new.list ≡ d.ldt.len =
    omega (arith, ap length ldt, length_weighted f.ops f.coding.element c.ldt_of.result.now, c.ldt_of.ensures.length, ap (λ (a : WeightedAnswers g.row.F.Denot). length a.ldt) view, c.requires.room.ldt, d.ldt.ok.0) in
    let dot = c.set_weighted-2.ensures in
    let dot_long : length c.set_weighted-2.new.list ≡ d.dot.len =
    omega (arith, ap length dot, length_weighted f.ops f.coding.element c.dot_of.result.now, c.dot_of.ensures.length, ap (λ (a : WeightedAnswers g.row.F.Denot). length a.dot) view, c.requires.room.dot, d.dot.ok.0) in
    let room = d.quadratic in
    let filled = c.fill_quadratic.new.values in
    let filled_long : length filled ≡ room.len = omega (arith, c.fill_quadratic.ensures.room, ap (λ (a : WeightedAnswers g.row.F.Denot). length a.quadratic) view, c.requires.room.quadratic, room.ok.0) in
    let values = c.deref_mut-4.ensures.value ∙ with_items_is room filled filled_long in
    let long : length c.weigh.new.values ≡ room.len = omega (arith, ap length c.weigh.ensures, length_weighted f.ops f.coding.element c.deref_mut-4.result.now, ap length values, filled_long) in
    λ i. record {
      ldt = (with_items_is d.ldt c.set_weighted.new.list ldt_long ∙ ldt ∙ ap (weighted f.ops f.coding.element) c.ldt_of.ensures.value) i;
      dot = (with_items_is d.dot c.set_weighted-2.new.list dot_long ∙ dot ∙ ap (weighted f.ops f.coding.element) c.dot_of.ensures.value) i;
      quadratic = (with_items_is (with_items room filled) c.weigh.new.values long ∙ c.weigh.ensures ∙ ap (weighted f.ops f.coding.element) (values ∙ c.fill_quadratic.ensures.values)) i;
    }
