use Rattle.std.proofs.Common.{◌≡◌, ◌+◌, length, sym, ap, ◌∙◌, subst, arith}
use Rattle.std.specs.Vec.{with_items}
use Rattle.std.proofs.lemmas.List.{with_items_is}
use Rattle.lzk_layout.specs.Places.{depth}
use Rattle.lzk_sumcheck.specs.Coefficients.{AreBounds}
use Rattle.lzk_accept.specs.Kept.{LinearForms, AreRest, AreTablesAt, ArePlaced}
use Rattle.lzk_accept.proofs.linear.rest_forms.Goals as goal

pub set_bounds-requires-clause-count : goal.set_bounds-requires-clause-count
set_bounds-requires-clause-count g c κs within =
    let forms : length c.forms.inside.forms.items ≡ length c.args.forms.now.forms = ap (λ (x : LinearForms g.row.F.Denot). length x.forms) c.forms.view_is in
    omega (arith, ap length c.deref_mut.ensures.value, c.forms.invariant.2, forms, c.requires.made.count)

pub set_bounds-requires-clause-tables : goal.set_bounds-requires-clause-tables
set_bounds-requires-clause-tables g c κs within =
    let room : length c.forms.inside.weights.items ≡ c.args.forms.now.room = ap (λ (x : LinearForms g.row.F.Denot). x.room) c.forms.view_is in
    record {
      room = λ l h. omega (arith, c.requires.made.room l h, room, ap length c.deref_mut-4.ensures.value);
      first = omega (arith, c.forms.invariant.0, ap length c.deref_mut-2.ensures.value, ap length c.deref_mut-4.ensures.value);
      second = omega (arith, c.forms.invariant.1, ap length c.deref_mut-3.ensures.value, ap length c.deref_mut-4.ensures.value);
    }

pub invariant_of-prepared-clause-are : goal.invariant_of-prepared-clause-are
invariant_of-prepared-clause-are g c =
    let inside = c.forms.inside in
    let nb : length c.set_bounds.new.bounds ≡ inside.bounds.len = c.set_bounds.ensures.bounds_length ∙ ap length c.deref_mut.ensures.value ∙ sym inside.bounds.ok.0 in
    subst (AreBounds g.F.Field.ops c.args.exchange.scripted.circuit.now c.args.exchange.scripted.script.now) (sym (c.deref.ensures.value ∙ with_items_is inside.bounds c.set_bounds.new.bounds nb)) c.set_bounds.ensures.bounds

pub invariant_of-prepared-clause-at : goal.invariant_of-prepared-clause-at
invariant_of-prepared-clause-at g c =
    let w = c.args.exchange.scripted.circuit.now in
    let s = c.args.exchange.scripted.script.now in
    let inside = c.forms.inside in
    let tables = c.set_bounds.new in
    let nf : length tables.first ≡ inside.first.len = c.set_bounds.ensures.first_length ∙ ap length c.deref_mut-2.ensures.value ∙ sym inside.first.ok.0 in
    let ns : length tables.second ≡ inside.second.len = c.set_bounds.ensures.second_length ∙ ap length c.deref_mut-3.ensures.value ∙ sym inside.second.ok.0 in
    subst (λ xs. AreTablesAt g.F.Field.ops w s (depth w) xs c.deref-3.result.now) (sym (c.deref-2.ensures.value ∙ with_items_is inside.first tables.first nf))
    (subst (AreTablesAt g.F.Field.ops w s (depth w) tables.first) (sym (c.deref-3.ensures.value ∙ with_items_is inside.second tables.second ns)) c.set_bounds.ensures.at)

pub invariant_of-prepared-clause-few : goal.invariant_of-prepared-clause-few
invariant_of-prepared-clause-few g c = c.requires.skip

pub invariant_of-forms : goal.invariant_of-forms
invariant_of-forms g c =
    let inside = c.forms.inside in
    let tables = c.set_bounds.new in
    let e = c.set_bounds.ensures in
    let one = ap length c.deref_mut-2.ensures.value in
    let other = ap length c.deref_mut-3.ensures.value in
    let room = ap length c.deref_mut-4.ensures.value in
    let kept = ap length c.deref_mut-5.ensures.value in
    let nb : length tables.bounds ≡ inside.bounds.len = e.bounds_length ∙ ap length c.deref_mut.ensures.value ∙ sym inside.bounds.ok.0 in
    let n1 : length tables.first ≡ inside.first.len = e.first_length ∙ one ∙ sym inside.first.ok.0 in
    let n2 : length tables.second ≡ inside.second.len = e.second_length ∙ other ∙ sym inside.second.ok.0 in
    let nw : length tables.weights ≡ inside.weights.len = e.weights_length ∙ room ∙ sym inside.weights.ok.0 in
    let nf : length c.fill_forms.new.forms ≡ inside.forms.len = c.fill_forms.ensures.forms_length ∙ kept ∙ sym inside.forms.ok.0 in
    let weights = ap length (with_items_is inside.weights tables.weights nw) ∙ e.weights_length ∙ room in (
      ap length (with_items_is inside.first tables.first n1) ∙ e.first_length ∙ one ∙ c.forms.invariant.0 ∙ sym weights,
      ap length (with_items_is inside.second tables.second n2) ∙ e.second_length ∙ other ∙ c.forms.invariant.1 ∙ sym weights,
      ap (λ xs. length xs + 1) (with_items_is inside.bounds tables.bounds nb) ∙ ap (λ n. n + 1) (e.bounds_length ∙ ap length c.deref_mut.ensures.value) ∙ c.forms.invariant.2
          ∙ sym (ap length (with_items_is inside.forms c.fill_forms.new.forms nf) ∙ c.fill_forms.ensures.forms_length ∙ kept),
    )

pub fill_forms-requires-clause-placed : goal.fill_forms-requires-clause-placed
fill_forms-requires-clause-placed g c κs within =
    let o = g.F.Field.ops in
    let w = c.args.exchange.scripted.circuit.now in
    let made = c.requires.made in
    let placed : ArePlaced o w c.args.forms.now.forms c.args.forms.now.own = record { count = made.count; own = made.own; places = made.places } in
    let forms = c.deref_mut-5.ensures.value ∙ ap (λ (x : LinearForms g.row.F.Denot). x.forms) c.forms.view_is in
    let own = c.deref_mut-6.ensures.value ∙ ap (λ (x : LinearForms g.row.F.Denot). x.own) c.forms.view_is in
    subst (λ fs. ArePlaced o w fs c.deref_mut-6.result.now) (sym forms) (subst (ArePlaced o w c.args.forms.now.forms) (sym own) placed)

pub returns-clause-made : goal.returns-clause-made
returns-clause-made g c =
    let o = g.F.Field.ops in
    let w = c.args.exchange.scripted.circuit.now in
    let inside = c.forms.inside in
    let nf : length c.fill_forms.new.forms ≡ inside.forms.len = c.fill_forms.ensures.forms_length ∙ ap length c.deref_mut-5.ensures.value ∙ sym inside.forms.ok.0 in
    let no : length c.fill_forms.new.own ≡ inside.own.len = c.fill_forms.ensures.own_length ∙ ap length c.deref_mut-6.ensures.value ∙ sym inside.own.ok.0 in
    let ef = with_items_is inside.forms c.fill_forms.new.forms nf in
    let eo = with_items_is inside.own c.fill_forms.new.own no in
    let nw : length c.set_bounds.new.weights ≡ inside.weights.len = c.set_bounds.ensures.weights_length ∙ ap length c.deref_mut-4.ensures.value ∙ sym inside.weights.ok.0 in
    let room : length (with_items inside.weights c.set_bounds.new.weights).items ≡ c.args.forms.now.room =
    ap length (with_items_is inside.weights c.set_bounds.new.weights nw) ∙ c.set_bounds.ensures.weights_length ∙ ap length c.deref_mut-4.ensures.value ∙ ap (λ (x : LinearForms g.row.F.Denot). x.room) c.forms.view_is in
    let placed = subst (λ fs. ArePlaced o w fs (with_items inside.own c.fill_forms.new.own).items) (sym ef) (subst (ArePlaced o w c.fill_forms.new.forms) (sym eo) c.fill_forms.ensures.placed) in
    record {
      count = placed.count;
      own = placed.own;
      places = placed.places;
      room = λ l h. omega (arith, c.requires.made.room l h, room);
    }

pub returns-clause-rest : goal.returns-clause-rest
returns-clause-rest g c =
    let f = g.F.Field in
    let inside = c.forms.inside in
    let forms = c.fill_forms.new.forms in
    let own = c.fill_forms.new.own in
    let nf : length c.fill_forms.new.forms ≡ inside.forms.len = c.fill_forms.ensures.forms_length ∙ ap length c.deref_mut-5.ensures.value ∙ sym inside.forms.ok.0 in
    let no : length c.fill_forms.new.own ≡ inside.own.len = c.fill_forms.ensures.own_length ∙ ap length c.deref_mut-6.ensures.value ∙ sym inside.own.ok.0 in
    let rest = AreRest f.ops f.coding.element c.args.exchange.scripted.circuit.now c.args.exchange.public.now c.args.exchange.scripted.script.now c.args.exchange.messages.now c.args.skip in
    subst (λ fs. rest fs (with_items inside.own own).items) (sym (with_items_is inside.forms forms nf))
    (subst (rest forms) (sym (with_items_is inside.own own no)) c.fill_forms.ensures.rest)
