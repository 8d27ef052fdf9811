use Rattle.std.proofs.Common.{◌≡◌, ◌-◌, ◌*◌, ◌≤◌, ◌++◌, List, length, take, drop, sym, ap, ◌∙◌, subst, arith, length-take}
use Rattle.std.proofs.lemmas.List.{take_at}
use Rattle.lzk_layout.specs.declared.params.Params.{Params}
use Rattle.lzk_layout.specs.Sizes.{AreBounded, params_of}
use Rattle.lzk_ligero_tableau.specs.Filled.{AreReaching}
use Rattle.lzk_ligero_tableau.specs.Table.{Table, IsTable}
use Rattle.lzk_ligero_tableau.specs.Tableau.{low_words, randoms, tableau}
use Rattle.lzk_ligero_tableau.proofs.TableauLaws.{front_table, length-tableau}
use Rattle.lzk_ligero_commit.proofs.filling.fill.Goals as goal

pub fill_table-requires-clause-reaching : goal.fill_table-requires-clause-reaching
fill_table-requires-clause-reaching g c κs within =
    let x = c.args.extenders.now in
    let reach = g.X.RowExtend.reach in
    let rooms = g.X.RowExtend.rooms in
    let plan = c.args.given.now.plan.now in
    let room = ap (λ (t : Table g.row.F.Denot). t.room) c.tableau.view_is in
    subst (λ p. AreReaching p (reach x.short) (reach x.long) (rooms x.short) (rooms x.long) c.tableau.inside.room) (sym plan.are)
    (subst (AreReaching (params_of plan.circuit.now) (reach x.short) (reach x.long) (rooms x.short) (rooms x.long)) (sym room) c.requires.reaching)

pub fill_table-requires-clause-pads : goal.fill_table-requires-clause-pads
fill_table-requires-clause-pads g c κs within =
    let plan = c.args.given.now.plan.now in
    let same : c.tableau.inside.params ≡ plan.params = ap (λ (t : Table g.row.F.Denot). t.params) c.tableau.view_is ∙ c.requires.made.params ∙ sym plan.are in
    ap length c.deref_mut.ensures.value ∙ c.tableau.invariant.1 ∙ ap (λ (p : Params). p.nsum) same

pub fill_table-requires-clause-elements : goal.fill_table-requires-clause-elements
fill_table-requires-clause-elements g c κs within =
    let plan = c.args.given.now.plan.now in
    let same : c.tableau.inside.params ≡ plan.params = ap (λ (t : Table g.row.F.Denot). t.params) c.tableau.view_is ∙ c.requires.made.params ∙ sym plan.are in
    ap length c.deref_mut-2.ensures.value ∙ c.tableau.invariant.2 ∙ ap (λ (p : Params). (p.nrow - 3) * p.wr) same

pub fill_table-requires-clause-table : goal.fill_table-requires-clause-table
fill_table-requires-clause-table g c κs within =
    let plan = c.args.given.now.plan.now in
    let same : c.tableau.inside.params ≡ plan.params = ap (λ (t : Table g.row.F.Denot). t.params) c.tableau.view_is ∙ c.requires.made.params ∙ sym plan.are in
    omega (arith, ap length c.deref_mut-3.ensures.value, c.set_rooms.ensures.rooms, ap (λ (p : Params). p.nrow * p.ncol) same)

pub set_rooms-requires-clause-one : goal.set_rooms-requires-clause-one
set_rooms-requires-clause-one g c κs within = c.tableau.invariant.3

pub set_rooms-requires-clause-memory : goal.set_rooms-requires-clause-memory
set_rooms-requires-clause-memory g c κs within = c.tableau.invariant.4

pub returns-clause-pads : goal.returns-clause-pads
returns-clause-pads g c =
    let f = g.F.Field in
    let e = f.coding in
    let word = low_words (g.W.Words.at c.args.given.now.words.now) in
    let pads = c.tableau.inside.pads in
    let new = c.fill_table.new.pads in
    let size : length new ≡ pads.len = omega (arith, c.fill_table.auto.pads, c.deref_mut.ensures.len) in
    take_at new (drop (length new) pads.items) pads.len size ∙ c.fill_table.ensures.pads ∙ ap (λ (p : Params). randoms f.ops e word 0 p.nsum) c.args.given.now.plan.now.are

pub returns-clause-room : goal.returns-clause-room
returns-clause-room g c = ap (λ (t : Table g.row.F.Denot). t.room) c.tableau.view_is

pub invariant_of-tableau : goal.invariant_of-tableau
invariant_of-tableau g c =
    let pads = c.tableau.inside.pads in
    let elements = c.tableau.inside.elements in
    let table = c.set_rooms.new.table in
    let new_pads = c.fill_table.new.pads in
    let new_elements = c.fill_table.new.elements in
    let new_table = c.fill_table.new.table in
    let pads_long : length new_pads ≡ pads.len = omega (arith, c.fill_table.auto.pads, c.deref_mut.ensures.len) in
    let elements_long : length new_elements ≡ elements.len = omega (arith, c.fill_table.auto.elements, c.deref_mut-2.ensures.len) in
    let table_long : length new_table ≡ table.len = omega (arith, c.fill_table.auto.table, c.deref_mut-3.ensures.len) in
    let table_count = ap length (take_at new_table (drop (length new_table) table.items) table.len table_long) ∙ c.fill_table.auto.table ∙ ap length c.deref_mut-3.ensures.value in (
      c.tableau.invariant.0,
      ap length (take_at new_pads (drop (length new_pads) pads.items) pads.len pads_long) ∙ c.fill_table.auto.pads ∙ ap length c.deref_mut.ensures.value ∙ c.tableau.invariant.1,
      ap length (take_at new_elements (drop (length new_elements) elements.items) elements.len elements_long) ∙ c.fill_table.auto.elements ∙ ap length c.deref_mut-2.ensures.value ∙ c.tableau.invariant.2,
      omega (arith, c.set_rooms.ensures.one, table_count),
      c.set_rooms.ensures.memory,
    )

pub returns-clause-made : goal.returns-clause-made
returns-clause-made g c =
    let p = c.tableau.inside.params in
    let same : p ≡ params_of c.args.given.now.plan.now.circuit.now = ap (λ (t : Table g.row.F.Denot). t.params) c.tableau.view_is ∙ c.requires.made.params in
    let pads = c.tableau.inside.pads in
    let table = c.set_rooms.new.table in
    let new_pads = c.fill_table.new.pads in
    let new_table = c.fill_table.new.table in
    let pads_long : length new_pads ≡ pads.len = omega (arith, c.fill_table.auto.pads, c.deref_mut.ensures.len) in
    let table_long : length new_table ≡ table.len = omega (arith, c.fill_table.auto.table, c.deref_mut-3.ensures.len) in
    let items = take table.len (new_table ++ drop (length new_table) table.items) in
    let table_count : length items ≡ length table.items = ap length (take_at new_table (drop (length new_table) table.items) table.len table_long) ∙ c.fill_table.auto.table ∙ ap length c.deref_mut-3.ensures.value in
    let rows : length (take (p.nrow * p.ncol) items) ≡ p.nrow * p.ncol = omega (arith, length-take (p.nrow * p.ncol) items, table_count, c.set_rooms.ensures.one) in
    record {
      params = same;
      pads = ap length (take_at new_pads (drop (length new_pads) pads.items) pads.len pads_long) ∙ c.fill_table.auto.pads ∙ ap length c.deref_mut.ensures.value ∙ c.tableau.invariant.1 ∙ ap (λ (q : Params). q.nsum) same;
      rows = rows ∙ ap (λ (q : Params). q.nrow * q.ncol) same;
    }

pub returns-clause-rows : goal.returns-clause-rows
returns-clause-rows g c =
    let f = g.F.Field in
    let e = f.coding in
    let word = low_words (g.W.Words.at c.args.given.now.words.now) in
    let plan = c.args.given.now.plan.now in
    let circuit = plan.circuit.now in
    let private = c.args.given.now.private.now in
    let p = c.tableau.inside.params in
    let same : p ≡ params_of circuit = ap (λ (t : Table g.row.F.Denot). t.params) c.tableau.view_is ∙ c.requires.made.params in
    let b : AreBounded (params_of circuit) = subst AreBounded same c.tableau.invariant.0 in
    let three : 3 ≤ (params_of circuit).nrow = omega (arith, b.rows) in
    let rows = tableau f.ops e circuit private word in
    let new = c.fill_table.new.table in
    let rest = drop (length new) c.set_rooms.new.table.items in
    let size : length new ≡ c.set_rooms.new.table.len = omega (arith, c.fill_table.auto.table, c.deref_mut-3.ensures.len) in
    let whole : take c.set_rooms.new.table.len (new ++ rest) ≡ new = take_at new rest c.set_rooms.new.table.len size in
    let count : length rows ≡ plan.params.nrow = length-tableau f.ops e circuit private word three ∙ sym (ap (λ (q : Params). q.nrow) plan.are) in
    let front = front_table f.ops f.coding.element plan.params.ncol plan.params.nrow rows new count c.fill_table.ensures.rows in
    let P : Params → Type 0 = λ q. IsTable f.ops f.coding.element q.ncol rows (take (q.nrow * q.ncol) new) in
    let Q : List g.row.F.Denot → Type 0 = λ xs. IsTable f.ops f.coding.element (params_of circuit).ncol rows (take (p.nrow * p.ncol) xs) in
    let R : Params → Type 0 = λ q. IsTable f.ops f.coding.element (params_of circuit).ncol rows (take (q.nrow * q.ncol) new) in
    subst Q (sym whole) (subst R (sym same) (subst P plan.are front))
