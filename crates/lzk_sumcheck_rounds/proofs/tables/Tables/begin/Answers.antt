use Rattle.std.proofs.Common.{◌≡◌, ◌≤◌, length, take, sym, ap, ◌∙◌, arith, subst}
use Rattle.std.specs.Vec.{with_items}
use Rattle.std.proofs.lemmas.List.{length-take, length-take-le}
use Rattle.lzk_field.specs.Sums.{entry}
use Rattle.lzk_sumcheck_rounds.specs.Pairs.{ArePairs}
use Rattle.lzk_sumcheck_rounds.specs.Rows.{counted}
use Rattle.lzk_sumcheck_rounds.specs.Tables.{KeptTables}
use Rattle.lzk_sumcheck_rounds.proofs.TableLaws.{whole-written, whole-size, room_of}
use Rattle.lzk_sumcheck_rounds.proofs.tables.Tables.begin.Goals as goal

pub pad_front-requires-clause-room : goal.pad_front-requires-clause-room
pad_front-requires-clause-room g c κs within =
    let i = c.self.inside in
    let places = ap (λ (v : KeptTables g.row.F.Denot). v.room.places) c.self.view_is in
    let some : 1 ≤ length i.first.items = omega (arith, c.self.invariant.1.first, length-take i.first_count i.first.items) in
    omega (arith, ap length c.deref_mut.ensures.value, c.table_size-size.ensures.least (length i.first.items) some (omega (arith, c.requires.values, places)))

pub pad_front-requires-2-clause-room : goal.pad_front-requires-2-clause-room
pad_front-requires-2-clause-room g c κs within =
    let i = c.self.inside in
    let places = ap (λ (v : KeptTables g.row.F.Denot). v.room.places) c.self.view_is in
    let some : 1 ≤ length i.first.items = omega (arith, c.self.invariant.1.first, length-take i.first_count i.first.items) in
    omega (arith, ap length c.deref_mut-2.ensures.value, c.self.invariant.0.second_places, c.table_size-size.ensures.least (length i.first.items) some (omega (arith, c.requires.values, places)))

pub set_fronts-count-requires-clause-room : goal.set_fronts-count-requires-clause-room
set_fronts-count-requires-clause-room g c κs within =
    omega (arith, c.requires.pairs, ap (λ (v : KeptTables g.row.F.Denot). v.room.pairs) c.self.view_is, ap length c.deref_mut-3.ensures.value)

pub set_fronts-count-requires-clause-size : goal.set_fronts-count-requires-clause-size
set_fronts-count-requires-clause-size g c κs within =
    let i = c.self.inside in
    let places = ap (λ (v : KeptTables g.row.F.Denot). v.room.places) c.self.view_is in
    let some : 1 ≤ length i.first.items = omega (arith, c.self.invariant.1.first, length-take i.first_count i.first.items) in
    omega (arith, ap length c.deref_mut-4.ensures.value, c.self.invariant.0.linear_places, c.table_size-size.ensures.least (length i.first.items) some (omega (arith, c.requires.values, places)))

pub invariant_of-self : goal.invariant_of-self
invariant_of-self g c =
    let i = c.self.inside in
    let room = c.self.invariant.0 in
    let size = c.table_size-size.result in
    let sf = c.set_fronts-count in
    let f = with_items i.first c.pad_front.new.table in
    let h = with_items i.second c.pad_front-2.new.table in
    let p = with_items i.pairs sf.new.pairs in
    let q = with_items i.linear sf.new.linear in
    let wp : p.items ≡ sf.new.pairs = whole-written i.pairs c.deref_mut-3.result.now sf.new.pairs c.deref_mut-3.ensures.value sf.auto.pairs in
    let lf = whole-size i.first c.deref_mut.result.now c.pad_front.new.table c.deref_mut.ensures.value c.pad_front.auto.table in
    let lh = whole-size i.second c.deref_mut-2.result.now c.pad_front-2.new.table c.deref_mut-2.ensures.value c.pad_front-2.auto.table in
    let lp = whole-size i.pairs c.deref_mut-3.result.now sf.new.pairs c.deref_mut-3.ensures.value sf.auto.pairs in
    let lq = whole-size i.linear c.deref_mut-4.result.now sf.new.linear c.deref_mut-4.ensures.value sf.auto.linear in
    let places = ap (λ (v : KeptTables g.row.F.Denot). v.room.places) c.self.view_is in
    let some : 1 ≤ length i.first.items = omega (arith, c.self.invariant.1.first, length-take i.first_count i.first.items) in
    let fits : size ≤ length i.first.items = c.table_size-size.ensures.least (length i.first.items) some (omega (arith, c.requires.values, places)) in
    let a : length (take size f.items) ≡ size = length-take-le size f.items (omega (arith, lf, fits)) in
    let b : length (take size h.items) ≡ size = length-take-le size h.items (omega (arith, lh, fits, room.second_places)) in
    let l : length (take size q.items) ≡ size = length-take-le size q.items (omega (arith, lq, fits, room.linear_places)) in (
      record {
        pairs = omega (arith, ap length wp, sf.ensures.count, sf.auto.pairs);
        linear = omega (arith, lq, fits, room.linear_places);
        first = omega (arith, lf, fits);
        second = omega (arith, lh, fits, room.second_places);
        linear_places = omega (arith, lq, lf, room.linear_places);
        second_places = omega (arith, lh, lf, room.second_places);
        rows_places = omega (arith, lf, room.rows_places);
        few = omega (arith, lf, room.few);
      },
      record {
        first = omega (arith, a, c.table_size-size.ensures.some);
        second = omega (arith, b, c.table_size-size.ensures.some);
        for_a = λ q. l ∙ sym b;
        for_b = λ q. l ∙ sym a;
        pairs = subst (ArePairs (length (take size f.items)) (length (take size h.items))) (sym (ap (take sf.result) wp))
            (sf.ensures.within (length (take size f.items)) (length (take size h.items)) (omega (arith, a)) (omega (arith, b)));
      },
    )

pub returns-clause-room : goal.returns-clause-room
returns-clause-room g c =
    let i = c.self.inside in
    let sf = c.set_fronts-count in
    let f = with_items i.first c.pad_front.new.table in
    ap (λ n. room_of n (length f.items)) (whole-size i.pairs c.deref_mut-3.result.now sf.new.pairs c.deref_mut-3.ensures.value sf.auto.pairs)
    ∙ ap (room_of (length i.pairs.items)) (whole-size i.first c.deref_mut.result.now c.pad_front.new.table c.deref_mut.ensures.value c.pad_front.auto.table)
    ∙ ap (λ (v : KeptTables g.row.F.Denot). v.room) c.self.view_is

pub returns-clause-sums : goal.returns-clause-sums
returns-clause-sums g c = λ a b.
    let o = g.F.Field.ops in
    let i = c.self.inside in
    let sf = c.set_fronts-count in
    let size = c.table_size-size.result in
    let wp = whole-written i.pairs c.deref_mut-3.result.now sf.new.pairs c.deref_mut-3.ensures.value sf.auto.pairs in
    let wl = whole-written i.linear c.deref_mut-4.result.now sf.new.linear c.deref_mut-4.ensures.value sf.auto.linear in
    ap (λ ps. counted o (take sf.result ps) (take size (with_items i.linear sf.new.linear).items) a b) wp
    ∙ ap (λ ls. counted o (take sf.result sf.new.pairs) (take size ls) a b) wl ∙ sf.ensures.sums a b

pub returns-clause-first : goal.returns-clause-first
returns-clause-first g c = λ k.
    ap (λ xs. entry g.F.Field.ops (take c.table_size-size.result xs) k) (whole-written c.self.inside.first c.deref_mut.result.now c.pad_front.new.table c.deref_mut.ensures.value c.pad_front.auto.table)
    ∙ c.pad_front.ensures k

pub returns-clause-second : goal.returns-clause-second
returns-clause-second g c = λ k.
    ap (λ xs. entry g.F.Field.ops (take c.table_size-size.result xs) k) (whole-written c.self.inside.second c.deref_mut-2.result.now c.pad_front-2.new.table c.deref_mut-2.ensures.value c.pad_front-2.auto.table)
    ∙ c.pad_front-2.ensures k

pub returns-clause-first_fits : goal.returns-clause-first_fits
returns-clause-first_fits g c =
    let i = c.self.inside in
    let places = ap (λ (v : KeptTables g.row.F.Denot). v.room.places) c.self.view_is in
    let some : 1 ≤ length i.first.items = omega (arith, c.self.invariant.1.first, length-take i.first_count i.first.items) in
    let fits : c.table_size-size.result ≤ length i.first.items = c.table_size-size.ensures.least (length i.first.items) some (omega (arith, c.requires.values, places)) in
    let size = whole-size i.first c.deref_mut.result.now c.pad_front.new.table c.deref_mut.ensures.value c.pad_front.auto.table in
    let taken = length-take-le c.table_size-size.result (with_items i.first c.pad_front.new.table).items (omega (arith, fits, size, c.self.invariant.0.second_places)) in
    omega (arith, taken, c.table_size-size.ensures.fits)

pub returns-clause-first_least : goal.returns-clause-first_least
returns-clause-first_least g c = λ n one holds.
    let i = c.self.inside in
    let places = ap (λ (v : KeptTables g.row.F.Denot). v.room.places) c.self.view_is in
    let some : 1 ≤ length i.first.items = omega (arith, c.self.invariant.1.first, length-take i.first_count i.first.items) in
    let fits : c.table_size-size.result ≤ length i.first.items = c.table_size-size.ensures.least (length i.first.items) some (omega (arith, c.requires.values, places)) in
    let size = whole-size i.first c.deref_mut.result.now c.pad_front.new.table c.deref_mut.ensures.value c.pad_front.auto.table in
    let taken = length-take-le c.table_size-size.result (with_items i.first c.pad_front.new.table).items (omega (arith, fits, size, c.self.invariant.0.second_places)) in
    omega (arith, taken, c.table_size-size.ensures.least n one holds)

pub returns-clause-second_fits : goal.returns-clause-second_fits
returns-clause-second_fits g c =
    let i = c.self.inside in
    let places = ap (λ (v : KeptTables g.row.F.Denot). v.room.places) c.self.view_is in
    let some : 1 ≤ length i.first.items = omega (arith, c.self.invariant.1.first, length-take i.first_count i.first.items) in
    let fits : c.table_size-size.result ≤ length i.first.items = c.table_size-size.ensures.least (length i.first.items) some (omega (arith, c.requires.values, places)) in
    let size = whole-size i.second c.deref_mut-2.result.now c.pad_front-2.new.table c.deref_mut-2.ensures.value c.pad_front-2.auto.table in
    let taken = length-take-le c.table_size-size.result (with_items i.second c.pad_front-2.new.table).items (omega (arith, fits, size, c.self.invariant.0.second_places)) in
    omega (arith, taken, c.table_size-size.ensures.fits)

pub returns-clause-second_least : goal.returns-clause-second_least
returns-clause-second_least g c = λ n one holds.
    let i = c.self.inside in
    let places = ap (λ (v : KeptTables g.row.F.Denot). v.room.places) c.self.view_is in
    let some : 1 ≤ length i.first.items = omega (arith, c.self.invariant.1.first, length-take i.first_count i.first.items) in
    let fits : c.table_size-size.result ≤ length i.first.items = c.table_size-size.ensures.least (length i.first.items) some (omega (arith, c.requires.values, places)) in
    let size = whole-size i.second c.deref_mut-2.result.now c.pad_front-2.new.table c.deref_mut-2.ensures.value c.pad_front-2.auto.table in
    let taken = length-take-le c.table_size-size.result (with_items i.second c.pad_front-2.new.table).items (omega (arith, fits, size, c.self.invariant.0.second_places)) in
    omega (arith, taken, c.table_size-size.ensures.least n one holds)

pub pad_front-requires-clause-values : goal.pad_front-requires-clause-values
pad_front-requires-clause-values g c κs within = c.table_size-size.ensures.fits

pub pad_front-requires-2-clause-values : goal.pad_front-requires-2-clause-values
pad_front-requires-2-clause-values g c κs within = c.table_size-size.ensures.fits

pub set_fronts-count-requires-clause-order : goal.set_fronts-count-requires-clause-order
set_fronts-count-requires-clause-order g c κs within = c.requires.order

pub set_fronts-count-requires-clause-terms : goal.set_fronts-count-requires-clause-terms
set_fronts-count-requires-clause-terms g c κs within = c.requires.terms

pub set_fronts-count-requires-clause-values : goal.set_fronts-count-requires-clause-values
set_fronts-count-requires-clause-values g c κs within = c.table_size-size.ensures.fits
