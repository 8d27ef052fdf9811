use Rattle.lzk_profile.specs.Profile.{most_bits}
use Rattle.std.proofs.Common.{◌≡◌, ◌^◌, ◌≤◌, length, take, ap, ◌∙◌, arith}
use Rattle.std.proofs.lemmas.List.{get_or-take, length-take-le, with_items_is}
use Rattle.std.proofs.lemmas.Nat.{pow_pos}
use Rattle.std.specs.Vec.{with_items}
use Rattle.lzk_field.specs.Sums.{entry}
use Rattle.lzk_sumcheck_rounds.specs.Tables.{KeptTables}
use Rattle.lzk_sumcheck_rounds.proofs.TableLaws.{few-bits, room_of, whole-size}
use Rattle.lzk_sumcheck_rounds.proofs.tables.Tables.set_points.Goals as goal

pub overflow_cast-ra : goal.overflow_cast-ra
overflow_cast-ra g c =
    let few = few-bits (length c.args.ra.now) most_bits (omega (arith, c.requires.room, ap (λ v. v.room.places) c.self.view_is, c.self.invariant.0.few)) in
    omega (arith, few)

pub power_of-size-requires : goal.power_of-size-requires
power_of-size-requires g c =
    let few = few-bits (length c.args.ra.now) most_bits (omega (arith, c.requires.room, ap (λ v. v.room.places) c.self.view_is, c.self.invariant.0.few)) in
    omega (arith, few)

pub set_table-requires-clause-few : goal.set_table-requires-clause-few
set_table-requires-clause-few g c κs within =
    let few = few-bits (length c.args.ra.now) most_bits (omega (arith, c.requires.room, ap (λ v. v.room.places) c.self.view_is, c.self.invariant.0.few)) in
    omega (arith, few)

pub set_table-requires-2-clause-few : goal.set_table-requires-2-clause-few
set_table-requires-2-clause-few g c κs within =
    let few = few-bits (length c.args.ra.now) most_bits (omega (arith, c.requires.room, ap (λ v. v.room.places) c.self.view_is, c.self.invariant.0.few)) in
    omega (arith, few, c.requires.same)

pub invariant_of-self : goal.invariant_of-self
invariant_of-self g c =
    let i = c.self.inside in
    let room = c.self.invariant.0 in
    let size = c.power_of-size.result in
    let some : 1 ≤ size = omega (arith, c.power_of-size.ensures, pow_pos (length c.args.ra.now)) in
    let fits : size ≤ length i.first.items = omega (arith, c.power_of-size.ensures, c.requires.room, ap (λ v. v.room.places) c.self.view_is) in
    let nf : length c.set_table.new.table ≡ i.first.len = omega (arith, c.set_table.auto.table, ap length c.deref_mut.ensures.value, i.first.ok.0) in
    let ns : length c.set_table-2.new.table ≡ i.second.len = omega (arith, c.set_table-2.auto.table, ap length c.deref_mut-2.ensures.value, i.second.ok.0) in
    let first : length (with_items i.first c.set_table.new.table).items ≡ length i.first.items = omega (arith, ap length (with_items_is i.first c.set_table.new.table nf), nf, i.first.ok.0) in
    let second : length (with_items i.second c.set_table-2.new.table).items ≡ length i.first.items = omega (arith, ap length (with_items_is i.second c.set_table-2.new.table ns), ns, i.second.ok.0, room.second_places) in
    let a : length (take size (with_items i.first c.set_table.new.table).items) ≡ size = length-take-le size (with_items i.first c.set_table.new.table).items (omega (arith, first, fits)) in
    let b : length (take size (with_items i.second c.set_table-2.new.table).items) ≡ size = length-take-le size (with_items i.second c.set_table-2.new.table).items (omega (arith, second, fits)) in
    let l : length (take size i.linear.items) ≡ size = length-take-le size i.linear.items (omega (arith, fits, room.linear_places)) in (
      record {
        pairs = omega arith;
        linear = omega (arith, fits, room.linear_places);
        first = omega (arith, first, fits);
        second = omega (arith, second, fits);
        linear_places = omega (arith, first, room.linear_places);
        second_places = omega (arith, first, second);
        rows_places = omega (arith, first, room.rows_places);
        few = omega (arith, first, room.few);
      },
      record {
        first = omega (arith, a, some);
        second = omega (arith, b, some);
        for_a = λ q. omega (arith, b, l);
        for_b = λ q. omega (arith, a, l);
        pairs = tt;
      },
    )

pub returns-clause-first : goal.returns-clause-first
returns-clause-first g c = λ k h.
    let o = g.F.Field.ops in
    let i = c.self.inside in
    let size = c.power_of-size.result in
    let nf : length c.set_table.new.table ≡ i.first.len = omega (arith, c.set_table.auto.table, ap length c.deref_mut.ensures.value, i.first.ok.0) in
    get_or-take size (with_items i.first c.set_table.new.table).items k o.zero (omega (arith, h, c.power_of-size.ensures))
    ∙ ap (λ xs. entry o xs k) (with_items_is i.first c.set_table.new.table nf) ∙ c.set_table.ensures k h

pub returns-clause-second : goal.returns-clause-second
returns-clause-second g c = λ k h.
    let o = g.F.Field.ops in
    let i = c.self.inside in
    let size = c.power_of-size.result in
    let same : 2 ^ length c.args.rb.now ≡ 2 ^ length c.args.ra.now = ap (λ n. 2 ^ n) c.requires.same in
    let ns : length c.set_table-2.new.table ≡ i.second.len = omega (arith, c.set_table-2.auto.table, ap length c.deref_mut-2.ensures.value, i.second.ok.0) in
    get_or-take size (with_items i.second c.set_table-2.new.table).items k o.zero (omega (arith, h, c.power_of-size.ensures))
    ∙ ap (λ xs. entry o xs k) (with_items_is i.second c.set_table-2.new.table ns) ∙ c.set_table-2.ensures k (omega (arith, h, same))

pub set_table-requires-clause-room : goal.set_table-requires-clause-room
set_table-requires-clause-room g c κs within =
    omega (arith, c.requires.room, ap (λ v. v.room.places) c.self.view_is, ap length c.deref_mut.ensures.value)

pub set_table-requires-2-clause-room : goal.set_table-requires-2-clause-room
set_table-requires-2-clause-room g c κs within =
    let same : 2 ^ length c.args.rb.now ≡ 2 ^ length c.args.ra.now = ap (λ n. 2 ^ n) c.requires.same in
    omega (arith, c.requires.room, ap (λ v. v.room.places) c.self.view_is, ap length c.deref_mut-2.ensures.value, c.self.invariant.0.second_places, same)

pub returns-clause-room : goal.returns-clause-room
returns-clause-room g c =
    let i = c.self.inside in
    ap (room_of (length i.pairs.items)) (whole-size i.first c.deref_mut.result.now c.set_table.new.table c.deref_mut.ensures.value c.set_table.auto.table)
    ∙ ap (λ (v : KeptTables g.row.F.Denot). v.room) c.self.view_is

pub returns-clause-first_length : goal.returns-clause-first_length
returns-clause-first_length g c =
    let i = c.self.inside in
    let first = whole-size i.first c.deref_mut.result.now c.set_table.new.table c.deref_mut.ensures.value c.set_table.auto.table in
    length-take-le c.power_of-size.result (with_items i.first c.set_table.new.table).items (omega (arith, first, c.power_of-size.ensures, c.requires.room, ap (λ v. v.room.places) c.self.view_is))
    ∙ c.power_of-size.ensures

pub returns-clause-second_length : goal.returns-clause-second_length
returns-clause-second_length g c =
    let i = c.self.inside in
    let second = whole-size i.second c.deref_mut-2.result.now c.set_table-2.new.table c.deref_mut-2.ensures.value c.set_table-2.auto.table in
    length-take-le c.power_of-size.result (with_items i.second c.set_table-2.new.table).items
    (omega (arith, second, c.self.invariant.0.second_places, c.power_of-size.ensures, c.requires.room, ap (λ v. v.room.places) c.self.view_is))
    ∙ c.power_of-size.ensures
