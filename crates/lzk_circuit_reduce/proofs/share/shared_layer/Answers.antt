use Rattle.std.proofs.Common.{◌≡◌, ◌∙◌, ap, sym, subst, arith, length, ◌+◌, None}
use Rattle.lzk_circuit.specs.Valid.{AreTerms}
use Rattle.lzk_circuit_reduce.specs.Rows.{IsRow, row_value}
use Rattle.lzk_circuit_reduce.specs.Renumbering.{IsOne}
use Rattle.lzk_circuit_reduce.specs.Shared.{IsSharedLayer}
use Rattle.lzk_circuit_reduce.proofs.SharedWireLaws.{Sharing, sharing-starts, sharing-adds, sharing-ends}
use Rattle.lzk_circuit_reduce.proofs.share.shared_layer.Goals as goal

pub none_kept-requires-after_bounds : goal.none_kept-requires-after_bounds
none_kept-requires-after_bounds g c κs within = c.requires.some

pub loop-g-init : goal.loop-g-init
loop-g-init g c =
    let o = g.F.Field.ops in
    let kept = c.in-Ok-none_kept.kept in
    let none = c.in-Ok-none_kept.ensures in
    let below = c.as_slice-below.result.now in
    record {
      shared = subst (Sharing o g.F.Field.coding.number c.args.layer.now below 0 0 kept) (sym c.in-Ok.ensures.items) (sharing-starts o g.F.Field.coding.number c.args.layer.now below kept none.table none.kept none.count none.terms);
      room = omega (arith, c.in-Ok.ensures.capacity);
    }

pub push_reserved-requires : goal.push_reserved-requires
push_reserved-requires g c = omega (arith, c.loop-g.invariant.shared.each, c.loop-g.invariant.room, c.loop-g-test.true)

pub wire_row-requires-clause-start : goal.wire_row-requires-clause-start
wire_row-requires-clause-start g c κs within = c.loop-g.invariant.shared.start_is

pub wire_row-requires-clause-terms : goal.wire_row-requires-clause-terms
wire_row-requires-clause-terms g c κs within =
    let layer = c.args.layer.now in
    subst (λ ns. AreTerms g.F.Field.ops layer.wires (length ns) None layer.terms) (sym c.as_slice-below.ensures.value) c.requires.terms

pub wire_of-requires-clause-few : goal.wire_of-requires-clause-few
wire_of-requires-clause-few g c κs within = omega (arith, c.loop-g.invariant.shared.few, c.loop-g-test.true, c.requires.most)

pub wire_of-requires-clause-table : goal.wire_of-requires-clause-table
wire_of-requires-clause-table g c κs within = c.loop-g.invariant.shared.table

pub loop-g-preserved : goal.loop-g-preserved
loop-g-preserved g c =
    let o = g.F.Field.ops in
    let layer = c.args.layer.now in
    let below = c.as_slice-below.result.now in
    let is = c.deref.ensures.value in
    let found = c.in-Ok-wire_row.ensures in
    let taken = c.in-Ok-wire_of.ensures in
    let shared : Sharing o g.F.Field.coding.number layer below (c.loop-g.g + 1) c.in-Ok-wire_row.end c.wire_of.new.kept c.push_reserved.new.self.items =
    subst (Sharing o g.F.Field.coding.number layer below (c.loop-g.g + 1) c.in-Ok-wire_row.end c.wire_of.new.kept) (sym c.push_reserved.ensures.items)
    (sharing-adds o g.F.Field.coding.number layer below c.loop-g.g c.loop-g.start c.in-Ok-wire_row.end c.in-Ok-wire_of.wire c.loop-g.kept c.wire_of.new.kept c.loop-g.wires.items c.deref.result.now
    (record {
      end_is = found.end_is;
      is = λ width n. subst (IsRow o width) (sym is) (found.is width n);
      value = λ old new h. ap (row_value o new) is ∙ found.value old new h;
      short = omega (arith, ap length is, found.short);
      one = λ h z. subst (IsOne o) (sym is) (found.one h z);
    })
    (record {
      table = taken.table;
      still = taken.kept;
      wire = taken.wire;
      terms = taken.terms;
      before = taken.before;
      first = taken.first;
      grows = taken.more;
      count = taken.count;
      short = taken.short;
    }) c.loop-g.invariant.shared) in
    record { shared = shared; room = omega (arith, c.push_reserved.ensures.capacity, c.loop-g.invariant.room) }

pub returns : goal.returns
returns g c =
    let o = g.F.Field.ops in
    let number = g.F.Field.coding.number in
    let layer = c.args.layer.now in
    let below = c.as_slice-below.result.now in
    let kept = c.loop-g.kept in
    let wires = c.loop-g.wires.items in
    let same = c.as_slice-below.ensures.value in
    let end : c.loop-g.g ≡ layer.wires = omega (arith, c.loop-g-test.false, c.loop-g.auto.g-end) in
    let all : Sharing o number layer below layer.wires c.loop-g.start kept wires = subst (λ k. Sharing o number layer below k c.loop-g.start kept wires) end c.loop-g.invariant.shared in
    let terms = subst (λ ns. AreTerms o layer.wires (length ns) None layer.terms) (sym same) c.requires.terms in
    subst (λ ts. IsSharedLayer o layer c.args.numbers.now.items (record { wires = kept.count; terms = ts }) wires) (sym c.new.ensures)
    (subst (λ ns. IsSharedLayer o layer ns (record { wires = kept.count; terms = kept.terms.items }) wires) same (sharing-ends o g.F.Field.laws.ring number layer below c.loop-g.start kept wires c.requires.some terms all))
