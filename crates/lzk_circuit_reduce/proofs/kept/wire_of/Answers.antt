use Rattle.std.proofs.Common.{◌≡◌, ◌∙◌, ◌++◌, ℕ, ◌+◌, ◌<◌, ◌≤◌, ap, sym, refl, arith, List, length, map}
use Rattle.std.proofs.lemmas.List.{length-append, length-map}
use Rattle.lzk_circuit.specs.declared.layer.Term.{Term}
use Rattle.lzk_circuit_reduce.specs.Rows.{placed}
use Rattle.lzk_circuit_reduce.specs.Renumbering.{of_wire}
use Rattle.lzk_circuit_reduce.specs.Kept.{IsKept, IsTable, HasOneMore, place_of, slot_of}
use Rattle.lzk_circuit_reduce.proofs.PushedLaws.{if-two}
use Rattle.std.proofs.lemmas.Result.{IfOk-weaker}
use Rattle.lzk_circuit_reduce.proofs.KeptLaws.{found-row, numbers-exact, kept-adds, table-adds, added-own, own-before}
use Rattle.lzk_circuit_reduce.proofs.kept.wire_of.Goals as goal

same : (n : ℕ) → n ≤ n
same n = omega arith

no-more : (m n : ℕ) → m ≤ m + n
no-more m n = omega arith

wire-below : (g m n : ℕ) → g ≡ m → n ≡ m + 1 → g < n
wire-below g m n e f = omega (arith, e, f)

one-more : (m n : ℕ) → n ≡ m + 1 → m ≤ n
one-more m n e = omega arith

as-many : (m n : ℕ) → n ≡ m → n ≤ m
as-many m n e = omega arith

long : {A : Type 0} (old new row : List (Term A)) (w : ℕ) → new ≡ old ++ map (placed w) row → length new ≤ length old + length row
long old new row w e = omega (arith, ap length e, length-append old (map (placed w) row), length-map row (placed w))

none-below : (m n : ℕ) → m < n → n ≡ 0 → m ≡ 0
none-below m n l e = absurd (omega (arith, l, e))

pub slot_of-slot-requires-after_bounds : goal.slot_of-slot-requires-after_bounds
slot_of-slot-requires-after_bounds g c κs within = omega (arith, c.len.ensures, c.args.kept.now.heads.ok, c.requires.table.slots)

pub found-requires-clause-table : goal.found-requires-clause-table
found-requires-clause-table g c κs within = c.requires.table

pub add_wire-requires-clause-few : goal.add_wire-requires-clause-few
add_wire-requires-clause-few g c κs within = c.requires.few

pub returns-in-Some-clause-table : goal.returns-in-Some-clause-table
returns-in-Some-clause-table g c = c.requires.table

pub returns-in-Some-clause-kept : goal.returns-in-Some-clause-kept
returns-in-Some-clause-kept g c width k is_row = k

pub returns-in-Some-clause-wire : goal.returns-in-Some-clause-wire
returns-in-Some-clause-wire g c width k is_row = c.in-Some.ensures.below

pub returns-in-Some-clause-terms : goal.returns-in-Some-clause-terms
returns-in-Some-clause-terms g c width k is_row =
    let f = g.F.Field in
    found-row f.coding.number (numbers-exact f.ops f.coding.size f.coding.number f.coding.element f.coding.bytes f.laws.numbers) c.in-Some.wire c.args.kept.now.terms.items c.args.row.now (c.in-Some.ensures.same width k)

pub returns-in-Some-clause-before : goal.returns-in-Some-clause-before
returns-in-Some-clause-before g c width k is_row i l = refl

pub returns-in-Some-clause-first : goal.returns-in-Some-clause-first
returns-in-Some-clause-first g c width k none = none-below c.in-Some.wire c.args.kept.now.count c.in-Some.ensures.below none

pub returns-in-Some-clause-more : goal.returns-in-Some-clause-more
returns-in-Some-clause-more g c = same c.args.kept.now.count

pub returns-in-Some-clause-count : goal.returns-in-Some-clause-count
returns-in-Some-clause-count g c = no-more c.args.kept.now.count 1

pub returns-in-Some-clause-short : goal.returns-in-Some-clause-short
returns-in-Some-clause-short g c = no-more (length c.args.kept.now.terms.items) (length c.args.row.now)

pub returns-clause-table : goal.returns-clause-table
returns-clause-table g c =
    let old = c.args.kept.now in
    let new = c.add_wire.new.kept in
    let row = c.args.row.now in
    let slot = c.slot_of-slot.result in
    IfOk-weaker c.add_wire.result (λ _. HasOneMore old new row slot) (λ _. IsTable new) (λ _ m. table-adds old new row slot c.requires.table m) c.add_wire.ensures.more

pub returns-clause-kept : goal.returns-clause-kept
returns-clause-kept g c width k is_row =
    let f = g.F.Field in
    let old = c.args.kept.now in
    let new = c.add_wire.new.kept in
    let row = c.args.row.now in
    let slot = c.slot_of-slot.result in
    let slots : c.len.result ≡ length old.heads.items = omega (arith, c.len.ensures, old.heads.ok.0) in
    let own = c.slot_of-slot.ensures.slot ∙ ap (λ n. slot_of n (map (place_of f.coding.number) row)) slots in
    IfOk-weaker c.add_wire.result (λ _. HasOneMore old new row slot) (λ _. IsKept f.ops f.coding.number width new)
    (λ _ m. kept-adds f.ops f.coding.number width old new row k m.count m.terms is_row slot c.requires.table m own (c.found.ensures.none width k c.in_default.is)) c.add_wire.ensures.more

pub returns-clause-wire : goal.returns-clause-wire
returns-clause-wire g c width k is_row =
    let old = c.args.kept.now in
    let new = c.add_wire.new.kept in
    if-two (λ w. w ≡ old.count) (λ _. HasOneMore old new c.args.row.now c.slot_of-slot.result) (λ w. w < new.count) (λ w e m. wire-below w old.count new.count e m.count) c.add_wire.result c.add_wire.ensures.wire c.add_wire.ensures.more

pub returns-clause-terms : goal.returns-clause-terms
returns-clause-terms g c width k is_row =
    let f = g.F.Field in
    let old = c.args.kept.now in
    let new = c.add_wire.new.kept in
    let row = c.args.row.now in
    if-two (λ w. w ≡ old.count) (λ _. HasOneMore old new row c.slot_of-slot.result) (λ w. of_wire w new.terms.items ≡ map (placed w) row)
    (λ w e m. ap (λ n. of_wire n new.terms.items) e ∙ added-own f.ops f.coding.number width old new row k m.count m.terms ∙ ap (λ n. map (placed n) row) (sym e)) c.add_wire.result c.add_wire.ensures.wire c.add_wire.ensures.more

pub returns-clause-before : goal.returns-clause-before
returns-clause-before g c width k is_row i l =
    let old = c.args.kept.now in
    let new = c.add_wire.new.kept in
    let row = c.args.row.now in
    IfOk-weaker c.add_wire.result (λ _. HasOneMore old new row c.slot_of-slot.result) (λ _. of_wire i new.terms.items ≡ of_wire i old.terms.items)
    (λ _ m. ap (of_wire i) m.terms ∙ own-before old.count i old.terms.items row l) c.add_wire.ensures.more

pub returns-clause-first : goal.returns-clause-first
returns-clause-first g c width k none = IfOk-weaker c.add_wire.result (λ w. w ≡ c.args.kept.now.count) (λ w. w ≡ 0) (λ w e. e ∙ none) c.add_wire.ensures.wire

pub returns-clause-more : goal.returns-clause-more
returns-clause-more g c =
    let old = c.args.kept.now in
    let new = c.add_wire.new.kept in
    IfOk-weaker c.add_wire.result (λ _. HasOneMore old new c.args.row.now c.slot_of-slot.result) (λ _. old.count ≤ new.count) (λ _ m. one-more old.count new.count m.count) c.add_wire.ensures.more

pub returns-clause-count : goal.returns-clause-count
returns-clause-count g c =
    let old = c.args.kept.now in
    let new = c.add_wire.new.kept in
    IfOk-weaker c.add_wire.result (λ _. HasOneMore old new c.args.row.now c.slot_of-slot.result) (λ _. new.count ≤ old.count + 1) (λ _ m. as-many (old.count + 1) new.count m.count) c.add_wire.ensures.more

pub returns-clause-short : goal.returns-clause-short
returns-clause-short g c =
    let old = c.args.kept.now in
    let new = c.add_wire.new.kept in
    let row = c.args.row.now in
    IfOk-weaker c.add_wire.result (λ _. HasOneMore old new row c.slot_of-slot.result) (λ _. length new.terms.items ≤ length old.terms.items + length row) (λ _ m. long old.terms.items new.terms.items row old.count m.terms) c.add_wire.ensures.more

pub found-requires-clause-slot : goal.found-requires-clause-slot
found-requires-clause-slot g c κs within =
    let heads = c.args.kept.now.heads in
    let slots : c.len.result ≡ length heads.items = omega (arith, c.len.ensures, heads.ok.0) in
    c.slot_of-slot.ensures.slot ∙ ap (λ n. slot_of n (map (place_of g.F.Field.coding.number) c.args.row.now)) slots

pub found-requires-clause-within : goal.found-requires-clause-within
found-requires-clause-within g c κs within = omega (arith, c.slot_of-slot.ensures.within, c.len.ensures, c.args.kept.now.heads.ok.0)

pub add_wire-requires-clause-within : goal.add_wire-requires-clause-within
add_wire-requires-clause-within g c κs within = omega (arith, c.slot_of-slot.ensures.within, c.len.ensures, c.args.kept.now.heads.ok.0)
