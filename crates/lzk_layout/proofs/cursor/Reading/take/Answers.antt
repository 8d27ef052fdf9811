use Rattle.std.proofs.Common.{◌≤◌, ◌∙◌, refl, sym, ap, arith}
use Rattle.lzk_layout.specs.declared.cursor.Reading.{Reading}
use Rattle.lzk_layout.specs.Fields.{shape}
use Rattle.lzk_layout.proofs.ReadingLaws.{fields_few, offset_few, held_less, held_few, cut_long, takes_trailing, takes_wrong}
use Rattle.lzk_layout.proofs.CursorStates.{no_some}
use Rattle.lzk_layout.proofs.cursor.Reading.take.Goals as goal

pub pass-requires-clause-fields : goal.pass-requires-clause-fields
pass-requires-clause-fields g c =
    let few : g.F.Field.coding.bytes ≤ 32 = omega (arith, g.F.Field.laws.numbers.few_bytes) in
    omega (arith, fields_few (shape g.F.Field.coding.bytes g.F.Field.coding.size) c.args.self.now c.in-Some.part c.requires few c.in-Some.is)

pub pass-requires-clause-offset : goal.pass-requires-clause-offset
pass-requires-clause-offset g c =
    let few : g.F.Field.coding.bytes ≤ 32 = omega (arith, g.F.Field.laws.numbers.few_bytes) in
    omega (arith, offset_few (shape g.F.Field.coding.bytes g.F.Field.coding.size) c.args.self.now c.in-Some.part c.requires few c.in-Some.is)

pub returns-in_default-clause-takes : goal.returns-in_default-clause-takes
returns-in_default-clause-takes g c =
    takes_trailing (shape g.F.Field.coding.bytes g.F.Field.coding.size) c.args.self.now c.args.byte c.fault.result (no_some c.args.self.now.part c.in_default.not-Some) c.fault.ensures

pub returns-in_default-clause-params : goal.returns-in_default-clause-params
returns-in_default-clause-params g c = refl

pub returns-then-end-width-clause-takes : goal.returns-then-end-width-clause-takes
returns-then-end-width-clause-takes g c = record {
  part = c.in-Some.part;
  is = c.in-Some.is;
  short = omega (arith, c.if-end-width.true, c.width_of-width.ensures.width);
  new_is = refl;
}

pub returns-then-end-width-clause-params : goal.returns-then-end-width-clause-params
returns-then-end-width-clause-params g c = refl

pub returns-in-Some-wrong_field-clause-takes : goal.returns-in-Some-wrong_field-clause-takes
returns-in-Some-wrong_field-clause-takes g c =
    let s = shape g.F.Field.coding.bytes g.F.Field.coding.size in
    let old = c.args.self.now in
    let few : g.F.Field.coding.bytes ≤ 32 = omega (arith, g.F.Field.laws.numbers.few_bytes) in
    let less = held_less s old old c.args.byte c.requires few g.F.Field.laws.numbers.some_bytes c.in-Some.part c.in-Some.is in
    takes_wrong s old c.args.byte c.width_of-width.result c.in-Some.part c.in-Some.is c.width_of-width.ensures.width (omega (arith, less, c.width_of-width.ensures.width, c.if-end-width.false))
    c.in-Some-wrong_field.kind c.fault-in-Some-wrong_field.result (sym c.wrong_field.ensures ∙ c.in-Some-wrong_field.is) c.fault-in-Some-wrong_field.ensures

pub returns-in-Some-wrong_field-clause-params : goal.returns-in-Some-wrong_field-clause-params
returns-in-Some-wrong_field-clause-params g c = refl

pub pass-requires-clause-bounded : goal.pass-requires-clause-bounded
pass-requires-clause-bounded g c κs within = c.requires.bounded

pub pass-requires-clause-width : goal.pass-requires-clause-width
pass-requires-clause-width g c κs within = c.width_of-width.ensures.width

pub pass-requires-clause-few : goal.pass-requires-clause-few
pass-requires-clause-few g c κs within = c.width_of-width.ensures.few

pub wrong_field-requires-after_bounds : goal.wrong_field-requires-after_bounds
wrong_field-requires-after_bounds g c κs within =
    let s = shape g.F.Field.coding.bytes g.F.Field.coding.size in
    let old = c.args.self.now in
    let few : g.F.Field.coding.bytes ≤ 32 = omega (arith, g.F.Field.laws.numbers.few_bytes) in
    let less = held_few s old old c.args.byte c.requires few g.F.Field.laws.numbers.some_bytes c.in-Some.part c.in-Some.is in
    cut_long old.block old.held c.args.byte less c.requires.zeros c.width_of-width.result c.width_of-width.ensures.few ∙ c.width_of-width.ensures.width

pub returns-clause-takes : goal.returns-clause-takes
returns-clause-takes g c =
    let s = shape g.F.Field.coding.bytes g.F.Field.coding.size in
    let old = c.args.self.now in
    let few : g.F.Field.coding.bytes ≤ 32 = omega (arith, g.F.Field.laws.numbers.few_bytes) in
    let less = held_less s old old c.args.byte c.requires few g.F.Field.laws.numbers.some_bytes c.in-Some.part c.in-Some.is in
    record {
      is = c.in-Some.is;
      long = omega (arith, less, c.width_of-width.ensures.width, c.if-end-width.false);
      number = c.width_of-width.ensures.width;
      block_is = refl;
      passes = sym c.wrong_field.ensures ∙ no_some c.wrong_field.result c.in_default-wrong_field.not-Some;
      new_is = c.pass.ensures;
    }

pub returns-clause-params : goal.returns-clause-params
returns-clause-params g c = ap (λ (r : Reading). r.params) c.pass.ensures
