use Rattle.std.proofs.Common.{◌∙◌, length, take}
use Rattle.lzk_layout.specs.Proofs.{element_field}
use Rattle.lzk_layout.proofs.FileLaws.{next_room, next_stop, elements_step, elements_done, elements_stop}
use Rattle.lzk_layout.proofs.encoding.put_elements.Goals as goal

pub put_element-end-requires-after_bounds : goal.put_element-end-requires-after_bounds
put_element-end-requires-after_bounds g c κs within =
    let now = c.loop-i.invariant in
    next_room c.args.at g.F.Field.coding.bytes c.loop-i.i (length c.args.list.now) c.loop-i.end (length c.args.out.now) (length c.loop-i.out) c.loop-i-test.true now.end now.length c.requires

pub loop-i-preserved : goal.loop-i-preserved
loop-i-preserved g c =
    let field = element_field g.F.Field.coding.bytes g.F.Field.coding.number in
    let now = c.loop-i.invariant in
    let one = c.put_element-end in
    record {
      end = next_stop c.args.at g.F.Field.coding.bytes c.loop-i.i c.loop-i.end one.result now.end one.ensures.end;
      length = one.ensures.length ∙ now.length;
      front = elements_step field c.args.list.now c.loop-i.i c.index-list-i.result (take c.loop-i.end c.loop-i.out) (take one.result one.new.out) _ c.loop-i-test.true c.index-list-i.is one.ensures.front now.front;
    }

pub returns-clause-end : goal.returns-clause-end
returns-clause-end g c = elements_stop c.args.at g.F.Field.coding.bytes c.loop-i.i (length c.args.list.now) c.loop-i.end c.loop-i-test.false c.loop-i.auto.i-end c.loop-i.invariant.end

pub returns-clause-length : goal.returns-clause-length
returns-clause-length g c = c.loop-i.invariant.length

pub returns-clause-front : goal.returns-clause-front
returns-clause-front g c =
    let field = element_field g.F.Field.coding.bytes g.F.Field.coding.number in
    elements_done field c.args.list.now c.loop-i.i (take c.loop-i.end c.loop-i.out) _ c.loop-i-test.false c.loop-i.invariant.front
