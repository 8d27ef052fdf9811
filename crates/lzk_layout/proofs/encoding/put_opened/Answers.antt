use Rattle.std.proofs.Common.{ℕ, ◌+◌, ◌*◌, ◌++◌, length, map, take, arith, ap, ◌∙◌}
use Rattle.lzk_layout.specs.Proofs.{flat, element_field}
use Rattle.lzk_layout.proofs.FileLaws.{opened_step, next_end, next_rest, column_fits, columns_stop, columns_left, opened_done}
use Rattle.lzk_layout.proofs.encoding.put_opened.Goals as goal

pub loop-i-preserved : goal.loop-i-preserved
loop-i-preserved g c =
    let field = element_field g.F.Field.coding.bytes g.F.Field.coding.number in
    let rows = c.args.rows in
    let cut = c.split_at.ensures in
    let now = c.loop-i.invariant in
    record {
      end = next_end c.args.at c.loop-i.i (32 + g.F.Field.coding.bytes * rows) c.loop-i.end c.put_elements-end.result now.end
          (c.put_elements-end.ensures.end ∙ ap (λ (n : ℕ). c.put-end.result + g.F.Field.coding.bytes * n) cut.front_len ∙ grind (arith, c.put-end.ensures.end, c.told-nonces));
      rest = next_rest c.loop-i.i rows (length c.loop-i.rest.now) (length c.split_at.result.1.now) (length c.args.columns.now) now.rest cut.back_len;
      length = omega (arith, c.put-end.ensures.length, c.put_elements-end.ensures.length, now.length);
      front = rw (cut.back) (opened_step field rows c.args.nonces.now c.loop-i.rest.now c.loop-i.i (take c.loop-i.end c.loop-i.out) (take c.put-end.result c.put-end.new.out) (take c.put_elements-end.result c.put_elements-end.new.out) _ c.loop-i-test.true c.put-end.ensures.front
          (c.put_elements-end.ensures.front ∙ ap (λ xs. take c.put-end.result c.put-end.new.out ++ flat (map field xs)) cut.front) now.front);
    }

pub split_at-requires : goal.split_at-requires
split_at-requires g c = columns_left c.loop-i.i (length c.args.nonces.now) c.args.rows (length c.loop-i.rest.now) (length c.args.columns.now) c.loop-i-test.true c.loop-i.invariant.rest c.requires.columns

pub put-end-requires : goal.put-end-requires
put-end-requires g c =
    let now = c.loop-i.invariant in
    let fits = column_fits c.args.at c.loop-i.i (length c.args.nonces.now) (32 + g.F.Field.coding.bytes * c.args.rows) c.loop-i.end (length c.args.out.now) (length c.loop-i.out) c.loop-i-test.true now.end now.length c.requires.room in
    omega (arith, fits, c.told-nonces)

pub put_elements-end-requires-after_bounds : goal.put_elements-end-requires-after_bounds
put_elements-end-requires-after_bounds g c κs within =
    let now = c.loop-i.invariant in
    let fits = column_fits c.args.at c.loop-i.i (length c.args.nonces.now) (32 + g.F.Field.coding.bytes * c.args.rows) c.loop-i.end (length c.args.out.now) (length c.loop-i.out) c.loop-i-test.true now.end now.length c.requires.room in
    omega (arith, fits, c.told-nonces, c.put-end.ensures.end, c.put-end.ensures.length, ap (λ (n : ℕ). g.F.Field.coding.bytes * n) c.split_at.ensures.front_len)

pub returns-clause-end : goal.returns-clause-end
returns-clause-end g c = columns_stop c.args.at c.loop-i.i (length c.args.nonces.now) (32 + g.F.Field.coding.bytes * c.args.rows) c.loop-i.end c.loop-i-test.false c.loop-i.auto.i-end c.loop-i.invariant.end

pub returns-clause-length : goal.returns-clause-length
returns-clause-length g c = c.loop-i.invariant.length

pub returns-clause-front : goal.returns-clause-front
returns-clause-front g c =
    let field = element_field g.F.Field.coding.bytes g.F.Field.coding.number in
    opened_done field c.args.rows c.loop-i.i c.args.nonces.now c.loop-i.rest.now (take c.loop-i.end c.loop-i.out) _ c.loop-i-test.false c.loop-i.invariant.front
