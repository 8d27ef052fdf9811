use Rattle.std.proofs.Common.{◌≤◌, ◌+◌, ◌*◌, length, ap, sym, ◌∙◌, arith}
use Rattle.lzk_verify.proofs.LeafLaws.{three_fit, fits_more}
use Rattle.lzk_verify.proofs.leaves.Leaves.new.Goals as goal

pub invariant_of-result : goal.invariant_of-result
invariant_of-result g c =
    let made = c.in-Ok.made.items in
    let rows = c.args.plan.now.params.nrow in
    let columns = c.in-Ok-new.columns in
    let are = c.in-Ok-new.ensures in
    let many : 1 ≤ length made = omega (arith, c.in-Ok.ensures) in
    record {
      few = omega arith;
      columns = three_fit (length made) rows columns (fits_more 1 (length made) rows columns.first many are.first) (fits_more 1 (length made) rows columns.second many are.second) (fits_more 1 (length made) rows columns.third many are.third);
      bytes_are = c.in-Ok-room_for_four.ensures ∙ ap (λ n. 4 * (32 + n * g.F.Field.coding.bytes)) (sym are.first.elements);
    }

pub returns-clause-items : goal.returns-clause-items
returns-clause-items g c = c.in-Ok.ensures

pub returns-clause-rows : goal.returns-clause-rows
returns-clause-rows g c = c.in-Ok-new.ensures.first.elements
