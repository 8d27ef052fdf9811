use Rattle.std.proofs.Common.{◌≡◌, ◌++◌, ◌∷◌, [], length, length-append, ap, sym, ◌∙◌, arith}
use Rattle.std.specs.Prelude.{slice_get}
use Rattle.lzk_batch.specs.Batch.{HasVerdictIn}
use Rattle.lzk_batch.proofs.Ordering.{stands_somewhere}
use Rattle.lzk_batch.proofs.Placing.{found_more}
use Rattle.lzk_batch.proofs.order.in_order.Goals as goal

pub unreachable-requires : goal.unreachable-requires
unreachable-requires c = stands_somewhere c.args.jobs c.loop-number.number c.args.lists.now c.requires.once c.loop-number-test.true c.in_default.ensures.none

pub loop-number-preserved : goal.loop-number-preserved
loop-number-preserved c =
    let items = c.loop-number.verdicts.items in
    let v = c.in-Some.verdict in
    let is : c.push.new.self.items ≡ items ++ v ∷ [] = c.in_ok-push.ensures.items in
    let more = found_more (HasVerdictIn c.args.lists.now) items c.loop-number.number v c.loop-number.invariant.count c.loop-number.invariant.found c.in-Some.ensures.some in
    record {
      count = omega (arith, ap length is, length-append items (v ∷ []), c.loop-number.invariant.count);
      found = λ k w at. more k w (sym (ap (λ xs. slice_get xs k) is) ∙ at);
    }
