use Rattle.std.proofs.Common.{◌≡◌}
use Rattle.lzk_calls.specs.Explained.{IsExplainedOver}
use Rattle.lzk_calls.proofs.Zips.{IsDone}
use Rattle.lzk_calls.proofs.jobs.explain_each.Given as goal

abbrev pub invariant-loop-i : goal.invariant-loop-i
invariant-loop-i g l =
    let f = g.F.Field in
    record {
      circuit : l.desk.circuit ≡ l.fn.circuit;
      done : IsDone (IsExplainedOver f.ops f.coding l.fn.circuit) l.i l.fn.jobs l.jobs;
    }
