use Rattle.std.proofs.Common.{◌≤◌, ◌-◌, length, take}
use Rattle.lzk_outside.specs.Outside.{Appends}
use Rattle.lzk_cmd_files.specs.Seen.{seen_sink}
use Rattle.lzk_cmd_files.specs.Walks.{Quiet}
use Rattle.lzk_cmd_files.proofs.print.print.Given as goal

abbrev pub invariant-loop-done : goal.invariant-loop-done
invariant-loop-done g l = record {
  within : l.done ≤ length l.text;
  front : Appends (g.K.Sink.written l.fn.out) (take l.done l.text) (g.K.Sink.written l.out);
  later : g.K.Sink.faults l.fn.out ≤ g.K.Sink.faults l.out;
  quiet : Quiet (seen_sink g.K.Sink l.fn.out) (seen_sink g.K.Sink l.out);
}

abbrev pub decreases-loop-done : goal.decreases-loop-done
decreases-loop-done g l = length l.text - l.done
