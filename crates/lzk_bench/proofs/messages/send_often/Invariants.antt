use Rattle.std.proofs.Common.{◌≡◌, length}
use Rattle.lzk_layout.specs.Sizes.{sent_counts}
use Rattle.lzk_sumcheck_rounds.specs.Room.{IsRoomOf}
use Rattle.lzk_sumcheck.specs.Script.{HasShape}
use Rattle.lzk_bench.proofs.messages.send_often.Given as goal

abbrev pub invariant-loop : goal.invariant-loop
invariant-loop g l =
    record {
      pads : length l.pads ≡ sent_counts l.circuit;
      room : IsRoomOf l.circuit l.room;
      messages : length l.messages ≡ sent_counts l.circuit;
      shape : HasShape l.circuit l.script;
    }
