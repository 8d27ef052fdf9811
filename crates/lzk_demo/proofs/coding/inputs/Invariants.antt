use Rattle.std.proofs.Common.{◌≡◌, ◌++◌, ◌-◌, ◌≤◌, length}
use Rattle.lzk_demo.specs.Demo.{inputs_from}
use Rattle.lzk_demo.proofs.coding.inputs.Given as goal

abbrev pub invariant-loop-i : goal.invariant-loop-i
invariant-loop-i l = record { listed : l.list.items ++ inputs_from l.i (l.n - l.i) ≡ inputs_from 0 l.n; count : length l.list.items ≡ l.i; room : l.n ≤ l.list.cap }
