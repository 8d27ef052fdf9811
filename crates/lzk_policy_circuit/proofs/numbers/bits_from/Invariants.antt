use Rattle.std.proofs.Common.{◌≡◌, List, take, drop, length}
use Rattle.lzk_goldilocks.specs.Elements.{ops}
use Rattle.lzk_goldilocks.specs.declared.element.Gold.{Gold}
use Rattle.lzk_level.specs.Nodes.{node_count}
use Rattle.lzk_gadgets.specs.Claims.{AreInputs, AreNodes, values}
use Rattle.lzk_policy_circuit.proofs.numbers.bits_from.Given as goal

abbrev pub invariant-loop-k : goal.invariant-loop-k
invariant-loop-k l = record {
  count : length l.bits.items ≡ l.k;
  nodes : AreNodes (node_count l.s.nodes) l.bits.items;
  values_are : (public private : List Gold) → AreInputs l.s public private →
      values ops l.s public private l.bits.items ≡ take l.k (drop l.at private);
}
