use Rattle.std.proofs.Common.{◌≡◌, ◌++◌, drop}
use Rattle.std.specs.Prelude.{string_bytes}
use Rattle.lzk_circbytes.specs.Files.{circuit_id}
use Rattle.lzk_circbytes.specs.Numbered.{shape, numbered}
use Rattle.lzk_cmd_circuits.specs.Evaluated.{layer_lines, shown}
use Rattle.lzk_cmd_circuits.proofs.showing.shown_text.Given as goal

abbrev pub invariant-loop-l : goal.invariant-loop-l
invariant-loop-l g l =
    string_bytes l.text ++ layer_lines l.l (drop l.l l.circuit.layers)
    ≡ shown l.field (circuit_id (shape g.F.Field.coding.id g.F.Field.coding.bytes g.F.Field.coding.size) (numbered g.F.Field.coding.number l.circuit)) l.circuit
