use Rattle.std.proofs.Common.{arith}
use Rattle.lzk_sha_circuit.proofs.entries.bit_entry.Goals as goal

pub overflow_add-j : goal.overflow_add-j
overflow_add-j c = let lt = c.requires c.in-Input.j c.in-Input.is in omega (arith, lt)
