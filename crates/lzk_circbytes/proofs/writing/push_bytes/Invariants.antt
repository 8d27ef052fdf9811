use Rattle.std.proofs.Common.{◌≡◌, ◌++◌, ◌-◌}
use Rattle.lzk_field.specs.Bytes.{bytes_of}
use Rattle.lzk_circbytes.proofs.writing.push_bytes.Given as goal

abbrev pub invariant-loop : goal.invariant-loop
invariant-loop l = l.out.items ++ bytes_of (l.count - l.counter) l.rest ≡ l.fn.out.items ++ bytes_of l.count l.n
