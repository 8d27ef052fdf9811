use Rattle.std.proofs.Common.{◌≡◌, ◌-◌, map, drop}
use Rattle.lzk_circbytes.specs.Numbered.{shape, coefs_of, zeros_of}
use Rattle.lzk_circbytes.specs.Reading.{many, constant_at, as_last, constants_at}
use Rattle.lzk_circbytes.proofs.Loop.{with_front}
use Rattle.lzk_circbytes.proofs.reading.coefs_of.Given as goal

abbrev pub invariant-loop : goal.invariant-loop
invariant-loop g l =
    let number = g.F.Field.coding.number in
    record {
      read : with_front (drop (zeros_of l.version) (map number l.coefs.items)) (many as_last (constant_at (shape g.F.Field.coding.id g.F.Field.coding.bytes g.F.Field.coding.size)) (l.count - l.counter) l.before l.rest)
          ≡ constants_at (shape g.F.Field.coding.id g.F.Field.coding.bytes g.F.Field.coding.size) l.count l.bytes;
      zero : map number l.coefs.items ≡ coefs_of l.version (drop (zeros_of l.version) (map number l.coefs.items));
    }
