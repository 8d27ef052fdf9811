use Rattle.std.proofs.Common.{◌≡◌, ◌-◌, map, length}
use Rattle.std.specs.Option.{option_map}
use Rattle.lzk_circbytes.specs.Numbered.{numbered_term, is_in_terms}
use Rattle.lzk_circbytes.specs.Reading.{many, term_at, as_before, terms_at}
use Rattle.lzk_circbytes.specs.Answers.{Marks}
use Rattle.lzk_circbytes.proofs.Loop.{with_front}
use Rattle.lzk_circbytes.proofs.reading.terms_of.Given as goal

abbrev pub invariant-loop : goal.invariant-loop
invariant-loop g l =
    let number = g.F.Field.coding.number in
    record {
      count : length l.terms.items ≡ l.counter;
      flags : length l.used ≡ length l.coefs.list.now;
      used : Marks (map number l.coefs.list.now) (is_in_terms (map (numbered_term number) l.terms.items)) l.fn.used l.used;
      read : with_front (map (numbered_term number) l.terms.items) (many as_before (term_at (map number l.coefs.list.now) l.wires l.below) (l.count - l.counter) (option_map (numbered_term number) l.before) l.rest)
          ≡ terms_at (map number l.coefs.list.now) l.wires l.below l.count l.bytes;
    }
