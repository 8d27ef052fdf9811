use Rattle.std.proofs.Common.{drop, map}
use Rattle.lzk_circbytes.specs.Numbered.{numbered_term}
use Rattle.lzk_circbytes.proofs.Written.{TermsLeft}
use Rattle.lzk_circbytes.proofs.writing.push_terms.Given as goal

abbrev pub invariant-loop-t : goal.invariant-loop-t
invariant-loop-t g l = TermsLeft l.constants.numbers.now l.before (map (numbered_term g.F.Field.coding.number) (drop l.t-index l.terms)) l.out.items (l.fn.out.items) (map (numbered_term g.F.Field.coding.number) l.terms)
