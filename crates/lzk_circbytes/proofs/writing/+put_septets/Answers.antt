use Rattle.lzk_circbytes.proofs.Written.{septets_on}
use Rattle.lzk_circbytes.proofs.writing.+put_septets.Goals as goal

pub returns-clause-items : goal.returns-clause-items
returns-clause-items t c = septets_on c.put_septets.new.out.items c.push_reserved-2.new.self.items c.args.out.now.items c.args.k c.args.n c.requires.some c.if-n-lt128.false c.push_reserved-2.ensures.items c.put_septets.ensures.items
