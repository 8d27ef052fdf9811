use Rattle.lzk_circbytes.proofs.Varints.{varint_of_two, varint_of_three}
use Rattle.lzk_circbytes.proofs.Written.{two_on, three_on}
use Rattle.lzk_circbytes.proofs.writing.put_varint.Goals as goal

pub returns-then-n-lt16384-clause-items : goal.returns-then-n-lt16384-clause-items
returns-then-n-lt16384-clause-items c =
    two_on c.args.out.now.items c.push_reserved-then-n-lt16384.new.self.items c.push_reserved-then-n-lt16384-2.new.self.items _ _ _ c.push_reserved-then-n-lt16384.ensures.items c.push_reserved-then-n-lt16384-2.ensures.items
    (varint_of_two c.args.n c.if-n-lt128.false c.if-n-lt16384.true)

pub returns-then-n-lt2097152-clause-items : goal.returns-then-n-lt2097152-clause-items
returns-then-n-lt2097152-clause-items c =
    three_on c.args.out.now.items c.push_reserved-then-n-lt2097152.new.self.items c.push_reserved-then-n-lt2097152-2.new.self.items c.push_reserved-then-n-lt2097152-3.new.self.items _ _ _ _ c.push_reserved-then-n-lt2097152.ensures.items c.push_reserved-then-n-lt2097152-2.ensures.items c.push_reserved-then-n-lt2097152-3.ensures.items
    (varint_of_three c.args.n c.if-n-lt16384.false c.if-n-lt2097152.true)
