use Rattle.lzk_field.specs.Bytes.{bytes_of}
use Rattle.lzk_circbytes.proofs.Written.{bytes_go_on}
use Rattle.lzk_circbytes.proofs.writing.push_bytes.Goals as goal

pub loop-preserved : goal.loop-preserved
loop-preserved c = bytes_go_on c.loop.out.items c.push.new.self.items c.args.out.now.items c.args.count c.loop.counter c.loop.rest (bytes_of c.args.count c.args.n) c.loop-test.true c.in_ok-push.ensures.items c.loop.invariant
