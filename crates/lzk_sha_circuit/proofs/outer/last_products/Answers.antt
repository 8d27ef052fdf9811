use Rattle.std.proofs.Common.{lt-ltb, le-ltb}
use Rattle.lzk_sha_circuit.proofs.outer.last_products.Goals as goal

pub returns-then-k-lt8 : goal.returns-then-k-lt8
returns-then-k-lt8 c = rw (lt-ltb c.args.k 8 c.if-k-lt8.true) c.f_products.ensures

pub returns-else-k-lt8 : goal.returns-else-k-lt8
returns-else-k-lt8 c = rw (le-ltb c.args.k 8 c.if-k-lt8.false) c.digest_products.ensures
