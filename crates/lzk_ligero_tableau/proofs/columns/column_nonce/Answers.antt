use Rattle.std.proofs.Common.{arith}
use Rattle.lzk_ligero_tableau.proofs.Fours.{nonce_from}
use Rattle.lzk_ligero_tableau.proofs.columns.column_nonce.Goals as goal

pub returns : goal.returns
returns g c =
    let at = g.W.Words.at c.args.given.now.words.now in
    let p = c.args.given.now.plan.now.params in
    nonce_from at p c.args.j _ _ _ _ c.nonce_of.result c.nonce_of.ensures (c.fill.ensures 0 (omega arith)) (c.fill.ensures 1 (omega arith)) (omega (arith, c.nonces_first.ensures.first, c.from.ensures))
    (omega (arith, c.nonces_first.ensures.first, c.from.ensures))
