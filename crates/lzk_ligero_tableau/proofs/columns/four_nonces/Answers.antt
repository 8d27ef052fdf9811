use Rattle.std.proofs.Common.{◌+◌, refl, arith}
use Rattle.lzk_ligero_tableau.proofs.Fours.{nonce_from}
use Rattle.lzk_ligero_tableau.proofs.columns.four_nonces.Goals as goal

pub returns : goal.returns
returns g c =
    let at = g.W.Words.at c.args.given.now.words.now in
    let p = c.args.given.now.plan.now.params in
    let j = c.args.j in
    let word = c.fill.ensures in
    let n0 = nonce_from at p j _ _ _ _ c.nonce_of.result c.nonce_of.ensures (word 0 (omega arith)) (word 1 (omega arith)) (omega (arith, c.nonces_first.ensures.first, c.from.ensures)) (omega (arith, c.nonces_first.ensures.first, c.from.ensures)) in
    let n1 = nonce_from at p (j + 1) _ _ _ _ c.nonce_of-2.result c.nonce_of-2.ensures (word 2 (omega arith)) (word 3 (omega arith)) (omega (arith, c.nonces_first.ensures.first, c.from.ensures)) (omega (arith, c.nonces_first.ensures.first, c.from.ensures)) in
    let n2 = nonce_from at p (j + 2) _ _ _ _ c.nonce_of-3.result c.nonce_of-3.ensures (word 4 (omega arith)) (word 5 (omega arith)) (omega (arith, c.nonces_first.ensures.first, c.from.ensures)) (omega (arith, c.nonces_first.ensures.first, c.from.ensures)) in
    let n3 = nonce_from at p (j + 3) _ _ _ _ c.nonce_of-4.result c.nonce_of-4.ensures (word 6 (omega arith)) (word 7 (omega arith)) (omega (arith, c.nonces_first.ensures.first, c.from.ensures)) (omega (arith, c.nonces_first.ensures.first, c.from.ensures)) in
    rw (n0, n1, n2, n3) refl
