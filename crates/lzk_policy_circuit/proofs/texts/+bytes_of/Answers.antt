use Rattle.std.proofs.Common.{◌+◌, ◌-◌, ◌*◌, ◌<◌, ◌∷◌, [], refl, ap, arith, length, length-append}
use Rattle.lzk_policy_circuit.proofs.TextClaims.{bytes_more, worths_more}
use Rattle.lzk_policy_circuit.proofs.texts.+bytes_of.Goals as goal

pub returns-clause-yields : goal.returns-clause-yields
returns-clause-yields t c =
    let n = c.args.size in
    let some : 0 < n = omega arith in
    bytes_more n c.args.s.now c.bytes_of.new.s c.byte.new.s c.in_ok-nodes.nodes.items c.push.new.self.items c.in_ok-last.last some c.in_ok-push.ensures.items c.in_ok-nodes.ensures.yields c.in_ok-last.ensures.makes

pub returns-clause-count : goal.returns-clause-count
returns-clause-count t c =
    omega (arith, ap length c.in_ok-push.ensures.items, length-append c.in_ok-nodes.nodes.items (c.in_ok-last.last ∷ []), c.in_ok-nodes.ensures.count)

pub returns-clause-values : goal.returns-clause-values
returns-clause-values t c = λ p q a.
    let n = c.args.size in
    let some : 0 < n = omega arith in
    worths_more n c.args.s.now c.bytes_of.new.s c.byte.new.s c.in_ok-nodes.nodes.items c.push.new.self.items c.in_ok-last.last c.args.at (c.args.at + 8 * (n - 1)) p q some refl c.in_ok-push.ensures.items
    c.in_ok-nodes.ensures.yields c.in_ok-last.ensures.makes a (c.in_ok-nodes.ensures.values p q a) (c.in_ok-last.ensures.value p q)
