use Rattle.std.proofs.Common.{rules, ◌/◌, ◌%◌, ◌^◌, ap, ◌∙◌}
use Rattle.lzk_gf128.specs.Bodies.{spread, joined}
use Rattle.lzk_gf128.proofs.Squares.{folded, quick_square_is}
use Rattle.lzk_gf128.proofs.arith.square.Goals as goal

pub returns : goal.returns
returns c =
    let low = c.joined-low.ensures ∙ ap (λ w. joined w c.spread-p.result) c.spread-q.ensures ∙ ap (joined (spread (c.args.a / 2 ^ 32 % 2 ^ 32))) c.spread-p.ensures in
    let high = c.joined-high.ensures ∙ ap (λ w. joined w c.spread-r.result) c.spread-s.ensures ∙ ap (joined (spread (c.args.a / 2 ^ 96))) c.spread-r.ensures in
    ap (λ w. folded w c.joined-high.result) low ∙ ap (folded (joined (spread (c.args.a / 2 ^ 32 % 2 ^ 32)) (spread (c.args.a % 2 ^ 32)))) high ∙ quick_square_is c.args.a (search rules)
