use Rattle.std.proofs.Common.{◌∙◌, arith}
use Rattle.lzk_source.proofs.Trees.{not_alone, alone, product_is}
use Rattle.lzk_source.proofs.half.joined.Goals as goal

pub returns-then-len-ne1 : goal.returns-then-len-ne1
returns-then-len-ne1 c = product_is c.args.factors ∙ not_alone c.args.factors.items (λ e. c.if-len-ne1.true (omega (arith, c.len.ensures, e)))

pub returns-in-Some : goal.returns-in-Some
returns-in-Some c = alone c.args.factors.items c.pop.new.self.items c.in-Some.only (omega (arith, c.len.ensures, c.if-len-ne1.false)) c.in-Some.ensures.items
