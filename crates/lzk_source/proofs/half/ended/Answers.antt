use Rattle.std.proofs.Common.{arith}
use Rattle.std.proofs.lemmas.Bool.Decides.{nat_tests}
use Rattle.lzk_expr.specs.View.{expr_list}
use Rattle.lzk_source.proofs.Trees.{sum_ended}
use Rattle.lzk_source.proofs.half.ended.Goals as goal

pub returns : goal.returns
returns c =
    let h = c.args.half in
    sum_ended h.parts.items h.minus (expr_list h.factors.items) c.joined-product.result c.push.new.list (λ e. grind (arith, nat_tests)) c.joined-product.ensures c.in-Ok.ensures
