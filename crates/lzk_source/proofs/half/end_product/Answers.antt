use Rattle.std.proofs.Common.{ap, ◌∙◌, List}
use Rattle.lzk_expr.specs.declared.ast.Part.{Part}
use Rattle.lzk_expr.specs.Meanings.{multiplied}
use Rattle.lzk_expr.specs.View.{part_list, expr_list}
use Rattle.lzk_expr.proofs.Outcomes.{on_ok}
use Rattle.lzk_source.proofs.Trees.{half', product_ended}
use Rattle.lzk_source.proofs.half.end_product.Goals as goal

pub returns : goal.returns
returns c =
    let h = c.args.half.now in
    let rest = c.replace-factors.new.dest.items in
    on_ok c.push.result
    (λ e. ap (λ (ps : List Part). half' (part_list ps) c.args.minus (expr_list rest)) e
    ∙ product_ended h.parts.items h.minus c.args.minus (expr_list h.factors.items) (expr_list rest) c.joined-expr.result
    (c.joined-expr.ensures ∙ ap (λ v. multiplied (expr_list v.items)) c.replace-factors.ensures.value)
    (ap (λ v. expr_list v.items) c.replace-factors.ensures.after ∙ ap expr_list c.new.ensures.items))
    c.push.ensures
