use Rattle.std.proofs.Common.{◌∙◌, ap}
use Rattle.lzk_expr.specs.View.{expr_of, part_list, expr_list}
use Rattle.lzk_expr.proofs.Outcomes.{on_ok}
use Rattle.lzk_source.proofs.Trees.{atom_taken, expr_pushed}
use Rattle.lzk_source.proofs.half.take_atom.Goals as goal

pub returns : goal.returns
returns c =
    let h = c.args.half.now in
    let a = c.in-Ok.atom in
    on_ok c.push.result
    (λ e. atom_taken (part_list h.parts.items) h.minus h.negated (expr_list h.factors.items) (expr_list c.push.new.list.items) (expr_of a) (expr_of c.args.atom) c.in-Ok.ensures
    (ap expr_list e ∙ expr_pushed h.factors.items a))
    c.push.ensures
