use Rattle.std.proofs.Common.{◌+◌, ◌++◌, drop, sym, ap, ◌∙◌}
use Rattle.lzk_source.specs.NameLists.{bytes_of}
use Rattle.lzk_expr.specs.Printing.{public_names, private_names, let_names}
use Rattle.lzk_expr.specs.View.{statements_of}
use Rattle.lzk_source.proofs.Trees.{statements_at}
use Rattle.lzk_source.proofs.printing.name_lists.Goals as goal

pub loop-i-preserved : goal.loop-i-preserved
loop-i-preserved c =
    let l = c.loop-i in
    let ms = c.args.statements.now in
    let at = sym (statements_at ms l.i c.index-statements-i.result c.loop-i-test.true c.index-statements-i.is) in
    let left = statements_of (drop (l.i + 1) ms) in
    let e = c.in-Ok.ensures in
    record {
      publics = e.publics left ∙ ap (λ ss. bytes_of l.names.publics.items ++ public_names ss) at ∙ l.invariant.publics;
      privates = e.privates left ∙ ap (λ ss. bytes_of l.names.privates.items ++ private_names ss) at ∙ l.invariant.privates;
      lets = e.lets left ∙ ap (λ ss. bytes_of l.names.lets.items ++ let_names ss) at ∙ l.invariant.lets;
    }
