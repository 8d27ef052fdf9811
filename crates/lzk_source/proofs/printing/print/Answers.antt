use Rattle.std.proofs.Common.{ap, sym, subst, List, ℕ, false}
use Rattle.lzk_expr.specs.Sources.{SourceText}
use Rattle.lzk_source.specs.NameLists.{lists_of}
use Rattle.lzk_expr.specs.View.{statements_of, tree_of}
use Rattle.lzk_source.proofs.PrintLaws.{first_line, next_line, all_lines}
use Rattle.lzk_expr.proofs.Reread.{printed_reads}
use Rattle.lzk_source.proofs.printing.print.Goals as goal

pub loop-i-init : goal.loop-i-init
loop-i-init c =
    first_line (tree_of c.args.source.now) c.field.result (lists_of c.in-Ok.names) c.statements-statements.result.now (record { text = c.new.result; lost = false }) c.print_field.new.text
    c.new.ensures.items c.print_field.ensures c.field.ensures c.in-Ok.ensures (ap statements_of c.statements-statements.ensures.statements)

pub loop-i-preserved : goal.loop-i-preserved
loop-i-preserved c =
    let l = c.loop-i in
    next_line (tree_of c.args.source.now) (lists_of c.in-Ok.names) c.statements-statements.result.now l.i c.index-statements-i.result l.text c.print_statement.new.text c.put.new.self c.loop-i-test.true c.index-statements-i.is l.invariant c.print_statement.ensures c.put.ensures

pub returns : goal.returns
returns c =
    let source = tree_of c.args.source.now in
    let text = all_lines source (lists_of c.in-Ok.names) c.statements-statements.result.now c.loop-i.i c.loop-i.text c.loop-i-test.false c.loop-i.invariant c.if-text.false in
    record { text = text; reads = subst (λ (l : List ℕ). SourceText l source) (sym text) (printed_reads source c.statements-statements.ensures.formed) }
