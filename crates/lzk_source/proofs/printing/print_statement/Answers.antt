use Rattle.std.specs.Prelude.{codes}
use Rattle.lzk_source.specs.NameLists.{lists_of}
use Rattle.lzk_expr.specs.View.{expr_of}
use Rattle.lzk_source.proofs.PrintLaws.{name_printed, let_printed, assert_printed}
use Rattle.lzk_source.proofs.printing.print_statement.Goals as goal

pub returns-in-Public : goal.returns-in-Public
returns-in-Public c =
    rw c.in-Public.is
    (name_printed (codes "public ") c.in-Public.name c.text.result.now c.args.text.now c.write.new.self c.write-in-Public.new.self c.text.ensures.text c.write.ensures c.write-in-Public.ensures)

pub returns-in-Private : goal.returns-in-Private
returns-in-Private c =
    rw c.in-Private.is
    (name_printed (codes "private ") c.in-Private.name c.text-in-Private.result.now c.args.text.now c.write-in-Private.new.self c.write-in-Private-2.new.self c.text-in-Private.ensures.text c.write-in-Private.ensures c.write-in-Private-2.ensures)

pub returns-in-Let : goal.returns-in-Let
returns-in-Let c =
    rw c.in-Let.is
    (let_printed (lists_of c.args.names.now) c.in-Let.name c.text-in-Let.result.now (expr_of c.in-Let.expr) c.args.text.now c.write-in-Let.new.self c.write-in-Let-2.new.self c.write-in-Let-3.new.self c.print_expr.new.text
    c.text-in-Let.ensures.text c.write-in-Let.ensures c.write-in-Let-2.ensures c.write-in-Let-3.ensures c.print_expr.ensures)

pub returns-in-Assert : goal.returns-in-Assert
returns-in-Assert c =
    rw c.in-Assert.is
    (assert_printed (lists_of c.args.names.now) (expr_of c.in-Assert.left) (expr_of c.in-Assert.right) c.args.text.now c.write-in-Assert.new.self c.print_expr-in-Assert.new.text c.write-in-Assert-2.new.self c.print_expr-in-Assert-2.new.text
    c.write-in-Assert.ensures c.print_expr-in-Assert.ensures c.write-in-Assert-2.ensures c.print_expr-in-Assert-2.ensures)
