use Rattle.std.proofs.Common.{[]}
use Rattle.lzk_expr.specs.declared.tokens.Symbol.TheVariants as symbol
use Rattle.lzk_expr.proofs.Told.{long_told, lone_at, unnamed_at}
use Rattle.lzk_expr.proofs.line_forms.lone_name.Goals as goal

pub returns-then-symbols-ne1 : goal.returns-then-symbols-ne1
returns-then-symbols-ne1 c = λ ts told. long_told c.args.symbols.now ts c.if-symbols-ne1.true told

pub returns-in-Name : goal.returns-in-Name
returns-in-Name c = λ ts told. lone_at (symbol.Number 0) c.args.symbols.now c.in-Name.name ts c.if-symbols-ne1.false c.in-Name.is told

pub returns-in_default : goal.returns-in_default
returns-in_default c = λ ts told w e. unnamed_at (symbol.Number 0) c.args.symbols.now ts [] w c.in_default.not-Name told e
