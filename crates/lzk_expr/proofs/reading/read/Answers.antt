use Rattle.std.proofs.Common.{List, ℕ, sym, subst}
use Rattle.lzk_expr.specs.Sources.{SourceText}
use Rattle.lzk_expr.proofs.CodeReading.{only_code}
use Rattle.lzk_expr.proofs.Reread.{built_reads}
use Rattle.lzk_expr.proofs.reading.read.Goals as goal

pub returns-clause-only : goal.returns-clause-only
returns-clause-only c = only_code c.args.text.now c.code.result c.code.ensures

pub returns-clause-built : goal.returns-clause-built
returns-clause-built c = λ source built e. only_code c.args.text.now c.code.result c.code.ensures source (subst (λ (l : List ℕ). SourceText l source) (sym e) (built_reads source built))
