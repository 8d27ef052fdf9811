use Rattle.std.proofs.Common.{sym, subst}
use Rattle.lzk_expr.specs.CodeTexts.{IsCodeOfText}
use Rattle.lzk_expr.proofs.CodeReading.{some_code}
use Rattle.lzk_expr.proofs.reading.code.Goals as goal

pub new-requires : goal.new-requires
new-requires c = some_code c.args.text.now.bytes.now _ c.args.text.now.few c.in-Ok-taken.ensures

pub returns-in-Ok-taken : goal.returns-in-Ok-taken
returns-in-Ok-taken c = subst (IsCodeOfText c.args.text.now.bytes.now) (sym c.new.ensures) c.in-Ok-taken.ensures
