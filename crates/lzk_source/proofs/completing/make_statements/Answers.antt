use Rattle.std.proofs.Common.{◌∙◌}
use Rattle.std.proofs.lemmas.List.{append-nil}
use Rattle.lzk_expr.specs.Codes.{nameless, nothing_coded, code_done}
use Rattle.lzk_source.specs.Growing.{exprs_in}
use Rattle.lzk_source.proofs.completing.make_statements.Goals as goal

pub returns-in-Ok : goal.returns-in-Ok
returns-in-Ok c = λ ss h code.
    c.complete-made.ensures ss h ((c.in-Ok.ensures nothing_coded (code_done (nameless ss)) c.new-grower.ensures code).ended_are ∙ append-nil (exprs_in ss))
