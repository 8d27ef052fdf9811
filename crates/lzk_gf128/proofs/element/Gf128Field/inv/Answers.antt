use Rattle.std.proofs.Common.{sym, ◌∙◌, arith}
use Rattle.lzk_gf128.specs.Elements.{Gf128-ext, inverse_found, inverse_number}
use Rattle.lzk_gf128.proofs.element.Gf128Field.inv.Goals as goal

pub returns-else-self-eq0 : goal.returns-else-self-eq0
returns-else-self-eq0 c =
    (inverse_found c.args.self (omega (arith, c.if-self-eq0.false)), Gf128-ext _ _ (c.invert.ensures ∙ sym (inverse_number c.args.self)))
