use Rattle.std.proofs.Common.{sym, subst}
use Rattle.std.proofs.lemmas.Result.{IfOk-weaker, on_ok_weaker}
use Rattle.lzk_level.specs.Nodes.{Nodes}
use Rattle.lzk_level.specs.Finished.{AreBuilt, IsSomeBuilt}
use Rattle.lzk_level.specs.Steps.{held_in}
use Rattle.lzk_level.proofs.CodeSources.{code-built}
use Rattle.lzk_level.proofs.FlatGateLaws.{not-ok}
use Rattle.lzk_level.proofs.ResultLaws.{and-ok}
use Rattle.lzk_level.proofs.maker.code_nodes.Goals as goal

pub returns-clause-built : goal.returns-clause-built
returns-clause-built g c = λ source is.
    let o = g.F.Field.ops in
    let element = g.F.Field.coding.element in
    let taken = c.take_all-taken in
    let m = held_in taken.new.maker in
    let made = c.finished.result in
    and-ok taken.result c.and.result made (λ made. AreBuilt o element source.statements made.0 made.1.items) c.and.ensures
    (on_ok_weaker taken.result (λ way.
    subst (λ (n : Nodes _). AreBuilt o element source.statements n made.1.items) (sym c.finished.ensures.nodes)
    (subst (λ ks. AreBuilt o element source.statements m.nodes ks) (sym c.finished.ensures.outputs)
    (code-built o g.F.Field.laws.ring element c.args.code.now taken.ensures.some m source is way)))
    (taken.ensures.way source is))

pub returns-clause-some : goal.returns-clause-some
returns-clause-some g c =
    let o = g.F.Field.ops in
    let element = g.F.Field.coding.element in
    let some = c.take_all-taken.ensures.some in
    IfOk-weaker c.and.result (λ made. AreBuilt o element some.source.statements made.0 made.1.items) (λ made. IsSomeBuilt o element made.0 made.1.items) (λ _ built. record { statements = some.source.statements; built = built }) (returns-clause-built g c some.source some.is)

pub returns-in_err-maker : goal.returns-in_err-maker
returns-in_err-maker g c =
    let r = c.from_residual.result in
    let e = c.from_residual.ensures.1 in
    record { some = not-ok r _ _ e; built = λ source is. not-ok r _ _ e }

pub take_all-taken-requires-after_bounds : goal.take_all-taken-requires-after_bounds
take_all-taken-requires-after_bounds g c κs within = c.in_ok-maker.ensures
