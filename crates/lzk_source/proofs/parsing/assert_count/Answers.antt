use Rattle.std.proofs.Common.{◌≡◌, ◌+◌, [], List, drop, ap, refl, arith}
use Rattle.std.specs.Prelude.{count_by}
use Rattle.std.proofs.lemmas.List.{at_drop_all}
use Rattle.lzk_expr.specs.declared.ast.Statement.{Statement}
use Rattle.lzk_expr.specs.Trees.{is_assertion}
use Rattle.lzk_expr.specs.View.{statement_of, statements_of}
use Rattle.lzk_source.proofs.Trees.{statements_at}
use Rattle.lzk_source.proofs.ParseLaws.{one_more}
use Rattle.lzk_source.proofs.parsing.assert_count.Goals as goal

pub loop-i-preserved : goal.loop-i-preserved
loop-i-preserved c =
    let l = c.loop-i in
    let ms = c.args.statements.now in
    let s = c.index-statements-i.result in
    omega (
      arith,
      l.invariant,
      ap (count_by is_assertion) (statements_at ms l.i s c.loop-i-test.true c.index-statements-i.is),
      one_more is_assertion (statement_of s) (statements_of (drop (l.i + 1) ms)),
      c.one_if_assert-count.ensures,
    )

pub returns : goal.returns
returns c =
    let l = c.loop-i in
    let none : count_by is_assertion (statements_of []) ≡ 0 = refl in
    omega (arith, l.invariant, none, at_drop_all (λ (ms : List Statement). count_by is_assertion (statements_of ms)) c.args.statements.now l.i c.loop-i-test.false)
