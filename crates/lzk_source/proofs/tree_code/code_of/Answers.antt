use Rattle.std.proofs.Common.{take, sym, ap, subst}
use Rattle.lzk_expr.specs.View.{tree_of, statements_of}
use Rattle.lzk_expr.specs.Codes.{nothing_coded, IsCodeOf}
use Rattle.lzk_source.specs.TreeSteps.{HoldsCode}
use Rattle.lzk_expr.proofs.CodeLaws.{words_none}
use Rattle.lzk_source.proofs.SourceCode.{shaped_at, taken_more, all_held}
use Rattle.lzk_source.proofs.tree_code.code_of.Goals as goal

pub loop-i-init : goal.loop-i-init
loop-i-init c = λ kept behind. rw c.new.ensures.items (words_none nothing_coded)

pub loop-i-preserved : goal.loop-i-preserved
loop-i-preserved c =
    let l = c.loop-i in
    let ms = c.statements-statements.result.now in
    let s = c.index-statements-i.result in
    let shapes = shaped_at (tree_of c.args.source.now) ms l.i s c.statements-statements.ensures.formed (ap statements_of (sym c.statements-statements.ensures.statements)) c.loop-i-test.true c.index-statements-i.is in
    subst (HoldsCode c.push_statement.new.code) (sym (taken_more ms l.i s c.loop-i-test.true c.index-statements-i.is))
    (c.push_statement.ensures (statements_of (take l.i ms)) shapes l.invariant)

pub new-requires-3 : goal.new-requires-3
new-requires-3 c = record {
  source = tree_of c.args.source.now;
  formed = c.statements-statements.ensures.formed;
  is = record {
    field_is = c.field-field.ensures;
    publics_are = c.publics-publics.ensures;
    privates_are = c.privates-privates.ensures;
    words_are = all_held c.loop-i.code c.loop-i.i c.statements-statements.result.now c.args.source.now.statements c.loop-i-test.false c.statements-statements.ensures.statements c.if-code.false c.loop-i.invariant;
  };
}

pub returns : goal.returns
returns c = subst (λ x. IsCodeOf x (tree_of c.args.source.now)) (sym c.new-3.ensures) (record {
  field_is = c.field-field.ensures;
  publics_are = c.publics-publics.ensures;
  privates_are = c.privates-privates.ensures;
  words_are = all_held c.loop-i.code c.loop-i.i c.statements-statements.result.now c.args.source.now.statements c.loop-i-test.false c.statements-statements.ensures.statements c.if-code.false c.loop-i.invariant;
})
