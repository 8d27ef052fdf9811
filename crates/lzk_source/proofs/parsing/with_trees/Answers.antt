use Rattle.std.proofs.Common.{ap, ◌∙◌, subst, sym, List}
use Rattle.std.specs.Prelude.{count_by}
use Rattle.lzk_expr.specs.declared.ast.Statement.{Statement}
use Rattle.lzk_expr.specs.Sources.{SourceText}
use Rattle.lzk_expr.specs.Trees.{is_assertion}
use Rattle.lzk_expr.specs.View.{tree_of, statements_of}
use Rattle.lzk_source.proofs.ParseLaws.{code_given, few_asserts, is_source, source_read}
use Rattle.lzk_source.proofs.parsing.with_trees.Goals as goal

pub assert_count-asserts-requires : goal.assert_count-asserts-requires
assert_count-asserts-requires c =
    let h = c.requires.code in
    let code = c.args.code.now in
    let words = code_given c.args.text.now code h c.words.result.now c.numbers.result.now c.words.ensures.words c.numbers.ensures in
    let same = c.in-Ok-made.ensures h.source.statements (c.in-Ok.ensures h.source h.reads) words in
    few_asserts c.args.text.now code h c.requires.few (statements_of c.deref.result.now) (ap statements_of c.deref.ensures.value ∙ same)

pub new-requires : goal.new-requires
new-requires c =
    let h = c.requires.code in
    let code = c.args.code.now in
    let words = code_given c.args.text.now code h c.words.result.now c.numbers.result.now c.words.ensures.words c.numbers.ensures in
    let same = c.in-Ok-made.ensures h.source.statements (c.in-Ok.ensures h.source h.reads) words in
    is_source c.args.text.now code h c.requires.few c.field.result (statements_of c.make_statements-made.new.statements.items) c.publics-publics.result c.privates-privates.result c.assert_count-asserts.result
    c.field.ensures same c.publics-publics.ensures c.privates-privates.ensures
    (c.assert_count-asserts.ensures ∙ ap (λ (ms : List Statement). count_by is_assertion (statements_of ms)) c.deref.ensures.value)

pub returns : goal.returns
returns c =
    let h = c.requires.code in
    let code = c.args.code.now in
    let words = code_given c.args.text.now code h c.words.result.now c.numbers.result.now c.words.ensures.words c.numbers.ensures in
    let same = c.in-Ok-made.ensures h.source.statements (c.in-Ok.ensures h.source h.reads) words in
    subst (λ s. SourceText c.args.text.now (tree_of s)) (sym c.new.ensures)
    (source_read c.args.text.now code h c.field.result (statements_of c.make_statements-made.new.statements.items) c.field.ensures same)
