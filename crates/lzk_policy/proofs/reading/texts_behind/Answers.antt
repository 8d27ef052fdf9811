use Rattle.std.proofs.Common.{◌∙◌, ◌++◌, ◌∷◌, [], sym, ap, arith}
use Rattle.lzk_expr.specs.Texts.{runs, is_plain}
use Rattle.lzk_policy.specs.Lines.{texts_behind}
use Rattle.lzk_policy.proofs.TextLaws.{texts_next, other_size, many_texts, texts_done}
use Rattle.lzk_policy.proofs.reading.texts_behind.Goals as goal
use Rattle.lzk_policy.proofs.reading.texts_behind.Goals.{then-word-size-via-then-word-size, then-word-size-via-else-word-size+then-len-ge-MOST_TEXTS}

pub returns-then-word-size : goal.returns-then-word-size
returns-then-word-size c =
    let have = c.loop-word.texts.items in
    let bytes = c.loop-word.left.now in
    let word = c.in-Some.word.now in
    let rest = c.in-Some.rest.now in
    elim c.then-word-size.branch [
      | then-word-size-via-then-word-size w ↦ sym (c.loop-word.invariant ∙ other_size c.args.size have bytes word rest c.in-Some.ensures w.if-word-size.true)
      | then-word-size-via-else-word-size+then-len-ge-MOST_TEXTS w ↦ sym (c.loop-word.invariant ∙ many_texts c.args.size have bytes word rest c.in-Some.ensures (omega arith))
    ]

pub loop-word-preserved : goal.loop-word-preserved
loop-word-preserved c =
    let have = c.loop-word.texts.items in
    let rest = c.in-Some.rest.now in
    let word = c.in-Some.word.now in
    c.loop-word.invariant
    ∙ texts_next c.args.size have c.loop-word.left.now word rest c.in-Some.ensures c.if-word-size.false (omega arith)
    ∙ ap (λ ns. texts_behind c.args.size ns (runs is_plain rest)) (sym (c.in_ok-push.ensures.items ∙ ap (λ n. have ++ n ∷ []) c.new.ensures))

pub returns : goal.returns
returns c = sym (c.loop-word.invariant ∙ texts_done c.args.size c.loop-word.texts.items c.loop-word.left.now c.in_default.ensures)
