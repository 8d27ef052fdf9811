use Rattle.std.proofs.Common.{◌≡◌, ◌∙◌, ◌++◌, ◌∷◌, [], arith, map, length}
use Rattle.std.proofs.lemmas.List.{map_push, length-map}
use Rattle.lzk_expr.proofs.Taking.{words_next, words_stop, words_done}
use Rattle.lzk_expr.proofs.numbers.take_words.Goals as goal

pub returns-in-Err : goal.returns-in-Err
returns-in-Err g c =
    let have = map g.F.Field.coding.number c.loop-word.found.items in
    let same : length have ≡ c.len.result = length-map c.loop-word.found.items g.F.Field.coding.number ∙ omega (arith, c.len.ensures) in
    c.loop-word.invariant ∙ words_stop g.F.Field.coding.size c.args.count c.args.line c.loop-word.rest.now c.in-Some.word.now c.in-Some.after.now have c.in-Err.fault c.in-Some.ensures (c.in-Err.ensures have same)

pub loop-word-preserved : goal.loop-word-preserved
loop-word-preserved g c =
    let num = g.F.Field.coding.number in
    let have = map num c.loop-word.found.items in
    let same : length have ≡ c.len.result = length-map c.loop-word.found.items num ∙ omega (arith, c.len.ensures) in
    let more : map num c.push.new.list.items ≡ have ++ num c.in-Ok.x ∷ [] = rw c.in-Ok-push.ensures (map_push _ c.loop-word.found.items c.in-Ok.x) in
    rw more (c.loop-word.invariant ∙ words_next g.F.Field.coding.size c.args.count c.args.line c.loop-word.rest.now c.in-Some.word.now c.in-Some.after.now have (have ++ num c.in-Ok.x ∷ []) c.in-Some.ensures (c.in-Ok.ensures have same))

pub returns : goal.returns
returns g c = c.loop-word.invariant ∙ words_done g.F.Field.coding.size c.args.count c.args.line c.loop-word.rest.now (map g.F.Field.coding.number c.loop-word.found.items) c.in_default.ensures
