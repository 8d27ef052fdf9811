use Rattle.std.proofs.Common.{◌≡◌, ◌+◌, ◌++◌, ◌∷◌, [], ◌∙◌, sym, ap, map, take, arith}
use Rattle.std.proofs.lemmas.List.{take_more, take_all, map-append, get_or_default}
use Rattle.std.proofs.lemmas.Result.{IfOk-from_err}
use Rattle.lzk_field.specs.Sums.{entry}
use Rattle.lzk_goldilocks.specs.Elements.{ops, number}
use Rattle.lzk_sha_circuit.proofs.state.numbers_of.Goals as goal

pub loop-i-init : goal.loop-i-init
loop-i-init c = c.new-words.ensures.items

pub bounds-elements-i : goal.bounds-elements-i
bounds-elements-i c = c.loop-i-test.true

pub overflow_cast-number : goal.overflow_cast-number
overflow_cast-number c =
    let xs = c.args.elements.now in
    let i = c.loop-i.i in
    let same : c.index-elements-i.result ≡ entry ops xs i = c.index-elements-i.is ∙ get_or_default xs i c.index-elements-i.result ops.zero c.loop-i-test.true in
    omega (arith, c.number.ensures, ap number same, c.requires i c.loop-i-test.true)

pub returns-in_err-push : goal.returns-in_err-push
returns-in_err-push c = IfOk-from_err _ _ c.from_residual.ensures.0

pub loop-i-preserved : goal.loop-i-preserved
loop-i-preserved c =
    let xs = c.args.elements.now in
    let i = c.loop-i.i in
    let x = c.index-elements-i.result in
    let more : take (i + 1) xs ≡ take i xs ++ x ∷ [] = take_more xs i x c.loop-i-test.true ∙ ap (λ y. take i xs ++ y ∷ []) (sym c.index-elements-i.is) in
    c.in_ok-push.ensures.items ∙ (λ j. c.loop-i.invariant j ++ c.number.ensures j ∷ []) ∙ sym (map-append number (take i xs) (x ∷ [])) ∙ ap (map number) (sym more)

pub returns : goal.returns
returns c = c.loop-i.invariant ∙ ap (map number) (take_all c.loop-i.i c.args.elements.now c.loop-i-test.false)
