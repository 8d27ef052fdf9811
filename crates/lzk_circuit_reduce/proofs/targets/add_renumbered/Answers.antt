use Rattle.std.proofs.Common.{◌≡◌, ◌∙◌, ◌++◌, ◌∷◌, [], ap, sym, length, map, get_or}
use Rattle.std.proofs.lemmas.List.{take_all}
use Rattle.std.proofs.lemmas.Result.{IfOk-weaker}
use Rattle.lzk_circuit_reduce.specs.Renumbering.{at}
use Rattle.lzk_circuit_reduce.proofs.TargetLaws.{below-at, moved-more}
use Rattle.lzk_circuit_reduce.proofs.targets.add_renumbered.Goals as goal

pub bounds-numbers-wires : goal.bounds-numbers-wires
bounds-numbers-wires c = below-at (length c.args.numbers.now) c.args.wires.now c.loop-i.i 0 c.loop-i-test.true c.requires

pub loop-i-preserved : goal.loop-i-preserved
loop-i-preserved c =
    let ws = c.args.wires.now in
    let i = c.loop-i.i in
    c.in-Ok-push.ensures ∙ ap (λ xs. xs ++ at c.args.numbers.now (get_or ws i 0) ∷ []) c.loop-i.invariant ∙ sym (moved-more c.args.numbers.now ws i 0 c.loop-i-test.true)

pub returns : goal.returns
returns c =
    let ws = c.args.wires.now in
    let ns = c.args.numbers.now in
    let old = c.args.moved.now.items in
    let new = c.push-2.new.list.items in
    let all = c.new.ensures ∙ c.loop-i.invariant ∙ ap (map (at ns)) (take_all c.loop-i.i ws c.loop-i-test.false) in
    IfOk-weaker c.push-2.result (λ _. new ≡ old ++ c.new.result ∷ []) (λ _. new ≡ old ++ map (at ns) ws ∷ []) (λ _ e. e ∙ ap (λ x. old ++ x ∷ []) all) c.push-2.ensures
