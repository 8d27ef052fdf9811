use Rattle.std.proofs.Common.{◌≡◌, ◌∙◌, ap, sym, subst, arith, [], ◌∷◌, ◌-◌, drop, reverse}
use Rattle.std.proofs.lemmas.List.{drop_all, reverse-append}
use Rattle.std.specs.Prelude.{◌↔◌}
use Rattle.lzk_circuit_reduce.specs.Renumbering.{AreNumbersBelow}
use Rattle.lzk_circuit_beside.specs.Asserts.{AreAssertsZero}
use Rattle.lzk_circuit_beside.specs.Chosen.{chosen}
use Rattle.lzk_circuit_beside.specs.Levels.{AreJoinedValues}
use Rattle.lzk_circuit_beside.proofs.JoinLaws.{Standing, standing-starts, standing-adds, standing-ends}
use Rattle.lzk_circuit_beside.proofs.joining.joined_layers.Goals as goal

pub loop-l-init : goal.loop-l-init
loop-l-init g c =
    let o = g.F.Field.ops in
    let first = c.args.first.now in
    let second = c.args.second.now in
    let depth = c.args.depth in
    subst (λ ls. Standing o first.circuit.now second.circuit.now first.places.now second.places.now depth depth (reverse ls) c.in_ok-left.left.items c.in_ok-right.right.items) (sym c.in_ok-layers.ensures.items)
    (standing-starts o first.circuit.now second.circuit.now first.places.now second.places.now depth c.in_ok-left.left.items c.in_ok-right.right.items c.in_ok-left.ensures c.in_ok-right.ensures first.count second.count
    (drop_all depth first.circuit.now.layers (omega (arith, c.requires.depth))) (drop_all depth second.circuit.now.layers (omega (arith, c.requires.depth))))

pub numbers_from-requires : goal.numbers_from-requires
numbers_from-requires g c = omega (arith, c.in_ok-layer.ensures.most, c.in_ok-layer.ensures.wires, c.in_ok-layer.ensures.split)

pub numbers_from-requires-in-loop-l : goal.numbers_from-requires-in-loop-l
numbers_from-requires-in-loop-l g c = omega (arith, c.in_ok-layer.ensures.most, c.in_ok-layer.ensures.wires, c.in_ok-layer.ensures.split)

pub loop-l-preserved : goal.loop-l-preserved
loop-l-preserved g c =
    let o = g.F.Field.ops in
    let first = c.args.first.now in
    let second = c.args.second.now in
    let one = first.circuit.now in
    let other = second.circuit.now in
    let l = c.loop-l.l in
    let m = l - 1 in
    let layer = c.in_ok-layer.layer in
    let split = c.in_ok-layer.split in
    let found = c.in_ok-layer.ensures in
    let dl = c.deref.ensures.value in
    let dr = c.deref-in-loop-l.ensures.value in
    let next_left = c.in_ok-left-2.left.items in
    let next_right = c.in_ok-right-2.right.items in
    subst (λ ls. Standing o one other first.places.now second.places.now c.args.depth m ls next_left next_right) (sym (ap reverse c.in_ok-push.ensures.items ∙ reverse-append c.loop-l.layers.items (layer ∷ [])))
    (standing-adds o one other first.places.now second.places.now c.args.depth l m (reverse c.loop-l.layers.items) c.loop-l.left.items c.loop-l.right.items next_left next_right layer split (layer.wires - split)
    (omega (arith, c.loop-l-test.true)) first.count second.count found.wires found.split (omega (arith, found.wires, found.split))
    (λ width hl hr. found.terms width (subst (AreNumbersBelow width) (sym dl) hl) (subst (AreNumbersBelow width) (sym dr) hr))
    (λ version width hl hr may. found.coefs version width (subst (AreNumbersBelow width) (sym dl) hl) (subst (AreNumbersBelow width) (sym dr) hr) may)
    found.short
    (λ x y below j. found.values x y below (subst (λ ns. AreJoinedValues o one other m ns c.deref-in-loop-l.result.now x y below) (sym dl) (subst (λ ns. AreJoinedValues o one other m c.loop-l.left.items ns x y below) (sym dr) j)))
    (λ x y below j. found.first x y below (subst (λ ns. AreJoinedValues o one other m ns c.deref-in-loop-l.result.now x y below) (sym dl) (subst (λ ns. AreJoinedValues o one other m c.loop-l.left.items ns x y below) (sym dr) j)))
    (λ x y below j. found.second x y below (subst (λ ns. AreJoinedValues o one other m ns c.deref-in-loop-l.result.now x y below) (sym dl) (subst (λ ns. AreJoinedValues o one other m c.loop-l.left.items ns x y below) (sym dr) j)))
    c.in_ok-left-2.ensures.count c.in_ok-left-2.ensures.each c.in_ok-right-2.ensures.count c.in_ok-right-2.ensures.each c.loop-l.invariant)

pub returns-clause-levels : goal.returns-clause-levels
returns-clause-levels g c version inputs may some hp hq =
    let first = c.args.first.now in
    let second = c.args.second.now in
    standing-ends g.F.Field.ops first.circuit.now second.circuit.now first.places.now second.places.now c.args.depth c.loop-l.l (reverse c.loop-l.layers.items) c.reverse.new.self.items c.loop-l.left.items c.loop-l.right.items
    (omega (arith, c.loop-l-test.false)) c.requires.depth c.reverse.ensures.items c.loop-l.invariant version inputs may some hp hq

pub returns-clause-asserts : goal.returns-clause-asserts
returns-clause-asserts g c values some e hp hq =
    let o = g.F.Field.ops in
    let first = c.args.first.now in
    let second = c.args.second.now in
    let x = chosen o first.places.now values in
    let y = chosen o second.places.now values in
    let v = c.loop-l.invariant.valued values some e hp hq in
    let bottom : c.loop-l.l ≡ 0 = omega (arith, c.loop-l-test.false) in
    subst (λ ls. AreAssertsZero o ls values ↔ (AreAssertsZero o first.circuit.now.layers x × AreAssertsZero o second.circuit.now.layers y)) (sym c.reverse.ensures.items)
    (subst (λ k. AreAssertsZero o (reverse c.loop-l.layers.items) values ↔ (AreAssertsZero o (drop k first.circuit.now.layers) x × AreAssertsZero o (drop k second.circuit.now.layers) y)) bottom v.asserts)
