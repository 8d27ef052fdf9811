use Rattle.std.proofs.Common.{arith, ◌<◌, ◌∙◌, ap, sym, subst, ◌≡◌, ℕ, List, [], ◌∷◌, ◌++◌, Some}
use Rattle.std.proofs.lemmas.Result.{on_ok_weaker}
use Rattle.lzk_level.specs.Nodes.{node_count}
use Rattle.lzk_level.specs.Compilable.{IsOperand}
use Rattle.lzk_level.specs.Compiling.{scope, let_at}
use Rattle.lzk_level.specs.declared.half.Half.{Half}
use Rattle.lzk_level.specs.Steps.{held_in, held_closed, held_right}
use Rattle.lzk_expr.specs.Codes.{code_word}
use Rattle.lzk_level.specs.Makings.{IsWordWithin}
use Rattle.lzk_level.proofs.MadeLaws.{operand-at}
use Rattle.lzk_level.proofs.StepLaws.{can-join}
use Rattle.lzk_level.proofs.TakeLaws.{on-ok-one, on-ok-two, taken-number, taken-public, taken-private, taken-named, taken-plus, taken-minus, taken-times, taken-open, taken-close, taken-define, taken-left, taken-right}
use Rattle.lzk_level.proofs.maker.Maker.take.Goals as goal

pub value-requires-in-Named-clause-operand : goal.value-requires-in-Named-clause-operand
value-requires-in-Named-clause-operand g c κs within =
    let o = g.F.Field.ops in
    let n = node_count c.args.self.now.builder in
    let is = c.let_at-operand.ensures ∙ ap (λ xs. let_at (scope o g.F.Field.coding.element xs) c.in-Named.i) c.deref.ensures.value in
    can-join n c.args.self.now.now.node c.let_at-operand.result c.requires.sound.node
    (subst (IsOperand n) (sym is) (operand-at n c.args.self.now.lets.items c.in-Named.i o.zero c.requires.sound.lets))

pub returns-in-Number : goal.returns-in-Number
returns-in-Number g c =
    let o = g.F.Field.ops in
    on_ok_weaker c.value.result
    (taken-number o g.F.Field.laws.ring g.F.Field.coding.element c.args.numbers.now c.args.word (held_in c.args.self.now) (held_in c.value.new.self) c.in-Number.i c.number_in.result c.of_word.result c.in-Number.is c.number_in.ensures c.of_word.ensures)
    c.value.ensures

pub returns-in-Public : goal.returns-in-Public
returns-in-Public g c =
    let o = g.F.Field.ops in
    on_ok_weaker c.value-in-Public.result
    (taken-public o g.F.Field.laws.ring g.F.Field.coding.element c.args.numbers.now c.args.word (held_in c.args.self.now) (held_in c.value-in-Public.new.self) c.in-Public.i c.public-node.result c.in-Public.is c.public-node.ensures)
    c.value-in-Public.ensures

pub returns-in-Private : goal.returns-in-Private
returns-in-Private g c =
    let o = g.F.Field.ops in
    on_ok_weaker c.value-in-Private.result
    (taken-private o g.F.Field.laws.ring g.F.Field.coding.element c.args.numbers.now c.args.word (held_in c.args.self.now) (held_in c.value-in-Private.new.self) c.in-Private.i c.private-node.result c.in-Private.is c.private-node.ensures)
    c.value-in-Private.ensures

pub returns-in-Named : goal.returns-in-Named
returns-in-Named g c =
    let o = g.F.Field.ops in
    on_ok_weaker c.value-in-Named.result
    (taken-named o g.F.Field.laws.ring g.F.Field.coding.element c.args.numbers.now c.args.word (held_in c.args.self.now) (held_in c.value-in-Named.new.self) c.in-Named.i c.let_at-operand.result c.in-Named.is (c.let_at-operand.ensures ∙ ap (λ xs. let_at (scope o g.F.Field.coding.element xs) c.in-Named.i) c.deref.ensures.value))
    c.value-in-Named.ensures

pub returns-in-Plus : goal.returns-in-Plus
returns-in-Plus g c =
    let o = g.F.Field.ops in
    on_ok_weaker c.part.result
    (taken-plus o g.F.Field.laws.ring g.F.Field.coding.element c.args.numbers.now c.args.word (held_in c.args.self.now) (held_in c.part.new.self) c.in-Plus.is)
    c.part.ensures

pub returns-in-Minus : goal.returns-in-Minus
returns-in-Minus g c =
    let o = g.F.Field.ops in
    on_ok_weaker c.minus.result
    (taken-minus o g.F.Field.laws.ring g.F.Field.coding.element c.args.numbers.now c.args.word (held_in c.args.self.now) (held_in c.minus.new.self) c.in-Minus.is)
    c.minus.ensures

pub returns-in-Open : goal.returns-in-Open
returns-in-Open g c =
    let o = g.F.Field.ops in
    on_ok_weaker c.open.result
    (taken-open o g.F.Field.laws.ring g.F.Field.coding.element c.args.numbers.now c.args.word (held_in c.args.self.now) (held_in c.open.new.self) c.in-Open.is)
    c.open.ensures

pub returns-in-Close : goal.returns-in-Close
returns-in-Close g c =
    let o = g.F.Field.ops in
    let m = held_in c.args.self.now in
    let after = held_in c.close.new.self in
    on_ok_weaker c.close.result (taken-close o g.F.Field.laws.ring g.F.Field.coding.element c.args.numbers.now c.args.word m after c.in-Close.is)
    (on-ok-two c.close.result (λ (outer : List (Half _)) (before : Half _). m.outer ≡ outer ++ before ∷ []) (λ (outer : List (Half _)) (before : Half _). after ≡ held_closed o m outer before) c.close.ensures)

pub returns-in-Define : goal.returns-in-Define
returns-in-Define g c =
    let o = g.F.Field.ops in
    on_ok_weaker c.define.result
    (taken-define o g.F.Field.laws.ring g.F.Field.coding.element c.args.numbers.now c.args.word (held_in c.args.self.now) (held_in c.define.new.self) c.in-Define.is)
    c.define.ensures

pub returns-in-Left : goal.returns-in-Left
returns-in-Left g c =
    let o = g.F.Field.ops in
    on_ok_weaker c.left.result
    (taken-left o g.F.Field.laws.ring g.F.Field.coding.element c.args.numbers.now c.args.word (held_in c.args.self.now) (held_in c.left.new.self) c.in-Left.is)
    c.left.ensures

pub returns-in-Right : goal.returns-in-Right
returns-in-Right g c =
    let o = g.F.Field.ops in
    let m = held_in c.args.self.now in
    let after = held_in c.right.new.self in
    on_ok_weaker c.right.result (taken-right o g.F.Field.laws.ring g.F.Field.coding.element c.args.numbers.now c.args.word m after c.in-Right.is)
    (on-ok-one c.right.result (λ (left : ℕ). m.left ≡ Some left) (λ (left : ℕ). after ≡ held_right o m left) c.right.ensures)

pub returns-in-Times : goal.returns-in-Times
returns-in-Times g c =
    taken-times g.F.Field.ops g.F.Field.laws.ring g.F.Field.coding.element c.args.numbers.now c.args.word (held_in c.args.self.now) (held_in c.times.new.self) c.in-Times.is c.times.ensures

pub part-requires-after_bounds : goal.part-requires-after_bounds
part-requires-after_bounds g c κs within = record { room = omega (arith, c.requires.room); node = c.requires.sound.node }

pub minus-requires-after_bounds : goal.minus-requires-after_bounds
minus-requires-after_bounds g c κs within = record { room = omega (arith, c.requires.room); node = c.requires.sound.node }

pub define-requires-after_bounds : goal.define-requires-after_bounds
define-requires-after_bounds g c κs within = record { room = omega (arith, c.requires.room); node = c.requires.sound.node; begin = c.requires.sound.begin; parts_are = c.requires.sound.parts }

pub left-requires-after_bounds : goal.left-requires-after_bounds
left-requires-after_bounds g c κs within = record { room = omega (arith, c.requires.room); node = c.requires.sound.node; begin = c.requires.sound.begin; parts_are = c.requires.sound.parts }

pub close-requires-clause-can : goal.close-requires-clause-can
close-requires-clause-can g c κs within = record { room = omega (arith, c.requires.room); node = c.requires.sound.node; begin = c.requires.sound.begin; parts_are = c.requires.sound.parts }

pub right-requires-clause-can : goal.right-requires-clause-can
right-requires-clause-can g c κs within = record { room = omega (arith, c.requires.room); node = c.requires.sound.node; begin = c.requires.sound.begin; parts_are = c.requires.sound.parts }

pub close-requires-clause-outer : goal.close-requires-clause-outer
close-requires-clause-outer g c κs within = c.requires.sound.outer

pub right-requires-clause-left : goal.right-requires-clause-left
right-requires-clause-left g c κs within = c.requires.sound.left

pub value-requires-clause-room : goal.value-requires-clause-room
value-requires-clause-room g c κs within = omega (arith, c.requires.room)

pub value-requires-in-Public-clause-room : goal.value-requires-in-Public-clause-room
value-requires-in-Public-clause-room g c κs within = omega (arith, c.requires.room)

pub value-requires-in-Private-clause-room : goal.value-requires-in-Private-clause-room
value-requires-in-Private-clause-room g c κs within = omega (arith, c.requires.room)

pub value-requires-in-Named-clause-room : goal.value-requires-in-Named-clause-room
value-requires-in-Named-clause-room g c κs within = omega (arith, c.requires.room)

pub public-node-requires-after_bounds : goal.public-node-requires-after_bounds
public-node-requires-after_bounds g c κs within =
    let b = c.args.self.now.builder in
    subst (λ w. IsWordWithin b.publics b.privates (code_word c.args.numbers.now w)) c.in-Public.is c.requires.input

pub private-node-requires-after_bounds : goal.private-node-requires-after_bounds
private-node-requires-after_bounds g c κs within =
    let b = c.args.self.now.builder in
    subst (λ w. IsWordWithin b.publics b.privates (code_word c.args.numbers.now w)) c.in-Private.is c.requires.input

pub value-requires-in-Public-clause-operand : goal.value-requires-in-Public-clause-operand
value-requires-in-Public-clause-operand g c κs within =
    let b = c.args.self.now.builder in
    let declared : c.in-Public.i < b.publics = subst (λ w. IsWordWithin b.publics b.privates (code_word c.args.numbers.now w)) c.in-Public.is c.requires.input in
    ((omega (arith, c.public-node.ensures), omega (arith, c.public-node.ensures, declared)), c.requires.sound.node)

pub value-requires-in-Private-clause-operand : goal.value-requires-in-Private-clause-operand
value-requires-in-Private-clause-operand g c κs within =
    let b = c.args.self.now.builder in
    let declared : c.in-Private.i < b.privates = subst (λ w. IsWordWithin b.publics b.privates (code_word c.args.numbers.now w)) c.in-Private.is c.requires.input in
    ((omega (arith, c.private-node.ensures), omega (arith, c.private-node.ensures, declared)), c.requires.sound.node)
