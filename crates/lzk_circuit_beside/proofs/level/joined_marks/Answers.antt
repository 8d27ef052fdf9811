use Rattle.std.proofs.Common.{◌≡◌, ◌∙◌, refl, ap, arith, ◌+◌}
use Rattle.std.specs.Prelude.{◌||◌, Bool, true, false}
use Rattle.lzk_circuit_reduce.specs.Marks.{is_marked}
use Rattle.lzk_circuit_beside.specs.Asserts.{first_asserted}
use Rattle.lzk_circuit_beside.proofs.LevelLaws.{first-within}
use Rattle.lzk_circuit_beside.proofs.level.joined_marks.Goals as goal

or-none : (b c : Bool) → c ≡ false → (b || c) ≡ b
or-none true c e = refl
or-none false c e = e

pub mark_level-requires-clause-few : goal.mark_level-requires-clause-few
mark_level-requires-clause-few g c κs within = omega (arith, c.in_ok-marks.ensures.count, c.requires.few)

pub mark_level-requires-clause-room : goal.mark_level-requires-clause-room
mark_level-requires-clause-room g c κs within = omega (arith, c.in_ok-marks.ensures.count, c.requires.split)

pub mark_level-requires-2-clause-few : goal.mark_level-requires-2-clause-few
mark_level-requires-2-clause-few g c κs within = omega (arith, c.in_ok-marks.ensures.count, c.requires.few, c.mark_level.ensures.count)

pub mark_level-requires-2-clause-room : goal.mark_level-requires-2-clause-room
mark_level-requires-2-clause-room g c κs within = omega (arith, c.in_ok-marks.ensures.count, c.requires.more, c.mark_level.ensures.count)

pub returns-clause-left : goal.returns-clause-left
returns-clause-left g c k l =
    let none = c.in_ok-marks.ensures.none k (omega (arith, l)) in
    c.mark_level-2.ensures.before k l ∙ ap (is_marked c.mark_level.new.marks.items) (omega arith) ∙ c.mark_level.ensures.own k
    ∙ or-none (first_asserted g.F.Field.coding.number _ k) (is_marked c.in_ok-marks.marks.items (0 + k)) (ap (is_marked c.in_ok-marks.marks.items) (omega arith) ∙ none)

pub returns-clause-right : goal.returns-clause-right
returns-clause-right g c k l =
    let number = g.F.Field.coding.number in
    let j = c.args.split + k in
    let none = c.in_ok-marks.ensures.none j (omega (arith, l)) in
    let past = first-within g.F.Field.ops g.F.Field.coding.size number g.F.Field.coding.element g.F.Field.coding.bytes g.F.Field.laws c.args.first.now c.args.l j c.mark_level.ensures.valid (omega (arith, c.requires.split)) in
    let before : is_marked c.mark_level.new.marks.items j ≡ false =
    ap (is_marked c.mark_level.new.marks.items) (omega arith) ∙ c.mark_level.ensures.own j
    ∙ or-none (first_asserted number _ j) (is_marked c.in_ok-marks.marks.items (0 + j)) (ap (is_marked c.in_ok-marks.marks.items) (omega arith) ∙ none) ∙ past in
    c.mark_level-2.ensures.own k ∙ or-none (first_asserted number _ k) (is_marked c.mark_level.new.marks.items j) before
