use Rattle.std.proofs.Common.{arith, refl, ◌∙◌, ap, length, map, subst, sym}
use Rattle.std.specs.Prelude.{◌++◌, None}
use Rattle.lzk_circuit.specs.Checks.{assertion_count, asserted, assertion_wires, inner_checks}
use Rattle.lzk_circuit.specs.Valid.{ArePlaced, AreLayersOf}
use Rattle.lzk_circuit.specs.Wires.{wires_of}
use Rattle.lzk_circuit.proofs.CheckLaws.{none-set, under-values, top-values, some-values, placed-over}
use Rattle.lzk_circuit.proofs.checks.+set_all_asserted.Goals as goal

pub returns-in_default-split_first-2 : goal.returns-in_default-split_first-2
returns-in_default-split_first-2 g t c = λ inputs e.
    let o = g.F.Field.ops in
    absurd (some-values o c.in-Some.layers.now c.in-Some-split_first.lists.now inputs
    (under-values o c.args.layers.now c.in-Some.layers.now c.in-Some.layer.now c.args.lists.now c.in-Some-split_first.lists.now _ inputs c.in-Some.ensures.cases.0 c.in-Some-split_first.ensures.cases.0 e)
    c.in_default-split_first-2.ensures.cases)

pub set_asserted-requires-clause-placed : goal.set_asserted-requires-clause-placed
set_asserted-requires-clause-placed g t c κs within =
    let o = g.F.Field.ops in
    let layer = c.in-Some.layer.now in
    let rest = c.in-Some.layers.now in
    let lists = c.in-Some-split_first.lists.now in
    let below = c.in-Some-split_first-2.below.now in
    let inputs = c.requires.lists.0 in
    let front = c.in-Some.ensures.cases.0 in
    let under = under-values o c.args.layers.now rest layer c.args.lists.now lists _ inputs front c.in-Some-split_first.ensures.cases.0 c.requires.lists.2 in
    subst (λ xs. ArePlaced layer.wires (length xs) None layer.terms) (sym c.deref.ensures.value)
    (placed-over o (length inputs) layer rest below.items inputs refl (subst (AreLayersOf o 2 (length inputs)) front c.requires.lists.1)
    (top-values o rest lists _ below inputs c.in-Some-split_first-2.ensures.cases.0 under))

pub returns : goal.returns
returns g t c = λ inputs e.
    let o = g.F.Field.ops in
    let number = g.F.Field.coding.number in
    let layer = c.in-Some.layer.now in
    let rest = c.in-Some.layers.now in
    let lists = c.in-Some-split_first.lists.now in
    let below = c.in-Some-split_first-2.below.now in
    let front = c.in-Some.ensures.cases.0 in
    let under = under-values o c.args.layers.now rest layer c.args.lists.now lists _ inputs front c.in-Some-split_first.ensures.cases.0 e in
    let is = c.deref.ensures.value ∙ top-values o rest lists _ below inputs c.in-Some-split_first-2.ensures.cases.0 under in
    ap (λ xs. xs ++ c.set_all_asserted.new.out) (c.set_asserted.ensures ∙ ap (λ xs. map (asserted o layer.terms xs) (assertion_wires number layer.terms)) is)
    ∙ ap (λ ys. map (asserted o layer.terms (wires_of o rest inputs)) (assertion_wires number layer.terms) ++ ys) (c.set_all_asserted.ensures inputs under) ∙ ap (λ ls. inner_checks o number ls inputs) (sym front)

pub returns-in_default : goal.returns-in_default
returns-in_default g t c = λ inputs e. none-set g.F.Field.ops g.F.Field.coding.number c.args.layers.now inputs c.args.out.now c.in_default.ensures.cases c.requires.room

pub returns-in_default-split_first : goal.returns-in_default-split_first
returns-in_default-split_first g t c = λ inputs e. absurd (some-values g.F.Field.ops c.args.layers.now c.args.lists.now inputs e c.in_default-split_first.ensures.cases)

pub split_at_mut-own-requires : goal.split_at_mut-own-requires
split_at_mut-own-requires g t c = omega (arith, c.requires.room ∙ ap (assertion_count g.F.Field.coding.number) c.in-Some.ensures.cases.0, c.count_asserted.ensures.count ∙ ap (λ ts. length (assertion_wires g.F.Field.coding.number ts)) c.as_slice.ensures)

pub set_all_asserted-requires-clause-lists : goal.set_all_asserted-requires-clause-lists
set_all_asserted-requires-clause-lists g t c κs within =
    let o = g.F.Field.ops in
    let inputs = c.requires.lists.0 in
    let front = c.in-Some.ensures.cases.0 in
    let placed = subst (AreLayersOf o 2 (length inputs)) front c.requires.lists.1 in
    (inputs, placed.1, under-values o c.args.layers.now c.in-Some.layers.now c.in-Some.layer.now c.args.lists.now c.in-Some-split_first.lists.now _ inputs front c.in-Some-split_first.ensures.cases.0 c.requires.lists.2)

pub set_all_asserted-requires-clause-room : goal.set_all_asserted-requires-clause-room
set_all_asserted-requires-clause-room g t c κs within = omega (arith, c.requires.room ∙ ap (assertion_count g.F.Field.coding.number) c.in-Some.ensures.cases.0, c.split_at_mut-own.ensures.back_len, c.count_asserted.ensures.count ∙ ap (λ ts. length (assertion_wires g.F.Field.coding.number ts)) c.as_slice.ensures)

pub set_asserted-requires-clause-apart : goal.set_asserted-requires-clause-apart
set_asserted-requires-clause-apart g t c κs within =
    let placed = subst (AreLayersOf g.F.Field.ops 2 (length c.requires.lists.0)) c.in-Some.ensures.cases.0 c.requires.lists.1 in
    placed.0.coefs

pub set_asserted-requires-clause-room : goal.set_asserted-requires-clause-room
set_asserted-requires-clause-room g t c κs within =
    c.split_at_mut-own.ensures.front_len ∙ c.count_asserted.ensures.count ∙ ap (λ ts. length (assertion_wires g.F.Field.coding.number ts)) c.as_slice.ensures
