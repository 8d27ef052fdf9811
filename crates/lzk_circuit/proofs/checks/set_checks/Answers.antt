use Rattle.std.proofs.Common.{refl, ◌∙◌, ap, length, subst, sym, arith}
use Rattle.std.specs.Prelude.{◌++◌, None}
use Rattle.lzk_circuit.specs.Checks.{check_count, output_checks, checks_of}
use Rattle.lzk_circuit.specs.Valid.{ArePlaced, AreLayersOf}
use Rattle.lzk_circuit.specs.Wires.{wires_of}
use Rattle.lzk_circuit.proofs.CheckLaws.{no-checks, under-values, top-values, top-length, some-values, placed-over, outputs-set}
use Rattle.lzk_circuit.proofs.checks.set_checks.Goals as goal

pub returns-in_default-split_first-2 : goal.returns-in_default-split_first-2
returns-in_default-split_first-2 g c = λ inputs e.
    let o = g.F.Field.ops in
    absurd (some-values o c.in-Some.layers.now c.in-Some-split_first.lists.now inputs
    (under-values o c.args.layers.now c.in-Some.layers.now c.in-Some.layer.now c.args.lists.now c.in-Some-split_first.lists.now c.in-Some-split_first.wires.now inputs c.in-Some.ensures.cases.0
    c.in-Some-split_first.ensures.cases.0 e)
    c.in_default-split_first-2.ensures.cases)

pub copy_from_slice-requires : goal.copy_from_slice-requires
copy_from_slice-requires g c =
    let long = ap length c.deref.ensures.value
    ∙ top-length g.F.Field.ops c.args.layers.now c.in-Some.layers.now c.in-Some.layer.now c.args.lists.now c.in-Some-split_first.lists.now c.in-Some-split_first.wires.now c.requires.lists.0
    c.in-Some.ensures.cases.0 c.in-Some-split_first.ensures.cases.0 c.requires.lists.2 in
    omega (arith, long, c.split_at_mut-outputs.ensures.front_len)

pub add_asserted-requires-after_bounds : goal.add_asserted-requires-after_bounds
add_asserted-requires-after_bounds g c κs within =
    let o = g.F.Field.ops in
    let layer = c.in-Some.layer.now in
    let rest = c.in-Some.layers.now in
    let lists = c.in-Some-split_first.lists.now in
    let below = c.in-Some-split_first-2.below.now in
    let inputs = c.requires.lists.0 in
    let front = c.in-Some.ensures.cases.0 in
    let under = under-values o c.args.layers.now rest layer c.args.lists.now lists _ inputs front c.in-Some-split_first.ensures.cases.0 c.requires.lists.2 in
    let long = ap length (c.copy_from_slice.ensures.after ∙ c.deref.ensures.value)
    ∙ top-length o c.args.layers.now rest layer c.args.lists.now lists c.in-Some-split_first.wires.now inputs front c.in-Some-split_first.ensures.cases.0 c.requires.lists.2 in
    subst (λ ts. ArePlaced (length c.copy_from_slice.new.self) (length c.deref-2.result.now) None ts) (sym c.as_slice.ensures)
    (subst (λ n. ArePlaced n (length c.deref-2.result.now) None layer.terms) (sym long)
    (subst (λ xs. ArePlaced layer.wires (length xs) None layer.terms) (sym c.deref-2.ensures.value)
    (placed-over o (length inputs) layer rest below.items inputs refl (subst (AreLayersOf o 2 (length inputs)) front c.requires.lists.1)
    (top-values o rest lists _ below inputs c.in-Some-split_first-2.ensures.cases.0 under))))

pub returns : goal.returns
returns g c = λ inputs e.
    let o = g.F.Field.ops in
    let number = g.F.Field.coding.number in
    let layer = c.in-Some.layer.now in
    let rest = c.in-Some.layers.now in
    let lists = c.in-Some-split_first.lists.now in
    let below = c.in-Some-split_first-2.below.now in
    let front = c.in-Some.ensures.cases.0 in
    let under = under-values o c.args.layers.now rest layer c.args.lists.now lists _ inputs front c.in-Some-split_first.ensures.cases.0 e in
    let outputs = outputs-set o c.args.layers.now rest layer c.args.lists.now lists _ c.in-Some-split_first.wires.now below inputs c.copy_from_slice.new.self c.add_asserted.new.out c.deref-2.result.now c.as_slice.result.now
    front c.in-Some-split_first.ensures.cases.0 c.in-Some-split_first-2.ensures.cases.0 e (c.copy_from_slice.ensures.after ∙ c.deref.ensures.value) c.as_slice.ensures c.deref-2.ensures.value c.add_asserted.ensures.length
    c.add_asserted.ensures.sum in
    ap (λ xs. xs ++ c.set_all_asserted.new.out) outputs ∙ ap (λ ys. output_checks o layer (wires_of o rest inputs) ++ ys) (c.set_all_asserted.ensures inputs under)
    ∙ ap (λ ls. checks_of o number ls inputs) (sym front)

pub returns-in_default : goal.returns-in_default
returns-in_default g c = λ inputs e. no-checks g.F.Field.ops g.F.Field.coding.number c.args.layers.now inputs c.args.out.now c.in_default.ensures.cases c.requires.room

pub returns-in_default-split_first : goal.returns-in_default-split_first
returns-in_default-split_first g c = λ inputs e. absurd (some-values g.F.Field.ops c.args.layers.now c.args.lists.now inputs e c.in_default-split_first.ensures.cases)

pub split_at_mut-outputs-requires : goal.split_at_mut-outputs-requires
split_at_mut-outputs-requires g c = omega (arith, c.requires.room ∙ ap (check_count g.F.Field.coding.number) c.in-Some.ensures.cases.0)

pub set_all_asserted-requires-clause-lists : goal.set_all_asserted-requires-clause-lists
set_all_asserted-requires-clause-lists g c κs within =
    let o = g.F.Field.ops in
    let inputs = c.requires.lists.0 in
    let front = c.in-Some.ensures.cases.0 in
    let placed = subst (AreLayersOf o 2 (length inputs)) front c.requires.lists.1 in
    (inputs, placed.1, under-values o c.args.layers.now c.in-Some.layers.now c.in-Some.layer.now c.args.lists.now c.in-Some-split_first.lists.now _ inputs front c.in-Some-split_first.ensures.cases.0 c.requires.lists.2)

pub set_all_asserted-requires-clause-room : goal.set_all_asserted-requires-clause-room
set_all_asserted-requires-clause-room g c κs within = omega (arith, c.requires.room ∙ ap (check_count g.F.Field.coding.number) c.in-Some.ensures.cases.0, c.split_at_mut-outputs.ensures.back_len)
