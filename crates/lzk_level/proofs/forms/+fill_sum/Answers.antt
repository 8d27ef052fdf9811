use Rattle.std.proofs.Common.{◌+◌, ◌/◌, sym, subst, length, ℕ, arith, rules}
use Rattle.lzk_level.specs.Forms.{IsSumForm, IsPart, AreParts}
use Rattle.lzk_level.proofs.NodeForms.{sum-of-two}
use Rattle.std.proofs.lemmas.Result.{IfOk-from_err}
use Rattle.std.proofs.lemmas.List.Elements.{All-take, All-drop}
use Rattle.lzk_level.proofs.forms.+fill_sum.Goals as goal

pub returns : goal.returns
returns g t c =
    let o = g.F.Field.ops in
    let n = c.args.next.now in
    let front = c.split_at.result.0.now in
    let back = c.split_at.result.1.now in
    let e = c.in_ok-sum.ensures in
    sum-of-two o g.F.Field.laws.ring n.inputs n.made.now n.depths.now (n.inputs + n.i) n.depth (length c.args.parts.now / 2) c.args.parts.now front back c.deref.result.now c.deref-2.result.now c.in_ok-sum.sum.items c.split_at.ensures.front c.split_at.ensures.back
    (subst (IsSumForm o n.inputs n.made.now n.depths.now (n.inputs + n.i) n.depth front) (sym c.deref.ensures.value) c.in_ok-fill_sum-2.ensures) (subst (IsSumForm o n.inputs n.made.now n.depths.now (n.inputs + n.i) n.depth back) (sym c.deref-2.ensures.value) c.in_ok-fill_sum.ensures)
    e.row e.under e.value e.short

pub returns-in_err-add_parts : goal.returns-in_err-add_parts
returns-in_err-add_parts g t c = IfOk-from_err _ _ c.from_residual.ensures.0

pub returns-then-branch : goal.returns-then-branch
returns-then-branch g t c = c.in_ok-add_parts.ensures.all c.if-branch.true

pub split_at-requires : goal.split_at-requires
split_at-requires g t c = omega arith

pub returns-in_err-fill_sum : goal.returns-in_err-fill_sum
returns-in_err-fill_sum g t c = IfOk-from_err _ _ c.from_residual-in_err-fill_sum.ensures.0

pub returns-in_err-left : goal.returns-in_err-left
returns-in_err-left g t c = IfOk-from_err _ _ c.from_residual-in_err-left.ensures.0

pub returns-in_err-fill_sum-2 : goal.returns-in_err-fill_sum-2
returns-in_err-fill_sum-2 g t c = IfOk-from_err _ _ c.from_residual-in_err-fill_sum-2.ensures.0

pub returns-in_err-sum : goal.returns-in_err-sum
returns-in_err-sum g t c = IfOk-from_err _ _ c.from_residual-in_err-sum.ensures.0

pub fill_sum-requires : goal.fill_sum-requires
fill_sum-requires g t c κs within =
    let n = c.args.next.now in
    (omega (arith, c.decreases, c.split_at.ensures.back_len, c.in_ok-add_parts.ensures.many c.if-branch.false), (within, (search rules, (search rules, subst (AreParts n.depths.now (n.inputs + n.i) n.depth) (sym c.split_at.ensures.back) (All-drop (λ (p : _ × ℕ). IsPart n.depths.now (n.inputs + n.i) n.depth p.1) (length c.args.parts.now / 2) c.args.parts.now c.requires)))))

pub fill_sum-requires-2 : goal.fill_sum-requires-2
fill_sum-requires-2 g t c κs within =
    let n = c.args.next.now in
    (omega (arith, c.decreases, c.split_at.ensures.front_len, c.in_ok-add_parts.ensures.many c.if-branch.false), (within, (search rules, (search rules, subst (AreParts n.depths.now (n.inputs + n.i) n.depth) (sym c.split_at.ensures.front) (All-take (λ (p : _ × ℕ). IsPart n.depths.now (n.inputs + n.i) n.depth p.1) (length c.args.parts.now / 2) c.args.parts.now c.requires)))))

pub add_parts-requires-after_bounds : goal.add_parts-requires-after_bounds
add_parts-requires-after_bounds g t c κs within = c.requires
