use Rattle.lzk_profile.specs.Profile.{opened_count}
use Rattle.std.proofs.Common.{◌∙◌, arith, inl, inr}
use Rattle.lzk_ligero.proofs.ChangeLaws.{front_changes, front_stays, back_changes, back_stays}
use Rattle.lzk_ligero.proofs.changing.add_to_quadratic.Goals as goal

pub returns-then-place-block-clause-head : goal.returns-then-place-block-clause-head
returns-then-place-block-clause-head g c = λ values is.
    c.add_at.ensures.values
    ∙ front_changes g.F.Field.ops c.args.place c.args.by values c.args.head.now opened_count (elim c.requires.place.1 [ inl l ↦ l | inr l ↦ absurd (omega (arith, l, c.if-place-block.true)) ]) is

pub returns-then-place-block-clause-tail : goal.returns-then-place-block-clause-tail
returns-then-place-block-clause-tail g c = λ values is. back_stays g.F.Field.ops c.args.place c.args.by values c.args.tail.now c.args.plan.now.params.block c.if-place-block.true is

pub returns-else-place-block-clause-head : goal.returns-else-place-block-clause-head
returns-else-place-block-clause-head g c = λ values is.
    front_stays g.F.Field.ops c.args.place c.args.by values c.args.head.now opened_count (omega (arith, c.if-place-block.false, c.args.plan.now.bounded.block)) is

pub returns-else-place-block-clause-tail : goal.returns-else-place-block-clause-tail
returns-else-place-block-clause-tail g c = λ values is.
    c.add_at-else-place-block.ensures.values
    ∙ back_changes g.F.Field.ops c.args.place c.args.by values c.args.tail.now c.args.plan.now.params.block (omega (arith, c.if-place-block.false)) is
