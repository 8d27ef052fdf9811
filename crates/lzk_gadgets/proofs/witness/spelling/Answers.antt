use Rattle.std.proofs.Common.{◌≡◌, ◌∙◌, ap, refl, sym, subst, arith, ◌/◌}
use Rattle.lzk_goldilocks.specs.Elements.{of_number}
use Rattle.lzk_gadgets.proofs.WitnessLaws.{Spelling, spelling-starts, spelling-adds, spelling-ends}
use Rattle.lzk_gadgets.proofs.witness.spelling.Goals as goal

pub loop-k-init : goal.loop-k-init
loop-k-init c = subst (Spelling c.args.number 0 c.args.number) (sym c.in_ok-bits.ensures.items) (spelling-starts c.args.number)

pub loop-k-preserved : goal.loop-k-preserved
loop-k-preserved c =
    spelling-adds c.args.number c.loop-k._k c.loop-k.rest (c.loop-k.rest / 2) c.loop-k.bits.items c.push.new.self.items c.of_word.result
    (c.of_word.ensures ∙ ap of_number c.from.ensures) refl c.in_ok-push.ensures.items c.loop-k.invariant

pub returns-clause-spells : goal.returns-clause-spells
returns-clause-spells c =
    let same : c.loop-k._k ≡ c.args.count = omega (arith, c.loop-k-test.false, c.loop-k.auto._k-end) in
    spelling-ends c.args.number c.args.count c.loop-k.rest c.loop-k.bits.items c.requires (subst (λ k. Spelling c.args.number k c.loop-k.rest c.loop-k.bits.items) same c.loop-k.invariant)
