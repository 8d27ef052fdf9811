use Rattle.std.proofs.Common.{◌≡◌, ◌∙◌, ◌||◌, Bool, true, false, refl, sym, ap, length, arith}
use Rattle.std.proofs.lemmas.List.{drop_all}
use Rattle.lzk_circuit_reduce.specs.Marks.{is_marked}
use Rattle.lzk_circuit_reduce.specs.Targets.{is_in}
use Rattle.lzk_circuit_reduce.proofs.TargetLaws.{below-at, in-more}
use Rattle.lzk_circuit_reduce.proofs.targets.mark_each.Goals as goal

or-false : (p : Bool) → (p || false) ≡ p
or-false true = refl
or-false false = refl

pub loop-i-init : goal.loop-i-init
loop-i-init c k = refl

pub mark_one-requires : goal.mark_one-requires
mark_one-requires c =
    let below = below-at (length c.args.marks.now) c.args.wires.now c.loop-i.i 0 c.loop-i-test.true c.requires in
    omega (arith, below, c.loop-i.auto.marks)

pub loop-i-preserved : goal.loop-i-preserved
loop-i-preserved c k =
    let ws = c.args.wires.now in
    in-more ws c.loop-i.i 0 k (is_marked c.loop-i.marks k) (is_marked c.mark_one.new.marks k) c.loop-i-test.true (c.mark_one.ensures k) ∙ c.loop-i.invariant k

pub returns : goal.returns
returns c k =
    let marks = c.loop-i.marks in
    sym (or-false (is_marked marks k)) ∙ ap (λ ws. is_marked marks k || is_in ws k) (sym (drop_all c.loop-i.i c.args.wires.now c.loop-i-test.false)) ∙ c.loop-i.invariant k
