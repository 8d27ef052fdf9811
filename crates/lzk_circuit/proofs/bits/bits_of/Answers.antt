use Rattle.std.proofs.Common.{◌≡◌, ℕ, subst, arith}
use Rattle.lzk_circuit.proofs.BitLaws.{AllFall, bits_is, fall_more, power_more, bits_few, bits_enough, bits_least}
use Rattle.lzk_circuit.proofs.bits.bits_of.Goals as goal

pub returns-then-wires-power-clause-bits : goal.returns-then-wires-power-clause-bits
returns-then-wires-power-clause-bits c = bits_is c.args.wires c.loop-k.k c.loop-k.invariant.below (omega (arith, c.if-wires-power.true, c.loop-k.invariant.power))

pub returns-then-wires-power-clause-few : goal.returns-then-wires-power-clause-few
returns-then-wires-power-clause-few c =
    let e = bits_is c.args.wires c.loop-k.k c.loop-k.invariant.below (omega (arith, c.if-wires-power.true, c.loop-k.invariant.power)) in
    omega (arith, bits_few c.args.wires c.requires)

pub loop-k-preserved : goal.loop-k-preserved
loop-k-preserved c = record {
  power = omega (arith, power_more c.loop-k.k, c.loop-k.invariant.power);
  below = fall_more c.args.wires c.loop-k.k c.loop-k.invariant.below (omega (arith, c.if-wires-power.false, c.loop-k.invariant.power));
}

pub returns-clause-bits : goal.returns-clause-bits
returns-clause-bits c =
    let e : c.loop-k.k ≡ 31 = omega arith in
    bits_is c.args.wires 31 (subst (λ (k : ℕ). AllFall c.args.wires k) e c.loop-k.invariant.below) (omega (arith, c.requires))

pub returns-then-wires-power-clause-enough : goal.returns-then-wires-power-clause-enough
returns-then-wires-power-clause-enough c = bits_enough c.args.wires

pub returns-then-wires-power-clause-least : goal.returns-then-wires-power-clause-least
returns-then-wires-power-clause-least c = bits_least c.args.wires

pub returns-clause-enough : goal.returns-clause-enough
returns-clause-enough c = bits_enough c.args.wires

pub returns-clause-least : goal.returns-clause-least
returns-clause-least c = bits_least c.args.wires
