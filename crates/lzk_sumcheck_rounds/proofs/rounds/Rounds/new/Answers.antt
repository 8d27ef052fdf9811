use Rattle.lzk_profile.specs.Profile.{most_bits}
use Rattle.std.proofs.Common.{◌≡◌, ◌≤◌, ◌^◌, length, ap, sym, ◌∙◌, arith}
use Rattle.std.proofs.Math.Pow.{pow_mono}
use Rattle.std.proofs.lemmas.List.{length-replicate}
use Rattle.std.proofs.lemmas.Nat.{pow_pos}
use Rattle.lzk_circuit.specs.Bits.{bits}
use Rattle.lzk_layout.specs.Places.{width_at}
use Rattle.lzk_sumcheck_rounds.proofs.rounds.Rounds.new.Goals as goal

pub new-requires-clause-some : goal.new-requires-clause-some
new-requires-clause-some g c κs within = omega (arith, c.power_of-size.ensures, pow_pos c.most_bits.result)

pub new-requires-clause-few : goal.new-requires-clause-few
new-requires-clause-few g c κs within = omega (arith, c.power_of-size.ensures, pow_mono {i = c.most_bits.result} {j = most_bits} c.most_bits.ensures.few)

pub invariant_of-result : goal.invariant_of-result
invariant_of-result g c = c.in_ok-new.ensures.places ∙ sym (ap length c.in_ok-zeros.ensures ∙ length-replicate c.power_of-size.result g.F.Field.ops.zero)

pub returns : goal.returns
returns g c =
    let w = c.args.circuit.now in
    let most = c.most_bits.result in
    let size : length c.in_ok-zeros.field-0.items ≡ 2 ^ most = ap length c.in_ok-zeros.ensures ∙ length-replicate c.power_of-size.result g.F.Field.ops.zero ∙ c.power_of-size.ensures in
    record {
      made = record {
        orders = c.in_ok-orders_of.ensures;
        pairs = λ l h. omega (arith, c.most_terms.ensures l h, c.in_ok-new.ensures.pairs);
        places = λ l h.
            let few : bits (width_at w l) ≤ most = c.most_bits.ensures.most l h in
            omega (arith, size, pow_mono {i = bits (width_at w l)} {j = most} few);
        bounds = omega (arith, ap length c.in_ok-zeros-2.ensures ∙ length-replicate c.depth.result g.F.Field.ops.zero, c.depth.ensures.depth);
      };
    }
