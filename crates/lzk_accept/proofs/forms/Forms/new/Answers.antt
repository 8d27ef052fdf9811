use Rattle.std.proofs.Common.{◌≡◌, ◌+◌, ◌^◌, length, sym, ap, ◌∙◌, arith}
use Rattle.std.proofs.lemmas.List.{length-replicate}
use Rattle.std.proofs.lemmas.Result.{IfOk-from_err}
use Rattle.std.proofs.Math.Pow.{pow_mono}
use Rattle.lzk_circuit.specs.Bits.{bits}
use Rattle.lzk_layout.specs.Places.{width_at}
use Rattle.lzk_accept.proofs.forms.Forms.new.Goals as goal

pub returns-in_err-forms : goal.returns-in_err-forms
returns-in_err-forms g c = record { made = IfOk-from_err _ _ c.from_residual.ensures.0 }

pub returns-in_err-own : goal.returns-in_err-own
returns-in_err-own g c = record { made = IfOk-from_err _ _ c.from_residual-in_err-own.ensures.0 }

pub returns-in_err-first : goal.returns-in_err-first
returns-in_err-first g c = record { made = IfOk-from_err _ _ c.from_residual-in_err-first.ensures.0 }

pub returns-in_err-second : goal.returns-in_err-second
returns-in_err-second g c = record { made = IfOk-from_err _ _ c.from_residual-in_err-second.ensures.0 }

pub returns-in_err-weights : goal.returns-in_err-weights
returns-in_err-weights g c = record { made = IfOk-from_err _ _ c.from_residual-in_err-weights.ensures.0 }

pub returns-in_err-bounds : goal.returns-in_err-bounds
returns-in_err-bounds g c = record { made = IfOk-from_err _ _ c.from_residual-in_err-bounds.ensures.0 }

pub invariant_of-result : goal.invariant_of-result
invariant_of-result g c =
    let z = g.F.Field.ops.zero in
    let size = c.power_of-size.result in
    let weights = ap length c.in_ok-weights.ensures ∙ length-replicate size z in (
      ap length c.in_ok-first.ensures ∙ length-replicate size z ∙ sym weights,
      ap length c.in_ok-second.ensures ∙ length-replicate size z ∙ sym weights,
      ap (λ xs. length xs + 1) c.in_ok-bounds.ensures ∙ ap (λ n. n + 1) (length-replicate c.depth.result z ∙ c.depth.ensures.depth) ∙ sym c.in_ok-forms.ensures.count,
    )

pub returns : goal.returns
returns g c =
    let o = g.F.Field.ops in
    let nw = c.of.result.nw in
    let size = c.power_of-size.result in
    let room : 2 ^ c.most_bits.result ≡ length c.in_ok-weights.weights.items = sym (ap length c.in_ok-weights.ensures ∙ length-replicate size o.zero ∙ c.power_of-size.ensures) in
    record {
      made = record {
        count = c.in_ok-forms.ensures.count;
        own = ap length c.in_ok-own.ensures ∙ length-replicate nw o.zero ∙ ap (λ p. p.nw) c.of.ensures.params;
        places = c.in_ok-forms.ensures.places;
        room = λ l h. omega (arith, room, pow_mono {i = bits (width_at c.args.circuit.now l)} {j = c.most_bits.result} (c.most_bits.ensures.most l h));
      };
    }
