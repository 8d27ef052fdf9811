use Rattle.std.proofs.Common.{◌++◌, ◌∙◌, ap}
use Rattle.lzk_policy_inputs.proofs.Bits.{spelled_are_low}
use Rattle.lzk_policy_inputs.proofs.append.append_bits.Goals as goal

pub returns : goal.returns
returns c =
    c.in_ok-extend_from_slice.ensures.items
    ∙ ap (λ l. c.args.bits.now.items ++ l) (c.deref.ensures.value ∙ spelled_are_low 32 c.args.number c.in_ok-word.word.items c.in_ok-word.ensures.count c.in_ok-word.ensures.spells)
