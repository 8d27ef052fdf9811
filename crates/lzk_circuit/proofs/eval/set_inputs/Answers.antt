use Rattle.std.proofs.Common.{refl, length, ap, arith}
use Rattle.lzk_circuit.proofs.eval.set_inputs.Goals as goal

pub returns-in_default : goal.returns-in_default
returns-in_default g c = absurd (omega (arith, c.requires, c.in_default.ensures.cases))

pub split_at_mut-left-requires : goal.split_at_mut-left-requires
split_at_mut-left-requires g c = omega (arith, c.requires, ap length c.in-Some.ensures.cases.0)

pub copy_from_slice-requires : goal.copy_from_slice-requires
copy_from_slice-requires g c = c.split_at_mut-left.ensures.front_len

pub copy_from_slice-requires-2 : goal.copy_from_slice-requires-2
copy_from_slice-requires-2 g c = omega (arith, c.requires, ap length c.in-Some.ensures.cases.0, c.split_at_mut-left.ensures.back_len)

pub returns : goal.returns
returns g c = rw (c.one.ensures, c.copy_from_slice.ensures.after, c.copy_from_slice-2.ensures.after) refl
