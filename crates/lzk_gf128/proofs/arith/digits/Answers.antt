use Rattle.std.proofs.Common.{rules, ap, ◌∙◌, slice_index}
use Rattle.lzk_gf128.proofs.Digits.{digits_are}
use Rattle.lzk_gf128.proofs.arith.digits.Goals as goal

pub returns : goal.returns
returns c k h = ap (λ w. slice_index w k) c.to_le_bytes.ensures ∙ digits_are c.args.n k (search rules) h
