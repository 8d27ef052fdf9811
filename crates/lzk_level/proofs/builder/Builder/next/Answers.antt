use Rattle.std.proofs.Common.{◌∙◌, ◌+◌, ap, arith}
use Rattle.lzk_level.proofs.builder.Builder.next.Goals as goal

pub overflow_add-len : goal.overflow_add-len
overflow_add-len g c = omega (arith, c.requires, c.len.ensures.count)

pub returns : goal.returns
returns g c = c.new.ensures ∙ ap (λ k. 1 + k) c.len.ensures.count
