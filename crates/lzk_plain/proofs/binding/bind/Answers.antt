use Rattle.std.proofs.Common.{◌/◌, length, take, ◌∙◌, arith}
use Rattle.std.proofs.lemmas.List.{get_or-take, length-take-le}
use Rattle.lzk_mle.proofs.TableLaws.{tilde-half}
use Rattle.lzk_plain.proofs.binding.bind.Goals as goal

pub returns-clause-extension : goal.returns-clause-extension
returns-clause-extension g c = λ s.
    let o = g.F.Field.ops in
    let old = c.args.table.now in
    let new = c.bind_first.new.table in
    let m = length old / 2 in
    tilde-half o g.F.Field.laws.ring m old (take m new) c.args.r s (omega arith) (length-take-le m new (omega arith))
    (λ i l. get_or-take m new i o.zero l ∙ c.bind_first.ensures.low i l)
