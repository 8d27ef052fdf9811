use Rattle.std.proofs.Common.{◌+◌, ◌-◌, drop, ◌∙◌, arith}
use Rattle.std.proofs.lemmas.List.{get_or-drop, get_or-take}
use Rattle.lzk_sumcheck_prover.proofs.proving.part.Goals as goal

pub returns-clause-entries : goal.returns-clause-entries
returns-clause-entries g c = λ k h.
    let list = c.args.list.now in
    let begin = c.args.begin in
    let o = g.F.Field.ops in
    get_or-take (begin + c.args.count - begin) (drop begin list) k o.zero (omega (arith, h)) ∙ get_or-drop begin list k o.zero
