use Rattle.std.proofs.Common.{ap, ◌∙◌}
use Rattle.lzk_source.specs.Halves.{half_of}
use Rattle.lzk_expr.proofs.Outcomes.{on_ok}
use Rattle.lzk_source.proofs.GrowthLaws.{opened_now}
use Rattle.lzk_source.proofs.reads.Reads.open.Goals as goal

pub returns : goal.returns
returns c =
    let s = c.args.self.now in
    on_ok c.push.result
    (λ e. opened_now s.outer.items c.push.new.list.items c.replace-before.result s.now c.replace-before.new.dest e c.replace-before.ensures.value (ap half_of c.replace-before.ensures.after ∙ c.empty.ensures))
    c.push.ensures
