use Rattle.std.proofs.Common.{refl, ap, false, ◌∙◌}
use Rattle.lzk_source.specs.Halves.{half_of}
use Rattle.lzk_expr.proofs.Outcomes.{on_ok}
use Rattle.lzk_source.proofs.GrowthLaws.{end_taken}
use Rattle.lzk_source.proofs.growing.Grower.end.Goals as goal

pub returns : goal.returns
returns c = λ e h.
    let s = c.args.self.now in
    on_ok c.push.result
    (λ pushed. end_taken e s (record { reads = record { outer = s.reads.outer; now = c.replace-now.new.dest; ready = false }; ended = c.push.new.list }) c.replace-now.result c.in-Ok.expr
    h refl (ap half_of c.replace-now.ensures.after ∙ c.empty.ensures) refl c.replace-now.ensures.value c.in-Ok.ensures pushed)
    c.push.ensures
