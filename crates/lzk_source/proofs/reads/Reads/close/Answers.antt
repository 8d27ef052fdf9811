use Rattle.std.proofs.Common.{vec_len}
use Rattle.lzk_expr.specs.Meanings.{added, parts_of_half}
use Rattle.lzk_expr.specs.View.{expr_of}
use Rattle.lzk_source.specs.Halves.{half_of, reads_of}
use Rattle.lzk_expr.proofs.Outcomes.{on_ok}
use Rattle.lzk_source.proofs.GrowthLaws.{closed_back, none_back}
use Rattle.lzk_source.proofs.Popped.{popped_none}
use Rattle.lzk_source.proofs.reads.Reads.close.Goals as goal

pub returns-in_default : goal.returns-in_default
returns-in_default c = λ a h.
    let old = c.args.self.now.outer in
    absurd (none_back old.items (added (parts_of_half (half_of c.args.self.now.now))) a (popped_none (vec_len old) old.items c.pop.new.self.items c.in_default.ensures.cases.0 c.in_default.ensures.rest c.in_default.ensures.items) h)

pub returns : goal.returns
returns c = λ a h.
    let s = c.args.self.now in
    on_ok c.atom.result
    (closed_back s.outer.items c.pop.new.self.items c.in-Some.before c.replace-inner.result s.now c.replace-inner.new.dest (expr_of c.in-Ok.expr) s.ready a (reads_of c.atom.new.self)
    c.in-Some.ensures.items c.replace-inner.ensures.value c.replace-inner.ensures.after c.in-Ok.ensures h)
    c.atom.ensures
