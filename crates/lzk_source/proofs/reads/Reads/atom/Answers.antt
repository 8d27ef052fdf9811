use Rattle.std.proofs.Common.{ap, true}
use Rattle.lzk_expr.specs.Meanings.{Half, Reads}
use Rattle.lzk_source.specs.Halves.{outer_of}
use Rattle.lzk_expr.proofs.Outcomes.{on_ok}
use Rattle.lzk_source.proofs.reads.Reads.atom.Goals as goal

pub returns : goal.returns
returns c =
    let with : Half → Reads = λ h. record { outer = outer_of c.args.self.now.outer.items; now = h; ready = true } in
    on_ok c.take_atom.result (λ e. ap with e) c.take_atom.ensures
