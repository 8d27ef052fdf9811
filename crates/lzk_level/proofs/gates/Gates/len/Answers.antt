use Rattle.std.proofs.Common.{◌∙◌, ap, sym, length}
use Rattle.std.proofs.lemmas.List.{length-map}
use Rattle.lzk_level.specs.FlatGates.{gate_in}
use Rattle.lzk_level.proofs.gates.Gates.len.Goals as goal

pub returns : goal.returns
returns g c =
    let own = c.self.inside in
    c.len.ensures ∙ own.made.ok.0 ∙ sym (length-map own.made.items (gate_in own.parts.items)) ∙ ap length c.self.view_is
