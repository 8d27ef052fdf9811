use Rattle.std.proofs.Common.{◌∙◌, length, ap, sym, arith}
use Rattle.std.specs.Prelude.{slice_get}
use Rattle.std.proofs.lemmas.Option.{slice_get_read}
use Rattle.lzk_circuit.specs.Valid.{Wiring}
use Rattle.lzk_circuit.proofs.circuit.Circuit.layer.Goals as goal

pub index-requires : goal.index-requires
index-requires g c = omega (arith, c.requires, ap (λ (w : Wiring _). length w.layers) c.self.view_is, c.self.inside.layers.ok.0)

pub returns : goal.returns
returns g c =
    let layers = c.self.inside.layers in
    ap (λ (w : Wiring _). slice_get w.layers c.args.l) (sym c.self.view_is)
    ∙ slice_get_read layers.items layers.len c.args.l c.index.result.now layers.ok.0 (omega (arith, c.requires, ap (λ (w : Wiring _). length w.layers) c.self.view_is, layers.ok.0)) c.index.ensures
