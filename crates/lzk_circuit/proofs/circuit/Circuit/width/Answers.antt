use Rattle.std.proofs.Common.{arith, ◌∙◌, ap, sym, length}
use Rattle.lzk_circuit.specs.Valid.{Wiring, input_width}
use Rattle.lzk_circuit.proofs.PlaceLaws.{width-within, width-last}
use Rattle.lzk_circuit.proofs.circuit.Circuit.width.Goals as goal

pub overflow_add-result : goal.overflow_add-result
overflow_add-result g c = omega (arith, c.self.invariant.publics)

pub overflow_add-result-else-l-len : goal.overflow_add-result-else-l-len
overflow_add-result-else-l-len g c = omega (arith, c.self.invariant.publics, c.self.invariant.privates)

pub index-requires : goal.index-requires
index-requires g c = omega (arith, c.if-l-len.true, c.len.ensures)

pub returns-then-l-len : goal.returns-then-l-len
returns-then-l-len g c =
    let layers = c.self.inside.layers in
    width-within c.args.self.now layers.items c.args.l c.index.result.now (sym (ap (λ (w : Wiring _). w.layers) c.self.view_is)) (omega (arith, c.if-l-len.true, c.len.ensures, layers.ok.0)) c.index.ensures

pub returns-else-l-len : goal.returns-else-l-len
returns-else-l-len g c =
    let layers = c.self.inside.layers in
    ap input_width c.self.view_is
    ∙ width-last c.args.self.now layers.items c.args.l (sym (ap (λ (w : Wiring _). w.layers) c.self.view_is)) (omega (arith, c.if-l-len.false, c.len.ensures, layers.ok.0, c.requires, ap (λ (w : Wiring _). length w.layers) c.self.view_is))
