use Rattle.std.proofs.Common.{◌<◌, ◌∙◌, length, ap, sym, arith}
use Rattle.std.specs.Prelude.{Vec}
use Rattle.std.specs.declared.alloc.Global.{Global}
use Rattle.std.proofs.lemmas.List.{length-map}
use Rattle.lzk_circuit.specs.Checks.{Valuation}
use Rattle.lzk_circuit.specs.Wires.{list_at}
use Rattle.lzk_circuit.proofs.DepthLaws.{items-at}
use Rattle.lzk_circuit.proofs.values.Values.layer.Goals as goal

pub index-requires : goal.index-requires
index-requires g c =
    let lists = c.self.inside.lists in
    let wires = ap (λ (v : Valuation _). v.wires) c.self.view_is in
    let within : c.args.l < length lists.items = omega (arith, c.requires, ap length wires, length-map lists.items (λ (v : Vec _ Global). v.items)) in
    omega (arith, within, lists.ok.0)

pub returns : goal.returns
returns g c =
    let lists = c.self.inside.lists in
    let wires = ap (λ (v : Valuation _). v.wires) c.self.view_is in
    let within : c.args.l < length lists.items = omega (arith, c.requires, ap length wires, length-map lists.items (λ (v : Vec _ Global). v.items)) in
    c.deref.ensures.value ∙ sym (items-at lists.items c.args.l c.index.result.now within c.index.ensures) ∙ ap (λ vs. list_at vs c.args.l) wires
