use Rattle.std.proofs.Common.{◌<◌, ◌∙◌, length, ap, sym, arith}
use Rattle.std.specs.Prelude.{Vec}
use Rattle.std.specs.declared.alloc.Global.{Global}
use Rattle.std.proofs.lemmas.List.{length-map, get_or_default}
use Rattle.lzk_field.specs.Sums.{entry}
use Rattle.lzk_circuit.specs.Checks.{Valuation}
use Rattle.lzk_circuit.specs.Wires.{list_at}
use Rattle.lzk_circuit.proofs.DepthLaws.{items-at}
use Rattle.lzk_circuit.proofs.values.Values.wire.Goals as goal

pub index-requires : goal.index-requires
index-requires g c =
    let lists = c.self.inside.lists in
    let wires = ap (λ (v : Valuation _). v.wires) c.self.view_is in
    let within : c.args.l < length lists.items = omega (arith, c.requires.layer, ap length wires, length-map lists.items (λ (v : Vec _ Global). v.items)) in
    omega (arith, within, lists.ok.0)

pub index-requires-2 : goal.index-requires-2
index-requires-2 g c =
    let lists = c.self.inside.lists in
    let wires = ap (λ (v : Valuation _). v.wires) c.self.view_is in
    let within : c.args.l < length lists.items = omega (arith, c.requires.layer, ap length wires, length-map lists.items (λ (v : Vec _ Global). v.items)) in
    let there = sym (ap (λ vs. list_at vs c.args.l) wires) ∙ items-at lists.items c.args.l c.index.result.now within c.index.ensures in
    omega (arith, c.requires.wire, ap length there, c.index.result.now.ok.0)

pub returns : goal.returns
returns g c =
    let lists = c.self.inside.lists in
    let wires = ap (λ (v : Valuation _). v.wires) c.self.view_is in
    let within : c.args.l < length lists.items = omega (arith, c.requires.layer, ap length wires, length-map lists.items (λ (v : Vec _ Global). v.items)) in
    let o = g.F.Field.ops in
    let there = sym (ap (λ vs. list_at vs c.args.l) wires) ∙ items-at lists.items c.args.l c.index.result.now within c.index.ensures in
    c.index-2.ensures ∙ get_or_default c.index.result.now.items c.args.g c.index-2.result.now o.zero (omega (arith, c.requires.wire, ap length there)) ∙ sym (ap (λ xs. entry o xs c.args.g) there)
