use Rattle.std.proofs.Common.{◌≡◌, ◌+◌, ◌-◌, ◌*◌, length, map, take, drop, refl, sym, ap, ◌∙◌, arith, rules, length-take, length-drop}
use Rattle.std.proofs.lemmas.List.{take_all}
use Rattle.lzk_field.specs.Bytes.{elements_bytes}
use Rattle.lzk_transcript.proofs.Entries.{element_written, element_stands}
use Rattle.lzk_transcript.proofs.elements.write_elements.Goals as goal

pub overflow_mul-i : goal.overflow_mul-i
overflow_mul-i g c =
    let f = g.F.Field in
    let s = element_stands c.loop-i.i (length c.args.elements.now) f.coding.bytes c.BYTES.result f.coding.bytes (length c.args.out.now) c.loop-i-test.true c.requires (c.BYTES.ensures ∙ f.coded_bytes) refl in
    omega (arith, s.0, s.1)

pub overflow_mul-i-in-loop-i : goal.overflow_mul-i-in-loop-i
overflow_mul-i-in-loop-i g c =
    let f = g.F.Field in
    let s = element_stands c.loop-i.i (length c.args.elements.now) f.coding.bytes c.BYTES.result c.BYTES-in-loop-i.result (length c.args.out.now) c.loop-i-test.true c.requires (c.BYTES.ensures ∙ f.coded_bytes) (c.BYTES-in-loop-i.ensures ∙ f.coded_bytes) in
    omega (arith, s.1)

pub slice_bounds-to_le-count : goal.slice_bounds-to_le-count
slice_bounds-to_le-count g c =
    let f = g.F.Field in
    let s = element_stands c.loop-i.i (length c.args.elements.now) f.coding.bytes c.BYTES.result c.BYTES-in-loop-i.result (length c.args.out.now) c.loop-i-test.true c.requires (c.BYTES.ensures ∙ f.coded_bytes) (c.BYTES-in-loop-i.ensures ∙ f.coded_bytes) in
    omega (arith, s.0)

pub to_le-requires : goal.to_le-requires
to_le-requires g c =
    let f = g.F.Field in
    let out = c.loop-i.out in
    let at = c.loop-i.i * c.BYTES.result in
    let next = (c.loop-i.i + 1) * c.BYTES-in-loop-i.result in
    let s = element_stands c.loop-i.i (length c.args.elements.now) f.coding.bytes c.BYTES.result c.BYTES-in-loop-i.result (length c.args.out.now) c.loop-i-test.true c.requires (c.BYTES.ensures ∙ f.coded_bytes) (c.BYTES-in-loop-i.ensures ∙ f.coded_bytes) in
    omega (arith, length-take (next - at) (drop at out), length-drop at out, s.0, s.1, c.loop-i.auto.out)

pub returns : goal.returns
returns g c =
    let f = g.F.Field in
    let xs = c.args.elements.now in
    let i = c.loop-i.i in
    let width = f.coding.bytes in
    let end : i ≡ length xs = omega (arith, c.loop-i-test.false, c.loop-i.auto.i-end) in
    let all : take i xs ≡ xs = take_all i xs c.loop-i-test.false in
    let whole : take (i * width) c.loop-i.out ≡ c.loop-i.out = take_all (i * width) c.loop-i.out (omega (arith, ap (λ n. n * width) end, c.requires, c.loop-i.auto.out)) in
    sym whole ∙ c.loop-i.invariant ∙ ap (λ es. elements_bytes width (map f.coding.number es)) all

pub loop-i-preserved : goal.loop-i-preserved
loop-i-preserved g c =
    element_written g.F.Field.coding.number g.F.Field.coding.bytes c.loop-i.i c.BYTES.result _ c.args.elements.now c.index-elements-i.result c.loop-i.out c.to_le.new.out
    c.loop-i-test.true (search rules) c.index-elements-i.is (c.BYTES.ensures ∙ g.F.Field.coded_bytes) c.to_le.ensures.bytes c.loop-i.invariant
