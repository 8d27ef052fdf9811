use Rattle.std.proofs.Common.{◌≡◌, ℕ, ◌*◌, ◌∙◌, length, map, replicate, ap, sym, arith}
use Rattle.std.proofs.lemmas.List.{take_at, length-map, length-take-le, length-replicate}
use Rattle.lzk_field.proofs.ByteForms.{length-elements_bytes}
use Rattle.lzk_transcript.specs.Tape.{appended}
use Rattle.lzk_transcript.proofs.Entries.{elements_fit}
use Rattle.lzk_transcript.proofs.tape.Tape.append_elements.Goals as goal

pub overflow_mul-used : goal.overflow_mul-used
overflow_mul-used g c =
    let f = g.F.Field in
    let fit = elements_fit (length c.args.elements.now) c.BYTES.result c.requires (omega (arith, c.BYTES.ensures ∙ f.coded_bytes, f.laws.numbers.few_bytes)) in
    omega (arith, fit)

pub slice_bounds-block-end : goal.slice_bounds-block-end
slice_bounds-block-end g c =
    let f = g.F.Field in
    elements_fit (length c.args.elements.now) c.BYTES.result c.requires (omega (arith, c.BYTES.ensures ∙ f.coded_bytes, f.laws.numbers.few_bytes))

pub slice_bounds-write_elements-end : goal.slice_bounds-write_elements-end
slice_bounds-write_elements-end g c =
    let f = g.F.Field in
    let fit = elements_fit (length c.args.elements.now) c.BYTES.result c.requires (omega (arith, c.BYTES.ensures ∙ f.coded_bytes, f.laws.numbers.few_bytes)) in
    sym (length-take-le (length c.args.elements.now * c.BYTES.result) (replicate 1024 0) (omega (arith, fit, length-replicate {A = ℕ} 1024 0)))

pub write_elements-requires-after_bounds : goal.write_elements-requires-after_bounds
write_elements-requires-after_bounds g c κs within =
    let f = g.F.Field in
    let fit = elements_fit (length c.args.elements.now) c.BYTES.result c.requires (omega (arith, c.BYTES.ensures ∙ f.coded_bytes, f.laws.numbers.few_bytes)) in
    length-take-le (length c.args.elements.now * c.BYTES.result) (replicate 1024 0) (omega (arith, fit, length-replicate {A = ℕ} 1024 0))
    ∙ ap (λ w. length c.args.elements.now * w) (c.BYTES.ensures ∙ f.coded_bytes)

pub slice_bounds-append-end : goal.slice_bounds-append-end
slice_bounds-append-end g c =
    let f = g.F.Field in
    let numbers = map f.coding.number c.args.elements.now in
    let used = length c.args.elements.now * c.BYTES.result in
    let many : length c.write_elements.new.out ≡ used =
    ap length c.write_elements.ensures ∙ length-elements_bytes f.coding.bytes numbers ∙ ap (λ n. n * f.coding.bytes) (length-map c.args.elements.now f.coding.number) ∙ ap (λ w. length c.args.elements.now * w) (sym (c.BYTES.ensures ∙ f.coded_bytes)) in
    sym (ap length (take_at c.write_elements.new.out _ used many) ∙ many)

pub returns : goal.returns
returns g c =
    let f = g.F.Field in
    let numbers = map f.coding.number c.args.elements.now in
    let used = length c.args.elements.now * c.BYTES.result in
    let many : length c.write_elements.new.out ≡ used =
    ap length c.write_elements.ensures ∙ length-elements_bytes f.coding.bytes numbers ∙ ap (λ n. n * f.coding.bytes) (length-map c.args.elements.now f.coding.number) ∙ ap (λ w. length c.args.elements.now * w) (sym (c.BYTES.ensures ∙ f.coded_bytes)) in
    c.append.ensures ∙ ap (λ bs. appended bs c.args.self.now) (take_at c.write_elements.new.out _ used many ∙ c.write_elements.ensures)
