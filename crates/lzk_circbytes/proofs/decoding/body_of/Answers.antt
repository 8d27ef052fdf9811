use Rattle.std.proofs.Common.{◌≡◌, map, length, ap, sym, ◌∙◌, arith, subst, Ok, replicate, drop, false}
use Rattle.std.specs.List.Sorted.{IsStrictlyIncreasing}
use Rattle.std.proofs.lemmas.List.{length-map}
use Rattle.std.proofs.lemmas.Result.{err_from_is_err_and}
use Rattle.lzk_circbytes.specs.Numbered.{Shape, shape, numbered_layer, coefs_of, zeros_of}
use Rattle.lzk_circbytes.specs.Reading.{unused_from, layers_at}
use Rattle.lzk_circbytes.specs.Answers.{Fails, end_at}
use Rattle.lzk_circbytes.proofs.Bodies.{constants_are, flags_read, coefs_rise, zeros_few, length-behind, body_fails, body_whole, bytes_fit, lent_back}
use Rattle.lzk_circbytes.proofs.Wirings.{coefs_few}
use Rattle.lzk_circbytes.proofs.decoding.body_of.Goals as goal

pub constants_part-requires : goal.constants_part-requires
constants_part-requires g c =
    let number = g.F.Field.coding.number in
    let numbers = drop (zeros_of c.args.version) (map number c.in_ok-coefs.coefs.items) in
    let flags = c.layers_of.new.used in
    let stay = c.layers_of.auto.used ∙ ap length c.deref_mut.ensures.value in
    let back = c.deref-2.ensures.value ∙ lent_back c.in_ok-used.used.len flags c.in_ok-used.used.items stay (sym c.deref_mut.ensures.len ∙ ap length c.deref_mut.ensures.value) in
    let many = ap length (sym c.in_ok-coefs.ensures.zero) ∙ length-map c.in_ok-coefs.coefs.items number in
    let len : length flags ≡ length (coefs_of c.args.version numbers) = omega (arith, stay, c.deref_mut.ensures.len, ap length c.deref_mut.ensures.value, c.in_ok-used.ensures.len, c.len.ensures, many) in
    omega (arith, zeros_few c.args.version numbers, len, ap length back)

pub invariant_of-among-clause-few : goal.invariant_of-among-clause-few
invariant_of-among-clause-few g c =
    let number = g.F.Field.coding.number in
    let s : Shape = shape g.F.Field.coding.id g.F.Field.coding.bytes g.F.Field.coding.size in
    let bytes = c.args.bytes.now in
    let numbers = drop (zeros_of c.args.version) (map number c.in_ok-coefs.coefs.items) in
    let are = constants_are s c.args.count bytes numbers c.in_ok-coefs.rest.now (bytes_fit bytes c.type_inv.bytes) c.in_ok-coefs.ensures.value in
    let coefs = c.in_ok-coefs.coefs.items in
    omega (arith, are.many, length-map coefs number, ap length c.in_ok-coefs.ensures.zero, coefs_few c.args.version numbers, ap length c.deref.ensures.value, c.requires)

pub invariant_of-among-clause-rising : goal.invariant_of-among-clause-rising
invariant_of-among-clause-rising g c =
    let number = g.F.Field.coding.number in
    let s : Shape = shape g.F.Field.coding.id g.F.Field.coding.bytes g.F.Field.coding.size in
    let bytes = c.args.bytes.now in
    let numbers = drop (zeros_of c.args.version) (map number c.in_ok-coefs.coefs.items) in
    let are = constants_are s c.args.count bytes numbers c.in_ok-coefs.rest.now (bytes_fit bytes c.type_inv.bytes) c.in_ok-coefs.ensures.value in
    subst IsStrictlyIncreasing (sym (ap (map number) c.deref.ensures.value ∙ c.in_ok-coefs.ensures.zero)) (coefs_rise c.args.version numbers are.above)

pub check_end-requires : goal.check_end-requires
check_end-requires g c =
    let number = g.F.Field.coding.number in
    let s : Shape = shape g.F.Field.coding.id g.F.Field.coding.bytes g.F.Field.coding.size in
    let bytes = c.args.bytes.now in
    let numbers = drop (zeros_of c.args.version) (map number c.in_ok-coefs.coefs.items) in
    let are = constants_are s c.args.count bytes numbers c.in_ok-coefs.rest.now (bytes_fit bytes c.type_inv.bytes) c.in_ok-coefs.ensures.value in
    let flags = c.layers_of.new.used in
    let stay = c.layers_of.auto.used ∙ ap length c.deref_mut.ensures.value in
    let back = c.deref-2.ensures.value ∙ lent_back c.in_ok-used.used.len flags c.in_ok-used.used.items stay (sym c.deref_mut.ensures.len ∙ ap length c.deref_mut.ensures.value) in
    let v = c.args.version in
    let many = ap length (sym c.in_ok-coefs.ensures.zero) ∙ length-map c.in_ok-coefs.coefs.items number in
    let len : length flags ≡ length (coefs_of v numbers) = omega (arith, stay, c.deref_mut.ensures.len, ap length c.deref_mut.ensures.value, c.in_ok-used.ensures.len, c.len.ensures, many) in
    let behind = c.constants_part.ensures ∙ ap (drop (zeros_of v)) back in
    rw (ap length behind ∙ length-behind v numbers flags len, (c.BYTES.ensures ∙ g.F.Field.coded_bytes)) are.room

pub returns-in_err-check_end : goal.returns-in_err-check_end
returns-in_err-check_end g c =
    let number = g.F.Field.coding.number in
    let s : Shape = shape g.F.Field.coding.id g.F.Field.coding.bytes g.F.Field.coding.size in
    let bytes = c.args.bytes.now in
    let numbers = drop (zeros_of c.args.version) (map number c.in_ok-coefs.coefs.items) in
    let flags = c.layers_of.new.used in
    let stay = c.layers_of.auto.used ∙ ap length c.deref_mut.ensures.value in
    let back = c.deref-2.ensures.value ∙ lent_back c.in_ok-used.used.len flags c.in_ok-used.used.items stay (sym c.deref_mut.ensures.len ∙ ap length c.deref_mut.ensures.value) in
    let v = c.args.version in
    let many = ap length (sym c.in_ok-coefs.ensures.zero) ∙ length-map c.in_ok-coefs.coefs.items number in
    let len : length flags ≡ length (coefs_of v numbers) = omega (arith, stay, c.deref_mut.ensures.len, ap length c.deref_mut.ensures.value, c.in_ok-used.ensures.len, c.len.ensures, many) in
    let behind = c.constants_part.ensures ∙ ap (drop (zeros_of v)) back in
    let ls = map (numbered_layer number) c.in_ok-layers.layers.items in
    let rest = c.in_ok-layers.rest.now in
    let count : c.len.result ≡ length (coefs_of v numbers) = omega (arith, c.len.ensures, c.deref.ensures.len, ap length c.deref.ensures.value, many) in
    let none = c.in_ok-used.ensures.items_if_clones_equal (λ y e. e) ∙ ap (λ n. replicate n false) count in
    let given = ap (map number) c.deref.ensures.value ∙ c.in_ok-coefs.ensures.zero in
    let same = flags_read s v ls numbers (map number c.deref.result.now) c.in_ok-used.used.items c.deref_mut.result.now flags c.constants_part.result.now c.BYTES.result bytes given c.deref_mut.ensures.value behind (c.BYTES.ensures ∙ g.F.Field.coded_bytes) none len c.in_ok-layers.ensures.used in
    let at_layers : layers_at (coefs_of v numbers) c.args.inputs c.args.depth c.in_ok-coefs.rest.now ≡ Ok (ls, rest) =
    sym (ap (λ ks. layers_at ks c.args.inputs c.args.depth c.in_ok-coefs.rest.now) given) ∙ c.in_ok-layers.ensures.value in
    let p = err_from_is_err_and c.from_residual-in_err-check_end.result c.from_residual-in_err-check_end.ensures.1 in
    let e = c.in_err-check_end.field-0.0 in
    let fails : Fails e (end_at (unused_from s.bytes ls numbers bytes) rest) = subst (λ u. Fails e (end_at u rest)) same c.in_err-check_end.ensures in
    rw (p.1, p.2) (body_fails s v c.args.inputs c.args.depth c.args.count bytes numbers c.in_ok-coefs.rest.now rest ls c.in_ok-coefs.ensures.value at_layers e fails)

pub returns : goal.returns
returns g c =
    let number = g.F.Field.coding.number in
    let s : Shape = shape g.F.Field.coding.id g.F.Field.coding.bytes g.F.Field.coding.size in
    let bytes = c.args.bytes.now in
    let numbers = drop (zeros_of c.args.version) (map number c.in_ok-coefs.coefs.items) in
    let flags = c.layers_of.new.used in
    let stay = c.layers_of.auto.used ∙ ap length c.deref_mut.ensures.value in
    let back = c.deref-2.ensures.value ∙ lent_back c.in_ok-used.used.len flags c.in_ok-used.used.items stay (sym c.deref_mut.ensures.len ∙ ap length c.deref_mut.ensures.value) in
    let v = c.args.version in
    let many = ap length (sym c.in_ok-coefs.ensures.zero) ∙ length-map c.in_ok-coefs.coefs.items number in
    let len : length flags ≡ length (coefs_of v numbers) = omega (arith, stay, c.deref_mut.ensures.len, ap length c.deref_mut.ensures.value, c.in_ok-used.ensures.len, c.len.ensures, many) in
    let behind = c.constants_part.ensures ∙ ap (drop (zeros_of v)) back in
    let ls = map (numbered_layer number) c.in_ok-layers.layers.items in
    let rest = c.in_ok-layers.rest.now in
    let count : c.len.result ≡ length (coefs_of v numbers) = omega (arith, c.len.ensures, c.deref.ensures.len, ap length c.deref.ensures.value, many) in
    let none = c.in_ok-used.ensures.items_if_clones_equal (λ y e. e) ∙ ap (λ n. replicate n false) count in
    let given = ap (map number) c.deref.ensures.value ∙ c.in_ok-coefs.ensures.zero in
    let same = flags_read s v ls numbers (map number c.deref.result.now) c.in_ok-used.used.items c.deref_mut.result.now flags c.constants_part.result.now c.BYTES.result bytes given c.deref_mut.ensures.value behind (c.BYTES.ensures ∙ g.F.Field.coded_bytes) none len c.in_ok-layers.ensures.used in
    let at_layers : layers_at (coefs_of v numbers) c.args.inputs c.args.depth c.in_ok-coefs.rest.now ≡ Ok (ls, rest) =
    sym (ap (λ ks. layers_at ks c.args.inputs c.args.depth c.in_ok-coefs.rest.now) given) ∙ c.in_ok-layers.ensures.value in
    body_whole s v c.args.inputs c.args.depth c.args.count bytes numbers c.in_ok-coefs.rest.now rest ls c.in_ok-coefs.ensures.value at_layers (sym (ap (λ u. end_at u rest) same) ∙ c.in_ok-check_end.ensures)
