use Rattle.std.proofs.Common.{◌≡◌, List, ◌+◌, ◌-◌, ◌*◌, ◌^◌, ◌<◌, ◌≤◌, take, drop, length, ap, ◌∙◌, arith, sym, subst}
use Rattle.std.proofs.lemmas.List.{get_or-take, length-take-le}
use Rattle.std.proofs.lemmas.Nat.{mul-le}
use Rattle.lzk_field.specs.Sums.{entry}
use Rattle.lzk_poly_ntt.specs.Kernels.{IsKernel, convolutions, end_of, from_of}
use Rattle.lzk_poly_ntt.specs.Transform.{spectrum}
use Rattle.lzk_poly_ntt.proofs.Levels.{entry-part}
use Rattle.lzk_poly_ntt.proofs.Pieces.{blocks_some, covered_few, length_part, next_fits, place_few, room_few}
use Rattle.lzk_poly_ntt.proofs.Spectra.{first_product, next_product, spectra_at}
use Rattle.lzk_poly_ntt.proofs.blocks.sum_products.Goals as goal

pub overflow_mul-first : goal.overflow_mul-first
overflow_mul-first g c =
    let plan = c.args.kernels.now.plan in
    let planned = c.args.kernels.now.ready.planned in
    let pieces = covered_few (plan.upto - plan.count) plan.piece plan.pieces planned.moves planned.pieces in
    let few = room_few c.args.p c.size-size.result (omega (arith, pieces, planned.limit, c.requires.piece)) c.size-size.ensures.few in
    omega (arith, few)

pub overflow_add-first : goal.overflow_add-first
overflow_add-first g c =
    let plan = c.args.kernels.now.plan in
    let planned = c.args.kernels.now.ready.planned in
    let pieces = covered_few (plan.upto - plan.count) plan.piece plan.pieces planned.moves planned.pieces in
    let few = room_few c.args.p c.size-size.result (omega (arith, pieces, planned.limit, c.requires.piece)) c.size-size.ensures.few in
    omega (arith, few, c.size-size.ensures.few)

pub offset_bounds-deref-first : goal.offset_bounds-deref-first
offset_bounds-deref-first g c =
    let m = g.F.Field in
    let d = c.args.kernels.now.transform in
    let plan = c.args.kernels.now.plan in
    let p = c.args.p in
    let size : c.size-size.result ≡ 2 ^ d.bits = c.size-size.ensures.value in
    let kernel = c.args.kernels.now.ready.kernels 0 p (blocks_some plan d.bits c.args.kernels.now.ready.planned) c.requires.piece in
    let place : p * c.size-size.result ≡ (0 * plan.pieces + p) * 2 ^ d.bits = ap (λ k. p * k) size ∙ (let same : p ≡ 0 * plan.pieces + p = omega arith in ap (λ k. k * 2 ^ d.bits) same) in
    omega (arith, place, kernel.fits, ap length c.deref.ensures.value)

pub slice_bounds-set_multiples-end-2 : goal.slice_bounds-set_multiples-end-2
slice_bounds-set_multiples-end-2 g c =
    let m = g.F.Field in
    let d = c.args.kernels.now.transform in
    let plan = c.args.kernels.now.plan in
    let p = c.args.p in
    let size : c.size-size.result ≡ 2 ^ d.bits = c.size-size.ensures.value in
    let kernel = c.args.kernels.now.ready.kernels 0 p (blocks_some plan d.bits c.args.kernels.now.ready.planned) c.requires.piece in
    let place : p * c.size-size.result ≡ (0 * plan.pieces + p) * 2 ^ d.bits = ap (λ k. p * k) size ∙ (let same : p ≡ 0 * plan.pieces + p = omega arith in ap (λ k. k * 2 ^ d.bits) same) in
    omega (arith, place, size, kernel.fits, ap length c.deref.ensures.value)

pub set_multiples-requires-clause-lengths : goal.set_multiples-requires-clause-lengths
set_multiples-requires-clause-lengths g c κs within =
    let d = c.args.kernels.now.transform in
    let plan = c.args.kernels.now.plan in
    let n = c.size-size.result in
    let first = c.args.p * n in
    let ks = c.deref.result.now in
    let size : n ≡ 2 ^ d.bits = c.size-size.ensures.value in
    let some : 0 < plan.blocks = blocks_some plan d.bits c.args.kernels.now.ready.planned in
    let fits : 0 * n + n ≤ plan.blocks * n = next_fits 0 plan.blocks n some in
    let spectra : length c.args.spectra.now ≡ plan.blocks * n = c.requires.spectra ∙ ap (λ k. plan.blocks * k) (sym size) in
    let kernel = c.args.kernels.now.ready.kernels 0 c.args.p some c.requires.piece in
    let place : first ≡ (0 * plan.pieces + c.args.p) * 2 ^ d.bits = ap (λ k. c.args.p * k) size ∙ (let same : c.args.p ≡ 0 * plan.pieces + c.args.p = omega arith in ap (λ k. k * 2 ^ d.bits) same) in
    let end : first + (first + n - first) ≤ length ks = omega (arith, place, size, kernel.fits, ap length c.deref.ensures.value) in (
      length-take-le n c.args.spectra.now (omega (arith, fits, spectra)) ∙ size ∙ sym c.requires.out,
      omega (arith, length_part ks first (first + n - first) end, size, c.requires.out),
    )

pub add_multiples-requires-clause-lengths : goal.add_multiples-requires-clause-lengths
add_multiples-requires-clause-lengths g c κs within =
    let d = c.args.kernels.now.transform in
    let plan = c.args.kernels.now.plan in
    let n = c.size-size.result in
    let v = c.loop-v.v in
    let at = v * n in
    let place = (v * plan.pieces + c.args.p) * n in
    let ks = c.deref-in-loop-v.result.now in
    let size : n ≡ 2 ^ d.bits = c.size-size.ensures.value in
    let spectra : length c.args.spectra.now ≡ plan.blocks * n = c.requires.spectra ∙ ap (λ k. plan.blocks * k) (sym size) in
    let kernel = c.args.kernels.now.ready.kernels v c.args.p c.loop-v-test.true c.requires.piece in
    let there : place ≡ (v * plan.pieces + c.args.p) * 2 ^ d.bits = ap (λ k. (v * plan.pieces + c.args.p) * k) size in
    let near : at + (at + n - at) ≤ length c.args.spectra.now = omega (arith, spectra, next_fits v plan.blocks n c.loop-v-test.true) in
    let far : place + (place + n - place) ≤ length ks = omega (arith, there, size, kernel.fits, ap length c.deref-in-loop-v.ensures.value) in
    let long : length c.loop-v.out ≡ n = omega (arith, c.loop-v.auto.out, c.set_multiples.auto.out, size, c.requires.out) in (
      omega (arith, long, length_part c.args.spectra.now at (at + n - at) near),
      omega (arith, long, length_part ks place (place + n - place) far),
    )

pub loop-v-init : goal.loop-v-init
loop-v-init g c =
    let m = g.F.Field in
    let o = m.ops in
    let d = c.args.kernels.now.transform in
    let plan = c.args.kernels.now.plan in
    let p = c.args.p in
    let ready = c.args.kernels.now.ready in
    let ks = c.deref.result.now in
    let first = p * c.size-size.result in
    let size : c.size-size.result ≡ 2 ^ d.bits = c.size-size.ensures.value in
    let some : 0 < plan.blocks = blocks_some plan d.bits ready.planned in
    let kernel : IsKernel o m.coding.element d plan.upto (from_of plan p + 1 - end_of plan 0) ks ((0 * plan.pieces + p) * 2 ^ d.bits) =
    subst (λ (zs : List g.row.F.Denot). IsKernel o m.coding.element d plan.upto (from_of plan p + 1 - end_of plan 0) zs ((0 * plan.pieces + p) * 2 ^ d.bits)) (sym c.deref.ensures.value) (ready.kernels 0 p some c.requires.piece) in
    let place : first ≡ (0 * plan.pieces + p) * 2 ^ d.bits = ap (λ k. p * k) size ∙ (let same : p ≡ 0 * plan.pieces + p = omega arith in ap (λ k. k * 2 ^ d.bits) same) in
    λ values ws root known j h.
    let below : j < 2 ^ d.bits = omega (arith, h, c.set_multiples.auto.out, c.requires.out) in
    let start : j ≡ 0 * 2 ^ d.bits + j = omega arith in
    c.set_multiples.ensures j h
    ∙ first_product o m.laws.ring m.coding.element d plan values ws p j (entry o (take c.size-size.result c.args.spectra.now) j) (entry o (take (first + c.size-size.result - first) (drop first ks)) j) root
    (get_or-take c.size-size.result c.args.spectra.now j o.zero (omega (arith, below, size)) ∙ ap (entry o c.args.spectra.now) start ∙ known 0 j some below)
    (entry-part o ks first (first + c.size-size.result - first) j (omega (arith, below, size)) ∙ ap (λ k. entry o ks (k + j)) place ∙ kernel.values j below)

pub overflow_mul-place : goal.overflow_mul-place
overflow_mul-place g c =
    let plan = c.args.kernels.now.plan in
    let planned = c.args.kernels.now.ready.planned in
    let blocks = covered_few plan.count plan.block plan.blocks planned.some planned.blocks in
    let pieces = covered_few (plan.upto - plan.count) plan.piece plan.pieces planned.moves planned.pieces in
    let few = place_few c.loop-v.v plan.pieces (omega (arith, blocks, planned.order, planned.limit, c.loop-v-test.true)) (omega (arith, pieces, planned.limit)) in
    omega (arith, few)

pub overflow_add-place : goal.overflow_add-place
overflow_add-place g c =
    let plan = c.args.kernels.now.plan in
    let planned = c.args.kernels.now.ready.planned in
    let blocks = covered_few plan.count plan.block plan.blocks planned.some planned.blocks in
    let pieces = covered_few (plan.upto - plan.count) plan.piece plan.pieces planned.moves planned.pieces in
    let few = place_few c.loop-v.v plan.pieces (omega (arith, blocks, planned.order, planned.limit, c.loop-v-test.true)) (omega (arith, pieces, planned.limit)) in
    omega (arith, few, pieces, planned.limit, c.requires.piece)

pub overflow_add-at : goal.overflow_add-at
overflow_add-at g c =
    let plan = c.args.kernels.now.plan in
    let planned = c.args.kernels.now.ready.planned in
    let blocks = covered_few plan.count plan.block plan.blocks planned.some planned.blocks in
    let few = room_few c.loop-v.v c.size-size.result (omega (arith, blocks, planned.order, planned.limit, c.loop-v-test.true)) c.size-size.ensures.few in
    omega (arith, few, c.size-size.ensures.few)

pub slice_bounds-add_multiples-end : goal.slice_bounds-add_multiples-end
slice_bounds-add_multiples-end g c =
    let plan = c.args.kernels.now.plan in
    let n = c.size-size.result in
    let spectra : length c.args.spectra.now ≡ plan.blocks * n = c.requires.spectra ∙ ap (λ k. plan.blocks * k) (sym c.size-size.ensures.value) in
    omega (arith, spectra, next_fits c.loop-v.v plan.blocks n c.loop-v-test.true)

pub loop-v-preserved : goal.loop-v-preserved
loop-v-preserved g c =
    let m = g.F.Field in
    let o = m.ops in
    let d = c.args.kernels.now.transform in
    let plan = c.args.kernels.now.plan in
    let p = c.args.p in
    let v = c.loop-v.v in
    let ready = c.args.kernels.now.ready in
    let ks = c.deref-in-loop-v.result.now in
    let n = c.size-size.result in
    let place = (v * plan.pieces + p) * n in
    let at = v * n in
    let size : n ≡ 2 ^ d.bits = c.size-size.ensures.value in
    let kernel : IsKernel o m.coding.element d plan.upto (from_of plan p + 1 - end_of plan v) ks ((v * plan.pieces + p) * 2 ^ d.bits) =
    subst (λ (zs : List g.row.F.Denot). IsKernel o m.coding.element d plan.upto (from_of plan p + 1 - end_of plan v) zs ((v * plan.pieces + p) * 2 ^ d.bits)) (sym c.deref-in-loop-v.ensures.value) (ready.kernels v p c.loop-v-test.true c.requires.piece) in
    λ values ws root known j h.
    let before : j < length c.loop-v.out = omega (arith, h, c.add_multiples.auto.out) in
    let below : j < 2 ^ d.bits = omega (arith, before, c.loop-v.auto.out, c.set_multiples.auto.out, c.requires.out) in
    c.add_multiples.ensures j h
    ∙ next_product o m.laws.ring m.coding.element d plan values ws p v j (entry o c.loop-v.out j) (entry o (take (at + n - at) (drop at c.args.spectra.now)) j) (entry o (take (place + n - place) (drop place ks)) j) root
    (c.loop-v.invariant values ws root known j before)
    (entry-part o c.args.spectra.now at (at + n - at) j (omega (arith, below, size)) ∙ ap (λ k. entry o c.args.spectra.now (v * k + j)) size ∙ spectra_at o d plan values ws c.args.spectra.now known v j c.loop-v-test.true below)
    (entry-part o ks place (place + n - place) j (omega (arith, below, size)) ∙ ap (λ k. entry o ks ((v * plan.pieces + p) * k + j)) size ∙ kernel.values j below)

pub returns : goal.returns
returns g c =
    let m = g.F.Field in
    let d = c.args.kernels.now.transform in
    let plan = c.args.kernels.now.plan in
    let some : 0 < plan.blocks = blocks_some plan d.bits c.args.kernels.now.ready.planned in
    let all : c.loop-v.v ≡ plan.blocks = omega (arith, some) in
    λ values ws root known j h. c.loop-v.invariant values ws root known j h ∙ ap (λ n. spectrum m.ops d.bits d.root (convolutions m.ops m.coding.element d plan values ws c.args.p n) j) all

pub overflow_mul-at : goal.overflow_mul-at
overflow_mul-at g c =
    let plan = c.args.kernels.now.plan in
    let planned = c.args.kernels.now.ready.planned in
    let blocks = covered_few plan.count plan.block plan.blocks planned.some planned.blocks in
    let few = room_few c.loop-v.v c.size-size.result (omega (arith, blocks, planned.order, planned.limit, c.loop-v-test.true)) c.size-size.ensures.few in
    omega (arith, few)

pub overflow_mul-place-in-loop-v : goal.overflow_mul-place-in-loop-v
overflow_mul-place-in-loop-v g c =
    let plan = c.args.kernels.now.plan in
    let planned = c.args.kernels.now.ready.planned in
    let blocks = covered_few plan.count plan.block plan.blocks planned.some planned.blocks in
    let pieces = covered_few (plan.upto - plan.count) plan.piece plan.pieces planned.moves planned.pieces in
    let few = place_few c.loop-v.v plan.pieces (omega (arith, blocks, planned.order, planned.limit, c.loop-v-test.true)) (omega (arith, pieces, planned.limit)) in
    let most = mul-le (c.loop-v.v * plan.pieces + c.args.p) c.size-size.result 4295032832 1048576 (omega (arith, few, pieces, planned.limit, c.requires.piece)) c.size-size.ensures.few in
    omega (arith, most)

pub overflow_add-place-in-loop-v : goal.overflow_add-place-in-loop-v
overflow_add-place-in-loop-v g c =
    let plan = c.args.kernels.now.plan in
    let planned = c.args.kernels.now.ready.planned in
    let blocks = covered_few plan.count plan.block plan.blocks planned.some planned.blocks in
    let pieces = covered_few (plan.upto - plan.count) plan.piece plan.pieces planned.moves planned.pieces in
    let few = place_few c.loop-v.v plan.pieces (omega (arith, blocks, planned.order, planned.limit, c.loop-v-test.true)) (omega (arith, pieces, planned.limit)) in
    let most = mul-le (c.loop-v.v * plan.pieces + c.args.p) c.size-size.result 4295032832 1048576 (omega (arith, few, pieces, planned.limit, c.requires.piece)) c.size-size.ensures.few in
    omega (arith, most, c.size-size.ensures.few)

pub offset_bounds-spectra-at : goal.offset_bounds-spectra-at
offset_bounds-spectra-at g c =
    let plan = c.args.kernels.now.plan in
    let n = c.size-size.result in
    let spectra : length c.args.spectra.now ≡ plan.blocks * n = c.requires.spectra ∙ ap (λ k. plan.blocks * k) (sym c.size-size.ensures.value) in
    omega (arith, spectra, next_fits c.loop-v.v plan.blocks n c.loop-v-test.true)

pub offset_bounds-deref-place : goal.offset_bounds-deref-place
offset_bounds-deref-place g c =
    let d = c.args.kernels.now.transform in
    let plan = c.args.kernels.now.plan in
    let v = c.loop-v.v in
    let kernel = c.args.kernels.now.ready.kernels v c.args.p c.loop-v-test.true c.requires.piece in
    let there : (v * plan.pieces + c.args.p) * c.size-size.result ≡ (v * plan.pieces + c.args.p) * 2 ^ d.bits = ap (λ k. (v * plan.pieces + c.args.p) * k) c.size-size.ensures.value in
    omega (arith, there, kernel.fits, ap length c.deref-in-loop-v.ensures.value)

pub slice_bounds-add_multiples-end-in-loop-v : goal.slice_bounds-add_multiples-end-in-loop-v
slice_bounds-add_multiples-end-in-loop-v g c =
    let d = c.args.kernels.now.transform in
    let plan = c.args.kernels.now.plan in
    let v = c.loop-v.v in
    let kernel = c.args.kernels.now.ready.kernels v c.args.p c.loop-v-test.true c.requires.piece in
    let there : (v * plan.pieces + c.args.p) * c.size-size.result ≡ (v * plan.pieces + c.args.p) * 2 ^ d.bits = ap (λ k. (v * plan.pieces + c.args.p) * k) c.size-size.ensures.value in
    omega (arith, there, c.size-size.ensures.value, kernel.fits, ap length c.deref-in-loop-v.ensures.value)

pub slice_bounds-set_multiples-end : goal.slice_bounds-set_multiples-end
slice_bounds-set_multiples-end g c =
    let d = c.args.kernels.now.transform in
    let plan = c.args.kernels.now.plan in
    let n = c.size-size.result in
    let fits : 0 * n + n ≤ plan.blocks * n = next_fits 0 plan.blocks n (blocks_some plan d.bits c.args.kernels.now.ready.planned) in
    let spectra : length c.args.spectra.now ≡ plan.blocks * n = c.requires.spectra ∙ ap (λ k. plan.blocks * k) (sym c.size-size.ensures.value) in
    sym (length-take-le n c.args.spectra.now (omega (arith, fits, spectra)))
