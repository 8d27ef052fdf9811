use Rattle.std.proofs.Common.{◌≡◌, ℕ, ◌+◌, ◌-◌, ◌++◌, length, sym, ap, ◌∙◌, arith}
use Rattle.std.proofs.lemmas.Result.{IfOk-from_err}
use Rattle.lzk_field.specs.Ring.{Ops}
use Rattle.lzk_poly_ntt.proofs.Pieces.{next_small}
use Rattle.lzk_poly_ntt.specs.Transform.{doubled, spectrum}
use Rattle.lzk_poly_ntt.specs.Kernels.{kernel_entry, from_of}
use Rattle.lzk_poly_ntt.proofs.Building.{built_none, built_more, built_block, built_all}
use Rattle.lzk_poly_ntt.proofs.kernels.kernel_spectra.Goals as goal

pub loop-p-preserved : goal.loop-p-preserved
loop-p-preserved g c =
    let m = g.F.Field in
    let o = m.ops in
    let d = c.args.cut.now.transform.now in
    let plan = c.args.cut.now.plan in
    let v = c.loop-v.v in
    let p = c.loop-p.p in
    let scale = c.inverse_size-scale.result in
    let ks = c.loop-p.all.items in
    let list = c.in_ok-factors.factors.items in
    built_more o m.coding.element d plan v p scale ks list c.extend_from_slice.new.self.items c.loop-p.invariant
    (c.in_ok-extend_from_slice.ensures.items ∙ ap (λ zs. ks ++ zs) c.deref.ensures.value)
    c.in_ok-factors.ensures.0
    (c.inverse_size-scale.ensures.value ∙ ap (λ b. o.inverse (doubled o b)) c.bits.ensures)
    (λ j h.
    c.in_ok-factors.ensures.1 j h
    ∙ ap (λ u. spectrum o d.bits d.root (kernel_entry o m.coding.element scale u (from_of plan p + 1 - c.min-end.result)) j) c.args.cut.now.points
    ∙ ap (λ e. spectrum o d.bits d.root (kernel_entry o m.coding.element scale plan.upto (from_of plan p + 1 - e)) j) c.min-end.ensures)

pub loop-v-preserved : goal.loop-v-preserved
loop-v-preserved g c =
    let m = g.F.Field in
    built_block m.ops m.coding.element c.args.cut.now.transform.now c.args.cut.now.plan c.loop-v.v c.loop-p.p c.loop-p.all.items (omega arith) c.loop-p.invariant

pub loop-v-init : goal.loop-v-init
loop-v-init g c = built_none g.F.Field.ops g.F.Field.coding.element c.args.cut.now.transform.now c.args.cut.now.plan c.new-all.result.items (ap length c.new-all.ensures.items)

pub loop-p-init : goal.loop-p-init
loop-p-init g c = c.loop-v.invariant

pub inverse_size-scale-requires-after_bounds : goal.inverse_size-scale-requires-after_bounds
inverse_size-scale-requires-after_bounds g c = λ κs le. c.args.cut.now.two

pub overflow_mul-v : goal.overflow_mul-v
overflow_mul-v g c = let planned = c.args.cut.now.planned in omega (arith, planned.blocks.begins c.loop-v.v c.loop-v-test.true, planned.order, planned.limit)

pub overflow_mul-from : goal.overflow_mul-from
overflow_mul-from g c = let planned = c.args.cut.now.planned in omega (arith, planned.pieces.begins c.loop-p.p c.loop-p-test.true, planned.limit)

pub overflow_add-from : goal.overflow_add-from
overflow_add-from g c = let planned = c.args.cut.now.planned in omega (arith, planned.pieces.begins c.loop-p.p c.loop-p-test.true, planned.limit)

pub overflow_add-from-in-loop-p : goal.overflow_add-from-in-loop-p
overflow_add-from-in-loop-p g c = let planned = c.args.cut.now.planned in omega (arith, planned.pieces.begins c.loop-p.p c.loop-p-test.true, planned.limit)

pub overflow_sub-from : goal.overflow_sub-from
overflow_sub-from g c = omega (arith, c.min-end.ensures)

pub kernel-requires-clause-positive : goal.kernel-requires-clause-positive
kernel-requires-clause-positive g c κs within = omega (arith, c.min-end.ensures)

pub kernel-requires-clause-few : goal.kernel-requires-clause-few
kernel-requires-clause-few g c κs within = let planned = c.args.cut.now.planned in omega (arith, planned.pieces.begins c.loop-p.p c.loop-p-test.true, planned.limit)

-- what the scale inverts, at the transform's own size
scale-inverts : {A : Type 0} (o : Ops A) (b d : ℕ) (s : A) → b ≡ d → s ≡ o.inverse (doubled o b) → o.times (doubled o b) s ≡ o.one → o.times (doubled o d) (o.inverse (doubled o d)) ≡ o.one
scale-inverts o b d s e is inverse = ap (λ n. o.times (doubled o n) (o.inverse (doubled o n))) (sym e) ∙ ap (o.times (doubled o b)) (sym is) ∙ inverse

pub returns-in_err-factors-clause-inverse_size : goal.returns-in_err-factors-clause-inverse_size
returns-in_err-factors-clause-inverse_size g c =
    scale-inverts g.F.Field.ops c.bits.result c.args.cut.now.transform.now.bits c.inverse_size-scale.result c.bits.ensures c.inverse_size-scale.ensures.value c.inverse_size-scale.ensures.inverse

pub returns-in_err-extend_from_slice-clause-inverse_size : goal.returns-in_err-extend_from_slice-clause-inverse_size
returns-in_err-extend_from_slice-clause-inverse_size g c =
    scale-inverts g.F.Field.ops c.bits.result c.args.cut.now.transform.now.bits c.inverse_size-scale.result c.bits.ensures c.inverse_size-scale.ensures.value c.inverse_size-scale.ensures.inverse

pub returns-clause-inverse_size : goal.returns-clause-inverse_size
returns-clause-inverse_size g c =
    scale-inverts g.F.Field.ops c.bits.result c.args.cut.now.transform.now.bits c.inverse_size-scale.result c.bits.ensures c.inverse_size-scale.ensures.value c.inverse_size-scale.ensures.inverse

pub returns-clause-kernels : goal.returns-clause-kernels
returns-clause-kernels g c =
    built_all g.F.Field.ops g.F.Field.coding.element c.args.cut.now.transform.now c.args.cut.now.plan c.loop-v.v c.loop-v.all.items (omega (arith, c.loop-v-test.false, c.loop-v.auto.v-end)) c.loop-v.invariant

pub overflow_add-v : goal.overflow_add-v
overflow_add-v g c =
    let planned = c.args.cut.now.planned in
    let small = next_small c.loop-v.v c.args.cut.now.plan.block (omega (arith, planned.blocks.begins c.loop-v.v c.loop-v-test.true, planned.order, planned.limit)) (omega arith) in
    omega (arith, small)

pub returns-in_err-factors-clause-kernels : goal.returns-in_err-factors-clause-kernels
returns-in_err-factors-clause-kernels g c = IfOk-from_err _ _ c.from_residual.ensures.0

pub returns-in_err-extend_from_slice-clause-kernels : goal.returns-in_err-extend_from_slice-clause-kernels
returns-in_err-extend_from_slice-clause-kernels g c = IfOk-from_err _ _ c.from_residual-in_err-extend_from_slice.ensures.0
