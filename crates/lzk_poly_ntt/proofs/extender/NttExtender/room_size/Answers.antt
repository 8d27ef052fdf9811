use Rattle.std.proofs.Common.{◌+◌, ◌*◌, ap, ◌∙◌, arith}
use Rattle.lzk_poly_ntt.specs.Kernels.{Convolver}
use Rattle.lzk_poly_ntt.proofs.Pieces.{covered_few, room_few}
use Rattle.lzk_poly_ntt.proofs.extender.NttExtender.room_size.Goals as goal

pub overflow_mul-result : goal.overflow_mul-result
overflow_mul-result g c =
    let plan = c.self.inside.kernels.plan in
    let planned = c.self.inside.kernels.ready.planned in
    let blocks = covered_few plan.count plan.block plan.blocks planned.some planned.blocks in
    let few = room_few (plan.blocks + 1) c.size.result (omega (arith, blocks, planned.order, planned.limit)) c.size.ensures.few in
    omega (arith, few)

pub overflow_add-result : goal.overflow_add-result
overflow_add-result g c =
    let plan = c.self.inside.kernels.plan in
    let planned = c.self.inside.kernels.ready.planned in
    let blocks = covered_few plan.count plan.block plan.blocks planned.some planned.blocks in
    omega (arith, blocks, planned.order, planned.limit)

pub returns : goal.returns
returns g c = ap (λ k. (c.self.inside.kernels.plan.blocks + 1) * k) c.size.ensures.value ∙ ap (λ (e : Convolver). e.room) c.self.view_is
