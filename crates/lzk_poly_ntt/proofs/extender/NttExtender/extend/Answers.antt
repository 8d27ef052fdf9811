use Rattle.std.proofs.Common.{◌≡◌, ℕ, ◌+◌, ◌*◌, ◌^◌, sym, ap, subst, ◌∙◌, arith, length}
use Rattle.std.proofs.Math.Nat.{add-mul}
use Rattle.lzk_poly.specs.Extension.{extension}
use Rattle.lzk_poly.specs.Weights.{IsPassed, IsWeights}
use Rattle.lzk_poly_ntt.specs.Kernels.{Convolver}
use Rattle.lzk_poly_ntt.proofs.Pieces.{covered_few, room_few}
use Rattle.lzk_poly_ntt.proofs.extender.NttExtender.extend.Goals as goal

pub overflow_mul-spectra : goal.overflow_mul-spectra
overflow_mul-spectra g c =
    let plan = c.self.inside.kernels.plan in
    let planned = c.self.inside.kernels.ready.planned in
    let blocks = covered_few plan.count plan.block plan.blocks planned.some planned.blocks in
    let few = room_few plan.blocks c.size.result (omega (arith, blocks, planned.order, planned.limit)) c.size.ensures.few in
    omega (arith, few)

pub split_at_mut-spectra-requires : goal.split_at_mut-spectra-requires
split_at_mut-spectra-requires g c =
    let blocks = c.self.inside.kernels.plan.blocks in
    let n = 2 ^ c.self.inside.kernels.transform.bits in
    let room : length c.args.room.now ≡ (blocks + 1) * n = c.requires.room ∙ sym (ap (λ (e : Convolver). e.room) c.self.view_is) in
    let front : blocks * c.size.result ≡ blocks * n = ap (λ k. blocks * k) c.size.ensures.value in
    omega (arith, room, front, add-mul blocks 1 n)

pub invariant_of-row : goal.invariant_of-row
invariant_of-row g c =
    let o = g.F.Field.ops in
    let point = g.F.Field.coding.element in
    let plan = c.self.inside.kernels.plan in
    let count : c.self.inside.weights.count ≡ plan.count = sym c.self.invariant.0 in
    let upto : c.self.inside.weights.upto ≡ plan.upto = sym c.self.invariant.1 in
    record {
      weighted = subst (λ (n : ℕ). IsWeights o point n c.weights.result.now) count c.weights.ensures;
      passes =
          subst (λ (n : ℕ). IsPassed o point n plan.upto c.passed.result.now) count
          (subst (λ (n : ℕ). IsPassed o point c.self.inside.weights.count n c.passed.result.now) upto c.passed.ensures);
      count = c.requires.fits ∙ sym (ap (λ (e : Convolver). e.reach.count) c.self.view_is) ∙ count;
    }

pub returns : goal.returns
returns g c =
    let m = g.F.Field in
    let count = c.self.invariant.0 ∙ ap (λ (e : Convolver). e.reach.count) c.self.view_is in
    λ k h. c.extend_by.ensures k h ∙ ap (λ n. extension m.ops m.coding.element c.args.values.now (n + k)) count

pub extend_by-requires-clause-out : goal.extend_by-requires-clause-out
extend_by-requires-clause-out g c κs within =
    omega (arith, c.requires.reached, c.self.invariant.0, c.self.invariant.1, ap (λ (e : Convolver). e.reach.count) c.self.view_is, ap (λ (e : Convolver). e.reach.upto) c.self.view_is)

pub extend_by-requires-clause-spectra : goal.extend_by-requires-clause-spectra
extend_by-requires-clause-spectra g c κs within = c.split_at_mut-spectra.ensures.front_len ∙ ap (λ k. c.self.inside.kernels.plan.blocks * k) c.size.ensures.value

pub extend_by-requires-clause-convolved : goal.extend_by-requires-clause-convolved
extend_by-requires-clause-convolved g c κs within =
    let blocks = c.self.inside.kernels.plan.blocks in
    let n = 2 ^ c.self.inside.kernels.transform.bits in
    let room : length c.args.room.now ≡ (blocks + 1) * n = c.requires.room ∙ sym (ap (λ (e : Convolver). e.room) c.self.view_is) in
    let front : blocks * c.size.result ≡ blocks * n = ap (λ k. blocks * k) c.size.ensures.value in
    omega (arith, room, front, add-mul blocks 1 n, c.split_at_mut-spectra.ensures.back_len)
