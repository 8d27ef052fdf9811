use Rattle.std.proofs.Common.{◌≡◌, ℕ, ◌+◌, ◌-◌, ◌<◌, take, length, length-take, ap, ◌∙◌, arith, sym, subst, slice_set, get_or-set_other, get_or-set_same, below_more}
use Rattle.std.proofs.lemmas.List.{get_or_default}
use Rattle.std.proofs.Math.ListN.{length-set}
use Rattle.lzk_field.specs.Sums.{entry}
use Rattle.lzk_poly.specs.Extension.{extension}
use Rattle.lzk_poly.specs.Weights.{passed, parts}
use Rattle.lzk_poly.proofs.Blocks.{parts_extension}
use Rattle.lzk_plain.proofs.extender.Row.extend_in.Goals as goal

pub loop-t-init : goal.loop-t-init
loop-t-init g c =
    let m = g.F.Field in
    let values = c.args.self.now.values.now in
    let all : c.loop-start.start ≡ length values = omega (arith, c.loop-start.invariant.0) in (
      λ k h. absurd (omega arith),
      λ k p h. subst (λ (n : ℕ). entry m.ops c.loop-start.out k ≡ parts m.ops m.coding.element values n (m.coding.element (c.args.from + k))) all (c.loop-start.invariant.1 k h),
    )

pub loop-t-preserved : goal.loop-t-preserved
loop-t-preserved g c =
    let m = g.F.Field in
    let o = m.ops in
    let values = c.args.self.now.values.now in
    let out = c.loop-t.out in
    let t = c.loop-t.t in
    let count = c.args.self.now.weights.now.count in
    let counted : length values ≡ count = c.args.self.now.fits in
    let products = c.passed-passed.result.now in
    let all = c.passed-passed.ensures in
    let at = c.args.from - c.count.result + t in
    let j = c.args.from + t in
    let there : count + at ≡ j = omega arith in
    let within : at < length products = omega (arith, all.0) in
    let sum : c.index-out-t.result ≡ parts o m.coding.element values (length values) (m.coding.element j) =
    c.index-out-t.is ∙ get_or_default out t c.index-out-t.result o.zero (omega arith) ∙ c.loop-t.invariant.1 t (omega arith) (omega arith) in
    let product : c.index-passed-first.result ≡ passed o m.coding.element (length values) (m.coding.element j) =
    c.index-passed-first.is ∙ get_or_default products at c.index-passed-first.result o.zero within ∙ all.1 at within
    ∙ ap (λ i. passed o m.coding.element count (m.coding.element i)) there ∙ ap (λ n. passed o m.coding.element n (m.coding.element j)) (sym counted) in
    let value : c.mul.result ≡ extension o m.coding.element values j =
    c.mul.ensures ∙ ap (λ w. o.times w c.index-passed-first.result) sum ∙ ap (o.times (parts o m.coding.element values (length values) (m.coding.element j))) product
    ∙ parts_extension m.laws values j (omega arith) (omega arith) in (
      below_more (λ k. entry o (slice_set out t c.mul.result) k ≡ extension o m.coding.element values (c.args.from + k)) t
          (λ k h. get_or-set_other out t k c.mul.result o.zero (omega arith) ∙ c.loop-t.invariant.0 k h)
          (get_or-set_same out t c.mul.result o.zero (omega arith) ∙ value),
      λ k p q. get_or-set_other out t k c.mul.result o.zero (omega arith) ∙ c.loop-t.invariant.1 k (omega arith) (omega (arith, length-set out t c.mul.result)),
    )

pub loop-start-init : goal.loop-start-init
loop-start-init g c = (omega arith, λ k h. c.set_all.ensures k h ∙ c.zero.ensures)

pub loop-start-preserved : goal.loop-start-preserved
loop-start-preserved g c =
    let m = g.F.Field in
    let o = m.ops in
    let size = c.min-size.result in
    let room = c.loop-start.room in
    let start = c.loop-start.start in
    let values = c.args.self.now.values.now in
    let inv = c.loop-start.invariant in
    let long : length (take size room) ≡ size = omega (arith, length-take size room, c.min-size.ensures) in (
      omega (arith, inv.0, c.min-size.ensures),
      λ k h. c.add_parts.ensures k h (inv.1 k (omega (arith, h, c.add_parts.auto.out))) ∙ ap (λ n. parts o m.coding.element values (start + n) (m.coding.element (c.args.from + k))) long,
    )

pub add_parts-requires-clause-within : goal.add_parts-requires-clause-within
add_parts-requires-clause-within g c κs within = omega (arith, length-take c.min-size.result c.loop-start.room, c.min-size.ensures, c.loop-start.invariant.0)

pub add_parts-requires-clause-further : goal.add_parts-requires-clause-further
add_parts-requires-clause-further g c κs within = (c.requires.further.0, omega (arith, c.requires.further.1, c.loop-start.auto.out, c.set_all.auto.out))

pub returns : goal.returns
returns g c = λ k h. c.loop-t.invariant.0 k (omega (arith, h, c.loop-t-test.false, c.loop-t.auto.out))

pub loop-start-smaller : goal.loop-start-smaller
loop-start-smaller g c = omega (arith, c.loop-start-test.true, c.min-size.ensures, c.requires.room, c.loop-start.auto.room)

pub overflow_sub-first : goal.overflow_sub-first
overflow_sub-first g c = omega (arith, c.count.ensures.value, c.requires.further.0)

pub bounds-passed-first : goal.bounds-passed-first
bounds-passed-first g c =
    omega (arith, c.passed-passed.ensures.0, c.count.ensures.value, c.requires.further.0, c.requires.further.1, c.loop-t-test.true, c.loop-start.auto.out, c.set_all.auto.out)

pub offset_bounds-passed-first : goal.offset_bounds-passed-first
offset_bounds-passed-first g c =
    omega (arith, c.passed-passed.ensures.0, c.count.ensures.value, c.requires.further.0, c.requires.further.1, c.loop-t-test.true, c.loop-start.auto.out, c.set_all.auto.out)
