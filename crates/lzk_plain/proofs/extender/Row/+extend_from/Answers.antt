use Rattle.std.proofs.Common.{◌≡◌, ℕ, ◌+◌, length, ap, ◌∙◌, arith, slice_set, get_or-set_same}
use Rattle.std.proofs.Math.ListN.{length-set}
use Rattle.lzk_field.specs.Sums.{entry}
use Rattle.lzk_field.proofs.EntryLaws.{entries_joined}
use Rattle.lzk_poly.specs.Extension.{extension}
use Rattle.lzk_plain.proofs.extender.Row.+extend_from.Goals as goal

pub returns-then-out-eq1 : goal.returns-then-out-eq1
returns-then-out-eq1 g t c =
    let m = g.F.Field in
    let o = m.ops in
    let out = c.args.out.now in
    let x = c.value_at.result in
    let f : ℕ → g.row.F.Denot = λ k. extension o m.coding.element c.args.self.now.values.now (c.args.from + k) in
    λ k h.
    let first : k ≡ 0 = omega (arith, h, length-set out 0 x, c.if-out-eq1.true) in
    let start : c.args.from ≡ c.args.from + 0 = omega arith in
    ap (λ i. entry o (slice_set out 0 x) i) first ∙ get_or-set_same out 0 x o.zero (omega (arith, c.if-out-eq1.true)) ∙ c.value_at.ensures ∙ ap (extension o m.coding.element c.args.self.now.values.now) start ∙ ap f (let e : 0 ≡ k = omega (arith, first) in e)

pub split_at_mut-head-requires : goal.split_at_mut-head-requires
split_at_mut-head-requires g t c = omega arith

pub extend_in-requires-clause-further : goal.extend_in-requires-clause-further
extend_in-requires-clause-further g t c κs within = (c.requires.0, omega (arith, c.requires.1, c.split_at_mut-head.ensures.front_len))

pub extend_from-requires-after_bounds : goal.extend_from-requires-after_bounds
extend_from-requires-after_bounds g t c = λ κs le. (
  omega (arith, c.requires.0),
  omega (arith, c.requires.1, c.split_at_mut-head.ensures.front_len, c.split_at_mut-head.ensures.back_len, c.extend_in.auto.out, c.extend_in.auto.room),
)

pub returns : goal.returns
returns g t c =
    let m = g.F.Field in
    let o = m.ops in
    let values = c.args.self.now.values.now in
    let front = c.extend_in.new.out in
    λ k h.
    entries_joined o (λ k y. y ≡ extension o m.coding.element values (c.args.from + k)) front c.extend_from.new.out c.extend_in.ensures
    (λ k h. let place : c.args.from + length front + k ≡ c.args.from + (length front + k) = omega arith in c.extend_from.ensures k h ∙ ap (extension o m.coding.element values) place) k h
