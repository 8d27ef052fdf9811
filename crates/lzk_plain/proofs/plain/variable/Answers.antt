use Rattle.std.proofs.Common.{◌≢◌, ◌-◌, ◌*◌, ◌∷◌, ◌++◌, length, sym, ap, ◌∙◌, arith}
use Rattle.std.proofs.lemmas.List.{get_or_default, get_or_append_left}
use Rattle.std.proofs.Math.Seq.{get_or-append_seam}
use Rattle.lzk_field.specs.Sums.{entry}
use Rattle.lzk_mle.specs.Multilinear.{corner}
use Rattle.lzk_sumcheck.proofs.PointLaws.{point-zero, point-one}
use Rattle.lzk_plain.proofs.plain.variable.Goals as goal

pub offset_bounds-bound-j : goal.offset_bounds-bound-j
offset_bounds-bound-j g c = omega (arith, c.if-j-bound.true)

pub bounds-bound-j : goal.bounds-bound-j
bounds-bound-j g c = c.if-j-bound.true

pub overflow_shr-on : goal.overflow_shr-on
overflow_shr-on g c = omega (arith, c.requires, c.args.on.now.few)

pub returns-then-j-bound : goal.returns-then-j-bound
returns-then-j-bound g c =
    let o = g.F.Field.ops in
    let on = c.args.on.now in
    let j = c.args.j in
    let x = c.index-bound-j.result in
    let rest = on.t ∷ corner o (2 * on.bits - length on.bound.now - 1) on.z in
    c.index-bound-j.is ∙ get_or_default on.bound.now j x o.zero c.if-j-bound.true ∙ sym (get_or_append_left on.bound.now rest o.zero j c.if-j-bound.true)

pub returns-then-j-bound-2 : goal.returns-then-j-bound-2
returns-then-j-bound-2 g c =
    let o = g.F.Field.ops in
    let on = c.args.on.now in
    let rest = corner o (2 * on.bits - length on.bound.now - 1) on.z in
    sym (ap (entry o (on.bound.now ++ on.t ∷ rest)) c.if-j-bound-2.true ∙ get_or-append_seam on.bound.now on.t rest o.zero)

pub returns-then-on-j-eq0 : goal.returns-then-on-j-eq0
returns-then-on-j-eq0 g c =
    let n : c.args.j ≢ length c.args.on.now.bound.now = c.if-j-bound-2.false in
    c.zero.ensures ∙ point-zero g.F.Field.ops c.args.on.now.bits c.args.on.now.bound.now c.args.on.now.t c.args.on.now.z c.args.j (omega arith) (omega arith) c.if-on-j-eq0.true

pub returns-else-on-j-eq0 : goal.returns-else-on-j-eq0
returns-else-on-j-eq0 g c =
    let n : c.args.j ≢ length c.args.on.now.bound.now = c.if-j-bound-2.false in
    c.one.ensures ∙ point-one g.F.Field.ops c.args.on.now.bits c.args.on.now.bound.now c.args.on.now.t c.args.on.now.z c.args.j (omega arith) (omega arith) c.if-on-j-eq0.false
