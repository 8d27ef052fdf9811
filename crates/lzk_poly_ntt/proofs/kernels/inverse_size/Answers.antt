use Rattle.std.proofs.Common.{◌≡◌, ◌+◌, suc, ap, ◌∙◌, arith, sym}
use Rattle.lzk_poly_ntt.proofs.Writes.{both}
use Rattle.lzk_poly_ntt.specs.Transform.{doubled}
use Rattle.lzk_poly_ntt.proofs.Twiddles.{doubled_nonzero}
use Rattle.lzk_poly_ntt.proofs.kernels.inverse_size.Goals as goal

pub unreachable-requires : goal.unreachable-requires
unreachable-requires g c =
    let o = g.F.Field.ops in
    let all : c.loop-k._k ≡ c.args.bits = omega arith in
    doubled_nonzero o g.F.Field.laws.ring g.F.Field.laws.field c.requires c.args.bits (ap (doubled o) (sym all) ∙ sym c.loop-k.invariant ∙ c.in-None.ensures)

pub loop-k-init : goal.loop-k-init
loop-k-init g c = c.one-size.ensures

pub loop-k-preserved : goal.loop-k-preserved
loop-k-preserved g c =
    let o = g.F.Field.ops in
    let k = c.loop-k._k in
    let half = c.loop-k.size in
    let next : suc k ≡ k + 1 = omega arith in
    c.add-size.ensures ∙ both o.plus half half (doubled o k) (doubled o k) c.loop-k.invariant c.loop-k.invariant ∙ ap (doubled o) next

pub returns-clause-value : goal.returns-clause-value
returns-clause-value g c =
    let o = g.F.Field.ops in
    let all : c.loop-k._k ≡ c.args.bits = omega (arith, c.loop-k-test.false, c.loop-k.auto._k-end) in
    c.in-Some.ensures.1 ∙ ap o.inverse (c.loop-k.invariant ∙ ap (doubled o) all)

pub returns-clause-inverse : goal.returns-clause-inverse
returns-clause-inverse g c =
    let o = g.F.Field.ops in
    let laws = g.F.Field.laws in
    let d = doubled o c.args.bits in
    let all : c.loop-k._k ≡ c.args.bits = omega (arith, c.loop-k-test.false, c.loop-k.auto._k-end) in
    ap (o.times d) (c.in-Some.ensures.1 ∙ ap o.inverse (c.loop-k.invariant ∙ ap (doubled o) all)) ∙ laws.field.times_inverse d (doubled_nonzero o laws.ring laws.field c.requires c.args.bits)
