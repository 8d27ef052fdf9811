use Rattle.std.proofs.Common.{◌≡◌, refl, ap, ◌∙◌}
use Rattle.lzk_poly_ntt.proofs.Twiddles.{root_nonzero}
use Rattle.lzk_poly_ntt.proofs.transform.Transform.new.Goals as goal

pub unreachable-requires : goal.unreachable-requires
unreachable-requires g c = root_nonzero g.F.Field.ops g.F.Field.laws.ring g.F.Field.laws.field c.args.bits c.args.root c.requires.order c.in-None.ensures

pub invariant_of-result : goal.invariant_of-result
invariant_of-result g c =
    let m = g.F.Field in
    let root = c.args.root in
    let inverse : m.ops.times root c.in-Some.inverse ≡ m.ops.one = ap (m.ops.times root) c.in-Some.ensures.1 ∙ m.laws.field.times_inverse root c.in-Some.ensures.0 in
    (c.requires.few, c.requires.order, inverse, c.in_ok-twiddles.ensures.0, c.in_ok-twiddles.ensures.1, c.in_ok-inverse_twiddles.ensures.0, c.in_ok-inverse_twiddles.ensures.1)

pub returns : goal.returns
returns g c = refl
