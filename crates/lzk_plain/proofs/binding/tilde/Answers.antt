use Rattle.std.proofs.Common.{◌≡◌, ◌+◌, length, drop, ap, sym, ◌∙◌, subst, arith, ◌∷◌}
use Rattle.std.proofs.lemmas.List.{drop_more, drop_all, get_or_default}
use Rattle.lzk_mle.specs.Multilinear.{tilde}
use Rattle.lzk_mle.proofs.CornerLaws.{tilde-corner}
use Rattle.lzk_mle.proofs.LoopStates.{IsLeft, left_first, left_more, left_last}
use Rattle.lzk_plain.proofs.binding.tilde.Goals as goal

pub loop-x-init : goal.loop-x-init
loop-x-init g c =
    let o = g.F.Field.ops in
    let e = c.fill.ensures in
    left_first o g.F.Field.laws.ring c.args.values.now c.args.r.now c.fill.new.room (length c.fill.new.room) c.requires.fits (omega arith) (omega arith) e.entries

pub bind_first-requires-after_bounds : goal.bind_first-requires-after_bounds
bind_first-requires-after_bounds g c κs within = omega (arith, c.loop-x.invariant.fits)

pub loop-x-preserved : goal.loop-x-preserved
loop-x-preserved g c =
    let o = g.F.Field.ops in
    let i = c.loop-x.x-index in
    let front = drop_more c.args.r.now i c.x-item.result c.loop-x-test.true ∙ ap (λ x. x ∷ drop (i + 1) c.args.r.now) (sym c.x-item.is) in
    let before = subst (λ xs. IsLeft o c.args.values.now c.args.r.now xs c.loop-x.size c.loop-x.room) front c.loop-x.invariant in
    left_more o g.F.Field.laws.ring c.args.values.now c.args.r.now (drop (i + 1) c.args.r.now) c.x-item.result c.loop-x.size c.loop-x.room c.bind_first.new.table before c.bind_first.ensures.length c.bind_first.ensures.low

pub returns : goal.returns
returns g c =
    let o = g.F.Field.ops in
    let values = c.args.values.now in
    let xs = c.args.r.now in
    let after = subst (λ ys. IsLeft o values xs ys c.loop-x.size c.loop-x.room) (drop_all c.loop-x.x-index xs c.loop-x-test.false) c.loop-x.invariant in
    let value : c.index-room-0.result ≡ tilde o values xs =
    c.index-room-0.is ∙ get_or_default c.loop-x.room 0 c.index-room-0.result o.zero (omega arith) ∙ left_last o g.F.Field.laws.ring values xs c.loop-x.room c.loop-x.size after in
    record {
      value = value;
      entry = λ i l e. value ∙ ap (tilde o values) e ∙ tilde-corner o g.F.Field.laws.ring (length xs) i values c.requires.fits (omega (arith, c.requires.room));
    }
