use Rattle.std.proofs.Common.{◌≡◌, suc, ◌-◌, arith, ap, sym, ◌∙◌}
use Rattle.std.specs.Prelude.{slice_get}
use Rattle.lzk_layout.specs.Parts.{parts}
use Rattle.lzk_layout.proofs.part.part_of.Goals as goal

pub returns-in-0 : goal.returns-in-0
unfolding parts
returns-in-0 c = sym (ap (slice_get (parts c.args.params.now c.args.digests)) c.in-0.is)

pub returns-in-1 : goal.returns-in-1
unfolding parts
returns-in-1 c = sym (ap (slice_get (parts c.args.params.now c.args.digests)) c.in-1.is)

pub returns-in-2 : goal.returns-in-2
unfolding parts
returns-in-2 c = sym (ap (slice_get (parts c.args.params.now c.args.digests)) c.in-2.is)

pub returns-in_default : goal.returns-in_default
unfolding parts
returns-in_default c =
    let at : c.args.k ≡ suc (suc (suc (c.args.k - 3))) = omega (arith, c.in_default) in
    c.element_part.ensures ∙ sym (ap (slice_get (parts c.args.params.now c.args.digests)) at)
