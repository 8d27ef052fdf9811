use Rattle.std.proofs.Common.{◌≡◌, suc, ◌-◌, arith, ap, sym, ◌∙◌}
use Rattle.std.specs.Prelude.{slice_get}
use Rattle.std.proofs.lemmas.Option.{slice_get_past}
use Rattle.lzk_layout.specs.declared.part.ProofPart.TheVariants.{Digest}
use Rattle.lzk_layout.specs.Parts.{each, path_parts}
use Rattle.lzk_layout.proofs.PartLaws.{get_each, length-each}
use Rattle.lzk_layout.proofs.part.path_part.Goals as goal

pub returns-then-k-digests : goal.returns-then-k-digests
returns-then-k-digests c =
    let at : c.args.k ≡ suc (c.args.k - 1) = omega arith in
    sym (ap (slice_get (path_parts c.args.digests)) at ∙ get_each Digest c.args.digests (c.args.k - 1) c.if-k-digests.true)

pub returns-else-k-digests : goal.returns-else-k-digests
returns-else-k-digests c =
    let at : c.args.k ≡ suc (c.args.k - 1) = omega arith in
    let long = length-each Digest c.args.digests in
    sym (ap (slice_get (path_parts c.args.digests)) at ∙ slice_get_past (each Digest c.args.digests) (c.args.k - 1) (omega (arith, long, c.if-k-digests.false)))
