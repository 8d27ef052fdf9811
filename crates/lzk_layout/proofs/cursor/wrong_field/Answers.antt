use Rattle.std.proofs.Common.{sym, ap, ◌∙◌}
use Rattle.lzk_layout.specs.declared.part.ProofPart.{ProofPart}
use Rattle.lzk_layout.specs.Fields.{shape, wrong}
use Rattle.lzk_layout.specs.Parts.{sort_of}
use Rattle.lzk_layout.proofs.cursor.wrong_field.Goals as goal

pub returns-in-Magic : goal.returns-in-Magic
returns-in-Magic g c =
    let s = shape g.F.Field.coding.bytes g.F.Field.coding.size in
    c.wrong_magic.ensures s ∙ ap (λ (part : ProofPart). wrong s (sort_of part) c.args.field.now) (sym c.in-Magic.is)

pub returns-in-Count : goal.returns-in-Count
returns-in-Count g c =
    let s = shape g.F.Field.coding.bytes g.F.Field.coding.size in
    c.wrong_count.ensures s ∙ ap (λ (part : ProofPart). wrong s (sort_of part) c.args.field.now) (sym c.in-Count.is)
