use Rattle.std.proofs.Common.{◌+◌, ◌*◌, ap, ◌∙◌}
use Rattle.lzk_field.specs.Sums.{entry, minus}
use Rattle.lzk_accept.proofs.TableLaws.{lessened}
use Rattle.lzk_accept.proofs.tables.split_entries.Goals as goal

pub returns-clause-zeros : goal.returns-clause-zeros
returns-clause-zeros g c i h =
    let o = g.F.Field.ops in
    let whole = entry o c.args.table.now i in
    c.lessen_pairs.ensures.zeros i h ∙ ap (λ w. minus o w (entry o c.spread_entries.new.table (2 * i + 1))) (c.spread_entries.ensures.wholes i h)
    ∙ ap (minus o whole) (c.spread_entries.ensures.ones i h) ∙ lessened o g.F.Field.laws.ring c.args.x whole

pub returns-clause-ones : goal.returns-clause-ones
returns-clause-ones g c i h = c.lessen_pairs.ensures.ones i h ∙ c.spread_entries.ensures.ones i h
