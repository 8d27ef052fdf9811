use Rattle.std.proofs.Common.{◌-◌, length, sym, ap, ◌∙◌}
use Rattle.std.specs.Prelude.{cond}
use Rattle.std.proofs.lemmas.Bool.{lt-ltb, le-ltb}
use Rattle.lzk_field.specs.Sums.{entry}
use Rattle.lzk_accept.proofs.factored.behind_zeros.Goals as goal

pub returns-then-k-table : goal.returns-then-k-table
returns-then-k-table g c =
    let o = g.F.Field.ops in
    let k = c.args.k in
    let n = length c.args.table.now in
    c.zero.ensures ∙ sym (ap (λ b. cond b o.zero (entry o c.args.table.now (k - n))) (lt-ltb k n c.if-k-table.true))

pub returns : goal.returns
returns g c =
    let o = g.F.Field.ops in
    let k = c.args.k in
    let n = length c.args.table.now in
    c.entry_at.ensures ∙ sym (ap (λ b. cond b o.zero (entry o c.args.table.now (k - n))) (le-ltb k n c.if-k-table.false))
