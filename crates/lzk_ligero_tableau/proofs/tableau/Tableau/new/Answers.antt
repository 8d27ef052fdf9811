use Rattle.std.proofs.Common.{◌≡◌, ◌+◌, ◌*◌, length, ap, ◌∙◌, length-take, arith}
use Rattle.std.proofs.lemmas.List.{length-replicate}
use Rattle.lzk_ligero_tableau.proofs.tableau.Tableau.new.Goals as goal

pub invariant_of-result : goal.invariant_of-result
invariant_of-result g c =
    let o = g.F.Field.ops in
    let p = c.of-params.result in (
      c.of-params.ensures.bounds,
      ap length c.in_ok-zeros.ensures ∙ length-replicate _ o.zero,
      ap length c.in_ok-zeros-2.ensures ∙ length-replicate _ o.zero,
      omega (arith, c.in_ok-table_of.ensures.length),
      c.in_ok-table_of.ensures.memory,
    )

pub returns-clause-made : goal.returns-clause-made
returns-clause-made g c =
    let o = g.F.Field.ops in
    let p = c.of-params.result in
    let is = c.of-params.ensures.params in
    let table = c.in_ok-table_of.field-0.items in
    let long : length table ≡ p.nrow * p.ncol + c.args.room = c.in_ok-table_of.ensures.length in
    record {
      params = is;
      pads = ap length c.in_ok-zeros.ensures ∙ length-replicate _ o.zero ∙ ap (λ q. q.nsum) is;
      rows = length-take (p.nrow * p.ncol) table ∙ omega (arith, long) ∙ ap (λ q. q.nrow * q.ncol) is;
    }
