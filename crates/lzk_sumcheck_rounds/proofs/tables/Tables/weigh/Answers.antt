use Rattle.std.proofs.Common.{length, take, ap, ◌∙◌, sym, arith}
use Rattle.lzk_sumcheck.specs.Weights.{weighted}
use Rattle.lzk_sumcheck_rounds.specs.Tables.{KeptTables}
use Rattle.std.proofs.lemmas.List.{length-take-le}
use Rattle.lzk_sumcheck_rounds.proofs.tables.Tables.weigh.Goals as goal

pub returns : goal.returns
returns g c =
    let o = g.F.Field.ops in
    let i = c.self.inside in
    let n = length c.args.weights.now in
    c.set_weights.ensures
    ∙ ap (λ xs. weighted o c.args.alpha (take i.first_count xs) (take i.second_count c.deref-2.result.now) n) c.deref.ensures.value
    ∙ ap (λ xs. weighted o c.args.alpha (take i.first_count i.first.items) (take i.second_count xs) n) c.deref-2.ensures.value
    ∙ ap (λ (v : KeptTables g.row.F.Denot). weighted o c.args.alpha v.first v.second n) c.self.view_is

pub slice_bounds-set_weights-end : goal.slice_bounds-set_weights-end
slice_bounds-set_weights-end g c =
    sym (length-take-le c.self.inside.first_count c.deref.result.now (omega (arith, c.self.invariant.0.first, ap length c.deref.ensures.value)))

pub slice_bounds-set_weights-end-2 : goal.slice_bounds-set_weights-end-2
slice_bounds-set_weights-end-2 g c =
    sym (length-take-le c.self.inside.second_count c.deref-2.result.now (omega (arith, c.self.invariant.0.second, ap length c.deref-2.ensures.value)))
