use Rattle.std.proofs.Common.{◌==◌, cond, inl, inr, ap, ◌∙◌, sym, length, arith}
use Rattle.std.specs.Prelude.{slice_set}
use Rattle.std.proofs.lemmas.Bool.{cases_eq, eq-eqb, ne_eqb}
use Rattle.std.proofs.lemmas.List.{get_or_default, get_or-set_same, get_or-set_other}
use Rattle.lzk_field.specs.Sums.{entry}
use Rattle.lzk_sumcheck.proofs.ProvingLaws.{times-less}
use Rattle.lzk_sumcheck_rounds.proofs.rows.add_pair.Goals as goal

pub returns : goal.returns
returns g c = λ i.
    let m = g.F.Field in
    let o = m.ops in
    let p = c.args.pair in
    let rows = c.args.rows.now in
    let second = c.args.second.now in
    let y = o.times p.coef (entry o second p.b) in
    let at_b = c.index-second-pair.is ∙ get_or_default second p.b c.index-second-pair.result o.zero c.requires.second in
    let at_a = c.index-rows-a.is ∙ get_or_default rows p.a c.index-rows-a.result o.zero c.requires.first in
    let value = c.plus_product.ensures ∙ ap (λ w. o.plus c.index-rows-a.result (o.times p.coef w)) at_b ∙ ap (λ w. o.plus w y) at_a in
    elim (cases_eq i p.a) [
      | inl e ↦
          ap (λ k. entry o (slice_set rows p.a c.plus_product.result) k) e ∙ get_or-set_same rows p.a c.plus_product.result o.zero c.requires.first ∙ value
          ∙ sym (ap (λ k. o.plus (entry o rows k) (cond (i == p.a) y o.zero)) e ∙ ap (λ b. o.plus (entry o rows p.a) (cond b y o.zero)) (eq-eqb i p.a e))
      | inr d ↦
          get_or-set_other rows p.a i c.plus_product.result o.zero d ∙ sym (ap (λ b. o.plus (entry o rows i) (cond b y o.zero)) (ne_eqb i p.a d) ∙ m.laws.ring.plus_zero (entry o rows i))
    ]

pub offset_bounds-rows-a : goal.offset_bounds-rows-a
offset_bounds-rows-a g c = record { fits = times-less c.args.pair.a (length c.args.rows.now) _ _ c.requires.first (omega arith) }

pub offset_bounds-rows-a-2 : goal.offset_bounds-rows-a-2
offset_bounds-rows-a-2 g c = record { fits = times-less c.args.pair.a (length c.args.rows.now) _ _ c.requires.first (omega arith) }
