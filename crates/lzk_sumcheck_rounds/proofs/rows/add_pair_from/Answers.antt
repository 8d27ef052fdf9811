use Rattle.std.proofs.Common.{◌≡◌, ◌<◌, ◌+◌, ◌-◌, ℕ, List, length, inl, inr, sym, ap, ◌∙◌, arith}
use Rattle.std.specs.Prelude.{◌==◌, ◌≢◌, cond, slice_set}
use Rattle.std.proofs.lemmas.Bool.{cases_eq, eq-eqb, ne_eqb}
use Rattle.std.proofs.lemmas.List.{get_or_default, get_or-set_same, get_or-set_other}
use Rattle.lzk_field.specs.Ring.{Ops, RingLaws}
use Rattle.lzk_field.specs.Sums.{entry}
use Rattle.lzk_sumcheck.proofs.ProvingLaws.{times-less}
use Rattle.lzk_sumcheck_rounds.proofs.rows.add_pair_from.Goals.{else-a-from-via-then-a-from+else-a-from-2, else-a-from-via-else-a-from}
use Rattle.lzk_sumcheck_rounds.proofs.rows.add_pair_from.Goals as goal

module _ {A : Type 0} (o : Ops A) (r : RingLaws o) (rows : List A) (from a i : ℕ) (y : A) where
  -- a row that is another
  not-added : from + i ≢ a → entry o rows i ≡ o.plus (entry o rows i) (cond (from + i == a) y o.zero)
  not-added apart = sym (ap (λ b. o.plus (entry o rows i) (cond b y o.zero)) (ne_eqb (from + i) a apart) ∙ r.plus_zero (entry o rows i))

  -- y is added to one row
  added : (row : ℕ) (v : A) → from + row ≡ a → row < length rows → v ≡ o.plus (entry o rows row) y → entry o (slice_set rows row v) i ≡ o.plus (entry o rows i) (cond (from + i == a) y o.zero)
  added row v e inside is =
      elim (cases_eq (from + i) a) [
        | inl same ↦
            let at : i ≡ row = omega (arith, same, e) in
            ap (entry o (slice_set rows row v)) at ∙ get_or-set_same rows row v o.zero inside ∙ is ∙ ap (λ k. o.plus (entry o rows k) y) (sym at)
            ∙ ap (λ b. o.plus (entry o rows i) (cond b y o.zero)) (sym (eq-eqb (from + i) a same))
        | inr apart ↦ get_or-set_other rows row i v o.zero (λ q. apart (omega (arith, q, e))) ∙ not-added apart
      ]

pub returns-then-a-from-2 : goal.returns-then-a-from-2
returns-then-a-from-2 g c = λ i h.
    let m = g.F.Field in
    let o = m.ops in
    let p = c.args.pair in
    let rows = c.args.rows.now in
    let second = c.args.second.now in
    let row = p.a - c.args.from in
    let own = c.index-rows-row.is ∙ get_or_default rows row c.index-rows-row.result o.zero c.if-a-from-2.true in
    let other = c.index-second-pair.is ∙ get_or_default second p.b c.index-second-pair.result o.zero c.requires.second in
    added o m.laws.ring rows c.args.from p.a i (o.times p.coef (entry o second p.b)) row c.plus_product.result (omega (arith, c.if-a-from.true)) c.if-a-from-2.true
    (c.plus_product.ensures ∙ ap (λ w. o.plus w (o.times p.coef c.index-second-pair.result)) own ∙ ap (λ w. o.plus (entry o rows row) (o.times p.coef w)) other)

pub returns-else-a-from : goal.returns-else-a-from
returns-else-a-from g c = λ i h.
    let m = g.F.Field in
    let o = m.ops in
    let p = c.args.pair in
    let apart : c.args.from + i ≢ p.a = elim c.else-a-from.branch [
      | else-a-from-via-then-a-from+else-a-from-2 w ↦ λ q. omega (arith, q, h, w.if-a-from.true, w.if-a-from-2.false)
      | else-a-from-via-else-a-from w ↦ λ q. omega (arith, q, w.if-a-from.false)
    ] in
    not-added o m.laws.ring c.args.rows.now c.args.from p.a i (o.times p.coef (entry o c.args.second.now p.b)) apart

pub offset_bounds-rows-row : goal.offset_bounds-rows-row
offset_bounds-rows-row g c = record { fits = times-less (c.args.pair.a - c.args.from) (length c.args.rows.now) _ _ c.if-a-from-2.true (omega arith) }

pub offset_bounds-rows-row-then-a-from-2 : goal.offset_bounds-rows-row-then-a-from-2
offset_bounds-rows-row-then-a-from-2 g c = record { fits = times-less (c.args.pair.a - c.args.from) (length c.args.rows.now) _ _ c.if-a-from-2.true (omega arith) }
