use Rattle.std.proofs.Common.{◌≡◌, ◌<◌, ◌+◌, ◌-◌, ℕ, List, length, take, drop, inl, inr, sym, ap, ◌∙◌, arith}
use Rattle.std.specs.Prelude.{◌==◌, cond, slice_set}
use Rattle.std.proofs.lemmas.Bool.{cases_eq, eq-eqb, ne_eqb}
use Rattle.std.proofs.lemmas.List.{get_or_default, get_or-set_same, get_or-set_other, get_or-take, get_or-drop, length-take}
use Rattle.lzk_field.specs.Ring.{Ops}
use Rattle.lzk_field.specs.Sums.{entry, dot_product}
use Rattle.lzk_sumcheck_rounds.specs.Rows.{linear_row}
use Rattle.lzk_sumcheck_rounds.proofs.rows.set_linear.Goals as goal

-- zeros with y in row 0, which stands first
first-row : {A : Type 0} (o : Ops A) (zeros : List A) (y v : A) (from i : ℕ) → from ≡ 0 → 0 < length zeros → ((k : ℕ) → entry o zeros k ≡ o.zero) → v ≡ y
    → entry o (slice_set zeros 0 v) i ≡ cond (from + i == 0) y o.zero
first-row o zeros y v from i begin some none is =
    elim (cases_eq i 0) [
      | inl e ↦
          ap (entry o (slice_set zeros 0 v)) e ∙ get_or-set_same zeros 0 v o.zero some ∙ is ∙ sym (ap (λ b. cond b y o.zero) (eq-eqb (from + i) 0 (omega (arith, begin, e))))
      | inr d ↦
          get_or-set_other zeros 0 i v o.zero d ∙ none i ∙ sym (ap (λ b. cond b y o.zero) (ne_eqb (from + i) 0 (λ q. d (omega (arith, q)))))
    ]

pub dot-requires : goal.dot-requires
dot-requires g c = c.args.round.now.matching.for_a c.if-round.true

pub bounds-rows-0 : goal.bounds-rows-0
bounds-rows-0 g c = omega (arith, c.requires.some, c.set_zeros.auto.rows)

pub bounds-round-0 : goal.bounds-round-0
bounds-round-0 g c = omega (arith, c.args.round.now.matching.second)

pub slice_bounds-set_multiples-end : goal.slice_bounds-set_multiples-end
slice_bounds-set_multiples-end g c = omega (arith, c.requires.within, c.args.round.now.matching.for_b c.if-round.false)

pub set_multiples-requires-after_bounds : goal.set_multiples-requires-after_bounds
set_multiples-requires-after_bounds g c κs within =
    omega (arith, length-take (c.args.from + length c.args.rows.now - c.args.from) (drop c.args.from c.args.round.now.linear.now))

pub returns-then-from-eq0 : goal.returns-then-from-eq0
returns-then-from-eq0 g c = λ i h.
    let o = g.F.Field.ops in
    let r = c.args.round.now in
    let y = o.times r.scale (dot_product o r.linear.now r.second.now) in
    let v : c.mul.result ≡ y = c.mul.ensures ∙ ap (o.times r.scale) c.dot.ensures in
    first-row o c.set_zeros.new.rows y c.mul.result c.args.from i c.if-from-eq0.true (omega (arith, c.requires.some, c.set_zeros.auto.rows)) c.set_zeros.ensures v
    ∙ ap (λ b. linear_row o b r.scale r.linear.now r.second.now (c.args.from + i)) (sym c.if-round.true)

pub returns-else-from-eq0 : goal.returns-else-from-eq0
returns-else-from-eq0 g c = λ i h.
    let o = g.F.Field.ops in
    let r = c.args.round.now in
    let y = o.times r.scale (dot_product o r.linear.now r.second.now) in
    c.set_zeros.ensures i ∙ sym (ap (λ b. cond b y o.zero) (ne_eqb (c.args.from + i) 0 (λ q. omega (arith, q, c.if-from-eq0.false))))
    ∙ ap (λ b. linear_row o b r.scale r.linear.now r.second.now (c.args.from + i)) (sym c.if-round.true)

pub returns-else-round : goal.returns-else-round
returns-else-round g c = λ i h.
    let o = g.F.Field.ops in
    let r = c.args.round.now in
    let from = c.args.from in
    let linear = r.linear.now in
    let second = r.second.now in
    let n = from + length c.args.rows.now - from in
    let factor : c.mul-factor.result ≡ o.times r.scale (entry o second 0) = c.mul-factor.ensures ∙ ap (o.times r.scale) (get_or_default second 0 c.index-round-0.result o.zero (omega (arith, r.matching.second))) in
    let own : entry o (take n (drop from linear)) i ≡ entry o linear (from + i) = get_or-take n (drop from linear) i o.zero (omega (arith, h)) ∙ get_or-drop from linear i o.zero in
    c.set_multiples.ensures i ∙ ap (λ w. o.times w (entry o (take n (drop from linear)) i)) factor ∙ ap (o.times (o.times r.scale (entry o second 0))) own
    ∙ ap (λ b. linear_row o b r.scale linear second (from + i)) (sym c.if-round.false)
