use Rattle.std.proofs.Common.{◌<◌, [], ◌∷◌, length, take, ap, ◌∙◌, sym, arith, subst}
use Rattle.std.proofs.lemmas.List.{get_or_default}
use Rattle.lzk_sumcheck_rounds.specs.Pairs.{spread, ArePairs}
use Rattle.lzk_sumcheck_rounds.specs.Rows.{counted}
use Rattle.lzk_sumcheck_rounds.proofs.KeptLaws.{counted-linear, counted-pair}
use Rattle.lzk_sumcheck.proofs.ProvingLaws.{times-less}
use Rattle.lzk_sumcheck_rounds.proofs.terms.put_term.Goals as goal

pub returns-then-pair-eq0-clause-sums : goal.returns-then-pair-eq0-clause-sums
returns-then-pair-eq0-clause-sums g c = λ i j.
    let m = g.F.Field in
    let o = m.ops in
    let a = c.args in
    let p = c.pair_of-pair.result in
    let is = c.pair_of-pair.ensures in
    let front = take a.kept a.pairs.now in
    let inside : p.b < length a.linear.now = subst (λ q. q.b < length a.linear.now) (sym is) c.requires.linear in
    counted-linear o m.laws.ring front a.linear.now p c.sum_of.result i j c.if-pair-eq0.true inside
    (c.sum_of.ensures ∙ ap (λ x. o.plus x p.coef) (c.index-linear-b.is ∙ get_or_default a.linear.now p.b c.index-linear-b.result o.zero inside))
    ∙ ap (λ q. o.plus (counted o front a.linear.now i j) (spread o (q ∷ []) i j)) is

pub returns-else-pair-eq0-clause-sums : goal.returns-else-pair-eq0-clause-sums
returns-else-pair-eq0-clause-sums g c = λ i j.
    let m = g.F.Field in
    let o = m.ops in
    let a = c.args in
    let front = take a.kept a.pairs.now in
    counted-pair o m.laws.ring front (take c.absorb.result c.absorb.new.pairs) c.pair_of-pair.result a.linear.now i j (c.absorb.ensures.sums i j)
    ∙ ap (λ q. o.plus (counted o front a.linear.now i j) (spread o (q ∷ []) i j)) c.pair_of-pair.ensures

pub returns-else-pair-eq0-clause-within : goal.returns-else-pair-eq0-clause-within
returns-else-pair-eq0-clause-within g c = λ n m h hp. c.absorb.ensures.within n m h (subst (λ q. ArePairs n m (q ∷ [])) (sym c.pair_of-pair.ensures) hp)

pub absorb-requires-after_bounds : goal.absorb-requires-after_bounds
absorb-requires-after_bounds g c κs within = c.requires.place

pub returns-then-pair-eq0-clause-count : goal.returns-then-pair-eq0-clause-count
returns-then-pair-eq0-clause-count g c = omega arith

pub returns-then-pair-eq0-clause-within : goal.returns-then-pair-eq0-clause-within
returns-then-pair-eq0-clause-within g c = λ n m h hp. h

pub returns-else-pair-eq0-clause-count : goal.returns-else-pair-eq0-clause-count
returns-else-pair-eq0-clause-count g c = c.absorb.ensures.count

pub bounds-linear-b : goal.bounds-linear-b
bounds-linear-b g c = subst (λ q. q.b < length c.args.linear.now) (sym c.pair_of-pair.ensures) c.requires.linear

pub offset_bounds-linear-b : goal.offset_bounds-linear-b
offset_bounds-linear-b g c =
    let inside : c.pair_of-pair.result.b < length c.args.linear.now = subst (λ q. q.b < length c.args.linear.now) (sym c.pair_of-pair.ensures) c.requires.linear in
    record { fits = times-less c.pair_of-pair.result.b (length c.args.linear.now) _ _ inside (omega arith) }

pub offset_bounds-linear-b-then-pair-eq0 : goal.offset_bounds-linear-b-then-pair-eq0
offset_bounds-linear-b-then-pair-eq0 g c =
    let inside : c.pair_of-pair.result.b < length c.args.linear.now = subst (λ q. q.b < length c.args.linear.now) (sym c.pair_of-pair.ensures) c.requires.linear in
    record { fits = times-less c.pair_of-pair.result.b (length c.args.linear.now) _ _ inside (omega arith) }

pub bounds-linear-b-then-pair-eq0 : goal.bounds-linear-b-then-pair-eq0
bounds-linear-b-then-pair-eq0 g c = subst (λ q. q.b < length c.args.linear.now) (sym c.pair_of-pair.ensures) c.requires.linear
