use Rattle.std.proofs.Common.{◌≡◌, ℕ, ap, ◌∙◌, arith}
use Rattle.std.proofs.lemmas.List.{get_or_default}
use Rattle.lzk_field.specs.Sums.{entry}
use Rattle.lzk_circuit.specs.Wires.{weighed_term}
use Rattle.lzk_accept.specs.Walks.{counted_so_far}
use Rattle.lzk_accept.proofs.TermWalks.{term_added, linear_added}
use Rattle.lzk_accept.proofs.terms.with_term.Goals as goal

pub offset_bounds-second-term : goal.offset_bounds-second-term
offset_bounds-second-term g c = omega (arith, c.requires.b)

pub bounds-second-term : goal.bounds-second-term
bounds-second-term g c = c.requires.b

pub offset_bounds-first-term : goal.offset_bounds-first-term
offset_bounds-first-term g c = omega (arith, c.requires.a)

pub bounds-first-term : goal.bounds-first-term
bounds-first-term g c = c.requires.a

pub returns-then-term-eq0-clause-wire : goal.returns-then-term-eq0-clause-wire
returns-then-term-eq0-clause-wire g c = c.requires.wire

pub returns-clause-wire : goal.returns-clause-wire
returns-clause-wire g c = c.requires.wire

pub returns-then-term-eq0-clause-sum : goal.returns-then-term-eq0-clause-sum
returns-then-term-eq0-clause-sum g c weights =
    let o = g.F.Field.ops in
    let walk = c.args.walk in
    let t = c.args.term in
    let coef = (weighed_term o c.args.beta t).coef in
    let first = c.args.first.now in
    let base = entry o first 0 in
    let weight = entry o weights walk.wire in
    let y = entry o c.args.second.now t.b in
    let front : 0 ≡ t.a = omega (arith, c.if-term-eq0.true) in
    let other : c.index-second-term.result ≡ y = c.index-second-term.is ∙ get_or_default c.args.second.now t.b c.index-second-term.result o.zero c.requires.b in
    let linear : c.add.result ≡ o.plus walk.linear (o.times coef y) =
    c.add.ensures ∙ ap (o.plus walk.linear) (c.scaled-part.ensures ∙ ap (λ v. o.times v c.index-second-term.result) c.weight_of.ensures ∙ ap (o.times coef) other) in
    let before = counted_so_far o weights base walk in
    ap (λ v. o.plus walk.total (o.times weight (o.plus walk.inner (o.times base v)))) linear
    ∙ linear_added o g.F.Field.laws.ring walk.total weight walk.inner base walk.linear coef y
    ∙ ap (λ (n : ℕ). o.plus before (o.times coef (o.times (entry o weights n) (o.times base y)))) c.requires.wire
    ∙ ap (λ (n : ℕ). o.plus before (o.times coef (o.times (entry o weights t.g) (o.times (entry o first n) y)))) front

pub returns-clause-sum : goal.returns-clause-sum
returns-clause-sum g c weights =
    let o = g.F.Field.ops in
    let walk = c.args.walk in
    let t = c.args.term in
    let coef = (weighed_term o c.args.beta t).coef in
    let base = entry o c.args.first.now 0 in
    let weight = entry o weights walk.wire in
    let x = entry o c.args.first.now t.a in
    let y = entry o c.args.second.now t.b in
    let one : c.index-first-term.result ≡ x = c.index-first-term.is ∙ get_or_default c.args.first.now t.a c.index-first-term.result o.zero c.requires.a in
    let other : c.index-second-term.result ≡ y = c.index-second-term.is ∙ get_or_default c.args.second.now t.b c.index-second-term.result o.zero c.requires.b in
    let inner : c.add-2.result ≡ o.plus walk.inner (o.times x (o.times coef y)) =
    c.add-2.ensures ∙ ap (o.plus walk.inner) (c.mul.ensures ∙ ap (λ v. o.times v c.scaled-part.result) one ∙ ap (o.times x) (c.scaled-part.ensures ∙ ap (λ v. o.times v c.index-second-term.result) c.weight_of.ensures ∙ ap (o.times coef) other)) in
    ap (λ v. o.plus walk.total (o.times weight (o.plus v (o.times base walk.linear)))) inner
    ∙ term_added o g.F.Field.laws.ring walk.total weight walk.inner base walk.linear x coef y
    ∙ ap (λ (n : ℕ). o.plus (counted_so_far o weights base walk) (o.times coef (o.times (entry o weights n) (o.times x y)))) c.requires.wire
