use Rattle.std.proofs.Common.{◌∙◌, refl, ap, sym, arith, length-set}
use Rattle.std.specs.Prelude.{slice_set}
use Rattle.std.proofs.lemmas.List.{get_or_default}
use Rattle.lzk_field.specs.Sums.{entry}
use Rattle.lzk_circuit.proofs.checks.count_asserted_term.Goals as goal

pub returns-then-number-ne0-clause-length : goal.returns-then-number-ne0-clause-length
returns-then-number-ne0-clause-length g c = refl

pub returns-then-number-ne0-clause-counts : goal.returns-then-number-ne0-clause-counts
returns-then-number-ne0-clause-counts g c = λ z. absurd (c.if-number-ne0.true (c.number.ensures ∙ z))

pub returns-then-number-ne0-clause-other : goal.returns-then-number-ne0-clause-other
returns-then-number-ne0-clause-other g c = λ n. refl

pub bounds-out-term : goal.bounds-out-term
bounds-out-term g c = c.requires.g

pub product_of-requires-clause-a : goal.product_of-requires-clause-a
product_of-requires-clause-a g c κs within = omega (arith, c.requires.a, c.requires.b)

pub product_of-requires-clause-b : goal.product_of-requires-clause-b
product_of-requires-clause-b g c κs within = c.requires.b

pub bounds-out-term-2 : goal.bounds-out-term-2
bounds-out-term-2 g c = c.requires.g

pub returns-clause-length : goal.returns-clause-length
returns-clause-length g c = length-set c.args.out.now c.args.term.g c.add.result

pub returns-clause-counts : goal.returns-clause-counts
returns-clause-counts g c = λ z.
    let o = g.F.Field.ops in
    let out = c.args.out.now in
    let at = c.args.term.g in
    let sum = c.add.ensures ∙ ap (λ x. o.plus x c.product_of.result) (c.index-out-term.is ∙ get_or_default out at c.index-out-term.result o.zero c.requires.g) ∙ ap (o.plus (entry o out at)) c.product_of.ensures in
    ap (slice_set out at) sum

pub returns-clause-other : goal.returns-clause-other
returns-clause-other g c = λ n. absurd (n (sym c.number.ensures ∙ c.if-number-ne0.false))
