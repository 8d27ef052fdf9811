use Rattle.std.proofs.Common.{◌≡◌, ◌≢◌, ◌∙◌, ◌≤◌, List, [], ◌∷◌, ◌++◌, ap, sym, subst, arith, length}
use Rattle.std.proofs.lemmas.List.Elements.{All-cons, All-nil}
use Rattle.lzk_field.specs.Sums.{entry}
use Rattle.lzk_field.proofs.RingBasics.{zero_times}
use Rattle.lzk_circuit_reduce.specs.Rows.{IsRow, IsUnder, AreUnder, row_value, term_value}
use Rattle.lzk_circuit_reduce.proofs.RowLaws.{row-of-one}
use Rattle.lzk_circuit_beside.proofs.multiples.single.Goals as goal

none-short : 0 ≤ 1
none-short = omega arith

one-short : 1 ≤ 1
one-short = omega arith

short : {X : Type 0} (xs ys : List X) → xs ≡ ys → length ys ≤ 1 → length xs ≤ 1
short xs ys e l = subst (λ us. length us ≤ 1) (sym e) l

pub returns-then-is_zero-clause-row : goal.returns-then-is_zero-clause-row
returns-then-is_zero-clause-row g c width la lb = subst (IsRow g.F.Field.ops width) (sym c.new.ensures.items) tt

pub returns-then-is_zero-clause-short : goal.returns-then-is_zero-clause-short
returns-then-is_zero-clause-short g c = short c.new.result.items [] c.new.ensures.items none-short

pub returns-then-is_zero-clause-under : goal.returns-then-is_zero-clause-under
returns-then-is_zero-clause-under g c ns d la lb = subst (AreUnder ns d) (sym c.new.ensures.items) (All-nil (IsUnder ns d))

pub returns-clause-value : goal.returns-clause-value
returns-clause-value g c below =
    let o = g.F.Field.ops in
    let t = c.term_of.result in
    ap (row_value o below) (c.push_reserved.ensures.items ∙ ap (λ us. us ++ t ∷ []) c.in-Ok.ensures.items) ∙ g.F.Field.laws.ring.plus_zero (term_value o below t) ∙ c.term_of.ensures.value below

pub returns-clause-short : goal.returns-clause-short
returns-clause-short g c =
    let t = c.term_of.result in
    short c.push_reserved.new.self.items (t ∷ []) (c.push_reserved.ensures.items ∙ ap (λ us. us ++ t ∷ []) c.in-Ok.ensures.items) one-short

pub returns-then-is_zero-clause-value : goal.returns-then-is_zero-clause-value
returns-then-is_zero-clause-value g c below =
    let o = g.F.Field.ops in
    let product = o.times (entry o below c.args.a) (entry o below c.args.b) in
    ap (row_value o below) c.new.ensures.items ∙ sym (ap (λ f. o.times f product) (c.is_zero.ensures.yes c.if-is_zero.true) ∙ zero_times o g.F.Field.laws.ring product)

pub returns-clause-row : goal.returns-clause-row
returns-clause-row g c width la lb =
    let o = g.F.Field.ops in
    let nz : c.term_of.result.coef ≢ o.zero = λ e. c.is_zero.ensures.no c.if-is_zero.false (sym c.term_of.ensures.coef ∙ e) in
    subst (IsRow o width) (sym (c.push_reserved.ensures.items ∙ ap (λ us. us ++ c.term_of.result ∷ []) c.in-Ok.ensures.items)) (row-of-one o width c.term_of.result c.term_of.ensures.wire c.term_of.ensures.order (c.term_of.ensures.width width la lb) nz)

pub returns-then-is_zero-clause-exact : goal.returns-then-is_zero-clause-exact
returns-then-is_zero-clause-exact g c nonzero = absurd (nonzero (c.is_zero.ensures.yes c.if-is_zero.true))

pub returns-clause-exact : goal.returns-clause-exact
returns-clause-exact g c nonzero = c.push_reserved.ensures.items ∙ ap (λ us. us ++ c.term_of.result ∷ []) c.in-Ok.ensures.items ∙ ap (λ t. t ∷ []) c.term_of.ensures.exact

pub returns-clause-under : goal.returns-clause-under
returns-clause-under g c ns d la lb =
    subst (AreUnder ns d) (sym (c.push_reserved.ensures.items ∙ ap (λ us. us ++ c.term_of.result ∷ []) c.in-Ok.ensures.items)) (All-cons (IsUnder ns d) c.term_of.result [] (c.term_of.ensures.under ns d la lb) (All-nil (IsUnder ns d)))
