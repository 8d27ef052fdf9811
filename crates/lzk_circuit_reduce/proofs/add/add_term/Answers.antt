use Rattle.std.proofs.Common.{◌≡◌, ◌≢◌, ◌≤◌, ◌+◌, ◌∙◌, ◌++◌, ◌∷◌, [], ap, sym, subst, arith, length}
use Rattle.std.proofs.lemmas.List.{length-append}
use Rattle.std.proofs.lemmas.List.Elements.{All-push}
use Rattle.std.proofs.lemmas.Result.{IfOk-weaker}
use Rattle.lzk_field.specs.Sums.{entry}
use Rattle.lzk_field.proofs.RingBasics.{zero_plus, zero_times}
use Rattle.lzk_circuit_reduce.specs.Rows.{IsRow, IsUnder, AreUnder, row_value, term_value, ordered}
use Rattle.lzk_circuit_reduce.proofs.AddLaws.{pushed-value, none-behind}
use Rattle.lzk_circuit_reduce.proofs.add.add_term.Goals as goal

pub returns-then-is_zero-clause-value : goal.returns-then-is_zero-clause-value
returns-then-is_zero-clause-value g c below =
    let o = g.F.Field.ops in
    let ring = g.F.Field.laws.ring in
    let p = o.times (entry o below c.args.a) (entry o below c.args.b) in
    let x = row_value o below c.args.row.now.items in
    sym (ap (λ k. o.plus (o.times k p) x) (c.is_zero.ensures.yes c.if-is_zero.true) ∙ ap (λ y. o.plus y x) (zero_times o ring p) ∙ zero_plus o ring x)

pub returns-then-is_zero-clause-alone : goal.returns-then-is_zero-clause-alone
returns-then-is_zero-clause-alone g c none nonzero = absurd (nonzero (c.is_zero.ensures.yes c.if-is_zero.true))

pub returns-then-is_behind-clause-row : goal.returns-then-is_behind-clause-row
returns-then-is_behind-clause-row g c width h la lb =
    let o = g.F.Field.ops in
    let t = c.term_of-term.result in
    let e = c.term_of-term.ensures in
    let nonzero : t.coef ≢ o.zero = λ z. c.is_zero.ensures.no c.if-is_zero.false (sym e.coef ∙ z) in
    let grown = c.is_behind.ensures.row width (subst (IsRow o width) (sym c.deref.ensures.value) h) nonzero e.wire e.order (e.width width la lb) c.if-is_behind.true in
    let row = c.args.row.now.items in
    let new = c.push.new.list.items in
    IfOk-weaker c.push.result (λ _. new ≡ row ++ t ∷ []) (λ _. IsRow o width new) (λ _ is. subst (IsRow o width) (ap (λ us. us ++ t ∷ []) c.deref.ensures.value ∙ sym is) grown) c.push.ensures

pub returns-then-is_behind-clause-value : goal.returns-then-is_behind-clause-value
returns-then-is_behind-clause-value g c below =
    let o = g.F.Field.ops in
    let row = c.args.row.now.items in
    let t = c.term_of-term.result in
    let new = c.push.new.list.items in
    let p = o.times c.args.coef (o.times (entry o below c.args.a) (entry o below c.args.b)) in
    IfOk-weaker c.push.result (λ _. new ≡ row ++ t ∷ []) (λ _. row_value o below new ≡ o.plus p (row_value o below row))
    (λ _ is. ap (row_value o below) is ∙ pushed-value o g.F.Field.laws.ring below row t ∙ ap (λ x. o.plus x (row_value o below row)) (c.term_of-term.ensures.value below)) c.push.ensures

pub returns-then-is_behind-clause-short : goal.returns-then-is_behind-clause-short
returns-then-is_behind-clause-short g c =
    let row = c.args.row.now.items in
    let t = c.term_of-term.result in
    let new = c.push.new.list.items in
    IfOk-weaker c.push.result (λ _. new ≡ row ++ t ∷ []) (λ _. length new ≤ length row + 1) (λ _ is. omega (arith, ap length is, length-append row (t ∷ []))) c.push.ensures

pub returns-then-is_behind-clause-under : goal.returns-then-is_behind-clause-under
returns-then-is_behind-clause-under g c ns d h la lb =
    let row = c.args.row.now.items in
    let t = c.term_of-term.result in
    let new = c.push.new.list.items in
    IfOk-weaker c.push.result (λ _. new ≡ row ++ t ∷ []) (λ _. AreUnder ns d new) (λ _ is. subst (AreUnder ns d) (sym is) (All-push (IsUnder ns d) row t h (c.term_of-term.ensures.under ns d la lb))) c.push.ensures

pub returns-then-is_behind-clause-alone : goal.returns-then-is_behind-clause-alone
returns-then-is_behind-clause-alone g c none nonzero =
    let row = c.args.row.now.items in
    let t = c.term_of-term.result in
    let new = c.push.new.list.items in
    IfOk-weaker c.push.result (λ _. new ≡ row ++ t ∷ []) (λ _. new ≡ ordered c.args.coef c.args.a c.args.b ∷ []) (λ _ is. is ∙ ap (λ us. us ++ t ∷ []) none ∙ ap (λ u. u ∷ []) c.term_of-term.ensures.exact) c.push.ensures

pub insert_term-requires-after_bounds : goal.insert_term-requires-after_bounds
insert_term-requires-after_bounds g c κs within z = c.is_zero.ensures.no c.if-is_zero.false (sym c.term_of-term.ensures.coef ∙ z)

pub returns-clause-row : goal.returns-clause-row
returns-clause-row g c width h la lb =
    let e = c.term_of-term.ensures in
    c.insert_term.ensures.row width h e.wire e.order (e.width width la lb)

pub returns-clause-value : goal.returns-clause-value
returns-clause-value g c below =
    let o = g.F.Field.ops in
    let old = row_value o below c.args.row.now.items in
    let new = c.insert_term.new.row.items in
    let p = o.times c.args.coef (o.times (entry o below c.args.a) (entry o below c.args.b)) in
    IfOk-weaker c.insert_term.result (λ _. row_value o below new ≡ o.plus (term_value o below c.term_of-term.result) old) (λ _. row_value o below new ≡ o.plus p old)
    (λ done e. e ∙ ap (λ x. o.plus x old) (c.term_of-term.ensures.value below)) (c.insert_term.ensures.value below)

pub returns-clause-under : goal.returns-clause-under
returns-clause-under g c ns d h la lb = c.insert_term.ensures.under ns d h (c.term_of-term.ensures.under ns d la lb)

pub returns-clause-alone : goal.returns-clause-alone
returns-clause-alone g c none nonzero = absurd (none-behind c.args.row.now.items c.deref.result.now c.deref.ensures.value none (c.is_behind.ensures.some c.if-is_behind.false))
