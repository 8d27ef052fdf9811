use Rattle.std.proofs.Common.{rules, ◌≡◌, ◌<◌, ◌∙◌, ap, sym, subst, suc, take, drop, length, slice_set}
use Rattle.std.proofs.lemmas.List.{set_split}
use Rattle.std.proofs.lemmas.List.Elements.{All-append, All-take, All-drop, All-set}
use Rattle.lzk_circuit_reduce.specs.Rows.{IsRow, IsUnder, AreUnder, row_value}
use Rattle.lzk_circuit_reduce.proofs.AddLaws.{removed-row, changed-row, removed-value, changed-value, same-at}
use Rattle.lzk_circuit_reduce.proofs.add.add_coef.Goals as goal

pub returns-then-is_zero-clause-row : goal.returns-then-is_zero-clause-row
returns-then-is_zero-clause-row g c width h =
    let o = g.F.Field.ops in
    subst (IsRow o width) (sym c.remove.ensures.items) (removed-row o width c.args.row.now.items c.args.place h)

pub returns-then-is_zero-clause-value : goal.returns-then-is_zero-clause-value
returns-then-is_zero-clause-value g c below t e =
    let o = g.F.Field.ops in
    let row = c.args.row.now.items in
    let same : c.index.result.now ≡ t = same-at row c.args.place c.index.result.now t (search rules) c.index.ensures e in
    let none : o.plus t.coef c.args.coef ≡ o.zero = ap (λ u. o.plus u.coef c.args.coef) (sym same) ∙ sym c.add-sum.ensures ∙ c.is_zero.ensures.yes c.if-is_zero.true in
    ap (row_value o below) c.remove.ensures.items ∙ removed-value o g.F.Field.laws.ring below row c.args.place t c.args.coef none (search rules) e

pub returns-clause-row : goal.returns-clause-row
returns-clause-row g c width h =
    let o = g.F.Field.ops in
    let row = c.args.row.now.items in
    let t = c.index_mut.result.now in
    subst (IsRow o width) (sym (set_split row c.args.place _ (search rules))) (changed-row o width row c.args.place t c.add-sum.result (c.is_zero.ensures.no c.if-is_zero.false) (search rules) c.index_mut.ensures.value h)

pub returns-clause-value : goal.returns-clause-value
returns-clause-value g c below t e =
    let o = g.F.Field.ops in
    let row = c.args.row.now.items in
    let first : c.index.result.now ≡ t = same-at row c.args.place c.index.result.now t (search rules) c.index.ensures e in
    let same : c.index_mut.result.now ≡ t = same-at row c.args.place c.index_mut.result.now t (search rules) c.index_mut.ensures.value e in
    let sum : c.add-sum.result ≡ o.plus t.coef c.args.coef = c.add-sum.ensures ∙ ap (λ u. o.plus u.coef c.args.coef) first in
    ap (λ s. row_value o below (slice_set row c.args.place record { g = s.g; a = s.a; b = s.b; coef = c.add-sum.result })) same
    ∙ ap (λ x. row_value o below (slice_set row c.args.place record { g = t.g; a = t.a; b = t.b; coef = x })) sum
    ∙ ap (row_value o below) (set_split row c.args.place _ (search rules)) ∙ changed-value o g.F.Field.laws.ring below row c.args.place t c.args.coef (search rules) e

pub returns-then-is_zero-clause-under : goal.returns-then-is_zero-clause-under
returns-then-is_zero-clause-under g c ns d h =
    let row = c.args.row.now.items in
    let place = c.args.place in
    subst (AreUnder ns d) (sym c.remove.ensures.items) (All-append (IsUnder ns d) (take place row) (drop (suc place) row) (All-take (IsUnder ns d) place row h) (All-drop (IsUnder ns d) (suc place) row h))

pub returns-clause-under : goal.returns-clause-under
returns-clause-under g c ns d h =
    let row = c.args.row.now.items in
    let place = c.args.place in
    let there : place < length row = search rules in
    let old = c.index_mut.result.now in
    All-set (IsUnder ns d) row place _ (subst (IsUnder ns d) (sym c.index_mut.ensures.value) (h place old there)) h
