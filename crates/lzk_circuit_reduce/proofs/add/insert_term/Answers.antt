use Rattle.std.proofs.Common.{inl, inr, ◌≡◌, ◌<◌, ◌+◌, ℕ, ◌∙◌, ap, sym, subst, arith, length, get_or, take, drop, ◌∷◌}
use Rattle.std.proofs.lemmas.List.Elements.{All-append, All-cons, All-take, All-drop}
use Rattle.std.proofs.lemmas.Bool.{cases_lt}
use Rattle.lzk_field.specs.Sums.{entry}
use Rattle.lzk_circuit.specs.declared.layer.Term.{Term}
use Rattle.lzk_circuit.specs.Valid.{IsTerm}
use Rattle.lzk_circuit_reduce.specs.Rows.{IsRow, IsUnder, AreUnder, row_value, term_value, Less}
use Rattle.lzk_circuit_reduce.proofs.AddLaws.{inserted-row, inserted-value, any-default}
use Rattle.lzk_circuit_reduce.proofs.add.insert_term.Goals.{else-place-len-via-then-place-len+else-not-is_before, else-place-len-via-else-place-len}
use Rattle.lzk_circuit_reduce.proofs.add.insert_term.Goals as goal

pub returns-clause-row : goal.returns-clause-row
returns-clause-row g c width h wire order below =
    let o = g.F.Field.ops in
    let row = c.args.row.now.items in
    let t = c.args.term in
    let place = c.place_of-place.result in
    let is : IsTerm o 1 width t = record { g = omega (arith, wire); a = order; b = below; coef = c.requires } in
    let behind : (j : ℕ) → j + 1 ≡ place → Less (get_or row j t) t = λ j k. subst (λ us. Less (get_or us j t) t) c.deref.ensures.value (c.place_of-place.ensures.behind j t k) in
    let ahead : place < length row → Less t (get_or row place t) = λ l. elim c.else-place-len.branch [
      | else-place-len-via-then-place-len+else-not-is_before w ↦ subst (Less t) (any-default row place w.index.result.now t l w.index.ensures) (w.is_before.ensures.yes w.if-not-is_before.false)
      | else-place-len-via-else-place-len w ↦ absurd (omega (arith, l))
    ] in
    subst (IsRow o width) (sym c.in-Ok.ensures.items) (inserted-row o width row place t is behind ahead h)

pub returns-clause-value : goal.returns-clause-value
returns-clause-value g c below =
    let o = g.F.Field.ops in
    ap (row_value o below) c.in-Ok.ensures.items ∙ inserted-value o g.F.Field.laws.ring below c.args.row.now.items c.place_of-place.result c.args.term

pub returns-clause-under : goal.returns-clause-under
returns-clause-under g c ns d h under =
    let row = c.args.row.now.items in
    let t = c.args.term in
    let place = c.place_of-place.result in
    subst (AreUnder ns d) (sym c.in-Ok.ensures.items)
    (All-append (IsUnder ns d) (take place row) (t ∷ drop place row) (All-take (IsUnder ns d) place row h) (All-cons (IsUnder ns d) t (drop place row) under (All-drop (IsUnder ns d) place row h)))

pub returns-then-not-is_before-clause-row : goal.returns-then-not-is_before-clause-row
returns-then-not-is_before-clause-row g c width h wire order below = c.add_coef.ensures.row width h

pub returns-then-not-is_before-clause-under : goal.returns-then-not-is_before-clause-under
returns-then-not-is_before-clause-under g c ns d h under = c.add_coef.ensures.under ns d h

-- terms neither of which comes before the other
same-place : {A : Type 0} (s t : Term A) → (Less s t → ⊥) → (Less t s → ⊥) → (s.a ≡ t.a) × (s.b ≡ t.b)
same-place s t h k = elim (cases_lt s.a t.a) [
  | inl l ↦ absurd (h (inl l))
  | inr m ↦ elim (cases_lt t.a s.a) [
    | inl l ↦ absurd (k (inl l))
    | inr n ↦
        let e : s.a ≡ t.a = omega (arith, m, n) in
        elim (cases_lt s.b t.b) [
          | inl l ↦ absurd (h (inr (e, l)))
          | inr p ↦ elim (cases_lt t.b s.b) [
            | inl l ↦ absurd (k (inr (sym e, l)))
            | inr q ↦ (e, omega (arith, p, q))
          ]
        ]
  ]
]

pub index-requires : goal.index-requires
index-requires g c = omega (arith, c.if-place-len.true, c.len.ensures)

pub insert-requires : goal.insert-requires
insert-requires g c = omega (arith, c.place_of-place.ensures.within, ap length c.deref.ensures.value, c.args.row.now.ok.0)

pub returns-then-not-is_before-clause-short : goal.returns-then-not-is_before-clause-short
returns-then-not-is_before-clause-short g c = omega (arith, c.add_coef.ensures.short)

pub returns-then-not-is_before-clause-value : goal.returns-then-not-is_before-clause-value
returns-then-not-is_before-clause-value g c below =
    let o = g.F.Field.ops in
    let row = c.args.row.now.items in
    let t = c.args.term in
    let d = c.index.result.now in
    let place = c.place_of-place.result in
    let deref = c.deref.result.now in
    let there : place < length deref = omega (arith, c.if-place-len.true, c.len.ensures, ap length c.deref.ensures.value, c.args.row.now.ok.0) in
    let is : d ≡ get_or deref place d = c.index.ensures ∙ ap (λ us. get_or us place d) (sym c.deref.ensures.value) in
    let same = same-place d t (λ l. c.place_of-place.ensures.ahead d there (subst (λ u. Less u t) is l)) (c.is_before.ensures.no c.if-not-is_before.true) in
    let old = row_value o below row in
    c.add_coef.ensures.value below d c.index.ensures
    ∙ ap (λ a. o.plus old (o.times t.coef (o.times (entry o below a) (entry o below d.b)))) same.0 ∙ ap (λ b. o.plus old (o.times t.coef (o.times (entry o below t.a) (entry o below b)))) same.1
    ∙ g.F.Field.laws.ring.plus_comm old (term_value o below t)
