use Rattle.std.proofs.Common.{◌≢◌, ◌+◌, ◌-◌, ◌≤◌, ◌∙◌, ℕ, List, None, ap, sym, subst, arith, length, take, drop, length-take}
use Rattle.std.proofs.lemmas.List.Elements.{All-take, All-drop}
use Rattle.lzk_circuit.specs.Valid.{AreTerms}
use Rattle.lzk_circuit_reduce.specs.Rows.{row_value}
use Rattle.lzk_circuit.specs.declared.layer.Term.{Term}
use Rattle.lzk_circuit_reduce.specs.Renumbering.{AreOver, AreNonzero, IsOne, terms_before}
use Rattle.lzk_circuit_reduce.proofs.RenumberLaws.{over-own, terms-over, terms-nonzero}
use Rattle.lzk_circuit_reduce.proofs.WireLaws.{own-slice}
use Rattle.lzk_circuit_reduce.proofs.renumber.wire_row.Goals as goal

slice-long : {X : Type 0} (us : List X) (start end n : ℕ) → start ≤ end → n ≤ length (take (end - start) (drop start us)) → start + n ≤ end
slice-long us start end n h l = omega (arith, h, l, length-take (end - start) (drop start us))

pub renumber-requires-clause-terms : goal.renumber-requires-clause-terms
renumber-requires-clause-terms g c κs within =
    let o = g.F.Field.ops in
    let ts = c.args.layer.now.terms in
    let wires = c.args.layer.now.wires in
    let width = length c.args.numbers.now in
    let us = c.as_slice-terms.result.now in
    let h = c.requires.terms in
    subst (AreOver width) (sym (own-slice o wires width c.args.g c.args.start c.end_of-end.result ts us c.as_slice-terms.ensures c.requires.start (c.end_of-end.ensures.end wires width (subst (AreTerms o wires width None) (sym c.as_slice-terms.ensures) h)) h))
    (over-own width c.args.g ts (terms-over o wires width None ts h))

pub renumber-requires-clause-nonzero : goal.renumber-requires-clause-nonzero
renumber-requires-clause-nonzero g c κs within =
    let o = g.F.Field.ops in
    let us = c.as_slice-terms.result.now in
    let start = c.args.start in
    let nonzero : Term _ → Type 0 = λ t. t.coef ≢ o.zero in
    let all = subst (AreNonzero o) (sym c.as_slice-terms.ensures) (terms-nonzero o c.args.layer.now.wires (length c.args.numbers.now) c.args.layer.now.terms c.requires.terms) in
    All-take nonzero (c.end_of-end.result - start) (drop start us) (All-drop nonzero start us all)

pub end_of-end-requires-clause-start : goal.end_of-end-requires-clause-start
end_of-end-requires-clause-start g c κs within = c.requires.start ∙ ap (terms_before c.args.g) (sym c.as_slice-terms.ensures)

pub returns : goal.returns
returns g c =
    let o = g.F.Field.ops in
    let ts = c.args.layer.now.terms in
    let wires = c.args.layer.now.wires in
    let width = length c.args.numbers.now in
    let us = c.as_slice-terms.result.now in
    let same = c.as_slice-terms.ensures in
    let h = c.requires.terms in
    let row = c.in-Ok.ensures in
    let end = c.end_of-end.ensures.end wires width (subst (AreTerms o wires width None) (sym same) h) in
    let own = own-slice o wires width c.args.g c.args.start c.end_of-end.result ts us same c.requires.start end h in
    record {
      end_is = end ∙ ap (terms_before (c.args.g + 1)) same;
      is = row.is;
      value = λ old new copies. row.value old new copies ∙ ap (row_value o old) own;
      short = slice-long us c.args.start c.end_of-end.result (length c.renumber.new.row.items) c.end_of-end.ensures.after row.short;
      one = λ one first. row.one (subst (IsOne o) (sym own) one) first;
    }
