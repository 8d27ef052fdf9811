use Rattle.std.proofs.Common.{◌≡◌, ℕ, ◌<◌, ◌||◌, ◌++◌, true, List, length, take, drop, None, ◌∙◌, arith, ap, sym, subst}
use Rattle.std.proofs.lemmas.List.{drop_all, take_all, append-nil}
use Rattle.std.proofs.lemmas.Result.{IfOk-weaker}
use Rattle.lzk_circuit.specs.Valid.{AreTerms, under_of}
use Rattle.lzk_circuit_reduce.specs.Marks.{is_marked, names}
use Rattle.lzk_circuit_reduce.specs.Used.{marks_of_under}
use Rattle.lzk_circuit_reduce.specs.Targets.{AreBelow}
use Rattle.lzk_circuit_reduce.proofs.PushedLaws.{if-two, marks-first, marks-last, marks-more, first-width}
use Rattle.lzk_circuit_reduce.proofs.prune.marks_with.Goals as goal

-- a list whose items were written
written-back : {X : Type 0} (n : ℕ) (new old : List X) → length new ≡ length old → length old ≡ n → take n (new ++ drop (length new) old) ≡ new
written-back n new old e f =
    ap (λ xs. take n (new ++ xs)) (drop_all (length new) old (omega (arith, e))) ∙ ap (take n) (append-nil new) ∙ take_all n new (omega (arith, e, f))

pub returns-in_default : goal.returns-in_default
returns-in_default g c =
    let n = c.args.inputs in
    let ts = c.args.layer.now.terms in
    let marks = c.args.marks.now in
    let layers = c.args.under.now in
    let ws = c.args.own.now in
    if-two (λ below. length below.marks.items ≡ n) (λ below. (k : ℕ) → k < n → is_marked below.marks.items k ≡ true) (λ below. below.marks.items ≡ marks_of_under n marks ts ws layers)
    (λ below e is. marks-last n marks ts ws layers below.marks.items c.in_default.ensures.value e is) c.all_marked.result c.all_marked.ensures.count c.all_marked.ensures.marks

pub mark_used-requires-after_bounds : goal.mark_used-requires-after_bounds
mark_used-requires-after_bounds g c κs within =
    let marks = c.args.marks.now in
    let first = c.as_mut_slice-named.result.now in
    let count : length first ≡ (under_of c.args.inputs c.args.under.now).width =
    ap length c.as_mut_slice-named.ensures.value ∙ c.in-Ok.ensures.count ∙ first-width c.args.inputs c.args.under.now c.in-Some.first.now c.in-Some.ensures.value in
    subst (λ ts. AreTerms g.F.Field.ops (length marks) (length first) None ts) (sym c.as_slice.ensures)
    (subst (λ w. AreTerms g.F.Field.ops (length marks) w None c.args.layer.now.terms) (sym count) c.requires.terms)

pub mark_each-requires : goal.mark_each-requires
mark_each-requires g c =
    let width = first-width c.args.inputs c.args.under.now c.in-Some.first.now c.in-Some.ensures.value in
    let count : length c.mark_used.new.below ≡ (under_of c.args.inputs c.args.under.now).width = omega (arith, c.mark_used.auto.below, ap length c.as_mut_slice-named.ensures.value, c.in-Ok.ensures.count, width) in
    subst (λ n. AreBelow n c.args.own.now) (sym count) c.requires.targets

pub returns : goal.returns
returns g c =
    let inputs = c.args.inputs in
    let ts = c.args.layer.now.terms in
    let us = c.as_slice.result.now in
    let marks = c.args.marks.now in
    let layers = c.args.under.now in
    let ws = c.args.own.now in
    let b = c.in-Ok.ensures in
    let is = c.as_mut_slice-named.ensures.value in
    let first = c.in-Some.first.now in
    let named = c.mark_used.new.below in
    let more = c.mark_each.new.marks in
    let count : length named ≡ first.wires = omega (arith, c.mark_used.auto.below, ap length is, b.count) in
    let below = marks-first inputs marks us layers first named c.in-Some.ensures.value count (λ k l. c.mark_used.ensures k ∙ ap (λ ms. is_marked ms k || names marks us k) is ∙ ap (λ p. p || names marks us k) (b.marks k l)) in
    let all = marks-more inputs marks us ws layers named more below c.mark_each.auto.marks c.mark_each.ensures ∙ ap (λ xs. marks_of_under inputs marks xs ws layers) c.as_slice.ensures in
    let old = c.in-Ok.below in
    let long : length more ≡ length old.items = omega (arith, c.mark_each.auto.marks, c.mark_used.auto.below, ap length is) in
    let same = written-back old.len more old.items long (sym old.ok.0) in
    IfOk-weaker c.with_places.result _ (λ marked. marked.marks.items ≡ marks_of_under inputs marks ts ws layers) (λ marked e. ap (λ v. v.items) e ∙ same ∙ all) c.with_places.ensures

pub with_places-requires : goal.with_places-requires
with_places-requires g c =
    let more = c.mark_each.new.marks in
    let old = c.in-Ok.below in
    let long : length more ≡ length old.items = omega (arith, c.mark_each.auto.marks, c.mark_used.auto.below, ap length c.as_mut_slice-named.ensures.value) in
    let few : length more < 4294967296 = omega (arith, long, c.in-Ok.ensures.few) in
    subst (λ n. n < 4294967296) (sym (ap length (written-back old.len more old.items long (sym old.ok.0)))) few
