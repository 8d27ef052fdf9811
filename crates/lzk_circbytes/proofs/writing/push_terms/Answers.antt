use Rattle.std.proofs.Common.{◌≡◌, ◌∷◌, ◌+◌, ℕ, suc, ap, sym, subst, ◌∙◌, arith, drop, map, List, drop-cons}
use Rattle.std.proofs.lemmas.List.{drop_all}
use Rattle.lzk_circbytes.specs.Numbered.{numbered_term}
use Rattle.lzk_circbytes.proofs.Written.{TermsLeft, terms_begin, next_left, terms_go_on, terms_end}
use Rattle.lzk_circbytes.proofs.writing.push_terms.Goals as goal

pub loop-t-preserved : goal.loop-t-preserved
loop-t-preserved g c =
    let view = numbered_term g.F.Field.coding.number in
    let cs = c.args.constants.now.numbers.now in
    let ts = c.args.terms.now in
    let i = c.loop-t.t-index in
    let t = c.t-item.result in
    let k : suc i ≡ i + 1 = omega arith in
    let parts : drop i ts ≡ t ∷ drop (i + 1) ts = drop-cons ts i t c.loop-t-test.true ∙ ap (λ x. x ∷ drop (suc i) ts) (sym c.t-item.is) ∙ ap (λ (j : ℕ). t ∷ drop j ts) k in
    let left = subst (λ (us : List _). TermsLeft cs c.loop-t.before (map view us) c.loop-t.out.items c.args.out.now.items (map view ts)) parts c.loop-t.invariant in
    terms_go_on cs c.loop-t.before (view t) (map view (drop (i + 1) ts)) c.loop-t.out.items c.args.out.now.items c.push_term.new.out.items (map view ts) left c.in_ok-push_term.ensures

pub returns : goal.returns
returns g c =
    let view = numbered_term g.F.Field.coding.number in
    let none = drop_all c.loop-t.t-index c.args.terms.now c.loop-t-test.false in
    terms_end c.args.constants.now.numbers.now c.loop-t.before c.loop-t.out.items c.args.out.now.items (map view c.args.terms.now)
    (subst (λ (us : List _). TermsLeft c.args.constants.now.numbers.now c.loop-t.before (map view us) c.loop-t.out.items c.args.out.now.items (map view c.args.terms.now)) none c.loop-t.invariant)

pub loop-t-init : goal.loop-t-init
loop-t-init g c = terms_begin c.args.constants.now.numbers.now c.args.out.now.items (map (numbered_term g.F.Field.coding.number) c.args.terms.now) c.requires.fit

pub push_term-requires-clause-found : goal.push_term-requires-clause-found
push_term-requires-clause-found g c κs within =
    let left = next_left (numbered_term g.F.Field.coding.number) c.args.constants.now.numbers.now c.loop-t.before c.args.terms.now c.loop-t.t-index c.t-item.result c.loop-t.out.items c.args.out.now.items c.loop-t-test.true c.t-item.is c.loop-t.invariant in
    left.number

pub push_term-requires-clause-g : goal.push_term-requires-clause-g
push_term-requires-clause-g g c κs within =
    let left = next_left (numbered_term g.F.Field.coding.number) c.args.constants.now.numbers.now c.loop-t.before c.args.terms.now c.loop-t.t-index c.t-item.result c.loop-t.out.items c.args.out.now.items c.loop-t-test.true c.t-item.is c.loop-t.invariant in
    left.rising

pub push_term-requires-clause-a : goal.push_term-requires-clause-a
push_term-requires-clause-a g c κs within =
    let left = next_left (numbered_term g.F.Field.coding.number) c.args.constants.now.numbers.now c.loop-t.before c.args.terms.now c.loop-t.t-index c.t-item.result c.loop-t.out.items c.args.out.now.items c.loop-t-test.true c.t-item.is c.loop-t.invariant in
    left.a
