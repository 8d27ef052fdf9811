use Rattle.std.proofs.Common.{◌≡◌, ◌∙◌, arith, ap, sym, subst, length, map, ◌++◌, ◌+◌, None}
use Rattle.std.proofs.lemmas.List.{take_all, append-nil}
use Rattle.lzk_circuit.specs.Valid.{AreTerms}
use Rattle.lzk_circuit.specs.Wires.{coef, wire}
use Rattle.lzk_circuit_reduce.specs.Rows.{placed}
use Rattle.lzk_circuit_reduce.proofs.AppendLaws.{placed-more, placed-count, stacked-terms, stacked-before, stacked-added}
use Rattle.lzk_circuit_reduce.proofs.rows.append.Goals as goal

pub loop-term-init : goal.loop-term-init
loop-term-init g c =
    let old = c.args.terms.now.items in
    record { items = c.in-Ok.ensures.items ∙ sym (append-nil old); room = omega (arith, c.in-Ok.ensures.ok, ap length c.in-Ok.ensures.items) }

pub push_reserved-requires : goal.push_reserved-requires
push_reserved-requires g c =
    let inv = c.loop-term.invariant in
    let count = placed-count c.args.g c.args.terms.now.items c.args.row.now c.loop-term.terms.items c.loop-term.term-index (omega arith) inv.items in
    omega (arith, count, inv.room, c.loop-term-test.true)

pub loop-term-preserved : goal.loop-term-preserved
loop-term-preserved g c =
    let inv = c.loop-term.invariant in
    record {
      items = placed-more c.args.g c.args.terms.now.items c.args.row.now c.loop-term.terms.items c.push_reserved.new.self.items c.loop-term.term-index c.term-item.result c.loop-term-test.true c.term-item.is c.push_reserved.ensures.items inv.items;
      room = omega (arith, inv.room, c.push_reserved.ensures.capacity);
    }

pub returns-clause-count : goal.returns-clause-count
returns-clause-count g c =
    let all = c.loop-term.invariant.items in
    placed-count c.args.g c.args.terms.now.items c.args.row.now c.loop-term.terms.items (length c.args.row.now) (omega arith)
    (all ∙ ap (λ us. c.args.terms.now.items ++ map (placed c.args.g) us) (take_all c.loop-term.term-index c.args.row.now c.loop-term-test.false ∙ sym (take_all (length c.args.row.now) c.args.row.now (omega arith))))

pub returns-clause-terms : goal.returns-clause-terms
returns-clause-terms g c width h k =
    let old = c.args.terms.now.items in
    let row = c.args.row.now in
    let all : c.loop-term.terms.items ≡ old ++ map (placed c.args.g) row = c.loop-term.invariant.items ∙ ap (λ us. old ++ map (placed c.args.g) us) (take_all c.loop-term.term-index row c.loop-term-test.false) in
    subst (AreTerms g.F.Field.ops (c.args.g + 1) width None) (sym all) (stacked-terms g.F.Field.ops c.args.g width old row h k)

pub returns-clause-before : goal.returns-clause-before
returns-clause-before g c below i l =
    let o = g.F.Field.ops in
    let old = c.args.terms.now.items in
    let row = c.args.row.now in
    let all : c.loop-term.terms.items ≡ old ++ map (placed c.args.g) row = c.loop-term.invariant.items ∙ ap (λ us. old ++ map (placed c.args.g) us) (take_all c.loop-term.term-index row c.loop-term-test.false) in
    ap (λ us. wire o (coef o us) below i) all ∙ stacked-before o g.F.Field.laws.ring c.args.g i below old row l

pub returns-clause-added : goal.returns-clause-added
returns-clause-added g c below h k =
    let o = g.F.Field.ops in
    let old = c.args.terms.now.items in
    let row = c.args.row.now in
    let all : c.loop-term.terms.items ≡ old ++ map (placed c.args.g) row = c.loop-term.invariant.items ∙ ap (λ us. old ++ map (placed c.args.g) us) (take_all c.loop-term.term-index row c.loop-term-test.false) in
    ap (λ us. wire o (coef o us) below c.args.g) all ∙ stacked-added o g.F.Field.laws.ring c.args.g below old row h k

pub returns-clause-exact : goal.returns-clause-exact
returns-clause-exact g c =
    c.loop-term.invariant.items ∙ ap (λ us. c.args.terms.now.items ++ map (placed c.args.g) us) (take_all c.loop-term.term-index c.args.row.now c.loop-term-test.false)
