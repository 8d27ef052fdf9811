use Rattle.std.proofs.Common.{◌∙◌, ap, sym, subst, arith, length, [], ◌∷◌, ◌<◌}
use Rattle.std.proofs.lemmas.List.{take_all}
use Rattle.lzk_circuit_reduce.specs.Renumbering.{at}
use Rattle.lzk_circuit_reduce.specs.Rows.{row_value, ordered}
use Rattle.lzk_circuit_beside.proofs.LayerLaws.{over-at, row-next, row-alone}
use Rattle.lzk_circuit_beside.proofs.row.set_row.Goals as goal

pub numbers_of-a-requires-clause-a : goal.numbers_of-a-requires-clause-a
numbers_of-a-requires-clause-a g c κs within =
    (over-at (length c.args.numbers.now) c.loop-i.i c.args.terms.now c.index-terms-i.result c.requires.terms c.loop-i-test.true c.index-terms-i.is).0

pub numbers_of-a-requires-clause-b : goal.numbers_of-a-requires-clause-b
numbers_of-a-requires-clause-b g c κs within =
    (over-at (length c.args.numbers.now) c.loop-i.i c.args.terms.now c.index-terms-i.result c.requires.terms c.loop-i-test.true c.index-terms-i.is).1

pub loop-i-preserved : goal.loop-i-preserved
loop-i-preserved g c =
    let o = g.F.Field.ops in
    let terms = c.args.terms.now in
    let numbers = c.args.numbers.now in
    let i = c.loop-i.i in
    let t = c.index-terms-i.result in
    let within = over-at (length numbers) i terms t c.requires.terms c.loop-i-test.true c.index-terms-i.is in
    record {
      row = λ width n. c.in_ok-push_term.ensures.row width (c.loop-i.invariant.row width n)
          (subst (λ x. x < width) (sym c.numbers_of-a.ensures.a) (n t.a within.0))
          (subst (λ x. x < width) (sym c.numbers_of-a.ensures.b) (n t.b within.1));
      value = λ old new h.
          row-next o g.F.Field.laws.ring numbers old new terms i t (row_value o new c.loop-i.row.items) (row_value o new c.push_term.new.row.items) c.numbers_of-a.result.0 c.numbers_of-a.result.1
          h c.requires.terms c.loop-i-test.true c.index-terms-i.is (c.loop-i.invariant.value old new h) c.numbers_of-a.ensures.a c.numbers_of-a.ensures.b (c.in_ok-push_term.ensures.value new);
      short = omega (arith, c.in_ok-push_term.ensures.short, c.loop-i.invariant.short);
      alone = λ u is nz.
          row-alone o terms numbers i t u c.loop-i.row.items c.push_term.new.row.items c.numbers_of-a.result.0 c.numbers_of-a.result.1 c.loop-i-test.true c.index-terms-i.is is
          c.numbers_of-a.ensures.a c.numbers_of-a.ensures.b (c.loop-i.invariant.alone u is nz) (λ none n. c.in_ok-push_term.ensures.alone none n) nz;
    }

pub returns-clause-value : goal.returns-clause-value
returns-clause-value g c old new h =
    c.loop-i.invariant.value old new h ∙ ap (row_value g.F.Field.ops old) (take_all c.loop-i.i c.args.terms.now (omega (arith, c.loop-i-test.false)))

pub returns-clause-alone : goal.returns-clause-alone
returns-clause-alone g c t is nz =
    c.loop-i.invariant.alone t is nz
    ∙ take_all c.loop-i.i (ordered t.coef (at c.args.numbers.now t.a) (at c.args.numbers.now t.b) ∷ []) (omega (arith, c.loop-i-test.false, ap length is))
