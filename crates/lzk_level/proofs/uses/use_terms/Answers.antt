use Rattle.std.proofs.Common.{◌∙◌, arith, length, subst, refl}
use Rattle.std.proofs.lemmas.List.{take_all}
use Rattle.lzk_level.specs.Uses.{AreUsedTo}
use Rattle.lzk_level.proofs.UseLaws.{term-before, uses-next}
use Rattle.lzk_level.proofs.uses.use_terms.Goals as goal

pub use_node-requires : goal.use_node-requires
use_node-requires g c =
    let b = term-before (length c.args.last.now.items) c.args.terms.now c.loop-i.i c.index-terms-i.result c.loop-i-test.true c.index-terms-i.is c.requires.terms in
    omega (arith, b.0, c.loop-i.invariant.count)

pub use_node-requires-in-loop-i : goal.use_node-requires-in-loop-i
use_node-requires-in-loop-i g c =
    let b = term-before (length c.args.last.now.items) c.args.terms.now c.loop-i.i c.index-terms-i.result c.loop-i-test.true c.index-terms-i.is c.requires.terms in
    omega (arith, b.1, c.loop-i.invariant.count, c.use_node.ensures.count)

pub loop-i-preserved : goal.loop-i-preserved
loop-i-preserved g c =
    let i = c.loop-i.invariant in
    let e = c.use_node.ensures in
    let f = c.use_node-in-loop-i.ensures in
    let terms = c.args.terms.now in
    let t = c.index-terms-i.result in
    record {
      count = omega (arith, i.count, e.count, f.count);
      grown = λ j. omega (arith, i.grown j, e.grown j, f.grown j);
      others = λ k h j l.
          let b = term-before k terms c.loop-i.i t c.loop-i-test.true c.index-terms-i.is h in
          f.others j (omega (arith, b.1, l)) ∙ e.others j (omega (arith, b.0, l)) ∙ i.others k h j l;
      used = uses-next c.loop-i.last.items c.use_node-in-loop-i.new.last.items c.args.level terms c.loop-i.i t c.loop-i-test.true c.index-terms-i.is (λ j. omega (arith, e.grown j, f.grown j)) (omega (arith, e.used, f.grown t.a)) f.used i.used;
    }

pub returns-clause-used : goal.returns-clause-used
returns-clause-used g c = subst (AreUsedTo c.loop-i.last.items c.args.level) (take_all c.loop-i.i c.args.terms.now (omega (arith, c.loop-i-test.false))) c.loop-i.invariant.used

pub loop-i-init : goal.loop-i-init
loop-i-init g c = record { count = refl; grown = λ j. omega arith; others = λ k h j l. refl; used = λ i t l. absurd (omega (arith, l)) }

pub offset_bounds-terms-i : goal.offset_bounds-terms-i
offset_bounds-terms-i g c = omega (arith, c.loop-i-test.true)

pub bounds-terms-i : goal.bounds-terms-i
bounds-terms-i g c = c.loop-i-test.true

pub returns-clause-count : goal.returns-clause-count
returns-clause-count g c = c.loop-i.invariant.count

pub returns-clause-grown : goal.returns-clause-grown
returns-clause-grown g c = c.loop-i.invariant.grown

pub returns-clause-others : goal.returns-clause-others
returns-clause-others g c = c.loop-i.invariant.others
