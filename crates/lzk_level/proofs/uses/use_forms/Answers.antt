use Rattle.std.proofs.Common.{◌≡◌, ◌∙◌, sym, subst, ◌+◌, ◌-◌, length, arith}
use Rattle.lzk_circuit_reduce.specs.Renumbering.{at}
use Rattle.lzk_level.specs.Uses.{node_form, AreBefore, AreUsedTo}
use Rattle.lzk_level.proofs.UseLaws.{form-is, AreServed, none-served, serves-next, all-served}
use Rattle.lzk_level.proofs.uses.use_forms.Goals as goal

pub loop-j-init : goal.loop-j-init
loop-j-init g c =
    let depths = c.args.depths.now in
    record {
      count = c.requires.count;
      grown = λ k. omega arith;
      served = none-served (node_form c.args.inputs c.args.forms.now) depths c.args.last.now.items (length depths - 0) (omega arith);
    }

pub use_form-requires-clause-node : goal.use_form-requires-clause-node
use_form-requires-clause-node g c κs within = omega (arith, c.loop-j.invariant.count, c.loop-j-test.true)

pub use_form-requires-clause-form : goal.use_form-requires-clause-form
use_form-requires-clause-form g c κs within =
    let depths = c.args.depths.now in
    let inputs = c.args.inputs in
    let forms = c.args.forms.now in
    let i = length depths - inputs - 1 - c.loop-j.j in
    let k = inputs + i in
    let is : c.form.result.now ≡ node_form inputs forms k = c.form.ensures ∙ form-is inputs i forms in
    subst (AreBefore k) (sym is) (c.requires.formed.before k (omega arith) (omega (arith, c.loop-j-test.true)))

pub loop-j-preserved : goal.loop-j-preserved
loop-j-preserved g c =
    let depths = c.args.depths.now in
    let inputs = c.args.inputs in
    let forms = c.args.forms.now in
    let i = length depths - inputs - 1 - c.loop-j.j in
    let k = inputs + i in
    let is : c.form.result.now ≡ node_form inputs forms k = c.form.ensures ∙ form-is inputs i forms in
    let old = c.loop-j.last.items in
    let new = c.use_form.new.last.items in
    let e = c.use_form.ensures in
    let v = c.loop-j.invariant in
    let from : length depths - c.loop-j.j ≡ k + 1 = omega (arith, c.loop-j-test.true, c.requires.formed.within) in
    let next : k ≡ length depths - (c.loop-j.j + 1) = omega (arith, c.loop-j-test.true, c.requires.formed.within) in
    record {
      count = omega (arith, e.count, v.count);
      grown = λ j. omega (arith, v.grown j, e.grown j);
      served = subst (AreServed (node_form inputs forms) depths new) next
          (serves-next (node_form inputs forms) depths old new k (length depths - c.loop-j.j) from e.grown e.others
          (λ up. subst (AreUsedTo new (at depths k)) is (e.used up)) v.served);
    }

pub returns-clause-used : goal.returns-clause-used
returns-clause-used g c =
    let depths = c.args.depths.now in
    let inputs = c.args.inputs in
    all-served (node_form inputs c.args.forms.now) depths c.loop-j.last.items inputs (length depths - c.loop-j.j) (omega (arith, c.loop-j-test.false)) c.loop-j.invariant.served

pub overflow_sub-count : goal.overflow_sub-count
overflow_sub-count g c = c.requires.formed.within

pub returns-clause-count : goal.returns-clause-count
returns-clause-count g c = c.loop-j.invariant.count

pub returns-clause-grown : goal.returns-clause-grown
returns-clause-grown g c = c.loop-j.invariant.grown
