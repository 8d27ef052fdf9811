use Rattle.std.proofs.Common.{length, ap, ◌∙◌, arith}
use Rattle.lzk_poly.specs.Through.{values_of}
use Rattle.lzk_sumcheck.proofs.Filled.{refill_whole}
use Rattle.lzk_ligero_answers.specs.Answers.{low_degree_answer}
use Rattle.lzk_ligero_steps.proofs.Written.{written}
use Rattle.lzk_ligero_steps.proofs.answering.answer_low_degree.Goals as goal

pub invariant_of-rows : goal.invariant_of-rows
invariant_of-rows g c =
    let asked = c.args.asked.now in
    let b = asked.plan.now.bounded in
    record {
      bounded = b;
      inside = omega (arith, asked.table_fits);
      wide = omega (arith, b.columns);
    }

pub low_degree_into-requires-clause-u : goal.low_degree_into-requires-clause-u
low_degree_into-requires-clause-u g c κs within = ap length c.as_slice.ensures ∙ c.args.asked.now.challenges_fit.u

pub low_degree_into-requires-clause-room : goal.low_degree_into-requires-clause-room
low_degree_into-requires-clause-room g c κs within =
    let b = c.args.asked.now.plan.now.bounded in
    omega (arith, ap length c.as_mut_slice.ensures.value, c.requires.room, b.wide, b.block, b.dblock)

pub low_degree_into-requires-clause-answer : goal.low_degree_into-requires-clause-answer
low_degree_into-requires-clause-answer g c κs within = ap length c.as_mut_slice-2.ensures.value ∙ c.requires.answer

pub returns-clause-room : goal.returns-clause-room
returns-clause-room g c =
    let size = c.low_degree_into.ensures.room ∙ ap length c.as_mut_slice.ensures.value in
    ap length (refill_whole (length c.args.room.now) c.args.room.now c.low_degree_into.new.room size) ∙ size

pub returns-clause-answer : goal.returns-clause-answer
returns-clause-answer g c =
    let size = c.low_degree_into.ensures.answer ∙ ap length c.as_mut_slice-2.ensures.value in
    ap length (refill_whole (length c.args.answer.now) c.args.answer.now c.low_degree_into.new.answer size) ∙ size ∙ c.requires.answer

pub returns-clause-values : goal.returns-clause-values
returns-clause-values g c rows count table =
    let asked = c.args.asked.now in
    let f = g.F.Field in
    let size = c.low_degree_into.ensures.answer ∙ ap length c.as_mut_slice-2.ensures.value in
    written (λ u. values_of f.ops f.coding.element asked.plan.now.params.block (low_degree_answer f.ops f.coding.element asked.plan.now.params rows u)) c.args.answer.now c.low_degree_into.new.answer c.as_slice.result.now asked.challenges.now.u size
    (c.low_degree_into.ensures.values rows count table) c.as_slice.ensures
