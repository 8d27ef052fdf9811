use Rattle.std.proofs.Common.{length, take, drop, ap, ◌∙◌, arith}
use Rattle.lzk_profile.specs.Profile.{opened_count}
use Rattle.lzk_poly.specs.Through.{values_of}
use Rattle.lzk_sumcheck.proofs.Filled.{refill_whole}
use Rattle.lzk_ligero_answers.specs.Answers.{quadratic_answer}
use Rattle.lzk_ligero_steps.proofs.Written.{written}
use Rattle.lzk_ligero_steps.proofs.answering.answer_quadratic.Goals as goal

pub invariant_of-rows : goal.invariant_of-rows
invariant_of-rows g c =
    let asked = c.args.asked.now in
    let b = asked.plan.now.bounded in
    record {
      bounded = b;
      inside = omega (arith, asked.table_fits);
      wide = omega (arith, b.columns);
    }

pub quadratic_into-requires-clause-v : goal.quadratic_into-requires-clause-v
quadratic_into-requires-clause-v g c κs within = ap length c.as_slice.ensures ∙ c.args.asked.now.challenges_fit.v

pub quadratic_into-requires-clause-answer : goal.quadratic_into-requires-clause-answer
quadratic_into-requires-clause-answer g c κs within = ap length c.as_mut_slice.ensures.value ∙ c.requires.room

pub set_ends-requires-clause-all : goal.set_ends-requires-clause-all
set_ends-requires-clause-all g c κs within =
    let size = c.quadratic_into.ensures.answer ∙ ap length c.as_mut_slice.ensures.value in
    ap length (c.as_slice-2.ensures ∙ refill_whole (length c.args.values.now) c.args.values.now c.quadratic_into.new.answer size) ∙ size ∙ c.requires.room

pub set_ends-requires-clause-head : goal.set_ends-requires-clause-head
set_ends-requires-clause-head g c κs within = c.requires.head

pub set_ends-requires-clause-tail : goal.set_ends-requires-clause-tail
set_ends-requires-clause-tail g c κs within = c.requires.tail

pub returns-clause-room : goal.returns-clause-room
returns-clause-room g c =
    let size = c.quadratic_into.ensures.answer ∙ ap length c.as_mut_slice.ensures.value in
    ap length (refill_whole (length c.args.values.now) c.args.values.now c.quadratic_into.new.answer size) ∙ size ∙ c.requires.room

pub returns-clause-head_length : goal.returns-clause-head_length
returns-clause-head_length g c = c.set_ends.ensures.head_length

pub returns-clause-tail_length : goal.returns-clause-tail_length
returns-clause-tail_length g c = c.set_ends.ensures.tail_length

pub returns-clause-head : goal.returns-clause-head
returns-clause-head g c rows count table =
    let asked = c.args.asked.now in
    let p = asked.plan.now.params in
    let f = g.F.Field in
    let size = c.quadratic_into.ensures.answer ∙ ap length c.as_mut_slice.ensures.value in
    let all =
    written (λ v. values_of f.ops f.coding.element p.dblock (quadratic_answer f.ops f.coding.element p rows v)) c.args.values.now c.quadratic_into.new.answer c.as_slice.result.now asked.challenges.now.v size
    (c.quadratic_into.ensures.values rows count table) c.as_slice.ensures in
    c.set_ends.ensures.head ∙ ap (λ xs. take opened_count xs) (c.as_slice-2.ensures ∙ all)

pub returns-clause-tail : goal.returns-clause-tail
returns-clause-tail g c rows count table =
    let asked = c.args.asked.now in
    let p = asked.plan.now.params in
    let f = g.F.Field in
    let size = c.quadratic_into.ensures.answer ∙ ap length c.as_mut_slice.ensures.value in
    let all =
    written (λ v. values_of f.ops f.coding.element p.dblock (quadratic_answer f.ops f.coding.element p rows v)) c.args.values.now c.quadratic_into.new.answer c.as_slice.result.now asked.challenges.now.v size
    (c.quadratic_into.ensures.values rows count table) c.as_slice.ensures in
    c.set_ends.ensures.tail ∙ ap (λ xs. drop p.block xs) (c.as_slice-2.ensures ∙ all)
