use Rattle.std.specs.Prelude.{length}
use Rattle.std.proofs.Common.{sym, ap, ◌∙◌, arith, subst}
use Rattle.lzk_accept.specs.Challenges.{HasShape}
use Rattle.lzk_accept.specs.Checks.{coefficient_of, combined_row_of}
use Rattle.lzk_ligero_answers.specs.Coefficients.{AreFactored, AreListed}
use Rattle.lzk_sumcheck.specs.Coefficients.{AreBounds}
use Rattle.lzk_sumcheck.proofs.Filled.{refill_whole}
use Rattle.lzk_ligero_steps.proofs.CoefficientLaws.{factored_are, listed_are, room_for}
use Rattle.lzk_ligero_steps.proofs.answering.answer_linear.Goals as goal

pub invariant_of-combined : goal.invariant_of-combined
invariant_of-combined g c =
    let plan = c.args.asked.now.plan.now in
    let room = c.combine_with_bounds.ensures.room in
    let sizes = room_for plan.circuit.now plan.params plan.are plan.bounded c.combine_with_bounds.new.factored room in
    record {
      few = sizes.0;
      by_row = ap length c.as_slice.ensures ∙ room.row_factors;
      by_place = ap length c.as_slice-2.ensures ∙ sizes.1;
      count = ap length c.as_slice-3.ensures ∙ sizes.2;
    }

pub combine_with_bounds-requires-clause-public : goal.combine_with_bounds-requires-clause-public
combine_with_bounds-requires-clause-public g c κs within = c.args.asked.now.publics

pub combine_with_bounds-requires-clause-script : goal.combine_with_bounds-requires-clause-script
combine_with_bounds-requires-clause-script g c κs within = c.args.asked.now.script_fits

pub combine_with_bounds-requires-clause-messages : goal.combine_with_bounds-requires-clause-messages
combine_with_bounds-requires-clause-messages g c κs within = c.requires.messages

pub combine_with_bounds-requires-clause-challenges : goal.combine_with_bounds-requires-clause-challenges
combine_with_bounds-requires-clause-challenges g c κs within =
    let asked = c.args.asked.now in
    subst (λ p. HasShape p asked.challenges.now) asked.plan.now.are asked.challenges_fit

pub combine_with_bounds-requires-clause-bounds : goal.combine_with_bounds-requires-clause-bounds
combine_with_bounds-requires-clause-bounds g c κs within =
    let asked = c.args.asked.now in
    subst (AreBounds g.F.Field.ops asked.plan.now.circuit.now asked.script.now) (sym c.bounds.ensures.bounds) c.requires.bounds

pub combine_with_bounds-requires-clause-forms : goal.combine_with_bounds-requires-clause-forms
combine_with_bounds-requires-clause-forms g c κs within = c.requires.room.forms

pub combine_with_bounds-requires-clause-room : goal.combine_with_bounds-requires-clause-room
combine_with_bounds-requires-clause-room g c κs within = c.requires.room.factored

pub invariant_of-rows : goal.invariant_of-rows
invariant_of-rows g c =
    let asked = c.args.asked.now in
    let b = asked.plan.now.bounded in
    record {
      bounded = b;
      inside = omega (arith, asked.table_fits);
      wide = omega (arith, b.columns);
    }

pub linear_by_factors_into-requires-clause-reach : goal.linear_by_factors_into-requires-clause-reach
linear_by_factors_into-requires-clause-reach g c κs within = c.requires.reach

pub linear_by_factors_into-requires-clause-room : goal.linear_by_factors_into-requires-clause-room
linear_by_factors_into-requires-clause-room g c κs within = omega (arith, c.requires.room.sums, ap length c.as_mut_slice.ensures.value)

pub linear_by_factors_into-requires-clause-answer : goal.linear_by_factors_into-requires-clause-answer
linear_by_factors_into-requires-clause-answer g c κs within = ap length c.as_mut_slice-2.ensures.value ∙ c.requires.answer

pub returns-clause-room : goal.returns-clause-room
returns-clause-room g c =
    let room = c.requires.room in
    let old = c.args.room.now.sums in
    let size = c.linear_by_factors_into.ensures.room ∙ ap length c.as_mut_slice.ensures.value in
    record {
      rounds = room.rounds;
      forms = c.combine_with_bounds.ensures.forms;
      factored = c.combine_with_bounds.ensures.room;
      sums = omega (arith, room.sums, ap length (refill_whole (length old) old c.linear_by_factors_into.new.room size), size);
      values = room.values;
    }

pub returns-clause-answer : goal.returns-clause-answer
returns-clause-answer g c =
    let old = c.args.answer.now in
    let size = c.linear_by_factors_into.ensures.answer ∙ ap length c.as_mut_slice-2.ensures.value in
    ap length (refill_whole (length old) old c.linear_by_factors_into.new.answer size) ∙ size ∙ c.requires.answer

pub returns-clause-values : goal.returns-clause-values
returns-clause-values g c = λ rows count table.
    let f = g.F.Field in
    let o = f.ops in
    let pt = f.coding.element in
    let a = c.args in
    let s = a.asked.now in
    let p = s.plan.now.params in
    let is = s.plan.now.are in
    let w = s.plan.now.circuit.now in
    let challenges = a.asked.now.challenges.now in
    let q = coefficient_of o pt w s.public.now a.asked.now.script.now a.messages.now in
    let lists = combined_row_of o pt w s.public.now a.asked.now.script.now a.messages.now challenges in
    let all = c.combine_with_bounds.ensures.combined in
    let k = c.combine_with_bounds.new.factored in
    let old = a.answer.now in
    let new = c.linear_by_factors_into.new.answer in
    let by_rows = subst (λ xs. AreFactored o p k.rows 4 xs k.place_factors lists) (sym c.as_slice.ensures) (factored_are o w q challenges p is k all) in
    let by_places = subst (λ xs. AreFactored o p k.rows 4 c.as_slice.result.now xs lists) (sym c.as_slice-2.ensures) by_rows in
    let others = subst (λ xs. AreListed o p k.rows xs lists) (sym c.as_slice-3.ensures) (listed_are o w q challenges p is k all) in
    refill_whole (length old) old new (omega (arith, ap length c.as_mut_slice-2.ensures.value, c.linear_by_factors_into.auto.answer))
    ∙ c.linear_by_factors_into.ensures.values rows lists count table by_places others
