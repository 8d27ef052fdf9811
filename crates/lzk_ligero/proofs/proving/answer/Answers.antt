use Rattle.std.proofs.Common.{◌≡◌, length, refl, ap, ◌∙◌, arith, subst}
use Rattle.lzk_poly.specs.Through.{values_of}
use Rattle.lzk_accept.specs.Checks.{combined_row_of}
use Rattle.lzk_ligero_answers.specs.Answers.{linear_answer}
use Rattle.lzk_ligero.proofs.proving.answer.Goals as goal

pub answer_low_degree-requires-clause-room : goal.answer_low_degree-requires-clause-room
answer_low_degree-requires-clause-room g c κs within = omega (arith, c.requires.room.sums)

pub answer_low_degree-requires-clause-answer : goal.answer_low_degree-requires-clause-answer
answer_low_degree-requires-clause-answer g c κs within = c.requires.lengths.ldt

pub answer_linear-requires-clause-messages : goal.answer_linear-requires-clause-messages
answer_linear-requires-clause-messages g c κs within =
    ap length c.as_slice.ensures ∙ c.requires.lengths.messages ∙ ap (λ p. p.nsum) c.args.asked.now.plan.now.are

pub answer_linear-requires-clause-reach : goal.answer_linear-requires-clause-reach
answer_linear-requires-clause-reach g c κs within = c.requires.reach

pub answer_linear-requires-clause-room : goal.answer_linear-requires-clause-room
answer_linear-requires-clause-room g c κs within =
    let room = c.requires.room in
    record {
      rounds = room.rounds;
      forms = room.forms;
      factored = room.factored;
      sums = omega (arith, room.sums, c.answer_low_degree.ensures.room);
      values = room.values;
    }

pub answer_linear-requires-clause-bounds : goal.answer_linear-requires-clause-bounds
answer_linear-requires-clause-bounds g c κs within = c.requires.bounds

pub answer_linear-requires-clause-answer : goal.answer_linear-requires-clause-answer
answer_linear-requires-clause-answer g c κs within = c.requires.lengths.dot

pub answer_quadratic-requires-clause-room : goal.answer_quadratic-requires-clause-room
answer_quadratic-requires-clause-room g c κs within = c.answer_linear.ensures.room.values

pub answer_quadratic-requires-clause-head : goal.answer_quadratic-requires-clause-head
answer_quadratic-requires-clause-head g c κs within = c.requires.lengths.quad_head

pub answer_quadratic-requires-clause-tail : goal.answer_quadratic-requires-clause-tail
answer_quadratic-requires-clause-tail g c κs within = c.requires.lengths.quad_tail

pub returns-clause-room : goal.returns-clause-room
returns-clause-room g c =
    let room = c.answer_linear.ensures.room in
    record {
      rounds = room.rounds;
      forms = room.forms;
      factored = room.factored;
      sums = room.sums;
      values = c.answer_quadratic.ensures.room;
    }

pub returns-clause-lengths : goal.returns-clause-lengths
returns-clause-lengths g c =
    let lengths = c.requires.lengths in
    record {
      messages = lengths.messages;
      ldt = c.answer_low_degree.ensures.answer;
      dot = c.answer_linear.ensures.answer;
      quad_head = c.answer_quadratic.ensures.head_length;
      quad_tail = c.answer_quadratic.ensures.tail_length;
      nonces = lengths.nonces;
      columns = lengths.columns;
    }

pub returns-clause-id : goal.returns-clause-id
returns-clause-id g c = refl

pub returns-clause-root : goal.returns-clause-root
returns-clause-root g c = refl

pub returns-clause-messages : goal.returns-clause-messages
returns-clause-messages g c = refl

pub returns-clause-path : goal.returns-clause-path
returns-clause-path g c = refl

pub returns-clause-answers : goal.returns-clause-answers
returns-clause-answers g c rows count table =
    let f = g.F.Field in
    let o = f.ops in
    let point = f.coding.element in
    let asked = c.args.asked.now in
    let p = asked.plan.now.params in
    record {
      low_degree = c.answer_low_degree.ensures.values rows count table;
      linear = subst
          (λ ms. c.answer_linear.new.answer ≡ values_of o point p.dblock (linear_answer o point p rows (combined_row_of o point asked.plan.now.circuit.now asked.public.now asked.script.now ms asked.challenges.now))) c.as_slice.ensures
          (c.answer_linear.ensures.values rows count table);
      quad_head = c.answer_quadratic.ensures.head rows count table;
      quad_tail = c.answer_quadratic.ensures.tail rows count table;
    }
