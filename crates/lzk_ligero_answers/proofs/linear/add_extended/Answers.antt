use Rattle.std.proofs.Common.{arith, ap, sym, ◌∙◌}
use Rattle.lzk_field.specs.Sums.{entry}
use Rattle.lzk_ligero_answers.proofs.linear.add_extended.Goals as goal

pub returns-clause-values : goal.returns-clause-values
returns-clause-values g c list are k h =
    let o = g.F.Field.ops in
    c.add_list.ensures.entries k (omega (arith, h, c.requires.answer))
    ∙ ap (o.plus (entry o c.args.answer.now k)) (c.multiply_list.ensures.entries k (omega (arith, h, c.extend_coefficients.ensures.row, c.split_at_mut-row.ensures.front_len)) ∙ ap (λ w. o.times w (entry o c.args.values.now k)) (c.extend_coefficients.ensures.values list are k h))

pub extend_coefficients-requires-clause-row : goal.extend_coefficients-requires-clause-row
extend_coefficients-requires-clause-row g c κs within = c.split_at_mut-row.ensures.front_len

pub multiply_list-requires-after_bounds : goal.multiply_list-requires-after_bounds
multiply_list-requires-after_bounds g c κs within = c.requires.values ∙ sym (c.extend_coefficients.ensures.row ∙ c.split_at_mut-row.ensures.front_len)

pub add_list-requires-after_bounds : goal.add_list-requires-after_bounds
add_list-requires-after_bounds g c κs within = c.multiply_list.ensures.length ∙ c.extend_coefficients.ensures.row ∙ c.split_at_mut-row.ensures.front_len ∙ sym c.requires.answer

pub returns-clause-answer : goal.returns-clause-answer
returns-clause-answer g c = c.add_list.ensures.length
