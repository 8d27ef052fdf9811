use Rattle.std.proofs.Common.{◌≡◌, ◌≤◌, ◌+◌, ◌-◌, ◌*◌, min, length, take, drop, ap, ◌∙◌, arith}
use Rattle.std.proofs.Common.{length-take, length-drop}
use Rattle.std.proofs.lemmas.List.{get_or-take, get_or-drop, get_or_past}
use Rattle.lzk_field.specs.Sums.{entry}
use Rattle.lzk_sumcheck_rounds.specs.Rows.{row_at, round_at}
use Rattle.lzk_sumcheck_rounds.proofs.PartLaws.{three-put, row-past, part-entries, part-sum}
use Rattle.lzk_sumcheck.proofs.ProvingLaws.{times-less}
use Rattle.lzk_sumcheck_rounds.proofs.parts.sum_part.Goals as goal

pub set_rows_from-requires-clause-within : goal.set_rows_from-requires-clause-within
set_rows_from-requires-clause-within g c κs within = omega (arith, c.requires.begin, c.requires.part, c.split_at_mut-sums.ensures.back_len)

pub returns : goal.returns
returns g c =
    let m = g.F.Field in
    let o = m.ops in
    let r = m.laws.ring in
    let a = c.args.round.now in
    let each = c.args.each in
    let first = a.first.now in
    let n = length first in
    let begin = c.args.k * each in
    let row = row_at o a.of_a a.pairs.now a.scale a.linear.now a.second.now in
    let sums = c.split_at_mut-sums.result.0.now in
    let rows = c.set_rows_from.new.rows in
    let count = length c.split_at_mut-sums.result.1.now in
    let long = 2 * begin + count - 2 * begin in
    let part = take long (drop (2 * begin) first) in
    let three : length sums ≡ 3 = omega (arith, c.split_at_mut-sums.ensures.front_len) in
    let own : count ≡ min (2 * each) (n - 2 * begin) = omega (arith, c.split_at_mut-sums.ensures.back_len, c.requires.part) in
    let size : length rows ≡ min (2 * each) (n - 2 * begin) = c.set_rows_from.auto.rows ∙ own in
    let width : length part ≡ min (2 * each) (n - 2 * begin) = length-take long (drop (2 * begin) first) ∙ ap (min long) (length-drop (2 * begin) first) ∙ omega (arith, own) in
    let fits : length part ≤ 2 * each = omega (arith, width) in
    let x = c.round_sums-total.result in
    record {
      value = λ t. ap (λ s. round_at o s t) (three-put o sums rows x.all x.even x.lead three)
          ∙ c.round_sums-total.ensures each fits t
          ∙ part-sum o r begin each row first rows part t
          (part-entries o r begin each n row rows size (λ i h. c.set_rows_from.ensures i (omega (arith, h, c.set_rows_from.auto.rows)))
          (λ i past. row-past o r a.of_a n (length a.second.now) a.pairs.now a.scale a.linear.now a.second.now i a.matching.pairs a.matching.first a.matching.for_b past))
          (part-entries o r begin each n (entry o first) part width (λ i h. get_or-take long (drop (2 * begin) first) i o.zero (omega (arith, h, width, own)) ∙ get_or-drop (2 * begin) first i o.zero)
          (λ i past. get_or_past first i o.zero past));
    }

pub split_at_mut-sums-requires : goal.split_at_mut-sums-requires
split_at_mut-sums-requires g c = omega (arith, c.requires.part)

pub set_rows_from-requires-clause-some : goal.set_rows_from-requires-clause-some
set_rows_from-requires-clause-some g c = omega (arith, c.requires.begin, c.requires.some, c.requires.part, c.split_at_mut-sums.ensures.back_len)

pub offset_bounds-round-from : goal.offset_bounds-round-from
offset_bounds-round-from g c = omega (arith, c.requires.begin)

pub slice_bounds-round_sums-count : goal.slice_bounds-round_sums-count
slice_bounds-round_sums-count g c = omega arith

pub offset_bounds-0 : goal.offset_bounds-0
offset_bounds-0 g c = record { fits = times-less 0 (length c.split_at_mut-sums.result.0.now) _ _ (omega (arith, c.split_at_mut-sums.ensures.front_len)) (omega arith) }

pub offset_bounds-1 : goal.offset_bounds-1
offset_bounds-1 g c = record { fits = times-less 1 (length c.split_at_mut-sums.result.0.now) _ _ (omega (arith, c.split_at_mut-sums.ensures.front_len)) (omega arith) }

pub offset_bounds-2 : goal.offset_bounds-2
offset_bounds-2 g c = record { fits = times-less 2 (length c.split_at_mut-sums.result.0.now) _ _ (omega (arith, c.split_at_mut-sums.ensures.front_len)) (omega arith) }
