use Rattle.std.proofs.Common.{rules, ℕ, ◌≡◌, ◌≤◌, ◌+◌, ◌-◌, ◌*◌, ◌/◌, ◌<◌, min, length, sym, ap, ◌∙◌, arith}
use Rattle.std.specs.Int.{div_ceil}
use Rattle.std.proofs.Math.Nat.{mul-div_cancel}
use Rattle.lzk_field.specs.Sums.{sum_below}
use Rattle.lzk_sumcheck_rounds.specs.Parts.{product_at, sums_in}
use Rattle.lzk_sumcheck_rounds.specs.Rows.{row_at, round_at}
use Rattle.lzk_sumcheck_prover.proofs.Chunks.{shared, share_short, few_chunks, chunks_enough, begins_used, cut, twice}
use Rattle.lzk_sumcheck_rounds.proofs.PartLaws.{sums-chunk, parts-sum}
use Rattle.lzk_sumcheck_prover.proofs.summing.sum_round.Goals as goal

pub overflow_add-round : goal.overflow_add-round
overflow_add-round g c =
    let n = length c.args.round.now.first.now in
    let each = c.div_ceil-each.result in
    let share = shared n c.parts_of-parts.result c.div_ceil.result each c.args.round.now.matching.first c.parts_of-parts.ensures.some c.div_ceil.ensures c.div_ceil-each.ensures in
    let few = few_chunks n (2 * each) share.0 c.parts_of-parts.result share.1 in
    omega (arith, few, c.div_ceil-count.ensures, c.parts_of-parts.ensures.few, c.requires)

pub split_at_mut-used-requires : goal.split_at_mut-used-requires
split_at_mut-used-requires g c =
    let n = length c.args.round.now.first.now in
    let each = c.div_ceil-each.result in
    let share = shared n c.parts_of-parts.result c.div_ceil.result each c.args.round.now.matching.first c.parts_of-parts.ensures.some c.div_ceil.ensures c.div_ceil-each.ensures in
    let few = few_chunks n (2 * each) share.0 c.parts_of-parts.result share.1 in
    omega (arith, few, c.div_ceil-count.ensures, c.parts_of-parts.ensures.few, c.requires)

pub for_each_chunk_mut-requires-clause-accepts : goal.for_each_chunk_mut-requires-clause-accepts
for_each_chunk_mut-requires-clause-accepts g c κs within =
    let n = length c.args.round.now.first.now in
    let each = c.div_ceil-each.result in
    let size = 3 + 2 * each in
    let share = shared n c.parts_of-parts.result c.div_ceil.result each c.args.round.now.matching.first c.parts_of-parts.ensures.some c.div_ceil.ensures c.div_ceil-each.ensures in
    let long : length c.split_at_mut-used.result.0.now ≡ n + 3 * div_ceil n (2 * each) = c.split_at_mut-used.ensures.front_len ∙ ap (λ q. n + 3 * q) c.div_ceil-count.ensures in
    λ start part is.
    let begins : start < n + 3 * div_ceil n (2 * each) = omega (arith, is.in_bounds, is.nonempty, long) in
    let k = cut n (2 * each) share.0 start (length part.now) is.start_is_multiple begins (is.len ∙ ap (λ q. min size (q - start)) long) in
    let at = twice (start / size) each in
    ((omega arith, omega (arith, share.0), omega (arith, k.0, at), k.1 ∙ ap (λ q. 3 + min (2 * each) (n - q)) at), search rules)

pub add_parts-requires-after_bounds : goal.add_parts-requires-after_bounds
add_parts-requires-after_bounds g c κs within = λ k h.
    let n = length c.args.round.now.first.now in
    let each = c.div_ceil-each.result in
    let share = shared n c.parts_of-parts.result c.div_ceil.result each c.args.round.now.matching.first c.parts_of-parts.ensures.some c.div_ceil.ensures c.div_ceil-each.ensures in
    let long : length c.split_at_mut-used.result.0.now ≡ n + 3 * div_ceil n (2 * each) = c.split_at_mut-used.ensures.front_len ∙ ap (λ q. n + 3 * q) c.div_ceil-count.ensures in
    omega (arith, begins_used n (2 * each) share.0 k (omega (arith, h, c.div_ceil-count.ensures)), long, c.for_each_chunk_mut.auto.s)

pub returns : goal.returns
returns g c =
    let m = g.F.Field in
    let o = m.ops in
    let a = c.args.round.now in
    let first = a.first.now in
    let n = length first in
    let each = c.div_ceil-each.result in
    let count = c.div_ceil-count.result in
    let size = 3 + 2 * each in
    let row = row_at o a.of_a a.pairs.now a.scale a.linear.now a.second.now in
    let xs = c.split_at_mut-used.result.0.now in
    let ys = c.for_each_chunk_mut.new.s in
    let share = shared n c.parts_of-parts.result c.div_ceil.result each c.args.round.now.matching.first c.parts_of-parts.ensures.some c.div_ceil.ensures c.div_ceil-each.ensures in
    let long : length xs ≡ n + 3 * div_ceil n (2 * each) = c.split_at_mut-used.ensures.front_len ∙ ap (λ q. n + 3 * q) c.div_ceil-count.ensures in
    let all : n ≤ 2 * (count * each) = omega (arith, chunks_enough n (2 * each) share.0, ap (λ q. q * (2 * each)) c.div_ceil-count.ensures, twice count each) in
    record {
      value = λ half fits t.
          let one : (k : ℕ) → k < count → round_at o (sums_in o ys (k * size)) t ≡ sum_below o each (λ i. product_at o row first t (k * each + i)) =
          λ k h.
          let d = c.for_each_chunk_mut.ensures.chunks k (omega (arith, begins_used n (2 * each) share.0 k (omega (arith, h, c.div_ceil-count.ensures)), long)) in
          let number : k * size / size ≡ k = mul-div_cancel k (omega arith) in
          ap (λ s. round_at o s t) (sym (sums-chunk o ys size k (omega (arith, share.0)))) ∙ sym (ap (λ zs. round_at o (sums_in o zs 0) t) d.left) ∙ d.call.value t
          ∙ ap (λ q. sum_below o each (λ i. product_at o row first t (q * each + i))) number in
          c.add_parts.ensures t ∙ parts-sum o m.laws.ring count each half row first (λ k. round_at o (sums_in o ys (k * size)) t) t one all fits;
    }

pub sum_whole-requires-after_bounds : goal.sum_whole-requires-after_bounds
sum_whole-requires-after_bounds g c = omega (arith, c.requires)

pub returns-then-parts-eq1 : goal.returns-then-parts-eq1
returns-then-parts-eq1 g c = c.sum_whole.ensures

pub div_ceil-each-requires : goal.div_ceil-each-requires
div_ceil-each-requires g c = omega (arith, c.parts_of-parts.ensures.some)

pub div_ceil-count-requires : goal.div_ceil-count-requires
div_ceil-count-requires g c =
    let n = length c.args.round.now.first.now in
    let share = shared n c.parts_of-parts.result c.div_ceil.result c.div_ceil-each.result c.args.round.now.matching.first c.parts_of-parts.ensures.some c.div_ceil.ensures c.div_ceil-each.ensures in
    omega (arith, share.0)

pub overflow_mul-each : goal.overflow_mul-each
overflow_mul-each g c =
    let n = length c.args.round.now.first.now in
    let short : 2 * c.div_ceil-each.result < n + 2 = share_short n c.parts_of-parts.result c.div_ceil.result c.div_ceil-each.result c.parts_of-parts.ensures.some c.div_ceil.ensures c.div_ceil-each.ensures in
    omega arith

pub overflow_mul-size : goal.overflow_mul-size
overflow_mul-size g c =
    let n = length c.args.round.now.first.now in
    let short : 2 * c.div_ceil-each.result < n + 2 = share_short n c.parts_of-parts.result c.div_ceil.result c.div_ceil-each.result c.parts_of-parts.ensures.some c.div_ceil.ensures c.div_ceil-each.ensures in
    omega arith

pub overflow_add-size : goal.overflow_add-size
overflow_add-size g c =
    let n = length c.args.round.now.first.now in
    let short : 2 * c.div_ceil-each.result < n + 2 = share_short n c.parts_of-parts.result c.div_ceil.result c.div_ceil-each.result c.parts_of-parts.ensures.some c.div_ceil.ensures c.div_ceil-each.ensures in
    omega arith

pub overflow_mul-count : goal.overflow_mul-count
overflow_mul-count g c =
    let n = length c.args.round.now.first.now in
    let each = c.div_ceil-each.result in
    let share = shared n c.parts_of-parts.result c.div_ceil.result each c.args.round.now.matching.first c.parts_of-parts.ensures.some c.div_ceil.ensures c.div_ceil-each.ensures in
    omega (arith, few_chunks n (2 * each) share.0 c.parts_of-parts.result share.1, c.div_ceil-count.ensures, c.parts_of-parts.ensures.few)
