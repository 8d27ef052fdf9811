use Rattle.std.proofs.Common.{◌≡◌, ◌+◌, ◌-◌, ◌*◌, ◌<◌, ◌≤◌, min, refl, arith, ap, ◌∙◌}
use Rattle.std.specs.Int.{div_ceil}
use Rattle.std.proofs.Math.Nat.{mul-le-mul_right}
use Rattle.lzk_ligero_tableau.proofs.ChunkLaws.{chunks_enough, begins_below}
use Rattle.lzk_ligero_tableau.proofs.GapLaws.{some_each, few_chunks, chunk_inside, chunk_ends, first_moved, next_moved}
use Rattle.lzk_ligero_tableau.proofs.gaps.close_gaps.Goals as goal

pub loop-n-init : goal.loop-n-init
loop-n-init g c =
    let p = c.args.source.now.given.now.plan.now.params in
    let each = c.div_ceil-each.result in
    let rows : 0 < p.nrow = omega (arith, c.args.source.now.given.now.plan.now.bounded.rows) in
    let some : 0 < each = rw c.div_ceil-each.ensures (some_each p.nrow c.args.crew.now.workers rows (omega (arith, c.args.crew.now.some, c.args.crew.now.few))) in
    record { length = refl; moved = first_moved g.F.Field.ops p.nrow p.ncol each c.args.source.now.room some c.args.table.now; later = λ j h. refl }

pub overflow_mul-n-in-loop-n : goal.overflow_mul-n-in-loop-n
overflow_mul-n-in-loop-n g c =
    let p = c.args.source.now.given.now.plan.now.params in
    let each = c.div_ceil-each.result in
    let rows : 0 < p.nrow = omega (arith, c.args.source.now.given.now.plan.now.bounded.rows) in
    let some : 0 < each = rw c.div_ceil-each.ensures (some_each p.nrow c.args.crew.now.workers rows (omega (arith, c.args.crew.now.some, c.args.crew.now.few))) in
    let n = c.loop-n.n in
    let is_each : each ≡ div_ceil p.nrow c.args.crew.now.workers = c.div_ceil-each.ensures in
    let end : c.div_ceil-n-end.result ≡ div_ceil p.nrow each = c.div_ceil-n-end.ensures in
    let below : n < div_ceil p.nrow each = omega (arith, end) in
    let few : div_ceil p.nrow each ≤ c.args.crew.now.workers = rw is_each (few_chunks p.nrow c.args.crew.now.workers rows (omega (arith, c.args.crew.now.some, c.args.crew.now.few))) in
    let count : c.min-count.result ≡ min each (p.nrow - n * each) = c.min-count.ensures in
    let wide : c.min-count.result * p.ncol ≡ min each (p.nrow - n * each) * p.ncol = ap (λ m. m * p.ncol) count in
    let inside = chunk_inside p.nrow p.ncol each c.args.source.now.room some n c.args.crew.now.workers below (omega (arith, c.args.crew.now.some, c.args.crew.now.few)) in
    omega (arith, inside, c.requires.table)

pub overflow_add-to : goal.overflow_add-to
overflow_add-to g c =
    let p = c.args.source.now.given.now.plan.now.params in
    let each = c.div_ceil-each.result in
    let rows : 0 < p.nrow = omega (arith, c.args.source.now.given.now.plan.now.bounded.rows) in
    let some : 0 < each = rw c.div_ceil-each.ensures (some_each p.nrow c.args.crew.now.workers rows (omega (arith, c.args.crew.now.some, c.args.crew.now.few))) in
    let n = c.loop-n.n in
    let is_each : each ≡ div_ceil p.nrow c.args.crew.now.workers = c.div_ceil-each.ensures in
    let end : c.div_ceil-n-end.result ≡ div_ceil p.nrow each = c.div_ceil-n-end.ensures in
    let below : n < div_ceil p.nrow each = omega (arith, end) in
    let few : div_ceil p.nrow each ≤ c.args.crew.now.workers = rw is_each (few_chunks p.nrow c.args.crew.now.workers rows (omega (arith, c.args.crew.now.some, c.args.crew.now.few))) in
    let count : c.min-count.result ≡ min each (p.nrow - n * each) = c.min-count.ensures in
    let wide : c.min-count.result * p.ncol ≡ min each (p.nrow - n * each) * p.ncol = ap (λ m. m * p.ncol) count in
    let inside = chunk_inside p.nrow p.ncol each c.args.source.now.room some n c.args.crew.now.workers below (omega (arith, c.args.crew.now.some, c.args.crew.now.few)) in
    omega (arith, inside, c.requires.table)

pub move_down-requires-clause-inside : goal.move_down-requires-clause-inside
move_down-requires-clause-inside g c =
    let p = c.args.source.now.given.now.plan.now.params in
    let each = c.div_ceil-each.result in
    let rows : 0 < p.nrow = omega (arith, c.args.source.now.given.now.plan.now.bounded.rows) in
    let some : 0 < each = rw c.div_ceil-each.ensures (some_each p.nrow c.args.crew.now.workers rows (omega (arith, c.args.crew.now.some, c.args.crew.now.few))) in
    let n = c.loop-n.n in
    let is_each : each ≡ div_ceil p.nrow c.args.crew.now.workers = c.div_ceil-each.ensures in
    let end : c.div_ceil-n-end.result ≡ div_ceil p.nrow each = c.div_ceil-n-end.ensures in
    let below : n < div_ceil p.nrow each = omega (arith, end) in
    let few : div_ceil p.nrow each ≤ c.args.crew.now.workers = rw is_each (few_chunks p.nrow c.args.crew.now.workers rows (omega (arith, c.args.crew.now.some, c.args.crew.now.few))) in
    let count : c.min-count.result ≡ min each (p.nrow - n * each) = c.min-count.ensures in
    let wide : c.min-count.result * p.ncol ≡ min each (p.nrow - n * each) * p.ncol = ap (λ m. m * p.ncol) count in
    let inside = chunk_inside p.nrow p.ncol each c.args.source.now.room some n c.args.crew.now.workers below (omega (arith, c.args.crew.now.some, c.args.crew.now.few)) in
    omega (arith, inside, wide, c.requires.table, c.loop-n.invariant.length)

pub loop-n-preserved : goal.loop-n-preserved
loop-n-preserved g c =
    let p = c.args.source.now.given.now.plan.now.params in
    let each = c.div_ceil-each.result in
    let rows : 0 < p.nrow = omega (arith, c.args.source.now.given.now.plan.now.bounded.rows) in
    let some : 0 < each = rw c.div_ceil-each.ensures (some_each p.nrow c.args.crew.now.workers rows (omega (arith, c.args.crew.now.some, c.args.crew.now.few))) in
    let n = c.loop-n.n in
    let is_each : each ≡ div_ceil p.nrow c.args.crew.now.workers = c.div_ceil-each.ensures in
    let end : c.div_ceil-n-end.result ≡ div_ceil p.nrow each = c.div_ceil-n-end.ensures in
    let below : n < div_ceil p.nrow each = omega (arith, end) in
    let few : div_ceil p.nrow each ≤ c.args.crew.now.workers = rw is_each (few_chunks p.nrow c.args.crew.now.workers rows (omega (arith, c.args.crew.now.some, c.args.crew.now.few))) in
    let count : c.min-count.result ≡ min each (p.nrow - n * each) = c.min-count.ensures in
    let wide : c.min-count.result * p.ncol ≡ min each (p.nrow - n * each) * p.ncol = ap (λ m. m * p.ncol) count in
    let inside = chunk_inside p.nrow p.ncol each c.args.source.now.room some n c.args.crew.now.workers below (omega (arith, c.args.crew.now.some, c.args.crew.now.few)) in
    record {
      length = omega (arith, c.move_down.ensures.length, c.loop-n.invariant.length);
      moved = next_moved g.F.Field.ops p.nrow p.ncol each c.args.source.now.room some n (n * each * p.ncol) (n * each * p.ncol + n * c.args.source.now.room) c.min-count.result (c.min-count.result * p.ncol) c.args.table.now c.loop-n.table c.move_down.new.table refl refl count refl
          c.loop-n.invariant.moved c.loop-n.invariant.later c.move_down.ensures.moved c.move_down.ensures.before;
      later = λ j h. c.move_down.ensures.behind j (omega (arith, wide, chunk_ends p.nrow p.ncol each c.args.source.now.room some n)) ∙ c.loop-n.invariant.later j (omega (arith, wide, chunk_ends p.nrow p.ncol each c.args.source.now.room some n));
    }

pub returns-clause-rows : goal.returns-clause-rows
returns-clause-rows g c =
    let p = c.args.source.now.given.now.plan.now.params in
    let each = c.div_ceil-each.result in
    let rows : 0 < p.nrow = omega (arith, c.args.source.now.given.now.plan.now.bounded.rows) in
    let some : 0 < each = rw c.div_ceil-each.ensures (some_each p.nrow c.args.crew.now.workers rows (omega (arith, c.args.crew.now.some, c.args.crew.now.few))) in
    let end : c.div_ceil-n-end.result ≡ div_ceil p.nrow each = c.div_ceil-n-end.ensures in
    let all : div_ceil p.nrow each * each ≤ c.loop-n.n * each = mul-le-mul_right each (omega (arith, end)) in
    rw (← c.div_ceil-each.ensures) (λ i k h l. c.loop-n.invariant.moved i k (omega (arith, all, chunks_enough p.nrow each some)) h l)

pub move_down-requires-clause-down : goal.move_down-requires-clause-down
move_down-requires-clause-down g c κs within = omega arith

pub returns-clause-length : goal.returns-clause-length
returns-clause-length g c = c.loop-n.invariant.length

pub div_ceil-each-requires : goal.div_ceil-each-requires
div_ceil-each-requires g c = omega (arith, c.args.crew.now.some)

pub div_ceil-n-end-requires : goal.div_ceil-n-end-requires
div_ceil-n-end-requires g c =
    let p = c.args.source.now.given.now.plan.now.params in
    let each = c.div_ceil-each.result in
    let rows : 0 < p.nrow = omega (arith, c.args.source.now.given.now.plan.now.bounded.rows) in
    let some : 0 < each = rw c.div_ceil-each.ensures (some_each p.nrow c.args.crew.now.workers rows (omega (arith, c.args.crew.now.some, c.args.crew.now.few))) in
    omega (arith, some)

pub overflow_mul-to-in-loop-n : goal.overflow_mul-to-in-loop-n
overflow_mul-to-in-loop-n g c =
    let p = c.args.source.now.given.now.plan.now.params in
    let each = c.div_ceil-each.result in
    let rows : 0 < p.nrow = omega (arith, c.args.source.now.given.now.plan.now.bounded.rows) in
    let some : 0 < each = rw c.div_ceil-each.ensures (some_each p.nrow c.args.crew.now.workers rows (omega (arith, c.args.crew.now.some, c.args.crew.now.few))) in
    let n = c.loop-n.n in
    let is_each : each ≡ div_ceil p.nrow c.args.crew.now.workers = c.div_ceil-each.ensures in
    let end : c.div_ceil-n-end.result ≡ div_ceil p.nrow each = c.div_ceil-n-end.ensures in
    let below : n < div_ceil p.nrow each = omega (arith, end) in
    let few : div_ceil p.nrow each ≤ c.args.crew.now.workers = rw is_each (few_chunks p.nrow c.args.crew.now.workers rows (omega (arith, c.args.crew.now.some, c.args.crew.now.few))) in
    let count : c.min-count.result ≡ min each (p.nrow - n * each) = c.min-count.ensures in
    let wide : c.min-count.result * p.ncol ≡ min each (p.nrow - n * each) * p.ncol = ap (λ m. m * p.ncol) count in
    let inside = chunk_inside p.nrow p.ncol each c.args.source.now.room some n c.args.crew.now.workers below (omega (arith, c.args.crew.now.some, c.args.crew.now.few)) in
    omega (arith, inside, c.requires.table)

pub overflow_mul-count : goal.overflow_mul-count
overflow_mul-count g c =
    let p = c.args.source.now.given.now.plan.now.params in
    let each = c.div_ceil-each.result in
    let rows : 0 < p.nrow = omega (arith, c.args.source.now.given.now.plan.now.bounded.rows) in
    let some : 0 < each = rw c.div_ceil-each.ensures (some_each p.nrow c.args.crew.now.workers rows (omega (arith, c.args.crew.now.some, c.args.crew.now.few))) in
    let n = c.loop-n.n in
    let is_each : each ≡ div_ceil p.nrow c.args.crew.now.workers = c.div_ceil-each.ensures in
    let end : c.div_ceil-n-end.result ≡ div_ceil p.nrow each = c.div_ceil-n-end.ensures in
    let below : n < div_ceil p.nrow each = omega (arith, end) in
    let few : div_ceil p.nrow each ≤ c.args.crew.now.workers = rw is_each (few_chunks p.nrow c.args.crew.now.workers rows (omega (arith, c.args.crew.now.some, c.args.crew.now.few))) in
    let count : c.min-count.result ≡ min each (p.nrow - n * each) = c.min-count.ensures in
    let wide : c.min-count.result * p.ncol ≡ min each (p.nrow - n * each) * p.ncol = ap (λ m. m * p.ncol) count in
    let inside = chunk_inside p.nrow p.ncol each c.args.source.now.room some n c.args.crew.now.workers below (omega (arith, c.args.crew.now.some, c.args.crew.now.few)) in
    omega (arith, inside, wide, c.requires.table)

pub overflow_mul-n : goal.overflow_mul-n
overflow_mul-n g c =
    let p = c.args.source.now.given.now.plan.now.params in
    let each = c.div_ceil-each.result in
    let rows : 0 < p.nrow = omega (arith, c.args.source.now.given.now.plan.now.bounded.rows) in
    let some : 0 < each = rw c.div_ceil-each.ensures (some_each p.nrow c.args.crew.now.workers rows (omega (arith, c.args.crew.now.some, c.args.crew.now.few))) in
    let n = c.loop-n.n in
    let is_each : each ≡ div_ceil p.nrow c.args.crew.now.workers = c.div_ceil-each.ensures in
    let end : c.div_ceil-n-end.result ≡ div_ceil p.nrow each = c.div_ceil-n-end.ensures in
    let below : n < div_ceil p.nrow each = omega (arith, end) in
    omega (arith, begins_below p.nrow each some n below, c.args.source.now.given.now.plan.now.bounded.nrow)

pub overflow_sub-rows : goal.overflow_sub-rows
overflow_sub-rows g c =
    let p = c.args.source.now.given.now.plan.now.params in
    let each = c.div_ceil-each.result in
    let rows : 0 < p.nrow = omega (arith, c.args.source.now.given.now.plan.now.bounded.rows) in
    let some : 0 < each = rw c.div_ceil-each.ensures (some_each p.nrow c.args.crew.now.workers rows (omega (arith, c.args.crew.now.some, c.args.crew.now.few))) in
    let n = c.loop-n.n in
    let is_each : each ≡ div_ceil p.nrow c.args.crew.now.workers = c.div_ceil-each.ensures in
    let end : c.div_ceil-n-end.result ≡ div_ceil p.nrow each = c.div_ceil-n-end.ensures in
    let below : n < div_ceil p.nrow each = omega (arith, end) in
    omega (arith, begins_below p.nrow each some n below)
