use Rattle.std.proofs.Common.{◌≡◌, ◌+◌, ◌-◌, ◌*◌, ◌<◌, min, length, refl, ap, ◌∙◌, arith, rules}
use Rattle.std.specs.Int.{div_ceil}
use Rattle.std.proofs.lemmas.List.{get_or_append_left, length-append}
use Rattle.lzk_ligero_tableau.specs.Filled.{place_in_chunks}
use Rattle.lzk_ligero_tableau.specs.Tableau.{low_words}
use Rattle.lzk_ligero_tableau.proofs.ChunkLaws.{cut, some_size}
use Rattle.lzk_ligero_commit.proofs.ChunkRows.{chunks_filled, place_inside, shared}
use Rattle.lzk_ligero_commit.proofs.rows.extend_rows.Goals as goal

pub div_ceil-of-requires : goal.div_ceil-of-requires
div_ceil-of-requires g c =
    let source = c.args.source.now in
    let crew = c.args.crew.now in
    let p = source.given.now.plan.now.params in
    let each = c.div_ceil-each.result in
    let s = shared p crew.workers source.room each (div_ceil p.nrow each) source.given.now.plan.now.bounded crew.some c.div_ceil-each.ensures refl in
    s.some

pub overflow_mul-size : goal.overflow_mul-size
overflow_mul-size g c =
    let source = c.args.source.now in
    let crew = c.args.crew.now in
    let s = shared source.given.now.plan.now.params crew.workers source.room c.div_ceil-each.result c.div_ceil-of.result source.given.now.plan.now.bounded crew.some c.div_ceil-each.ensures c.div_ceil-of.ensures in
    omega (arith, s.rows, c.requires.table)

pub overflow_mul-rows : goal.overflow_mul-rows
overflow_mul-rows g c = omega (arith, c.requires.table)

pub returns-clause-length : goal.returns-clause-length
returns-clause-length g c =
    let cut = c.split_at_mut-used.ensures in
    let source = c.args.source.now in
    let crew = c.args.crew.now in
    let s = shared source.given.now.plan.now.params crew.workers source.room c.div_ceil-each.result c.div_ceil-of.result source.given.now.plan.now.bounded crew.some c.div_ceil-each.ensures c.div_ceil-of.ensures in
    omega (arith, length-append c.for_each_chunk_mut.new.s c.split_at_mut-used.result.1.now, c.for_each_chunk_mut.auto.s, cut.front_len, cut.back_len, s.rooms, c.requires.table)

pub overflow_add-size : goal.overflow_add-size
overflow_add-size g c =
    let source = c.args.source.now in
    let crew = c.args.crew.now in
    let s = shared source.given.now.plan.now.params crew.workers source.room c.div_ceil-each.result c.div_ceil-of.result source.given.now.plan.now.bounded crew.some c.div_ceil-each.ensures c.div_ceil-of.ensures in
    omega (arith, s.rows, s.one, c.requires.table)

pub overflow_mul-of : goal.overflow_mul-of
overflow_mul-of g c =
    let source = c.args.source.now in
    let crew = c.args.crew.now in
    let s = shared source.given.now.plan.now.params crew.workers source.room c.div_ceil-each.result c.div_ceil-of.result source.given.now.plan.now.bounded crew.some c.div_ceil-each.ensures c.div_ceil-of.ensures in
    omega (arith, s.rooms, c.requires.table)

pub overflow_add-rows : goal.overflow_add-rows
overflow_add-rows g c =
    let source = c.args.source.now in
    let crew = c.args.crew.now in
    let s = shared source.given.now.plan.now.params crew.workers source.room c.div_ceil-each.result c.div_ceil-of.result source.given.now.plan.now.bounded crew.some c.div_ceil-each.ensures c.div_ceil-of.ensures in
    omega (arith, s.rooms, c.requires.table)

pub split_at_mut-used-requires : goal.split_at_mut-used-requires
split_at_mut-used-requires g c =
    let source = c.args.source.now in
    let crew = c.args.crew.now in
    let s = shared source.given.now.plan.now.params crew.workers source.room c.div_ceil-each.result c.div_ceil-of.result source.given.now.plan.now.bounded crew.some c.div_ceil-each.ensures c.div_ceil-of.ensures in
    omega (arith, s.rooms, c.requires.table)

pub for_each_chunk_mut-requires-clause-accepts : goal.for_each_chunk_mut-requires-clause-accepts
for_each_chunk_mut-requires-clause-accepts g c κs within =
    let source = c.args.source.now in
    let crew = c.args.crew.now in
    let p = source.given.now.plan.now.params in
    let room = source.room in
    let each = c.div_ceil-each.result in
    let s = shared p crew.workers room each c.div_ceil-of.result source.given.now.plan.now.bounded crew.some c.div_ceil-each.ensures c.div_ceil-of.ensures in
    let long : length c.split_at_mut-used.result.0.now ≡ p.nrow * p.ncol + div_ceil p.nrow each * room = c.split_at_mut-used.ensures.front_len ∙ ap (λ m. p.nrow * p.ncol + m * room) c.div_ceil-of.ensures in
    λ start part is.
    let begins : start < p.nrow * p.ncol + div_ceil p.nrow each * room = omega (arith, is.in_bounds, is.nonempty, long) in
    let k = cut p.nrow p.ncol each room s.wide s.some start (length part.now) is.start_is_multiple begins (is.len ∙ ap (λ m. min (each * p.ncol + room) (m - start)) long) in
    ((some_size p.nrow p.ncol each room s.wide s.some, s.wide, refl, refl, k.room_inside, k.whole_rows, k.inside), search rules)

pub returns-clause-rows : goal.returns-clause-rows
returns-clause-rows g c =
    let source = c.args.source.now in
    let crew = c.args.crew.now in
    let p = source.given.now.plan.now.params in
    let room = source.room in
    let each = c.div_ceil-each.result in
    let s = shared p crew.workers room each c.div_ceil-of.result source.given.now.plan.now.bounded crew.some c.div_ceil-each.ensures c.div_ceil-of.ensures in
    let long : length c.split_at_mut-used.result.0.now ≡ p.nrow * p.ncol + div_ceil p.nrow each * room = c.split_at_mut-used.ensures.front_len ∙ ap (λ m. p.nrow * p.ncol + m * room) c.div_ceil-of.ensures in
    let f = g.F.Field in
    let e = f.coding in
    let word = low_words (g.W.Words.at source.given.now.words.now) in
    let xs = c.split_at_mut-used.result.0.now in
    let ys = c.for_each_chunk_mut.new.s in
    rw (← c.div_ceil-each.ensures) (λ i k hi hk.
    get_or_append_left ys c.split_at_mut-used.result.1.now f.ops.zero (place_in_chunks each p.ncol room i k) (omega (arith, place_inside f.ops e word p source.elements.now each room s.wide s.some i k hi hk, long, c.for_each_chunk_mut.auto.s))
    ∙ chunks_filled f.ops e word p source.elements.now each room s.wide s.some xs ys long (λ n h. let d = c.for_each_chunk_mut.ensures.chunks n h in (d.argument.now, (d.after_call.now, (d.argument_is, (d.left, d.call))))) i k hi hk)

pub div_ceil-each-requires : goal.div_ceil-each-requires
div_ceil-each-requires g c = omega (arith, c.args.crew.now.some)

pub for_each_chunk_mut-requires-clause-size : goal.for_each_chunk_mut-requires-clause-size
for_each_chunk_mut-requires-clause-size g c κs within =
    let source = c.args.source.now in
    let crew = c.args.crew.now in
    let p = source.given.now.plan.now.params in
    let s = shared p crew.workers source.room c.div_ceil-each.result c.div_ceil-of.result source.given.now.plan.now.bounded crew.some c.div_ceil-each.ensures c.div_ceil-of.ensures in
    some_size p.nrow p.ncol c.div_ceil-each.result source.room s.wide s.some
