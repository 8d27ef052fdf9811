use Rattle.std.proofs.Common.{length, ◌+◌, ◌*◌, ◌<◌, refl, sym, subst, arith}
use borrow.Author.Rules.{rules}
use Rattle.std.specs.Fork.{slice_chunk, IsChunk, ChangesAt, ChangesChunks}
use Rattle.lzk_work_alone.proofs.Halving.{covers, is_chunk, in_chunk}
use Rattle.lzk_work_alone.proofs.turns.each_in_turn.Goals as goal

pub chunks_in_turn-requires : goal.chunks_in_turn-requires
chunks_in_turn-requires g c =
    let xs = c.args.s.now in let size = c.args.size in
    let filled : 0 < length xs = search rules in
    record {
      covers = covers c.chunk_count.result (length xs) size filled c.requires.size c.chunk_count.ensures;
      room = search rules;
      each = λ n u p e. subst (λ i. g.F.Fn.pre c.args.f.now (i, (p, tt))) {x = n * size} (omega arith)
          (c.requires.accepts (n * size) p (subst (IsChunk xs size (n * size)) (sym e) (is_chunk xs size n c.requires.size u)));
    }

pub returns-then-not-is_empty : goal.returns-then-not-is_empty
returns-then-not-is_empty g c =
    let xs = c.args.s.now in let ys = c.chunks_in_turn.new.s in let size = c.args.size in
    let chunks : ChangesChunks g.F.Fn c.args.f.now size xs ys = λ n u.
    subst (λ i. ChangesAt g.F.Fn c.args.f.now i (slice_chunk xs size n) (slice_chunk ys size n)) {x = 0 + n * size} (omega arith) (c.chunks_in_turn.ensures.each n u) in
    record { chunks = chunks; by_index = λ i d l. (refl, in_chunk _ _ size xs ys c.requires.size chunks i d l) }
