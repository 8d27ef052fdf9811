use Rattle.std.proofs.Common.{refl, ◌++◌, take, sym, ap, subst, ◌∙◌}
use Rattle.std.proofs.lemmas.List.{take_more, take_all, flat_map_more, append_assoc, append-nil}
use Rattle.lzk_verify.specs.Kept.{Stands}
use Rattle.lzk_calls.specs.Explained.{joined}
use Rattle.lzk_calls.proofs.pieces.feed_pieces.Goals as goal

pub loop-piece-init : goal.loop-piece-init
loop-piece-init g c =
    let f = g.F.Field in
    let e = f.coding in
    record {
      fed = c.requires.fed;
      circuit = refl;
      stands = λ session public bytes h. subst (λ xs. Stands f.ops e session public xs c.args.desk.now) (sym (append-nil bytes)) h;
    }

pub loop-piece-preserved : goal.loop-piece-preserved
loop-piece-preserved g c =
    let f = g.F.Field in
    let e = f.coding in
    let pieces = c.args.pieces.now in
    let i = c.loop-piece.piece-index in
    record {
      fed = c.feed.ensures.fed;
      circuit = c.feed.ensures.circuit ∙ c.loop-piece.invariant.circuit;
      stands = λ session public bytes h.
          subst (λ xs. Stands f.ops e session public xs c.feed.new.self) (flat_map_more (λ piece. piece.bytes.now) bytes (take i pieces) _ ∙ ap (λ ys. bytes ++ joined ys) (sym (take_more pieces i _ c.loop-piece-test.true)))
          (c.feed.ensures.stands session public (bytes ++ joined (take i pieces)) (c.loop-piece.invariant.stands session public bytes h));
    }

pub returns-clause-stands : goal.returns-clause-stands
returns-clause-stands g c = λ session public bytes h.
    let f = g.F.Field in
    let e = f.coding in
    subst (λ xs. Stands f.ops e session public xs c.loop-piece.desk) (ap (λ ys. bytes ++ joined ys) (take_all c.loop-piece.piece-index c.args.pieces.now c.loop-piece-test.false)) (c.loop-piece.invariant.stands session public bytes h)
