use Rattle.std.proofs.Common.{refl, ◌++◌, take, sym, ap, subst, ◌∙◌}
use Rattle.std.proofs.lemmas.List.{take_more, take_all, append_assoc, append-nil}
use Rattle.lzk_verify.specs.Kept.{Stands}
use Rattle.lzk_verify.proofs.desk.Desk.feed.Goals as goal

pub loop-byte-init : goal.loop-byte-init
loop-byte-init g c =
    let f = g.F.Field in
    let e = f.coding in
    record {
      fed = c.requires.fed;
      circuit = refl;
      stands = λ session public bytes h. subst (λ xs. Stands f.ops e session public xs c.args.self.now) (sym (append-nil bytes)) h;
    }

pub loop-byte-preserved : goal.loop-byte-preserved
loop-byte-preserved g c =
    let f = g.F.Field in
    let e = f.coding in
    let piece = c.args.piece.now in
    let i = c.loop-byte.byte-index in
    record {
      fed = c.push.ensures.fed;
      circuit = c.push.ensures.circuit ∙ c.loop-byte.invariant.circuit;
      stands = λ session public bytes h.
          subst (λ xs. Stands f.ops e session public xs c.push.new.self) (append_assoc bytes (take i piece) _ ∙ ap (λ ys. bytes ++ ys) (sym (take_more piece i 0 c.loop-byte-test.true)))
          (c.push.ensures.stands session public (bytes ++ take i piece) (c.loop-byte.invariant.stands session public bytes h));
    }

pub returns-clause-stands : goal.returns-clause-stands
returns-clause-stands g c = λ session public bytes h.
    let f = g.F.Field in
    let e = f.coding in
    subst (λ xs. Stands f.ops e session public xs c.loop-byte.self) (ap (λ ys. bytes ++ ys) (take_all c.loop-byte.byte-index c.args.piece.now c.loop-byte-test.false)) (c.loop-byte.invariant.stands session public bytes h)
