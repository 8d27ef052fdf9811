use Rattle.std.proofs.Common.{◌∙◌, ◌++◌, ◌∷◌, [], ap, sym, take}
use Rattle.std.proofs.lemmas.List.{take_all, take_more}
use Rattle.lzk_poly_ntt.proofs.prepared.prepare.Goals as goal

pub loop-i-preserved : goal.loop-i-preserved
loop-i-preserved g c =
    let factors = c.args.factors.now in
    let i = c.loop-i.i in
    let x = c.index-factors-i.result in
    c.in_ok-push.ensures.items ∙ ap (λ xs. xs ++ c.new.result ∷ []) c.loop-i.invariant ∙ ap (λ y. take i factors ++ y ∷ []) (c.new.ensures ∙ c.index-factors-i.is) ∙ sym (take_more factors i x c.loop-i-test.true)

pub returns : goal.returns
returns g c = c.loop-i.invariant ∙ take_all c.loop-i.i c.args.factors.now c.loop-i-test.false
