use Rattle.std.proofs.Common.{◌∙◌, ◌++◌, ◌∷◌, [], ap}
use Rattle.std.proofs.lemmas.List.{replicate-append-replicate}
use Rattle.lzk_gadgets.proofs.layers.repeated.Goals as goal

pub loop-k-preserved : goal.loop-k-preserved
loop-k-preserved c = c.in_ok-push.ensures.items ∙ ap (λ ks. ks ++ c.args.node ∷ []) c.loop-k.invariant ∙ replicate-append-replicate c.loop-k._k 1 c.args.node
