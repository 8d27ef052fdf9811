-- One round more.
use Rattle.std.proofs.Common.{◌≡◌, ℕ, suc, List, ap, ◌∙◌}
use Rattle.lzk_aes.specs.Aes.{round, after_round}

pub after_round-more : (ws : List (List ℕ)) (block state next : List ℕ) (n : ℕ)
    → state ≡ after_round ws block n → next ≡ round ws (suc n) state → next ≡ after_round ws block (suc n)
unfolding after_round
after_round-more ws block state next n p q = q ∙ ap (round ws (suc n)) p
