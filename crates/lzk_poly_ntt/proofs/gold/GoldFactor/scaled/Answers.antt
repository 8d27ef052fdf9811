use Rattle.lzk_goldilocks.specs.Word.{word_not_zero}
use Rattle.lzk_poly_ntt.proofs.gold.GoldFactor.scaled.Goals as goal

pub returns-clause-not_zero : goal.returns-clause-not_zero
returns-clause-not_zero c = word_not_zero
