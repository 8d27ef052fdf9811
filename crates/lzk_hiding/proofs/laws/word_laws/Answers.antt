use Rattle.lzk_hiding.proofs.Bias.{random_few, one_small, all_small}
use Rattle.lzk_hiding.proofs.laws.word_laws.Goals as goal

pub returns-clause-few : goal.returns-clause-few
returns-clause-few g c = λ c valid. random_few g.F.Field.ops c valid

pub returns-clause-one : goal.returns-clause-one
returns-clause-one g c = one_small

pub returns-clause-all : goal.returns-clause-all
returns-clause-all g c = all_small
