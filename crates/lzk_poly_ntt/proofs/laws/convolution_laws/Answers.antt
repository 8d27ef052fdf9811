use Rattle.lzk_poly_ntt.proofs.Principal.{conv, inverse-undoes}
use Rattle.lzk_poly_ntt.proofs.laws.convolution_laws.Goals as goal

pub returns-clause-undone : goal.returns-clause-undone
returns-clause-undone g c = λ n w v is inverse ones x t h. inverse-undoes g.F.Field.ops g.F.Field.laws.ring n w v is inverse x t ones h

pub returns-clause-conv : goal.returns-clause-conv
returns-clause-conv g c = λ n w v is inverse ones x y t h. conv g.F.Field.ops g.F.Field.laws.ring n w v is inverse x y t ones h
