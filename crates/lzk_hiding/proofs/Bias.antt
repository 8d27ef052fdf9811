-- How far the elements of random words are from uniform, in numbers.
use Rattle.lzk_shares.specs.Shares.{prime_size, most_random, drawn_below, element_bias, proof_bias}
use Rattle.std.specs.Prelude.{◌*◌, ◌^◌}
use Rattle.std.proofs.Common.{refl, arith}
use Rattle.std.proofs.lemmas.Bool.{leb-true}
use Rattle.lzk_field.specs.Ring.{Ops}
use Rattle.lzk_layout.proofs.SizeLaws.{params_bounded}
use Rattle.lzk_hiding.specs.Words.{excess, IsSmall, RandomAreFew}

pub random_few : {A : Type 0} (o : Ops A) → RandomAreFew o
random_few o c valid = let b = params_bounded o c valid in omega (arith, b.nsum, b.block, b.dblock, b.wr, b.nrow)

pub one_small : IsSmall prime_size drawn_below 1 element_bias
one_small = leb-true (1 * excess prime_size drawn_below * 2 ^ element_bias) (prime_size * drawn_below) refl

pub all_small : IsSmall prime_size drawn_below most_random proof_bias
all_small = leb-true (most_random * excess prime_size drawn_below * 2 ^ proof_bias) (prime_size * drawn_below) refl
