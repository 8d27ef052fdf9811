use Rattle.std.proofs.Common.{refl, arith}
use Rattle.lzk_layout.specs.Parts.{parts}
use Rattle.lzk_layout.proofs.cursor.Reading.new.Goals as goal

pub returns-clause-sound : goal.returns-clause-sound
unfolding parts
returns-clause-sound c = λ s. record {
  bounded = c.requires;
  few = omega arith;
  part = refl;
  offset = refl;
  held = omega arith;
  zeros = refl;
}
