-- Public and private inputs.
use Rattle.std.specs.Prelude.{List}
use Rattle.lzk_goldilocks.specs.declared.element.Gold.{Gold}

pub record Inputs : Type 0 where
  pub public : List Gold
  pub private : List Gold
