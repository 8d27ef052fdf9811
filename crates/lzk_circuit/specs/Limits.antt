-- The limits on circuits, each in one place.
use Rattle.std.specs.Prelude.{ℕ}
pub use Rattle.lzk_profile.specs.Profile.{most_privates, most_wires, most_total, most_width, most_bits}

-- how many public inputs there may be
abbrev pub most_publics : ℕ
most_publics = 65535

-- how many layers a circuit may have, the input layer not counted
abbrev pub most_layers : ℕ
most_layers = 512
