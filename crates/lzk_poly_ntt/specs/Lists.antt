-- Lists that are worked on together.
use Rattle.std.specs.Prelude.{◌≡◌, List, length}

-- three lists of one length
abbrev pub HaveOneLength : {A : Type 0} → List A → List A → List A → Type 0
HaveOneLength xs ys zs = (length ys ≡ length xs) × (length zs ≡ length xs)
