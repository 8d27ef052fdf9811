-- Numbers in decimal digits.
use Rattle.std.specs.Prelude.{ℕ, List, [], ◌∷◌, ◌++◌}
use Rattle.std.specs.Fmt.{decimal}

-- numbers in decimal digits, one a line
abbrev pub number_lines : List ℕ → List ℕ
number_lines [] = []
number_lines (n ∷ ns) = (decimal n ++ 10 ∷ []) ++ number_lines ns
