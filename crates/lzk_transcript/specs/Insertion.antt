-- What the code does with the ascending list of the picked columns.
use Rattle.std.specs.Prelude.{ℕ, ◌+◌, cond, nat_lt, List, [], ◌∷◌}

-- the list with the number put in that has x numbers below it which do not stand in the list; x is raised by one for
-- each number that is passed
abbrev pub put_in : List ℕ → ℕ → List ℕ
put_in [] x = x ∷ []
put_in (p ∷ ps) x = cond (nat_lt x p) (x ∷ p ∷ ps) (p ∷ put_in ps (x + 1))
