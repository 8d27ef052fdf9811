-- Wires under other numbers.
use Rattle.std.specs.Prelude.{◌≡◌, ◌≢◌, ℕ, ◌+◌, ◌<◌, ◌==◌, nat_lt, cond, List, [], ◌∷◌, length, map, slice_index_or}
use Rattle.std.specs.List.{All}
use Rattle.lzk_field.specs.Ring.{Ops}
use Rattle.lzk_field.specs.Sums.{entry}
use Rattle.lzk_circuit.specs.declared.layer.Term.{Term}

abbrev pub at : List ℕ → ℕ → ℕ
at ns k = slice_index_or ns k 0

-- the terms of wire g, in order
abbrev pub of_wire : {A : Type 0} → ℕ → List (Term A) → List (Term A)
of_wire g [] = []
of_wire g (t ∷ ts) = cond (t.g == g) (t ∷ of_wire g ts) (of_wire g ts)

-- how many terms are of wires before g
abbrev pub terms_before : {A : Type 0} → ℕ → List (Term A) → ℕ
terms_before g [] = 0
terms_before g (t ∷ ts) = cond (nat_lt t.g g) 1 0 + terms_before g ts

-- the terms name wires of so many
abbrev pub AreOver : {A : Type 0} → ℕ → List (Term A) → Type 0
AreOver width [] = Unit {0}
AreOver width (t ∷ ts) = (t.a < width) × (t.b < width) × AreOver width ts

-- no term's coefficient is 0
abbrev pub AreNonzero : {A : Type 0} → Ops A → List (Term A) → Type 0
AreNonzero o ts = All (λ t. t.coef ≢ o.zero) ts

-- the numbers are those of so many wires
abbrev pub AreNumbersBelow : ℕ → List ℕ → Type 0
AreNumbersBelow width numbers = (k : ℕ) → k < length numbers → at numbers k < width

-- each old wire has the value of the new wire with its number
abbrev pub AreCopies : {A : Type 0} → Ops A → List ℕ → List A → List A → Type 0
AreCopies o numbers old new = (k : ℕ) → k < length numbers → entry o old k ≡ entry o new (at numbers k)

-- the terms without the wire that they count for
abbrev pub triples : {A : Type 0} → List (Term A) → List (ℕ × ℕ × A)
triples ts = map (λ t. (t.a, t.b, t.coef)) ts

-- the terms are one, wire 0 times itself
abbrev pub IsOne : {A : Type 0} → Ops A → List (Term A) → Type 0
IsOne o ts = triples ts ≡ (0, 0, o.one) ∷ []
