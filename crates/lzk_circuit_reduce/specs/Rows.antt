-- Rows: the terms of one wire, and the levels that they make.
use Rattle.std.specs.Prelude.{◌≡◌, ◌≢◌, ℕ, ◌<◌, min, max, None, List, [], ◌∷◌, ◌++◌}
use Rattle.std.specs.List.{All}
use Rattle.std.proofs.Common.{◌⊎◌}
use Rattle.lzk_field.specs.Ring.{Ops}
use Rattle.lzk_field.specs.Sums.{entry}
use Rattle.lzk_circuit.specs.declared.layer.Term.{Term}
use Rattle.lzk_circuit.specs.Valid.{AreTerms}
use Rattle.lzk_circuit_reduce.specs.Renumbering.{at}

-- the terms of a single wire, over so many
abbrev pub IsRow : {A : Type 0} → Ops A → ℕ → List (Term A) → Type 0
IsRow o width row = AreTerms o 1 width None row

-- the term of a row that counts coef times wires a and b, the lesser first
abbrev pub ordered : {A : Type 0} → A → ℕ → ℕ → Term A
ordered coef a b = record { g = 0; a = min a b; b = max a b; coef = coef }

-- what a term counts
abbrev pub term_value : {A : Type 0} → Ops A → List A → Term A → A
term_value o below t = o.times t.coef (o.times (entry o below t.a) (entry o below t.b))

-- what the terms count together
abbrev pub row_value : {A : Type 0} → Ops A → List A → List (Term A) → A
row_value o below [] = o.zero
row_value o below (t ∷ ts) = o.plus (term_value o below t) (row_value o below ts)

-- both wires that a term names have a number below d in a list
abbrev pub IsUnder : {A : Type 0} → List ℕ → ℕ → Term A → Type 0
IsUnder ns d t = (at ns t.a < d) × (at ns t.b < d)

-- so have those of each term
abbrev pub AreUnder : {A : Type 0} → List ℕ → ℕ → List (Term A) → Type 0
AreUnder ns d ts = All (IsUnder ns d) ts

-- a row's term as one of wire g
abbrev pub placed : {A : Type 0} → ℕ → Term A → Term A
placed g t = record { g = g; a = t.a; b = t.b; coef = t.coef }

-- a term times a factor
abbrev pub multiplied : {A : Type 0} → Ops A → A → Term A → Term A
multiplied o c t = record { g = t.g; a = t.a; b = t.b; coef = o.times c t.coef }

-- s comes before t by (a, b)
abbrev pub Less : {A : Type 0} → Term A → Term A → Type 0
Less s t = (s.a < t.a) ⊎ ((s.a ≡ t.a) × (s.b < t.b))

-- what two terms at one place add up to
abbrev pub added : {A : Type 0} → Ops A → Term A → Term A → Term A
added o x y = record { g = x.g; a = x.a; b = x.b; coef = o.plus x.coef y.coef }

-- a sum of rows grows by the earlier of two terms, or by what they add up to, unless that is zero; so many were taken
-- of the left row and of the right one
abbrev pub IsNext : {A : Type 0} → Ops A → Term A → Term A → List (Term A) → List (Term A) → ℕ × ℕ → Type 0
IsNext o x y old new taken =
    (Less x y × (new ≡ old ++ x ∷ []) × (taken ≡ (1, 0)))
    ⊎ ((Less y x × (new ≡ old ++ y ∷ []) × (taken ≡ (0, 1)))
    ⊎ ((x.a ≡ y.a)
    × (x.b ≡ y.b)
    × (taken ≡ (1, 1))
    × (((o.plus x.coef y.coef ≡ o.zero) × (new ≡ old))
    ⊎ ((o.plus x.coef y.coef ≢ o.zero) × (new ≡ old ++ added o x y ∷ [])))))
