-- Names in memory that are printed, and text that is written.
use Rattle.std.specs.Prelude.{◌≡◌, ℕ, List, [], ◌∷◌, ◌++◌, map, Bool, true, false, codes}
use Rattle.std.specs.Borrow.{Bor}
use Rattle.lzk_source.specs.declared.printing.NameLists.{NameLists}
use Rattle.lzk_source.specs.declared.printing.Writer.{Writer}
use Rattle.lzk_expr.specs.Trees.{Parts, Exprs}
use Rattle.lzk_expr.specs.Printing.{Names, sign_text, sum_text, parts_text, product_text, factors_text}

abbrev pub bytes_of : List (Bor (List ℕ)) → List (List ℕ)
bytes_of names = map (λ (b : Bor (List ℕ)). b.now) names

abbrev pub lists_of : NameLists → Names
lists_of n = record {
  publics = bytes_of n.publics.items;
  privates = bytes_of n.privates.items;
  lets = bytes_of n.lets.items;
}

-- a byte that is written only where it is wanted
abbrev pub wanted_byte : Bool → ℕ → List ℕ
wanted_byte false b = []
wanted_byte true b = b ∷ []

-- what stands before a part and before a factor
abbrev pub between_parts : Bool → Bool → List ℕ
between_parts true minus = []
between_parts false minus = sign_text minus

abbrev pub between_factors : Bool → List ℕ
between_factors true = []
between_factors false = codes " * "

-- the parts from one on, which may be the first
abbrev pub sum_rest : Names → Bool → Parts → List ℕ
sum_rest names true ps = sum_text names ps
sum_rest names false ps = parts_text names ps

abbrev pub product_rest : Names → Bool → Exprs → List ℕ
product_rest names true es = product_text names es
product_rest names false es = factors_text names es

-- This was written, or something was lost.
abbrev pub Writes : List ℕ → Writer → Writer → Type 0
Writes text old new = new.lost ≡ false → (old.lost ≡ false) × (new.text.items ≡ old.text.items ++ text)

-- All of this was written but for the rest, or something was lost.
abbrev pub WritesUpTo : List ℕ → List ℕ → Writer → Writer → Type 0
WritesUpTo all rest old new = new.lost ≡ false → (old.lost ≡ false) × (new.text.items ++ rest ≡ old.text.items ++ all)
