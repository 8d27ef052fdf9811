-- The tables that a layer's rounds are summed over.
use Rattle.lzk_profile.specs.Profile.{most_bits}
use Rattle.std.specs.Prelude.{◌≡◌, ℕ, ◌+◌, ◌*◌, ◌^◌, ◌≤◌, Bool, List, length}
use Rattle.lzk_field.specs.Ring.{Ops}
use Rattle.lzk_sumcheck_rounds.specs.declared.pairs.Pair.{Pair}
use Rattle.lzk_sumcheck_rounds.specs.Rows.{IsKept}
use Rattle.lzk_sumcheck.specs.States.{State}

-- room for so many pairs of wires, and for tables of so many places
pub record TableRoom : Type 0 where
  pub pairs : ℕ
  pub places : ℕ

-- pairs, coefficients of wire 0 and two tables, and room for them
pub record KeptTables (A : Type 0) : Type 0 where
  pub of_a : Bool
  pub pairs : List (Pair A)
  pub scale : A
  pub linear : List A
  pub first : List A
  pub second : List A
  pub room : TableRoom

-- what the tables keep of a state with 2^j and 2^k numbers
abbrev pub AreKept : {A : Type 0} → Ops A → ℕ → ℕ → State A → KeptTables A → Type 0
AreKept o j k st t = IsKept o j k st t.of_a t.pairs t.scale t.linear t.first t.second

-- lists with so many entries in use, and rows for the longest of them: no table has more entries than there are numbers
-- of so many bits as number wires
pub record AreRoomy {A : Type 0} (ps : List (Pair A)) (ls fs hs rs : List A)
    (pairs_used linear_used first_used second_used : ℕ) : Type 0 where
  pub pairs : pairs_used ≤ length ps
  pub linear : linear_used ≤ length ls
  pub first : first_used ≤ length fs
  pub second : second_used ≤ length hs
  pub linear_places : length ls ≡ length fs
  pub second_places : length hs ≡ length fs
  pub rows_places : length rs ≡ length fs + 3 * 64
  pub few : length fs ≤ 2 ^ most_bits
