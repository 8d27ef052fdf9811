-- What the kept wires of a layer are.
use Rattle.std.specs.Prelude.{◌≡◌, ◌≢◌, ℕ, zero, suc, ◌+◌, ◌*◌, ◌/◌, ◌^◌, ◌<◌, ◌≤◌, Option, Some, None, List, [], ◌∷◌, ◌++◌, length, map, slice_index_or, slice_set}
use Rattle.std.proofs.Common.{◌⊎◌}
use Rattle.lzk_field.specs.Ring.{Ops}
use Rattle.lzk_circuit.specs.declared.layer.Term.{Term}
use Rattle.lzk_circuit.specs.Valid.{AreTerms}
use Rattle.lzk_circuit_reduce.specs.declared.kept.KeptWires.{KeptWires}
use Rattle.lzk_circuit_reduce.specs.Rows.{placed}
use Rattle.lzk_circuit_reduce.specs.Renumbering.{at, of_wire, terms_before}
use Rattle.lzk_circuit_reduce.specs.Hash.{hash_from}

-- what tells one term of a wire from another: both wires below, and the coefficient's number
abbrev pub Place : Type 0
Place = ℕ × ℕ × ℕ

abbrev pub place_of : {A : Type 0} → (A → ℕ) → Term A → Place
place_of number_of t = (t.a, t.b, number_of t.coef)

-- the places of the terms of wire g
abbrev pub places_of : {A : Type 0} → (A → ℕ) → ℕ → List (Term A) → List Place
places_of number_of g ts = map (place_of number_of) (of_wire g ts)

-- the slot of places, of so many
abbrev pub slot_of : ℕ → List Place → ℕ
slot_of slots places = hash_from 0 places / 2 ^ 32 * slots / 2 ^ 32

abbrev pub link_at : List (Option ℕ) → ℕ → Option ℕ
link_at links k = slice_index_or links k None

-- wire g is met within so many steps from a link on
abbrev pub IsMetWithin : ℕ → List (Option ℕ) → ℕ → Option ℕ → Type 0
IsMetWithin zero links g link = ⊥
IsMetWithin (suc n) links g None = ⊥
IsMetWithin (suc n) links g (Some w) = (w ≡ g) ⊎ IsMetWithin n links g (link_at links w)

abbrev pub IsMet : List (Option ℕ) → ℕ → Option ℕ → Type 0
IsMet links g link = (n : ℕ) × IsMetWithin n links g link

-- Each wire's terms stand where the starts say, the last wire of a slot is one of the wires, and each link leads to an
-- earlier one.
pub record IsTable {A : Type 0} (kept : KeptWires A) : Type 0 where
  pub starts_count : length kept.starts.items ≡ kept.count + 1
  pub starts_are : (g : ℕ) → g ≤ kept.count → at kept.starts.items g ≡ terms_before g kept.terms.items
  pub whole : terms_before kept.count kept.terms.items ≡ length kept.terms.items
  pub slots : 1 ≤ length kept.heads.items
  pub links_count : length kept.links.items ≡ kept.count
  pub heads_below : (k w : ℕ) → link_at kept.heads.items k ≡ Some w → w < kept.count
  pub links_below : (k w : ℕ) → link_at kept.links.items k ≡ Some w → w < k

-- The terms are those of so many wires, over so many, each wire is met in its slot, and no two have the same places.
pub record IsKept {A : Type 0} (o : Ops A) (number_of : A → ℕ) (width : ℕ) (kept : KeptWires A) : Type 0 where
  pub terms : AreTerms o kept.count width None kept.terms.items
  pub met : (g : ℕ) → g < kept.count
      → IsMet kept.links.items g
      (link_at kept.heads.items (slot_of (length kept.heads.items) (places_of number_of g kept.terms.items)))
  pub different : (g h : ℕ) → g < h → h < kept.count
      → places_of number_of g kept.terms.items ≢ places_of number_of h kept.terms.items

-- the kept wires and one more, with this row, which falls into this slot
pub record HasOneMore {A : Type 0} (old new : KeptWires A) (row : List (Term A)) (slot : ℕ) : Type 0 where
  pub count : new.count ≡ old.count + 1
  pub terms : new.terms.items ≡ old.terms.items ++ map (placed old.count) row
  pub starts : new.starts.items ≡ old.starts.items ++ length new.terms.items ∷ []
  pub links : new.links.items ≡ old.links.items ++ link_at old.heads.items slot ∷ []
  pub heads : new.heads.items ≡ slice_set old.heads.items slot (Some old.count)
  pub within : slot < length old.heads.items
