-- The combined coefficients of a circuit, as factors and a table give them to the linear answer.
use Rattle.lzk_profile.specs.Profile.{opened_count}
use Rattle.std.specs.Prelude.{◌≡◌, ℕ, ◌+◌, ◌-◌, ◌*◌, ◌/◌, ◌<◌, ◌≤◌, List, length, map, replicate}
use Rattle.std.specs.Int.{div_ceil}
use Rattle.std.specs.List.{range_with_len}
use Rattle.std.proofs.Common.{sym, ap, ◌∙◌, arith, subst}
use Rattle.std.proofs.lemmas.Grind.{div_ceil_times}
use Rattle.std.proofs.lemmas.List.{length-append, get_or-replicate, get_or_append_left, get_or-append-add}
use Rattle.std.proofs.lemmas.List.FromFn.{get_or-map-range_with_len, length-map-range_with_len}
use Rattle.std.proofs.lemmas.Nat.{div_below}
use Rattle.lzk_field.specs.Ring.{Ops}
use Rattle.lzk_field.specs.Sums.{entry}
use Rattle.lzk_circuit.specs.Valid.{Wiring}
use Rattle.lzk_layout.specs.declared.params.Params.{Params}
use Rattle.lzk_layout.specs.Sizes.{AreBounded, params_of}
use Rattle.lzk_accept.specs.declared.challenges.Challenges.{Challenges}
use Rattle.lzk_accept.specs.declared.factored.Factored.{Factored}
use Rattle.lzk_accept.specs.Combination.{combined, combined_row}
use Rattle.lzk_accept.specs.Factored.{GivesCombined, HasRoomFor}
use Rattle.lzk_ligero_answers.specs.Coefficients.{AreCoefficients, AreFactored, AreListed}

module _ {A : Type 0} (o : Ops A) (c : Wiring A) (f : ℕ → ℕ → A) (ch : Challenges A) where
  abbrev row_front : List A
  row_front = replicate opened_count o.zero

  abbrev row_back : ℕ → List A
  row_back row = map (combined o c f ch row) (range_with_len 0 (params_of c).wr)

  length_row : (row : ℕ) → length (combined_row o c f ch row) ≡ (params_of c).block
  unfolding combined_row
  length_row row = length-append row_front (row_back row) ∙ ap (λ n. opened_count + n) (length-map-range_with_len (combined o c f ch row) 0 (params_of c).wr)

  row_front_is : (row s : ℕ) → s < opened_count → entry o (combined_row o c f ch row) s ≡ o.zero
  unfolding combined_row
  row_front_is row s h = get_or_append_left row_front (row_back row) o.zero s h ∙ get_or-replicate opened_count s o.zero o.zero h

  row_back_is : (row s : ℕ) → s < (params_of c).wr → entry o (combined_row o c f ch row) (opened_count + s) ≡ combined o c f ch row s
  unfolding combined_row
  row_back_is row s h =
      get_or-append-add row_front (row_back row) s o.zero
      ∙ get_or-map-range_with_len (combined o c f ch row) 0 (params_of c).wr s s o.zero h (omega arith)

  -- any coefficients that are the combined ones of a row
  coefficients_are : (row : ℕ) (a : ℕ → A) → ((s : ℕ) → s < (params_of c).wr → a s ≡ combined o c f ch row s) → AreCoefficients o (params_of c) a (combined_row o c f ch row)
  coefficients_are row a each = record { count = length_row row; front = row_front_is row; back = λ s h. row_back_is row s h ∙ sym (each s h) }

  module _ (p : Params) (is : p ≡ params_of c) (k : Factored A) (g : GivesCombined o (params_of c) k (combined o c f ch)) where
    -- factors that give the combined coefficients are those of their rows
    pub factored_are : AreFactored o p k.rows 4 k.row_factors k.place_factors (combined_row o c f ch)
    factored_are =
        subst (λ p. AreFactored o p k.rows 4 k.row_factors k.place_factors (combined_row o c f ch)) (sym is)
        (λ i h. coefficients_are (3 + i) _ (λ s l. g.private_rows i s h l))

    -- and so is the table of the others
    pub listed_are : AreListed o p k.rows k.table (combined_row o c f ch)
    listed_are =
        subst (λ p. AreListed o p k.rows k.table (combined_row o c f ch)) (sym is)
        (λ t h. coefficients_are (3 + (k.rows + t)) _ (λ s l. g.other_rows t s h l))

-- no more rows are filled than there are
private_rows : (p : Params) (n : ℕ) → AreBounded p → n ≤ p.nw → n / p.wr ≤ p.nrow - 3
private_rows p n h few =
    let all = div_ceil_times p.nw p.wr (omega (arith, h.wide)) in
    let below = div_below n p.wr (div_ceil p.nw p.wr + 1) (omega (arith, h.wide)) (omega (arith, all.0, few, h.wide)) in
    omega (arith, below, h.nwrow, h.rows)

-- how long the lists of the factors and coefficients are, by the parameters
pub room_for : {A : Type 0} (c : Wiring A) (p : Params) → p ≡ params_of c → AreBounded p → (k : Factored A) → HasRoomFor c k
    → (k.rows ≤ p.nrow - 3) × (length k.place_factors ≡ 4 * p.wr) × (length k.table ≡ (p.nrow - 3 - k.rows) * p.wr)
room_for c p is bounded k h = (
  subst (λ (p : Params). k.rows ≤ p.nrow - 3) (sym is) (omega (arith, h.rows, private_rows (params_of c) c.privates (subst AreBounded is bounded) (omega arith))),
  h.place_factors ∙ ap (λ (p : Params). 4 * p.wr) (sym is),
  h.table ∙ ap (λ (p : Params). (p.nrow - 3 - k.rows) * p.wr) (sym is),
)
