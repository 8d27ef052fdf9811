-- Rows of combined coefficients, from factors and a table that give them.
use Rattle.lzk_profile.specs.Profile.{opened_count}
use Rattle.std.specs.Prelude.{◌≡◌, ℕ, ◌+◌, ◌*◌, ◌/◌, ◌<◌, List, length, map, replicate}
use Rattle.std.specs.List.{range_with_len}
use Rattle.std.proofs.Common.{sym, ap, subst, ◌∙◌, arith}
use Rattle.std.proofs.lemmas.List.{length-append, get_or-replicate, get_or_append_left, get_or-append-add}
use Rattle.std.proofs.lemmas.List.FromFn.{get_or-map-range_with_len, length-map-range_with_len}
use Rattle.lzk_field.specs.Ring.{Ops}
use Rattle.lzk_field.specs.Sums.{entry}
use Rattle.lzk_circuit.specs.Valid.{Wiring}
use Rattle.lzk_layout.specs.declared.params.Params.{Params}
use Rattle.lzk_layout.specs.Sizes.{AreBounded, params_of}
use Rattle.lzk_accept.specs.declared.challenges.Challenges.{Challenges}
use Rattle.lzk_accept.specs.declared.factored.Factored.{Factored}
use Rattle.lzk_accept.specs.Factored.{HasRoomFor, GivesCombined}
use Rattle.lzk_accept.specs.Combination.{combined, combined_row}
use Rattle.lzk_accept.proofs.CombinationLaws.{rows_within}
use Rattle.lzk_accept.proofs.PrivateLaws.{filled}
use Rattle.lzk_verify.specs.Desk.{AreRows, HasFactors}

module _ {A : Type 0} (o : Ops A) (c : Wiring A) (ch : Challenges A) where
  module _ (f : ℕ → ℕ → A) where
    abbrev row_front : List A
    row_front = replicate opened_count o.zero

    abbrev row_back : ℕ → List A
    row_back row = map (combined o c f ch row) (range_with_len 0 (params_of c).wr)

    length_back : (row : ℕ) → length (row_back row) ≡ (params_of c).wr
    length_back row = length-map-range_with_len (combined o c f ch row) 0 (params_of c).wr

    length_row : (row : ℕ) → length (combined_row o c f ch row) ≡ (params_of c).block
    unfolding combined_row
    length_row row = length-append row_front (row_back row) ∙ ap (λ n. opened_count + n) (length_back row)

    row_front_is : (row s : ℕ) → s < opened_count → entry o (combined_row o c f ch row) s ≡ o.zero
    unfolding combined_row
    row_front_is row s h = get_or_append_left row_front (row_back row) o.zero s h ∙ get_or-replicate opened_count s o.zero o.zero h

    row_back_is : (row s : ℕ) → s < (params_of c).wr → entry o (combined_row o c f ch row) (opened_count + s) ≡ combined o c f ch row s
    unfolding combined_row
    row_back_is row s h =
        get_or-append-add row_front (row_back row) s o.zero
        ∙ get_or-map-range_with_len (combined o c f ch row) 0 (params_of c).wr s s o.zero h (omega arith)

    -- what gives the combined coefficients gives those of the rows
    pub rows_are : (factored : Factored A) → GivesCombined o (params_of c) factored (combined o c f ch) → AreRows o (params_of c) factored (combined_row o c f ch)
    rows_are factored gives = record {
      lengths = length_row;
      front = row_front_is;
      back = record {
        private_rows = λ i s h k. gives.private_rows i s h k ∙ sym (row_back_is (3 + i) s k);
        other_rows = λ i s h k. gives.other_rows i s h k ∙ sym (row_back_is (3 + (factored.rows + i)) s k);
      };
    }

-- room for a circuit is that for its parameters
pub factors_are : {A : Type 0} (c : Wiring A) (p : Params) (f : Factored A) → p ≡ params_of c → AreBounded p → HasRoomFor c f → HasFactors p f
factors_are c p f is bounded room =
    let b = subst AreBounded is bounded in
    let w = (params_of c).wr in
    let product : f.rows * w ≡ c.privates / w * w = ap (λ n. n * w) room.rows in
    let within = rows_within (params_of c) f.rows b (omega (arith, product, filled c.privates w)) in
    subst (λ q. HasFactors q f) (sym is) (record {
      rows = omega (arith, within, b.rows);
      row_factors = room.row_factors;
      place_factors = room.place_factors;
      table = room.table;
    })
