-- A circuit's layers by number: their terms, and how many values stand below them.
use Rattle.lzk_profile.specs.Profile.{most_total}
use Rattle.std.specs.Prelude.{◌≡◌, ℕ, ◌+◌, ◌<◌, ◌≤◌, ◌∷◌, List, [], length, map, slice_get, slice_index_or}
use Rattle.std.proofs.Common.{sym, ap, ◌∙◌, arith, subst}
use Rattle.std.proofs.lemmas.Option.{get_or_from_slice_get, slice_get_within}
use Rattle.std.proofs.lemmas.List.{get_or_append_left, get_or-map, length-append, length-map}
use Rattle.std.specs.Prelude.{Some, None}
use Rattle.lzk_field.specs.Ring.{Ops}
use Rattle.lzk_circuit.specs.declared.layer.Layer.{Layer}
use Rattle.lzk_circuit.specs.Valid.{Wiring, ArePlaced, IsValid, HaveWidths, input_width, widths}
use Rattle.lzk_circuit.specs.Wires.{list_at}
use Rattle.lzk_circuit.proofs.PlaceLaws.{layer-at, width-at}
use Rattle.lzk_layout.specs.Places.{depth, width_at}
use Rattle.lzk_sumcheck.specs.Coefficients.{terms_at}

-- values have a list for each layer, and one for the inputs
pub values_depth : {A : Type 0} (c : Wiring A) (values : List (List A)) → HaveWidths c values → length values ≡ depth c + 1
values_depth c values e =
    omega (arith, ap length e, length-map values length, length-append (map (λ x. x.wires) c.layers) (input_width c ∷ []), length-map c.layers (λ x. x.wires))

-- each list is as long as its layer is wide
pub values_width : {A : Type 0} (c : Wiring A) (values : List (List A)) (l : ℕ) → HaveWidths c values → l ≤ depth c → length (list_at values l) ≡ width_at c l
values_width c values l e h =
    sym (get_or-map length values l [] 0 (omega (arith, values_depth c values e))) ∙ ap (λ ws. slice_index_or ws l 0) e

-- the terms of a layer of a valid circuit are in their places
pub terms-placed-at : {A : Type 0} (o : Ops A) (c : Wiring A) (l : ℕ) (d : Layer A) → l < length c.layers → IsValid o c
    → ArePlaced (slice_index_or c.layers l d).wires (slice_index_or (widths c) (l + 1) 0) None (slice_index_or c.layers l d).terms
terms-placed-at o c l d h valid =
    let layer = slice_index_or c.layers l d in
    subst (λ n. ArePlaced layer.wires n None layer.terms) (sym (width-at o c (l + 1) (omega arith))) (layer-at o c l d h valid).each

module _ {A : Type 0} (c : Wiring A) (l : ℕ) (layer : Layer A) (is : slice_get c.layers l ≡ Some layer) where
  wires_is : layer.wires ≡ width_at c l
  wires_is =
      let within = slice_get_within c.layers l layer is in
      ap (λ x. x.wires) (sym (get_or_from_slice_get c.layers l layer layer is))
      ∙ sym (get_or-map (λ x. x.wires) c.layers l layer 0 within)
      ∙ sym (get_or_append_left (map (λ x. x.wires) c.layers) _ 0 l (omega (arith, within, length-map c.layers (λ x. x.wires))))

  -- the layer's terms
  pub terms_is : layer.terms ≡ terms_at c l
  terms_is =
      let within = slice_get_within c.layers l layer is in
      ap (λ x. x.terms) (sym (get_or_from_slice_get c.layers l layer layer is))
      ∙ sym (get_or-map (λ x. x.terms) c.layers l layer [] within)

  -- they are few
  pub terms_few : (o : Ops A) → IsValid o c → length layer.terms ≤ most_total
  terms_few o valid =
      let here : layer ≡ slice_index_or c.layers l layer = sym (get_or_from_slice_get c.layers l layer layer is) in
      omega (arith, ap (λ (x : Layer A). length x.terms) here, (layer-at o c l layer (slice_get_within c.layers l layer is) valid).terms)

  -- they are in their places, below the two widths
  pub terms_placed : (o : Ops A) → IsValid o c → ArePlaced (width_at c l) (width_at c (l + 1)) None layer.terms
  terms_placed o valid =
      let here : layer ≡ slice_index_or c.layers l layer = sym (get_or_from_slice_get c.layers l layer layer is) in
      subst (λ n. ArePlaced n (width_at c (l + 1)) None layer.terms) wires_is
      (subst (λ (x : Layer A). ArePlaced x.wires (width_at c (l + 1)) None x.terms) (sym here) (terms-placed-at o c l layer (slice_get_within c.layers l layer is) valid))
