-- Forms in their places.
use Rattle.std.specs.Prelude.{◌≡◌, ℕ, ◌+◌, ◌-◌, ◌<◌, ◌≤◌, cond, List, [], ◌∷◌, ◌++◌, length, slice_set}
use Rattle.std.proofs.Common.{zero, suc, inl, inr, sym, ap, ◌∙◌, arith, subst, le-ltb}
use Rattle.std.proofs.lemmas.Bool.{cases_eq, lt-ltb}
use Rattle.std.proofs.lemmas.List.{get_or_append_left, get_or-set_same, get_or-set_other}
use Rattle.std.proofs.Math.Seq.{get_or-append_seam}
use native.Mathlib.Decide.{dec_lt}
use Rattle.lzk_field.specs.Ring.{Ops}
use Rattle.lzk_circuit.specs.Valid.{Wiring}
use Rattle.lzk_layout.specs.declared.places.LayerPlaces.{LayerPlaces}
use Rattle.lzk_layout.specs.Places.{depth, pads_at, factors_at, places_of}
use Rattle.lzk_layout.proofs.PlaceLaws.{pads_next}
use Rattle.lzk_accept.specs.declared.forms.Form.{Form}
use Rattle.lzk_accept.specs.Kept.{form_at, own_start, own_end, IsPlacedAt}

module _ {A : Type 0} (c : Wiring A) where
  -- a layer's own range is that of its pads
  pub start_is : (l : ℕ) → l < depth c → own_start c l ≡ pads_at c l
  start_is l h = ap (λ b. cond b (pads_at c l) 0) (lt-ltb l (depth c) h)

  pub end_is : (l : ℕ) → l < depth c → own_end c l ≡ factors_at c l + 3
  end_is l h = ap (λ b. cond b (pads_at c (l + 1)) c.privates) (lt-ltb l (depth c) h) ∙ pads_next c l h

  -- that of the inputs' constraint is that of the private inputs
  pub last_start : (l : ℕ) → depth c ≤ l → own_start c l ≡ 0
  last_start l h = ap (λ b. cond b (pads_at c l) 0) (le-ltb l (depth c) h)

  pub last_end : (l : ℕ) → depth c ≤ l → own_end c l ≡ c.privates
  last_end l h = ap (λ b. cond b (pads_at c (l + 1)) c.privates) (le-ltb l (depth c) h)

  pub layer_placed : (l : ℕ) (places : LayerPlaces) (form : Form A) → l < depth c → places ≡ places_of c l → form.start ≡ places.pads → form.end ≡ places.factors + 3
      → form.above ≡ factors_at c (l - 1) → IsPlacedAt c l form
  layer_placed l places form h e starts ends above = record {
    start = starts ∙ ap (λ (p : LayerPlaces). p.pads) e ∙ sym (start_is l h);
    end = ends ∙ ap (λ (p : LayerPlaces). p.factors + 3) e ∙ sym (end_is l h);
    above = above;
  }

  pub last_placed : (l : ℕ) (form : Form A) → depth c ≤ l → form.start ≡ 0 → form.end ≡ c.privates → form.above ≡ factors_at c (l - 1) → IsPlacedAt c l form
  last_placed l form h starts ends above = record { start = starts ∙ sym (last_start l h); end = ends ∙ sym (last_end l h); above = above }

  -- one more
  pub placed_more : (o : Ops A) (l : ℕ) (forms : List (Form A)) (form : Form A) → length forms ≡ l → IsPlacedAt c l form
      → ((i : ℕ) → i < l → IsPlacedAt c i (form_at o forms i)) → (i : ℕ) → i < l + 1 → IsPlacedAt c i (form_at o (forms ++ form ∷ []) i)
  placed_more o l forms form size here each i h =
      let d : Form A = record { start = 0; end = 0; above = 0; first = o.zero; second = o.zero; right = o.zero } in
      elim (dec_lt i l) [
        | yes m ↦ subst (IsPlacedAt c i) (sym (get_or_append_left forms (form ∷ []) d i (omega arith))) (each i m)
        | no m ↦
            let same : i ≡ length forms = omega arith in
            let new : form ≡ form_at o (forms ++ form ∷ []) i = sym (ap (form_at o (forms ++ form ∷ [])) same ∙ get_or-append_seam forms form [] d) in
            subst (λ k. IsPlacedAt c k (form_at o (forms ++ form ∷ []) i)) (let e : l ≡ i = omega arith in e) (subst (IsPlacedAt c l) new here)
      ]

  -- a form is put in its place
  pub placed_set : (o : Ops A) (l : ℕ) (forms : List (Form A)) (form : Form A) → l < length forms → IsPlacedAt c l form
      → (i : ℕ) → IsPlacedAt c i (form_at o forms i) → IsPlacedAt c i (form_at o (slice_set forms l form) i)
  placed_set o l forms form within here i each =
      let d : Form A = record { start = 0; end = 0; above = 0; first = o.zero; second = o.zero; right = o.zero } in
      elim (cases_eq i l) [
        | inl same ↦
            let new : form ≡ form_at o (slice_set forms l form) i = sym (ap (form_at o (slice_set forms l form)) same ∙ get_or-set_same forms l form d within) in
            subst (λ k. IsPlacedAt c k (form_at o (slice_set forms l form) i)) (sym same) (subst (IsPlacedAt c l) new here)
        | inr other ↦ subst (IsPlacedAt c i) (sym (get_or-set_other forms l i form d other)) each
      ]

  pub pads_rise : (l n : ℕ) → l ≤ n → n ≤ depth c → pads_at c l ≤ pads_at c n
  pads_rise l zero h d = let z : l ≡ zero = omega arith in omega (arith, ap (pads_at c) z)
  pads_rise l (suc n) h d =
      elim (dec_lt n l) [
        | yes g ↦ let z : l ≡ suc n = omega arith in omega (arith, ap (pads_at c) z)
        | no g ↦ let more : suc n ≡ n + 1 = omega arith in omega (arith, pads_rise l n (omega arith) (omega arith), pads_next c n d, ap (pads_at c) more)
      ]

  -- a layer's own range ends where a later layer's pads begin
  pub end_before : (i l : ℕ) → i < l → l ≤ depth c → own_end c i ≤ pads_at c l
  end_before i l h d = omega (arith, end_is i (omega arith), pads_next c i (omega arith), pads_rise (i + 1) l (omega arith) d)

  -- and begins behind the private inputs
  pub start_after : (i : ℕ) → i < depth c → c.privates ≤ own_start c i
  start_after i h = omega (arith, start_is i h)
