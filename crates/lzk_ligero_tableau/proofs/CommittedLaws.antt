-- The committed list, as it is set layer by layer.
use Rattle.std.specs.Prelude.{◌≡◌, ℕ, ◌+◌, ◌-◌, ◌*◌, ◌<◌, ◌≤◌, List, [], ◌∷◌, ◌++◌, length, take, drop, slice_range, get_or}
use Rattle.std.specs.List.{range_with_len, flat_map}
use Rattle.std.proofs.Common.{zero, suc, sym, ap, ◌∙◌, arith, inl, inr, length-take, length-drop, length-append}
use Rattle.std.proofs.lemmas.Bool.{cases_lt}
use Rattle.std.proofs.lemmas.List.{append_assoc, take_at, flat_map_more, get_or-take, get_or-drop, get_or_past, get_or-append_right, append-nil}
use Rattle.std.proofs.lemmas.List.FromFn.{get_or-map-range_with_len, length-map-range_with_len}
use Rattle.lzk_field.specs.Coding.{Coding}
use Rattle.lzk_field.specs.Ring.{Ops}
use Rattle.lzk_field.specs.Sums.{entry}
use Rattle.lzk_circuit.specs.Valid.{Wiring}
use Rattle.lzk_layout.specs.Places.{depth, round_count, sent_at, factors_sent_at}
use Rattle.lzk_layout.specs.Sizes.{sent_counts, committed_count}
use Rattle.lzk_ligero_tableau.specs.Tableau.{random, randoms, layer_pads, committed}
use Rattle.lzk_ligero_tableau.proofs.FilledLaws.{filled_from, part_entry}

range_more : (a n : ℕ) → range_with_len a (suc n) ≡ range_with_len a n ++ (a + n) ∷ []
range_more a zero = let e : a ≡ a + 0 = omega arith in ap (λ x. x ∷ []) e
range_more a (suc n) =
    let e : a + 1 + n ≡ a + suc n = omega arith in
    ap (λ xs. a ∷ xs) (range_more (a + 1) n ∙ ap (λ x. range_with_len (a + 1) n ++ x ∷ []) e)

module _ {A : Type 0} (o : Ops A) (e : Coding A) (c : Wiring A) (private : List A) (word : ℕ → ℕ) where
  -- a part of the pads
  pads_part : (pads : List A) (at n : ℕ) → pads ≡ randoms o e word 0 (sent_counts c) → at + n ≤ sent_counts c → slice_range pads at (at + n) ≡ randoms o e word at n
  pads_part pads at n are within =
      let size : length pads ≡ sent_counts c = ap length are ∙ length-map-range_with_len (random o e word) 0 (sent_counts c) in
      filled_from o.zero (random o e word) at n (slice_range pads at (at + n))
      (length-take (at + n - at) (drop at pads) ∙ omega (arith, length-drop at pads))
      (λ k h.
      part_entry o.zero pads at (at + n) k (omega arith)
      ∙ ap (λ ys. entry o ys (at + k)) are
      ∙ get_or-map-range_with_len (random o e word) 0 (sent_counts c) (at + k) (at + k) o.zero (omega arith) (omega arith))

  -- a layer's pads and the product of the last two
  pub layer_is : (pads own : List A) (l at n : ℕ) → pads ≡ randoms o e word 0 (sent_counts c) → at ≡ sent_at c l → n ≡ 2 * round_count c l + 2 → at + n ≤ sent_counts c
      → own ≡ slice_range pads at (at + n) ++ o.times (entry o (slice_range pads at (at + n)) (length (slice_range pads at (at + n)) - 2)) (entry o (slice_range pads at (at + n)) (length (slice_range pads at (at + n)) - 1)) ∷ []
      → own ≡ layer_pads o e c private word l
  layer_is pads own l at n are begins count within is =
      let part = slice_range pads at (at + n) in
      let part_is : part ≡ randoms o e word at n = pads_part pads at n are within in
      let size : length part ≡ n = ap length part_is ∙ length-map-range_with_len (random o e word) at n in
      let factor : (m k j : ℕ) → m ≡ k → k < n → at + k ≡ j → entry o part m ≡ random o e word j =
      λ m k j em h ej. ap (entry o part) em ∙ ap (λ ys. entry o ys k) part_is ∙ get_or-map-range_with_len (random o e word) at n k j o.zero h ej in
      let first : entry o part (length part - 2) ≡ random o e word (factors_sent_at c l) = factor (length part - 2) (n - 2) (factors_sent_at c l) (omega (arith, size)) (omega (arith, count)) (omega (arith, count, begins)) in
      let second : entry o part (length part - 1) ≡ random o e word (factors_sent_at c l + 1) = factor (length part - 1) (n - 1) (factors_sent_at c l + 1) (omega (arith, size)) (omega (arith, count)) (omega (arith, count, begins)) in
      is
      ∙ ap (λ x. part ++ o.times x (entry o part (length part - 1)) ∷ []) first
      ∙ ap (λ x. part ++ o.times (random o e word (factors_sent_at c l)) x ∷ []) second
      ∙ ap (λ xs. xs ++ o.times (random o e word (factors_sent_at c l)) (random o e word (factors_sent_at c l + 1)) ∷ []) (part_is ∙ ap (λ m. randoms o e word m n) begins ∙ ap (randoms o e word (sent_at c l)) count)

  abbrev layers : ℕ → List A
  layers l = flat_map (layer_pads o e c private word) (range_with_len 0 l)

  -- one more layer is set
  pub layer_more : (list front own later : List A) (l next at : ℕ) → next ≡ suc l → front ≡ take at list → length front ≡ at → own ≡ layer_pads o e c private word l
      → take at list ≡ private ++ layers l → (n : ℕ) → n ≡ at + length own → take n (front ++ (own ++ later)) ≡ private ++ layers next
  layer_more list front own later l next at en is size own_is old n en' =
      ap (take n) (sym (append_assoc front own later))
      ∙ take_at (front ++ own) later n (length-append front own ∙ omega arith)
      ∙ ap (λ xs. xs ++ own) (is ∙ old)
      ∙ ap (λ ys. private ++ layers l ++ ys) own_is
      ∙ flat_map_more (layer_pads o e c private word) private (range_with_len 0 l) l
      ∙ ap (λ ls. private ++ flat_map (layer_pads o e c private word) ls) (sym (range_more 0 l ∙ ap (λ x. range_with_len 0 l ++ x ∷ []) (omega arith)))
      ∙ ap (λ m. private ++ layers m) (sym en)

  -- all layers are set
  pub list_whole : (list : List A) → take (committed_count c) list ≡ private ++ layers (depth c) → committed_count c ≤ length list → ((j : ℕ) → committed_count c ≤ j → entry o list j ≡ o.zero)
      → (j : ℕ) → entry o list j ≡ entry o (committed o e c private word) j
  unfolding committed
  list_whole list is long zeros j =
      let n = committed_count c in
      elim (cases_lt j n) [
        | inl l ↦ sym (get_or-take n list j o.zero l) ∙ ap (λ ys. entry o ys j) is
        | inr ge ↦
            let size : length (private ++ layers (depth c)) ≡ length (take n list) = ap length (sym is) in
            zeros j ge ∙ sym (get_or_past (private ++ layers (depth c)) j o.zero (omega (arith, size, length-take n list)))
      ]

-- what stands behind two parts of a list
pub behind_parts : {X : Type 0} (d : X) (list front own later rest : List X) (at n j : ℕ) → length front ≡ at → length own ≡ n → rest ≡ drop at list → later ≡ drop n rest → at + n ≤ j
    → get_or (front ++ (own ++ later)) j d ≡ get_or list j d
behind_parts d list front own later rest at n j size own_size rest_is later_is ge =
    let k = j - at - n in
    let whole : at + (n + k) ≡ j = omega arith in
    get_or-append_right front (own ++ later) at j d size (omega arith)
    ∙ get_or-append_right own later n (j - at) d own_size (omega arith)
    ∙ ap (λ ys. get_or ys (j - at - n) d) (later_is ∙ ap (drop n) rest_is)
    ∙ get_or-drop n (drop at list) k d
    ∙ get_or-drop at list (n + k) d
    ∙ ap (λ m. get_or list m d) whole

-- private inputs alone
pub inputs_begun : {X : Type 0} (xs rest private : List X) (n : ℕ) → xs ≡ private → length private ≡ n → take n (xs ++ rest) ≡ private ++ []
inputs_begun xs rest private n is size = take_at xs rest n (ap length is ∙ size) ∙ is ∙ sym (append-nil private)

pub inputs_zeros : {X : Type 0} (d : X) (cleared xs rest : List X) (n : ℕ) → length xs ≡ n → rest ≡ drop n cleared → ((j : ℕ) → get_or cleared j d ≡ d) → (j : ℕ) → n ≤ j → get_or (xs ++ rest) j d ≡ d
inputs_zeros d cleared xs rest n size is zeros j h =
    get_or-append_right xs rest n j d size h ∙ ap (λ ys. get_or ys (j - n) d) is ∙ get_or-drop n cleared (j - n) d ∙ zeros (n + (j - n))
