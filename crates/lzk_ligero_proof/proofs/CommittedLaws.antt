-- The entries of the committed list: the private inputs, then each layer's pads and the product of its factors' pads.
use Rattle.std.specs.Prelude.{◌≡◌, ℕ, ◌+◌, ◌-◌, ◌*◌, ◌<◌, ◌≤◌, List, [], ◌∷◌, ◌++◌, length, take, get_or}
use Rattle.std.specs.List.{range_with_len, flat_map}
use Rattle.std.proofs.Common.{zero, suc, refl, sym, ap, ◌∙◌, arith}
use Rattle.std.proofs.lemmas.Grind.{flat_map-append}
use Rattle.std.proofs.lemmas.List.{length-append, get_or_append_left, get_or-append_right, take_at}
use Rattle.std.proofs.lemmas.List.Concat.{get_or-flat_map}
use Rattle.std.proofs.lemmas.List.FromFn.{length-range_with_len, get_or-range_with_len, length-map-range_with_len, get_or-map-range_with_len}
use Rattle.lzk_field.specs.Coding.{Coding}
use Rattle.lzk_field.specs.Ring.{Ops}
use Rattle.lzk_field.specs.Sums.{entry}
use Rattle.lzk_circuit.specs.Valid.{Wiring}
use Rattle.lzk_layout.specs.Places.{depth, round_count, sent_at, pads_at, factors_sent_at, factors_at}
use Rattle.lzk_layout.specs.Sizes.{sent_counts}
use Rattle.lzk_layout.proofs.PlaceLaws.{pads_next, sent_within}
use Rattle.lzk_ligero_tableau.specs.Tableau.{random, randoms, layer_pads, committed}

range_more : (a n : ℕ) → range_with_len a (suc n) ≡ range_with_len a n ++ (a + n) ∷ []
range_more a zero = let z : a ≡ a + 0 = omega arith in ap (λ x. x ∷ []) z
range_more a (suc n) =
    let z : a + 1 + n ≡ a + suc n = omega arith in
    ap (λ xs. a ∷ xs) (range_more (a + 1) n ∙ ap (λ x. range_with_len (a + 1) n ++ x ∷ []) z)

range_front : (a n k : ℕ) → k ≤ n → take k (range_with_len a n) ≡ range_with_len a k
range_front a n zero h = refl
range_front a zero (suc k) h = absurd (omega (arith, h))
range_front a (suc n) (suc k) h = ap (λ xs. a ∷ xs) (range_front (a + 1) n k (omega (arith, h)))

module _ {A : Type 0} (o : Ops A) (e : Coding A) (c : Wiring A) (private : List A) (word : ℕ → ℕ) (count : length private ≡ c.privates) where
  abbrev W : List A
  W = committed o e c private word

  -- the pads of all sent elements
  abbrev pads : List A
  pads = randoms o e word 0 (sent_counts c)

  -- what is committed to of a layer
  abbrev own : ℕ → List A
  own = layer_pads o e c private word

  abbrev own_pads : ℕ → List A
  own_pads l = randoms o e word (sent_at c l) (2 * round_count c l + 2)

  length_own_pads : (l : ℕ) → length (own_pads l) ≡ 2 * round_count c l + 2
  length_own_pads l = length-map-range_with_len (random o e word) (sent_at c l) (2 * round_count c l + 2)

  length_own : (l : ℕ) → length (own l) ≡ 2 * round_count c l + 3
  length_own l = length-append (own_pads l) _ ∙ omega (arith, length_own_pads l)

  -- of the first layers
  abbrev front : ℕ → List A
  front l = flat_map own (range_with_len 0 l)

  front_more : (l : ℕ) → length (front (suc l)) ≡ length (front l) + length (own l)
  front_more l =
      let z : 0 + l ≡ l = omega arith in
      ap (λ xs. length (flat_map own xs)) (range_more 0 l ∙ ap (λ i. range_with_len 0 l ++ i ∷ []) z)
      ∙ ap length (flat_map-append own (range_with_len 0 l) (l ∷ []))
      ∙ length-append (front l) (own l ++ [])
      ∙ omega (arith, length-append (own l) [])

  front_ends : (l : ℕ) → l ≤ depth c → c.privates + length (front l) ≡ pads_at c l
  front_ends zero h = omega arith
  front_ends (suc l) h =
      let z : suc l ≡ l + 1 = omega arith in
      omega (arith, front_more l, length_own l, front_ends l (omega (arith, h)), pads_next c l h, ap (pads_at c) z)

  in_layer : (l k : ℕ) → l < depth c → k < 2 * round_count c l + 3 → entry o W (pads_at c l + k) ≡ entry o (own l) k
  unfolding committed
  in_layer l k h b =
      let xs = range_with_len 0 (depth c) in
      let before = length (flat_map own (take l xs)) in
      let size : before ≡ length (front l) = ap (λ ys. length (flat_map own ys)) (range_front 0 (depth c) l (omega (arith, h))) in
      let ends = front_ends l (omega (arith, h)) in
      let here : pads_at c l + k - length private ≡ before + k = omega (arith, size, ends, count) in
      let at : get_or xs l 0 ≡ l = get_or-range_with_len 0 (depth c) l 0 h ∙ omega arith in
      get_or-append_right private (front (depth c)) (length private) (pads_at c l + k) o.zero refl (omega (arith, ends, count))
      ∙ ap (entry o (front (depth c))) here
      ∙ get_or-flat_map own xs l k 0 o.zero (omega (arith, h, length-range_with_len 0 (depth c))) (omega (arith, b, length_own l, ap (λ i. length (own i)) at))
      ∙ ap (λ i. entry o (own i) k) at

  -- the pad of a sent element is the word of its number
  pad_is : (k : ℕ) → k < sent_counts c → entry o pads k ≡ random o e word k
  pad_is k h = get_or-map-range_with_len (random o e word) 0 (sent_counts c) k k o.zero h (omega arith)

  -- a layer's pads are those of its sent elements
  pub entry_pad : (l k : ℕ) → l < depth c → k < 2 * round_count c l + 2 → entry o W (pads_at c l + k) ≡ entry o pads (sent_at c l + k)
  entry_pad l k h b =
      in_layer l k h (omega (arith, b))
      ∙ get_or_append_left (own_pads l) _ o.zero k (omega (arith, b, length_own_pads l))
      ∙ get_or-map-range_with_len (random o e word) (sent_at c l) (2 * round_count c l + 2) k (sent_at c l + k) o.zero b refl
      ∙ sym (pad_is (sent_at c l + k) (omega (arith, b, sent_within c l h)))

  -- and behind them stands the product of the factors' pads
  pub entry_product : (l : ℕ) → l < depth c → entry o W (factors_at c l + 2) ≡ o.times (entry o pads (factors_sent_at c l)) (entry o pads (factors_sent_at c l + 1))
  entry_product l h =
      let k = 2 * round_count c l + 2 in
      let product : A → A → List A = λ x y. o.times x y ∷ [] in
      let x = random o e word (factors_sent_at c l) in
      let y = random o e word (factors_sent_at c l + 1) in
      let here : factors_at c l + 2 ≡ pads_at c l + k = omega arith in
      let first : k - k ≡ 0 = omega arith in
      ap (entry o W) here
      ∙ in_layer l k h (omega arith)
      ∙ get_or-append_right (own_pads l) (product x y) k k o.zero (length_own_pads l) (omega arith)
      ∙ ap (entry o (product x y)) first
      ∙ ap (λ u. o.times u y) (sym (pad_is (factors_sent_at c l) (omega (arith, sent_within c l h))))
      ∙ ap (o.times (entry o pads (factors_sent_at c l))) (sym (pad_is (factors_sent_at c l + 1) (omega (arith, sent_within c l h))))

  -- the private inputs stand first
  pub privates_first : take c.privates W ≡ private
  unfolding committed
  privates_first = take_at private (front (depth c)) c.privates count
