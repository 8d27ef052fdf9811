-- The committed list is as long as it should be, and has the product of each layer's factors' pads.
use Rattle.std.specs.Prelude.{◌≡◌, ℕ, ◌+◌, ◌*◌, ◌<◌, ◌≤◌, List, [], ◌∷◌, length}
use Rattle.std.specs.List.{range_with_len, flat_map}
use Rattle.std.proofs.Common.{zero, suc, sym, ap, ◌∙◌, arith}
use Rattle.std.proofs.lemmas.List.{length-append}
use Rattle.std.proofs.lemmas.List.FromFn.{length-map-range_with_len}
use Rattle.lzk_field.specs.Coding.{Coding}
use Rattle.lzk_field.specs.Ring.{Ops}
use Rattle.lzk_field.specs.Sums.{entry}
use Rattle.lzk_circuit.specs.Valid.{Wiring}
use Rattle.lzk_layout.specs.Places.{depth, round_count, sent_at, pads_at, factors_sent_at, factors_at}
use Rattle.lzk_layout.specs.Sizes.{committed_count, sent_counts}
use Rattle.lzk_layout.proofs.PlaceLaws.{pads_next, pads_last}
use Rattle.lzk_ligero_tableau.specs.Tableau.{random, randoms, layer_pads, committed}
use Rattle.lzk_ligero_proof.proofs.CommittedLaws.{entry_pad, entry_product}

-- lists one after the other, each place behind the list before
length_places : {A : Type 0} (f : ℕ → List A) (P : ℕ → ℕ) (bound a n : ℕ) → a + n ≤ bound → ((i : ℕ) → i < bound → P (suc i) ≡ P i + length (f i)) → P a + length (flat_map f (range_with_len a n)) ≡ P (a + n)
length_places f P bound a zero room steps = let z : a + 0 ≡ a = omega arith in omega (arith, ap P z)
length_places f P bound a (suc n) room steps =
    let z : a + suc n ≡ (a + 1) + n = omega arith in
    let y : suc a ≡ a + 1 = omega arith in
    omega (arith, ap P z, ap P y, steps a (omega (arith, room)), length-append (f a) (flat_map f (range_with_len (a + 1) n)), length_places f P bound (a + 1) n (omega (arith, room)) steps)

module _ {A : Type 0} (o : Ops A) (e : Coding A) (c : Wiring A) (private : List A) (word : ℕ → ℕ) where
  abbrev own : ℕ → List A
  own = layer_pads o e c private word

  length_own : (l : ℕ) → length (own l) ≡ 2 * round_count c l + 3
  length_own l =
      let product = o.times (random o e word (factors_sent_at c l)) (random o e word (factors_sent_at c l + 1)) in
      let n = 2 * round_count c l + 2 in
      length-append (randoms o e word (sent_at c l) n) (product ∷ []) ∙ omega (arith, length-map-range_with_len (random o e word) (sent_at c l) n)

  steps : (i : ℕ) → i < depth c → pads_at c (suc i) ≡ pads_at c i + length (own i)
  steps i h = let y : suc i ≡ i + 1 = omega arith in ap (pads_at c) y ∙ pads_next c i h ∙ omega (arith, length_own i)

  module _ (count : length private ≡ c.privates) where
    pub length_committed : length (committed o e c private word) ≡ committed_count c
    unfolding committed
    length_committed =
        let z : pads_at c 0 ≡ c.privates = omega arith in
        let y : 0 + depth c ≡ depth c = omega arith in
        omega (
          arith,
          count,
          z,
          length-append private (flat_map own (range_with_len 0 (depth c))),
          length_places own (pads_at c) (depth c) 0 (depth c) (omega arith) steps,
          ap (pads_at c) y,
          pads_last c,
        )

    -- each layer's product is that of its factors' pads
    pub products : (l : ℕ) → l < depth c
        → (let w = committed o e c private word in o.times (entry o w (factors_at c l)) (entry o w (factors_at c l + 1)) ≡ entry o w (factors_at c l + 2))
    products l h =
        let w = committed o e c private word in
        let pads = randoms o e word 0 (sent_counts c) in
        let n = 2 * round_count c l in
        let z : factors_at c l + 1 ≡ pads_at c l + (n + 1) = omega arith in
        let y : sent_at c l + (n + 1) ≡ factors_sent_at c l + 1 = omega arith in
        let first : entry o w (factors_at c l) ≡ entry o pads (factors_sent_at c l) = entry_pad o e c private word count l n h (omega arith) in
        let second : entry o w (factors_at c l + 1) ≡ entry o pads (factors_sent_at c l + 1) = ap (entry o w) z ∙ entry_pad o e c private word count l (n + 1) h (omega arith) ∙ ap (entry o pads) y in
        ap (λ a. o.times a (entry o w (factors_at c l + 1))) first ∙ ap (o.times (entry o pads (factors_sent_at c l))) second ∙ sym (entry_product o e c private word count l h)
