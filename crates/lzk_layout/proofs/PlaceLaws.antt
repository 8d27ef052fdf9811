-- The layers' places follow one another, and all are within the elements that are sent and committed to.
use Rattle.lzk_profile.specs.Profile.{most_sent, most_committed}
use Rattle.std.specs.Prelude.{◌≡◌, ℕ, ◌+◌, ◌*◌, ◌<◌, ◌≤◌}
use Rattle.std.proofs.Common.{refl, sym, ap, ◌∙◌, arith}
use Rattle.std.specs.List.{sum_by}
use Rattle.std.proofs.lemmas.List.{take_all, get_or_past}
use Rattle.std.proofs.lemmas.List.Sums.{sum_by-take-le}
use Rattle.lzk_field.specs.Ring.{Ops}
use Rattle.lzk_circuit.specs.Bits.{bits}
use Rattle.lzk_circuit.specs.Valid.{Wiring, IsValid}
use Rattle.lzk_circuit.proofs.BitLaws.{bits_few}
use Rattle.lzk_layout.specs.declared.places.LayerPlaces.{LayerPlaces}
use Rattle.lzk_layout.specs.Sizes.{sent_count, pad_count, under_widths, sent_counts, committed_count}
use Rattle.lzk_layout.specs.Places.{depth, width_at, bits_under, sent_at, pads_at, factors_sent_at, factors_at, begun, places_of, AreWithin}
use Rattle.lzk_layout.proofs.SizeLaws.{narrow, counts_more, under_is, under_count, sent_few, committed_few}

module _ {A : Type 0} (c : Wiring A) where
  -- the next layer's elements stand behind this one's factors
  pub sent_next : (l : ℕ) → l < depth c → sent_at c (l + 1) ≡ factors_sent_at c l + 2
  sent_next l h = omega (arith, counts_more sent_count c l (width_at c (l + 1)) h refl)

  -- and its pads behind the product of this one's
  pub pads_next : (l : ℕ) → l < depth c → pads_at c (l + 1) ≡ factors_at c l + 3
  pads_next l h = omega (arith, counts_more pad_count c l (width_at c (l + 1)) h refl)

  -- behind the last layer all elements are sent
  pub sent_last : sent_at c (depth c) ≡ sent_counts c
  sent_last = ap (sum_by sent_count) (take_all (depth c) (under_widths c) (omega (arith, under_count c)))

  -- and the committed list ends
  pub pads_last : pads_at c (depth c) ≡ committed_count c
  pads_last = ap (λ ws. c.privates + sum_by pad_count ws) (take_all (depth c) (under_widths c) (omega (arith, under_count c)))

  pub sent_most : (l : ℕ) → sent_at c l ≤ sent_counts c
  sent_most l = sum_by-take-le sent_count (under_widths c) l

  pub pads_most : (l : ℕ) → pads_at c l ≤ committed_count c
  pads_most l = omega (arith, sum_by-take-le pad_count (under_widths c) l)

  -- a layer's elements are among those that are sent
  pub sent_within : (l : ℕ) → l < depth c → factors_sent_at c l + 2 ≤ sent_counts c
  sent_within l h = omega (arith, sent_next l h, sent_most (l + 1))

  -- and its pads and their product in the committed list
  pub pads_within : (l : ℕ) → l < depth c → factors_at c l + 3 ≤ committed_count c
  pads_within l h = omega (arith, pads_next l h, pads_most (l + 1))

  pub within : (o : Ops A) → IsValid o c → (l : ℕ) → l < depth c → AreWithin c (places_of c l)
  within o valid l h = record { bits = bits_few (width_at c (l + 1)) (narrow o c (l + 1) valid); sent = sent_within l h; committed = pads_within l h }

  -- behind the last layer there are no wires
  pub no_bits : (l : ℕ) → depth c ≤ l → bits_under c l ≡ 0
  unfolding bits
  no_bits l h = ap bits (sym (under_is c l) ∙ get_or_past (under_widths c) l 0 (omega (arith, under_count c)))

  -- where a layer's elements and pads begin, all of its places are
  pub begun_is : (l : ℕ) → begun (bits_under c l) (sent_at c l) (pads_at c l) ≡ places_of c l
  begun_is l = let e : 4 * bits_under c l ≡ 2 * (2 * bits_under c l) = omega arith in ap behind e
    where
      behind : ℕ → LayerPlaces
      behind k = record { bits = bits_under c l; messages = sent_at c l; factors_sent = sent_at c l + k; pads = pads_at c l; factors = pads_at c l + k }

  pub first_is : begun (bits_under c 0) 0 c.privates ≡ places_of c 0
  first_is = let e : c.privates ≡ pads_at c 0 = omega arith in ap (begun (bits_under c 0) 0) e ∙ begun_is 0

  pub next_is : (l bits : ℕ) (places : LayerPlaces) → l < depth c → places ≡ places_of c l → bits ≡ bits_under c (l + 1) → begun bits (places.factors_sent + 2) (places.factors + 3) ≡ places_of c (l + 1)
  next_is l bits places h e b =
      ap (λ (k : ℕ). begun k (places.factors_sent + 2) (places.factors + 3)) b
      ∙ ap (λ (p : LayerPlaces). begun (bits_under c (l + 1)) (p.factors_sent + 2) (p.factors + 3)) e
      ∙ ap (λ (k : ℕ). begun (bits_under c (l + 1)) k (factors_at c l + 3)) (sym (sent_next l h))
      ∙ ap (begun (bits_under c (l + 1)) (sent_at c (l + 1))) (sym (pads_next l h))
      ∙ begun_is (l + 1)

  -- where the next layer's elements begin, as numbers of 32 bits
  pub few_sent_before : (o : Ops A) → IsValid o c → (l : ℕ) (places : LayerPlaces) → l < depth c → places ≡ places_of c l → places.factors_sent + 2 ≤ most_sent
  few_sent_before o valid l places h e = rw e (omega (arith, sent_within l h, sent_few o c valid))

  pub few_pads_before : (o : Ops A) → IsValid o c → (l : ℕ) (places : LayerPlaces) → l < depth c → places ≡ places_of c l → places.factors + 3 ≤ most_committed
  few_pads_before o valid l places h e = rw e (omega (arith, pads_within l h, committed_few o c valid))
