-- How many elements the sumchecks of a valid circuit send, where its wires together are counted and not those of each layer.
use Rattle.lzk_profile.specs.Profile.{most_width, most_bits}
use Rattle.lzk_shares.specs.Shares.{sent_in_all}
use Rattle.std.specs.Prelude.{◌≡◌, ℕ, ◌+◌, ◌*◌, ◌<◌, ◌≤◌, ◌++◌, List, [], ◌∷◌, length, map, drop}
use Rattle.std.specs.List.{sum_by}
use Rattle.std.proofs.Common.{zero, suc, ap, arith, inl, inr}
use Rattle.std.proofs.lemmas.Bool.{cases_lt}
use Rattle.std.proofs.lemmas.List.Sums.{sum_by-cons}
use Rattle.lzk_field.specs.Ring.{Ops}
use Rattle.lzk_circuit.specs.Bits.{bits}
use Rattle.lzk_circuit.specs.declared.layer.Layer.{Layer}
use Rattle.lzk_circuit.specs.Valid.{Wiring, IsValid, AreLayersOf, under_of, input_width}
use Rattle.lzk_circuit.proofs.BitLaws.{bits_few, bits_least}
use Rattle.lzk_layout.specs.Sizes.{params_of, under_widths, sent_count, pad_count, sent_counts, committed_count}
use Rattle.lzk_layout.specs.Places.{depth, bits_under, sent_at}
use Rattle.lzk_layout.proofs.PlaceLaws.{sent_next, sent_last}
use Rattle.lzk_soundness.specs.Draws.Schedule.{firsts}
use Rattle.lzk_soundness.specs.Draws.Laws.{add_below}
use Rattle.lzk_soundness.proofs.DrawsLaws.Places.{few_firsts}

-- each bit more than twelve takes more wires
sent_each : (w : ℕ) → w ≤ most_width → 1024 * sent_count w ≤ 51200 + w
sent_each w le =
    elim (cases_lt 12 (bits w)) [
      | inr few ↦ omega (arith, few)
      | inl one ↦ elim (cases_lt 13 (bits w)) [
        | inr few ↦ let more : 4096 < w = bits_least w 12 one in omega (arith, few, more)
        | inl two ↦ elim (cases_lt 14 (bits w)) [
          | inr few ↦ let more : 8192 < w = bits_least w 13 two in omega (arith, few, more)
          | inl three ↦ elim (cases_lt 15 (bits w)) [
            | inr few ↦ let more : 16384 < w = bits_least w 14 three in omega (arith, few, more)
            | inl four ↦ elim (cases_lt 16 (bits w)) [
              | inr few ↦ let more : 32768 < w = bits_least w 15 four in omega (arith, few, more)
              | inl five ↦ elim (cases_lt 17 (bits w)) [
                | inr few ↦ let more : 65536 < w = bits_least w 16 five in omega (arith, few, more)
                | inl six ↦ elim (cases_lt 18 (bits w)) [
                  | inr few ↦ let more : 131072 < w = bits_least w 17 six in omega (arith, few, more)
                  | inl seven ↦ let more : 262144 < w = bits_least w 18 seven in omega (arith, bits_few w le, more)
                ]
              ]
            ]
          ]
        ]
      ]
    ]

abbrev wires_of : {A : Type 0} → List (Layer A) → List ℕ
wires_of layers = map (λ layer. layer.wires) layers

sent_below : {A : Type 0} (o : Ops A) (version n : ℕ) (layers : List (Layer A)) → n ≤ most_width → AreLayersOf o version n layers
    → 1024 * sum_by sent_count (wires_of layers ++ n ∷ []) ≤ 51200 * length layers + (under_of n layers).wires + 1024 * (4 * most_bits + 2)
sent_below o version n [] le are = let one = sum_by-cons sent_count n [] in omega (arith, one, bits_few n le)
sent_below o version n (layer ∷ layers) le are =
    let here = are.0 in
    omega (arith, sum_by-cons sent_count layer.wires (wires_of layers ++ n ∷ []), sent_each layer.wires (omega (arith, here.most)), sent_below o version n layers le are.1)

sent_under : {A : Type 0} (o : Ops A) (version n : ℕ) (layers : List (Layer A)) → 1 ≤ length layers → length layers ≤ 512 → n ≤ most_width → AreLayersOf o version n layers
    → sum_by sent_count (drop 1 (wires_of layers ++ n ∷ [])) ≤ sent_in_all
sent_under o version n [] some most le are = absurd (omega (arith, some))
sent_under o version n (layer ∷ layers) some most le are =
    let here = are.0 in omega (arith, sent_below o version n layers le are.1, here.wires, most)

-- fewer than the committed list has pads
sent_padded : (ws : List ℕ) → sum_by sent_count ws ≤ sum_by pad_count ws
sent_padded [] = omega arith
sent_padded (w ∷ ws) = omega (arith, sum_by-cons sent_count w ws, sum_by-cons pad_count w ws, sent_padded ws)

module _ {A : Type 0} (o : Ops A) (c : Wiring A) (valid : IsValid o c) where
  pub sent_few : sent_counts c ≤ sent_in_all
  sent_few = sent_under o c.version (input_width c) c.layers valid.some valid.depth (omega (arith, valid.publics, valid.privates)) valid.layers

  pub sent_committed : sent_counts c ≤ committed_count c
  sent_committed = omega (arith, sent_padded (under_widths c))

  -- the degrees of all draws, but for the outputs' point and gamma, are no more than what is sent
  draws_below : (n : ℕ) → n ≤ depth c → add_below n (λ k. firsts c + 4 * bits_under c k) ≤ sent_at c n
  draws_below zero h = omega arith
  draws_below (suc n) h =
      let y : suc n ≡ n + 1 = omega arith in
      omega (arith, draws_below n (omega (arith, h)), sent_next c n (omega (arith, h)), ap (sent_at c) y, few_firsts c)

  pub draws_sent : add_below (depth c) (λ k. firsts c + 4 * bits_under c k) ≤ sent_counts c
  draws_sent = omega (arith, draws_below (depth c) (omega arith), sent_last c)
