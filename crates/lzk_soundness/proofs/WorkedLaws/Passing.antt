-- Zeros pass by draws of zeros.
use Rattle.lzk_profile.specs.Profile.{opened_count}
use Rattle.std.specs.Prelude.{◌≡◌, ℕ, ◌+◌, ◌-◌, ◌*◌, ◌<◌, List, [], ◌∷◌, ◌++◌, length, flat_map, take, drop, replicate, slice_index}
use Rattle.std.proofs.Common.{zero, suc, refl, sym, ap, ◌∙◌, arith, length-append}
use Rattle.std.proofs.lemmas.List.{get_or_append_left, get_or-append-add, length-replicate}
use Rattle.std.proofs.lemmas.List.FromFn.{get_or-map-range_with_len, length-map-range_with_len}
use Rattle.lzk_field.specs.Coding.{Coding}
use Rattle.lzk_field.specs.Ring.{Ops, Laws}
use Rattle.lzk_field.specs.Sums.{sum_below, minus, entry}
use Rattle.lzk_poly.specs.Extension.{extension}
use Rattle.lzk_circuit.specs.Valid.{Wiring}
use Rattle.lzk_layout.specs.declared.params.Params.{Params}
use Rattle.lzk_layout.specs.declared.proof.Proof.{Proof}
use Rattle.lzk_layout.specs.Places.{depth}
use Rattle.lzk_layout.specs.Sizes.{AreBounded, params_of}
use Rattle.lzk_sumcheck.specs.declared.script.Script.{Script}
use Rattle.lzk_accept.specs.declared.challenges.Challenges.{Challenges}
use Rattle.lzk_accept.specs.Checks.{at_row, in_triple, quadratic_values, coefficient_of, right_of, combined_row_of}
use Rattle.lzk_soundness.specs.Draws.Game.{IsProver}
use Rattle.lzk_soundness.specs.Draws.Schedule.{draw_count, script_of}
use Rattle.lzk_soundness.specs.Whole.Whole.{weight_count}
use Rattle.lzk_soundness.specs.Count.Game.{row_count, script_draws, weights_in, column_of, shown, IsPassed}
use Rattle.lzk_soundness.specs.Worked.Zeros.{zeros_sent, HasZeroMasks}
use Rattle.lzk_soundness.proofs.WorkedLaws.Zeros.{AllZero, zeros_replicate, zeros_take, zeros_drop, zeros_append, zero_sum, zero_product, zero_both, zero_extension, zero_row, zero_wanted}

-- an entry of lists of one length, one after the other
entry_of_flat : {A : Type 0} (o : Ops A) (f : ℕ → List A) (n : ℕ) (js : List ℕ) (k i : ℕ) → ((j : ℕ) → length (f j) ≡ n) → k < length js → i < n → entry o (flat_map f js) (k * n + i) ≡ entry o (f (slice_index js k)) i
entry_of_flat o f n [] k i same h b = absurd (omega arith)
entry_of_flat o f n (j ∷ js) zero i same h b = let z : 0 * n + i ≡ i = omega arith in ap (entry o (f j ++ flat_map f js)) z ∙ get_or_append_left (f j) (flat_map f js) o.zero i (omega (arith, b, same j))
entry_of_flat o f n (j ∷ js) (suc k) i same h b =
    let z : suc k * n + i ≡ length (f j) + (k * n + i) = omega (arith, same j) in
    ap (entry o (f j ++ flat_map f js)) z ∙ get_or-append-add (f j) (flat_map f js) (k * n + i) o.zero ∙ entry_of_flat o f n js k i same (omega arith) b

length_of_flat : {A : Type 0} (f : ℕ → List A) (n : ℕ) (js : List ℕ) → ((j : ℕ) → length (f j) ≡ n) → length (flat_map f js) ≡ length js * n
length_of_flat f n [] same = omega arith
length_of_flat f n (j ∷ js) same = length-append (f j) (flat_map f js) ∙ omega (arith, same j, length_of_flat f n js same)

module _ {A : Type 0} (o : Ops A) (c : Wiring A) where
  -- he sends the same for all draws
  pub zeros_prover : (table : ℕ → ℕ → A) → IsProver o c (zeros_sent o c table).messages
  zeros_prover table = record { layers = λ l xs ys h agree k q. refl; rounds = λ l n xs ys h q agree k b. refl }

module _ {A : Type 0} (o : Ops A) (e : Coding A) (laws : Laws o e.size e.number e.element e.bytes) (c : Wiring A) (b : AreBounded (params_of c)) (public : List A) (table : ℕ → ℕ → A) (masks : HasZeroMasks o table) (draws : List A) (zeros : AllZero o draws) (columns : List ℕ) where
  abbrev p : Params
  p = params_of c

  abbrev proof : Proof A
  proof = shown o c (zeros_sent o c table) draws columns

  abbrev ch : Challenges A
  ch = weights_in c draws

  abbrev script : Script A
  script = script_of o c (script_draws c draws)

  linear_zeros : AllZero o (take (weight_count c) (drop (draw_count c) draws))
  linear_zeros = zeros_take o (weight_count c) (drop (draw_count c) draws) (zeros_drop o (draw_count c) draws zeros)

  other_zeros : AllZero o (drop (draw_count c + weight_count c) draws)
  other_zeros = zeros_drop o (draw_count c + weight_count c) draws zeros

  u_zeros : AllZero o ch.u
  u_zeros = zeros_take o (row_count c) (drop (draw_count c + weight_count c) draws) other_zeros

  v_zeros : AllZero o ch.v
  v_zeros = zeros_drop o (row_count c) (drop (draw_count c + weight_count c) draws) other_zeros

  lambda_zeros : AllZero o ch.lambda
  lambda_zeros = zeros_take o (depth c + 1) (take (weight_count c) (drop (draw_count c) draws)) linear_zeros

  mu_zeros : AllZero o ch.mu
  mu_zeros = zeros_drop o (depth c + 1) (take (weight_count c) (drop (draw_count c) draws)) linear_zeros

  mask_zero : (k i : ℕ) → k < length columns → i < 3 → at_row o p proof k i ≡ o.zero
  mask_zero k i h l =
      entry_of_flat o (column_of o c (zeros_sent o c table)) p.nrow columns k i (λ j. length-map-range_with_len (λ i. table i j) 0 p.nrow) h (omega (arith, l, b.rows))
      ∙ get_or-map-range_with_len (λ i. table i (slice_index columns k)) 0 p.nrow i i o.zero (omega (arith, l, b.rows)) (omega arith)
      ∙ masks i (slice_index columns k) l

  quads_zero : AllZero o (quadratic_values o p proof)
  quads_zero =
      zeros_append o (replicate opened_count o.zero) (replicate (p.block - opened_count) o.zero ++ replicate (p.dblock - p.block) o.zero) (zeros_replicate o opened_count)
      (zeros_append o (replicate (p.block - opened_count) o.zero) (replicate (p.dblock - p.block) o.zero) (zeros_replicate o (p.block - opened_count)) (zeros_replicate o (p.dblock - p.block)))

  pub zeros_passed : IsPassed o e c public (zeros_sent o c table) draws columns
  zeros_passed =
      let coefficient = coefficient_of o e.element c public script proof.messages in
      let rows = combined_row_of o e.element c public script proof.messages ch in
      record {
        messages = length-replicate p.nsum o.zero;
        ldt = length-replicate p.block o.zero;
        dot = length-replicate p.dblock o.zero;
        quad_head = length-replicate opened_count o.zero;
        quad_tail = length-replicate (p.dblock - p.block) o.zero;
        opened = length_of_flat (column_of o c (zeros_sent o c table)) p.nrow columns (λ j. length-map-range_with_len (λ i. table i j) 0 p.nrow);
        low_degree = λ k h.
            let f : ℕ → A = λ i. o.times (entry o ch.u i) (at_row o p proof k (3 + i)) in
            zero_extension o laws.ring e.element (replicate p.block o.zero) (p.dblock + slice_index columns k) (zeros_replicate o p.block)
            ∙ sym (zero_both o laws.ring (at_row o p proof k 0) (sum_below o (p.nrow - 3) f) (mask_zero k 0 h (omega arith))
            (zero_sum o laws.ring (p.nrow - 3) f (λ i. zero_product o laws.ring (entry o ch.u i) (at_row o p proof k (3 + i)) (u_zeros i))));
        linear_sum = zero_sum o laws.ring (p.block - opened_count) (λ i. entry o proof.dot (opened_count + i)) (λ i. zeros_replicate o p.dblock (opened_count + i))
            ∙ sym (zero_wanted o laws.ring c coefficient ch lambda_zeros mu_zeros (right_of o e.element c public script proof.messages));
        linear = λ k h.
            let at = p.dblock + slice_index columns k in
            let f : ℕ → A = λ i. o.times (extension o e.element (rows (3 + i)) at) (at_row o p proof k (3 + i)) in
            zero_extension o laws.ring e.element (replicate p.dblock o.zero) at (zeros_replicate o p.dblock)
            ∙ sym (zero_both o laws.ring (at_row o p proof k 1) (sum_below o (p.nrow - 3) f) (mask_zero k 1 h (omega arith))
            (zero_sum o laws.ring (p.nrow - 3) f (λ i. zero_product o laws.ring (extension o e.element (rows (3 + i)) at) (at_row o p proof k (3 + i))
            (zero_extension o laws.ring e.element (rows (3 + i)) at (zero_row o laws.ring c coefficient ch lambda_zeros mu_zeros (3 + i))))));
        quadratic = λ k h.
            let T : ℕ → A = λ i. minus o (o.times (in_triple o p proof k i 0) (in_triple o p proof k i 1)) (in_triple o p proof k i 2) in
            let f : ℕ → A = λ i. o.times (entry o ch.v i) (T i) in
            zero_extension o laws.ring e.element (quadratic_values o p proof) (p.dblock + slice_index columns k) quads_zero
            ∙ sym (zero_both o laws.ring (at_row o p proof k 2) (sum_below o p.ntriple f) (mask_zero k 2 h (omega arith))
            (zero_sum o laws.ring p.ntriple f (λ i. zero_product o laws.ring (entry o ch.v i) (T i) (v_zeros i))));
      }
