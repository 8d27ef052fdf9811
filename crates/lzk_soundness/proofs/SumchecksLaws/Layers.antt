-- A layer's sumcheck: with what it begins and ends, for any committed list, draws and sent elements.
use Rattle.std.specs.Prelude.{◌≡◌, ℕ, ◌<◌, ◌+◌, ◌*◌, ◌/◌, ◌%◌, ◌==◌, cond, List, [], ◌∷◌, length, take}
use Rattle.std.proofs.Common.{suc, refl, sym, ap, ◌∙◌, arith}
use Rattle.std.proofs.lemmas.List.{length-take-le}
use Rattle.std.proofs.lemmas.List.FromFn.{length-map-range_with_len, get_or-map-range_with_len, fill_by_all}
use Rattle.lzk_field.specs.Coding.{Coding}
use Rattle.lzk_field.specs.Ring.{Ops, Laws}
use Rattle.lzk_field.specs.Sums.{sum_below, entry}
use Rattle.lzk_field.proofs.Solve.{var, ◌⊞◌, ◌⊠◌, solve}
use Rattle.lzk_field.proofs.SumLaws.{sum-ext, sum-plus, sum-times}
use Rattle.lzk_mle.specs.Multilinear.{eq, tilde}
use Rattle.lzk_circuit.specs.Valid.{Wiring}
use Rattle.lzk_circuit.specs.Wires.{coef, layer_coefficient, wire, inputs_of}
use Rattle.lzk_circuit.specs.Checks.{asserted}
use Rattle.lzk_circuit.proofs.BitLaws.{bits_enough}
use Rattle.lzk_layout.specs.Sizes.{committed_count}
use Rattle.lzk_layout.specs.Places.{depth, width_at, bits_under, round_count}
use Rattle.lzk_sumcheck.specs.declared.script.Script.{Script}
use Rattle.lzk_sumcheck.specs.Coefficients.{coefficients, terms_at, weights_at, bound_at}
use Rattle.lzk_sumcheck.specs.Messages.{layered_at, true_a, true_b}
use Rattle.lzk_sumcheck.specs.Rounds.{Layered, of_a, of_b, bound_coefficient, claim, IsFitting, IsSumcheck}
use Rattle.lzk_sumcheck.specs.Script.{layer_at, point_a, point_b, challenge_at, first_challenges, HasBits, HasShape}
use Rattle.lzk_sumcheck.proofs.SentLaws.{evens, odds}
use Rattle.lzk_sumcheck.proofs.SumcheckLaws.{sumcheck_of}
use Rattle.lzk_sumcheck.proofs.WireLaws.{wire-weighed, values_are, length_values}
use Rattle.lzk_accept.proofs.ShapeLaws.{layer_shape}
use Rattle.lzk_soundness.specs.Sumchecks.Claims.{values_in, values_at, asserted_at, with_alpha}

-- the challenges of a layer's rounds are those of a's bits and those of b's bits in turn
module _ {A : Type 0} (o : Ops A) (s : Script A) (l : ℕ) where
  challenge_even : (n : ℕ) → entry o (layer_at o s l).ra n ≡ challenge_at o s l (2 * n)
  challenge_even n =
      let own = layer_at o s l in
      let z : 0 ≡ (2 * n) % 2 = omega arith in
      let h : n ≡ (2 * n) / 2 = omega arith in
      ap (entry o own.ra) h ∙ ap (λ k. cond (k == 0) (entry o own.ra ((2 * n) / 2)) (entry o own.rb ((2 * n) / 2))) z

  pub challenge_odd : (n : ℕ) → entry o (layer_at o s l).rb n ≡ challenge_at o s l (2 * n + 1)
  challenge_odd n =
      let own = layer_at o s l in
      let z : 1 ≡ (2 * n + 1) % 2 = omega arith in
      let h : n ≡ (2 * n + 1) / 2 = omega arith in
      ap (entry o own.rb) h ∙ ap (λ k. cond (k == 0) (entry o own.ra ((2 * n + 1) / 2)) (entry o own.rb ((2 * n + 1) / 2))) z

  module _ (bits : ℕ) (size : HasBits bits (layer_at o s l)) where
    all_a : of_a (first_challenges o s l (2 * bits)) ≡ (layer_at o s l).ra
    all_a =
        evens o (challenge_at o s l) bits
        ∙ sym (fill_by_all (λ j. challenge_at o s l (2 * j)) (layer_at o s l).ra bits o.zero size.ra (λ k h. challenge_even k))

    all_b : of_b (first_challenges o s l (2 * bits)) ≡ (layer_at o s l).rb
    all_b =
        odds o (challenge_at o s l) bits
        ∙ sym (fill_by_all (λ j. challenge_at o s l (2 * j + 1)) (layer_at o s l).rb bits o.zero size.rb (λ k h. challenge_odd k))

module _ {A : Type 0} (o : Ops A) (e : Coding A) (laws : Laws o e.size e.number e.element e.bytes) (c : Wiring A) (public w : List A) (s : Script A) (messages : List A) (publics : length public ≡ c.publics) (count : length w ≡ committed_count c) (shape : HasShape c s) where
  pub privates : length (take c.privates w) ≡ c.privates
  privates = length-take-le c.privates w (omega (arith, count))

  pub length_at : (l : ℕ) → length (values_at o c public w l) ≡ width_at c l
  length_at l = length_values o c public (take c.privates w) l publics privates

  abbrev pub L : ℕ → Layered A
  L = layered_at o c s (values_in o c public w)

  pub fits : (l : ℕ) → IsFitting (L l)
  fits l = omega (arith, length_at (l + 1), bits_enough (width_at c (l + 1)))

  identities : (l : ℕ) → IsSumcheck o e.element (L l)
  identities l = sumcheck_of laws (L l) (fits l)

  -- the last sum of a layer is what its factors give
  pub last_sum : (l : ℕ) → l < depth c → claim o (L l) (first_challenges o s l (round_count c l))
      ≡ o.times (bound_at o c (coefficients o c s) s l) (o.times (true_a o s (values_in o c public w) l) (true_b o s (values_in o c public w) l))
  unfolding bound_at
  last_sum l h =
      let bound = first_challenges o s l (round_count c l) in
      let ra = (layer_at o s l).ra in
      let rb = (layer_at o s l).rb in
      let below = values_at o c public w (l + 1) in
      let size = layer_shape o c s shape l h in
      let B : ℕ → List A → List A → A = bound_coefficient o (coefficients o c s l) (weights_at o c s l) in
      (identities l).last bound (length-map-range_with_len (challenge_at o s l) 0 (round_count c l))
      ∙ ap (λ xa. o.times (o.times (B (length below) xa (of_b bound)) (tilde o below xa)) (tilde o below (of_b bound))) (all_a o s l (bits_under c l) size)
      ∙ ap (λ xb. o.times (o.times (B (length below) ra xb) (tilde o below ra)) (tilde o below xb)) (all_b o s l (bits_under c l) size)
      ∙ ap (λ k. o.times (o.times (B k ra rb) (tilde o below ra)) (tilde o below rb)) (length_at (l + 1))
      ∙ laws.ring.times_assoc _ _ _

  -- the first one is what the two points give of its wires, and beta times what they give of its assertion terms
  pub first_sum : (l : ℕ) → l < depth c → claim o (L l) []
      ≡ o.plus (with_alpha o c public w e.element s messages l (tilde o (values_at o c public w l) (point_a o s l)) (tilde o (values_at o c public w l) (point_b o s l)))
      (o.times (layer_at o s l).beta (with_alpha o c public w e.element s messages l (tilde o (asserted_at o c public w l) (point_a o s l)) (tilde o (asserted_at o c public w l) (point_b o s l))))
  unfolding coefficients
  first_sum l h =
      let r = laws.ring in
      let n = width_at c l in
      let below = values_at o c public w (l + 1) in
      let qa = point_a o s l in
      let qb = point_b o s l in
      let alpha = (layer_at o s l).alpha in
      let beta = (layer_at o s l).beta in
      let weight : ℕ → A = λ g. o.plus (eq o g qa) (o.times alpha (eq o g qb)) in
      let v : ℕ → A = λ g. wire o (layer_coefficient o (terms_at c l) beta) below g in
      let x : ℕ → A = entry o (values_at o c public w l) in
      let z : ℕ → A = asserted o (terms_at c l) below in
      let zs = asserted_at o c public w l in
      let next : suc l ≡ l + 1 = omega arith in
      let long : length zs ≡ n = length-map-range_with_len z 0 n in
      let z_is : (g : ℕ) → g < n → entry o zs g ≡ z g = λ g k. get_or-map-range_with_len z 0 n g g o.zero k (omega arith) in
      let v_is : (g : ℕ) → g < n → v g ≡ o.plus (x g) (o.times beta (z g)) =
      λ g k.
      wire-weighed o r (terms_at c l) beta below g
      ∙ ap (λ y. o.plus y (o.times beta (z g)))
      (sym (values_are o c.layers (inputs_of o public (take c.privates w)) l g h (omega (arith, k, length_at l)) ∙ ap (λ i. wire o (coef o (terms_at c l)) (values_at o c public w i) g) next)) in
      let xa : ℕ → A = λ g. o.times (eq o g qa) (x g) in
      let xb : ℕ → A = λ g. o.times (eq o g qb) (x g) in
      let za : ℕ → A = λ g. o.times (eq o g qa) (z g) in
      let zb : ℕ → A = λ g. o.times (eq o g qb) (z g) in
      let xs : ℕ → A = λ g. o.plus (xa g) (o.times alpha (xb g)) in
      let ys : ℕ → A = λ g. o.plus (za g) (o.times alpha (zb g)) in
      let joined : (f g : ℕ → A) → sum_below o n (λ k. o.plus (f k) (o.times alpha (g k))) ≡ o.plus (sum_below o n f) (o.times alpha (sum_below o n g)) =
      λ f g. sum-plus o r n f (λ k. o.times alpha (g k)) ∙ ap (o.plus (sum_below o n f)) (sum-times o r n alpha g) in
      let T : (ℕ → A) → A = sum_below o n in
      let wires_a : T xa ≡ tilde o (values_at o c public w l) qa = ap (λ (k : ℕ). sum_below o k xa) (sym (length_at l)) in
      let wires_b : T xb ≡ tilde o (values_at o c public w l) qb = ap (λ (k : ℕ). sum_below o k xb) (sym (length_at l)) in
      let terms : (q : List A) → T (λ g. o.times (eq o g q) (z g)) ≡ tilde o zs q =
      λ q. sum-ext o r n (λ g. o.times (eq o g q) (z g)) (λ g. o.times (eq o g q) (entry o zs g)) (λ g k. ap (o.times (eq o g q)) (sym (z_is g k)))
      ∙ ap (λ (k : ℕ). sum_below o k (λ g. o.times (eq o g q) (entry o zs g))) (sym long) in
      (identities l).first
      ∙ ap (λ (k : ℕ). sum_below o k (λ g. o.times (entry o (weights_at o c s l) g) (v g))) (length-map-range_with_len weight 0 n)
      ∙ sum-ext o r n (λ g. o.times (entry o (weights_at o c s l) g) (v g)) (λ g. o.plus (xs g) (o.times beta (ys g)))
      (λ g k.
      ap (λ y. o.times y (v g)) (get_or-map-range_with_len weight 0 n g g o.zero k (omega arith))
      ∙ ap (o.times (weight g)) (v_is g k)
      ∙ solve o r (eq o g qa ∷ alpha ∷ eq o g qb ∷ x g ∷ beta ∷ z g ∷ [])
      ((var 0 ⊞ var 1 ⊠ var 2) ⊠ (var 3 ⊞ var 4 ⊠ var 5))
      ((var 0 ⊠ var 3 ⊞ var 1 ⊠ (var 2 ⊠ var 3)) ⊞ var 4 ⊠ (var 0 ⊠ var 5 ⊞ var 1 ⊠ (var 2 ⊠ var 5))) refl)
      ∙ sum-plus o r n xs (λ g. o.times beta (ys g))
      ∙ ap (o.plus (T xs)) (sum-times o r n beta ys)
      ∙ ap (λ y. o.plus y (o.times beta (T ys))) (joined xa xb)
      ∙ ap (λ y. o.plus (o.plus (T xa) (o.times alpha (T xb))) (o.times beta y)) (joined za zb)
      ∙ ap (λ y. o.plus (o.plus y (o.times alpha (T xb))) (o.times beta (o.plus (T za) (o.times alpha (T zb))))) wires_a
      ∙ ap (λ y. o.plus (o.plus (tilde o (values_at o c public w l) qa) (o.times alpha y)) (o.times beta (o.plus (T za) (o.times alpha (T zb))))) wires_b
      ∙ ap (λ y. o.plus (o.plus (tilde o (values_at o c public w l) qa) (o.times alpha (tilde o (values_at o c public w l) qb))) (o.times beta (o.plus y (o.times alpha (T zb))))) (terms qa)
      ∙ ap (λ y. o.plus (o.plus (tilde o (values_at o c public w l) qa) (o.times alpha (tilde o (values_at o c public w l) qb))) (o.times beta (o.plus (tilde o zs qa) (o.times alpha y)))) (terms qb)
