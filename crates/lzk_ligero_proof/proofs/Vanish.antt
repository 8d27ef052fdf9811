-- For satisfying inputs every residual of the committed list is 0, by any script and the elements that are sent by it.
use Rattle.std.specs.Prelude.{◌≡◌, ℕ, ◌+◌, ◌*◌, ◌/◌, ◌%◌, ◌==◌, ◌<◌, ◌≤◌, Bool, true, false, cond, nat_lt, List, [], ◌∷◌, length}
use Rattle.std.proofs.Common.{zero, suc, refl, sym, ap, ◌∙◌, arith}
use Rattle.std.proofs.lemmas.Bool.{ltb-true, lt-ltb, false≢true}
use Rattle.std.proofs.lemmas.List.FromFn.{length-map-range_with_len, get_or-map-range_with_len, map-range_with_len_more, fill_by_all}
use native.Mathlib.Decide.{dec_lt}
use Rattle.lzk_field.specs.Coding.{Coding}
use Rattle.lzk_field.specs.Ring.{Ops, Laws}
use Rattle.lzk_field.specs.Sums.{sum_below, minus, entry}
use Rattle.lzk_field.proofs.RingBasics.{times_zero}
use Rattle.lzk_field.proofs.Solve.{var, null, ◌⊞◌, ◌⊟◌, ◌⊠◌, solve}
use Rattle.lzk_field.proofs.SumLaws.{sum-ext, sum-zero, sum-plus, sum-times}
use Rattle.lzk_mle.specs.Multilinear.{eq, tilde}
use Rattle.lzk_circuit.proofs.BitLaws.{bits_enough}
use Rattle.lzk_circuit.proofs.CheckLaws.{satisfied-asserts, satisfied-outputs}
use Rattle.lzk_circuit.proofs.DepthLaws.{first-values, inputs-count, last-values}
use Rattle.lzk_circuit.specs.Valid.{Wiring, IsValid}
use Rattle.lzk_circuit.specs.Wires.{coef, zero_at, layer_coefficient, wire, all_values, inputs_of, list_at}
use Rattle.lzk_circuit.specs.Checks.{IsSatisfied}
use Rattle.lzk_layout.specs.Places.{depth, width_at, bits_under, round_count, sent_at, pads_at, factors_sent_at, factors_at}
use Rattle.lzk_layout.specs.Sizes.{sent_counts}
use Rattle.lzk_sumcheck.specs.declared.script.Script.{Script}
use Rattle.lzk_sumcheck.specs.Coefficients.{coefficients, terms_at, weights_at, bound_at}
use Rattle.lzk_sumcheck.specs.Messages.{layered_at, true_round, true_a, true_b, IsLayerSent}
use Rattle.lzk_sumcheck.specs.Rounds.{Layered, of_a, of_b, bound_coefficient, claim, round, IsFitting, IsSumcheck}
use Rattle.lzk_sumcheck.specs.Script.{script, layer_at, point_a, point_b, challenge_at, first_challenges, HasBits, HasShape}
use Rattle.lzk_sumcheck.proofs.SentLaws.{evens, odds}
use Rattle.lzk_sumcheck.proofs.ShapeLaws.{script_shape}
use Rattle.lzk_accept.proofs.ShapeLaws.{layer_shape}
use Rattle.lzk_sumcheck.proofs.SumcheckLaws.{sumcheck_of}
use Rattle.lzk_accept.specs.Residuals.{next_claim, padded, claim_a, claim_b, claim_after, product_at, inputs_at, residual}
use Rattle.lzk_ligero_tableau.specs.Tableau.{randoms, committed}
use Rattle.lzk_ligero_proof.specs.Residuals.{ResidualsVanish}
use Rattle.lzk_ligero_proof.proofs.ClaimLaws.{next_true}
use Rattle.lzk_ligero_proof.proofs.CommittedLaws.{entry_pad, entry_product, privates_first}
use Rattle.lzk_sumcheck.proofs.WireLaws.{wire-weighed, values_are, length_values}

-- the challenges of a layer's rounds are those of a's bits and those of b's bits in turn
module _ {A : Type 0} (o : Ops A) (s : Script A) (l : ℕ) where
  challenge_even : (n : ℕ) → entry o (layer_at o s l).ra n ≡ challenge_at o s l (2 * n)
  challenge_even n =
      let own = layer_at o s l in
      let z : 0 ≡ (2 * n) % 2 = omega arith in
      let h : n ≡ (2 * n) / 2 = omega arith in
      ap (entry o own.ra) h ∙ ap (λ k. cond (k == 0) (entry o own.ra ((2 * n) / 2)) (entry o own.rb ((2 * n) / 2))) z

  challenge_odd : (n : ℕ) → entry o (layer_at o s l).rb n ≡ challenge_at o s l (2 * n + 1)
  challenge_odd n =
      let own = layer_at o s l in
      let z : 1 ≡ (2 * n + 1) % 2 = omega arith in
      let h : n ≡ (2 * n + 1) / 2 = omega arith in
      ap (entry o own.rb) h ∙ ap (λ k. cond (k == 0) (entry o own.ra ((2 * n + 1) / 2)) (entry o own.rb ((2 * n + 1) / 2))) z

  module _ (bits : ℕ) (size : HasBits bits (layer_at o s l)) where
    all_a : of_a (first_challenges o s l (2 * bits)) ≡ (layer_at o s l).ra
    all_a =
        evens o (challenge_at o s l) bits
        ∙ sym (fill_by_all (λ j. challenge_at o s l (2 * j)) (layer_at o s l).ra bits o.zero size.ra (λ k h. challenge_even k))

    all_b : of_b (first_challenges o s l (2 * bits)) ≡ (layer_at o s l).rb
    all_b =
        odds o (challenge_at o s l) bits
        ∙ sym (fill_by_all (λ j. challenge_at o s l (2 * j + 1)) (layer_at o s l).rb bits o.zero size.rb (λ k h. challenge_odd k))

module _ {A : Type 0} (o : Ops A) (e : Coding A) (laws : Laws o e.size e.number e.element e.bytes) (c : Wiring A) (public private : List A) (word : ℕ → ℕ) (s : Script A) (shape : HasShape c s) (sent : List A) (publics : length public ≡ c.publics) (privates : length private ≡ c.privates) (valid : IsValid o c) (satisfied : IsSatisfied o e.number c.layers (inputs_of o public private)) (layers : (l : ℕ) → l < depth c → IsLayerSent o e.element c s (all_values o c.layers (inputs_of o public private)) (randoms o e word 0 (sent_counts c)) sent l) where
  abbrev V : List (List A)
  V = all_values o c.layers (inputs_of o public private)

  abbrev pad : ℕ → A
  pad = entry o (randoms o e word 0 (sent_counts c))

  abbrev W : List A
  W = committed o e c private word

  abbrev q : ℕ → ℕ → ℕ → ℕ → A
  q = coefficients o c s

  abbrev L : ℕ → Layered A
  L = layered_at o c s V

  count : length (inputs_of o public private) ≡ 1 + c.publics + c.privates
  count = inputs-count o public private ∙ omega (arith, publics, privates)

  unpad : (x y z : A) → y ≡ z → o.plus (minus o x y) z ≡ x
  unpad x y z is = ap (λ w. o.plus (minus o x w) z) is ∙ solve o laws.ring (x ∷ z ∷ []) ((var 0 ⊟ var 1) ⊞ var 1) (var 0) refl

  length_V : (l : ℕ) → length (list_at V l) ≡ width_at c l
  length_V l = length_values o c public private l publics privates

  fits : (l : ℕ) → IsFitting (L l)
  fits l = omega (arith, length_V (l + 1), bits_enough (width_at c (l + 1)))

  identities : (l : ℕ) → IsSumcheck o e.element (L l)
  identities l = sumcheck_of laws (L l) (fits l)

  has_bits : (l : ℕ) → l < depth c → HasBits (bits_under c l) (layer_at o s l)
  has_bits l h = layer_shape o c s shape l h

  -- ---- padded elements are true values

  padded_first : (l m : ℕ) → l < depth c → m < round_count c l → padded o sent W (sent_at c l + 2 * m) (pads_at c l + 2 * m) ≡ true_round o c s V l m (e.element 0)
  padded_first l m h b =
      ap (λ x. o.plus x (entry o W (pads_at c l + 2 * m))) ((layers l h).first m b)
      ∙ unpad (true_round o c s V l m (e.element 0)) (pad (sent_at c l + 2 * m)) (entry o W (pads_at c l + 2 * m)) (sym (entry_pad o e c private word privates l (2 * m) h (omega (arith, b))))

  padded_second : (l m : ℕ) → l < depth c → m < round_count c l → padded o sent W (sent_at c l + 2 * m + 1) (pads_at c l + 2 * m + 1) ≡ true_round o c s V l m (e.element 2)
  padded_second l m h b =
      let z : pads_at c l + 2 * m + 1 ≡ pads_at c l + (2 * m + 1) = omega arith in
      let y : sent_at c l + (2 * m + 1) ≡ sent_at c l + 2 * m + 1 = omega arith in
      ap (λ x. o.plus x (entry o W (pads_at c l + 2 * m + 1))) ((layers l h).second m b)
      ∙ unpad (true_round o c s V l m (e.element 2)) (pad (sent_at c l + 2 * m + 1)) (entry o W (pads_at c l + 2 * m + 1))
      (sym (ap (entry o W) z ∙ entry_pad o e c private word privates l (2 * m + 1) h (omega (arith, b)) ∙ ap pad y))

  pad_a : (l : ℕ) → l < depth c → entry o W (factors_at c l) ≡ pad (factors_sent_at c l)
  pad_a l h = entry_pad o e c private word privates l (2 * round_count c l) h (omega arith)

  pad_b : (l : ℕ) → l < depth c → entry o W (factors_at c l + 1) ≡ pad (factors_sent_at c l + 1)
  pad_b l h =
      let z : factors_at c l + 1 ≡ pads_at c l + (2 * round_count c l + 1) = omega arith in
      let y : sent_at c l + (2 * round_count c l + 1) ≡ factors_sent_at c l + 1 = omega arith in
      ap (entry o W) z ∙ entry_pad o e c private word privates l (2 * round_count c l + 1) h (omega arith) ∙ ap pad y

  padded_a : (l : ℕ) → l < depth c → padded o sent W (factors_sent_at c l) (factors_at c l) ≡ true_a o s V l
  padded_a l h =
      ap (λ x. o.plus x (entry o W (factors_at c l))) (layers l h).factor_a
      ∙ unpad (true_a o s V l) (pad (factors_sent_at c l)) (entry o W (factors_at c l)) (sym (pad_a l h))

  padded_b : (l : ℕ) → l < depth c → padded o sent W (factors_sent_at c l + 1) (factors_at c l + 1) ≡ true_b o s V l
  padded_b l h =
      ap (λ x. o.plus x (entry o W (factors_at c l + 1))) (layers l h).factor_b
      ∙ unpad (true_b o s V l) (pad (factors_sent_at c l + 1)) (entry o W (factors_at c l + 1)) (sym (pad_b l h))

  -- ---- the claims with which a layer begins

  no_outputs : (xs : List A) → tilde o (list_at V 0) xs ≡ o.zero
  no_outputs xs =
      sum-ext o laws.ring (length (list_at V 0)) (λ i. o.times (eq o i xs) (entry o (list_at V 0) i)) (λ i. o.zero) (λ i h. ap (o.times (eq o i xs)) (output_zero i h) ∙ times_zero o laws.ring _)
      ∙ sum-zero o laws.ring (length (list_at V 0))
    where
      output_zero : (i : ℕ) → i < length (list_at V 0) → entry o (list_at V 0) i ≡ o.zero
      output_zero i h =
          let outputs = first-values o c.layers (inputs_of o public private) in
          ap (λ xs. entry o xs i) outputs ∙ satisfied-outputs o e.size e.number e.element e.bytes laws c (inputs_of o public private) i valid count satisfied

  begins_a : (l : ℕ) → l ≤ depth c → claim_a o c sent W l ≡ tilde o (list_at V l) (point_a o s l)
  begins_a zero h = sym (no_outputs (point_a o s 0))
  begins_a (suc l) h = let z : l + 1 ≡ suc l = omega arith in padded_a l (omega (arith, h)) ∙ ap (λ i. tilde o (list_at V i) (layer_at o s l).ra) z

  begins_b : (l : ℕ) → l ≤ depth c → claim_b o c sent W l ≡ tilde o (list_at V l) (point_b o s l)
  begins_b zero h = sym (no_outputs (point_b o s 0))
  begins_b (suc l) h = let z : l + 1 ≡ suc l = omega arith in padded_b l (omega (arith, h)) ∙ ap (λ i. tilde o (list_at V i) (layer_at o s l).rb) z

  -- for satisfying inputs a layer's assertion terms count nothing
  asserted_zero : (l g : ℕ) → l < depth c → wire o (zero_at o (terms_at c l)) (list_at V (l + 1)) g ≡ o.zero
  asserted_zero l g h = satisfied-asserts o e.size e.number e.element e.bytes laws c (inputs_of o public private) l g valid count satisfied h

  -- so the weighted sum of a layer's wires is what the claims say, whatever its beta
  weighted : (l : ℕ) → l < depth c → claim o (L l) [] ≡ o.plus (tilde o (list_at V l) (point_a o s l)) (o.times (layer_at o s l).alpha (tilde o (list_at V l) (point_b o s l)))
  unfolding coefficients
  weighted l h =
      let n = width_at c l in
      let below = list_at V (l + 1) in
      let qa = point_a o s l in
      let qb = point_b o s l in
      let alpha = (layer_at o s l).alpha in
      let w : ℕ → A = λ g. o.plus (eq o g qa) (o.times alpha (eq o g qb)) in
      let beta = (layer_at o s l).beta in
      let v : ℕ → A = λ g. wire o (layer_coefficient o (terms_at c l) beta) below g in
      let x : ℕ → A = entry o (list_at V l) in
      let wire_zero : (g : ℕ) → g < n → v g ≡ wire o (coef o (terms_at c l)) below g =
      λ g k.
      wire-weighed o laws.ring (terms_at c l) beta below g
      ∙ ap (λ z. o.plus (wire o (coef o (terms_at c l)) below g) (o.times beta z)) (asserted_zero l g h)
      ∙ ap (o.plus (wire o (coef o (terms_at c l)) below g)) (times_zero o laws.ring beta) ∙ laws.ring.plus_zero _ in
      let next : suc l ≡ l + 1 = omega arith in
      (identities l).first
      ∙ ap (λ k. sum_below o k (λ g. o.times (entry o (weights_at o c s l) g) (v g))) (length-map-range_with_len w 0 n)
      ∙ sum-ext o laws.ring n (λ g. o.times (entry o (weights_at o c s l) g) (v g)) (λ g. o.plus (o.times (eq o g qa) (x g)) (o.times alpha (o.times (eq o g qb) (x g))))
      (λ g k.
      ap (λ y. o.times y (v g)) (get_or-map-range_with_len w 0 n g g o.zero k (omega arith))
      ∙ ap (o.times (w g)) (wire_zero g k)
      ∙ ap (o.times (w g)) (sym (values_are o c.layers (inputs_of o public private) l g h (omega (arith, k, length_V l)) ∙ ap (λ i. wire o (coef o (terms_at c l)) (list_at V i) g) next))
      ∙ solve o laws.ring (eq o g qa ∷ alpha ∷ eq o g qb ∷ x g ∷ []) ((var 0 ⊞ var 1 ⊠ var 2) ⊠ var 3) (var 0 ⊠ var 3 ⊞ var 1 ⊠ (var 2 ⊠ var 3)) refl)
      ∙ sum-plus o laws.ring n (λ g. o.times (eq o g qa) (x g)) (λ g. o.times alpha (o.times (eq o g qb) (x g)))
      ∙ ap (o.plus (sum_below o n (λ g. o.times (eq o g qa) (x g)))) (sum-times o laws.ring n alpha (λ g. o.times (eq o g qb) (x g)))
      ∙ ap (λ k. o.plus (sum_below o k (λ g. o.times (eq o g qa) (x g))) (o.times alpha (sum_below o k (λ g. o.times (eq o g qb) (x g))))) (sym (length_V l))

  -- ---- a layer's claim stays true through its rounds

  true_claim : (l m : ℕ) → l < depth c → m ≤ round_count c l → claim_after o e.element c s sent W l m ≡ claim o (L l) (first_challenges o s l m)
  unfolding claim_after
  true_claim l zero h b =
      ap (λ x. o.plus x (o.times (layer_at o s l).alpha (claim_b o c sent W l))) (begins_a l (omega (arith, h)))
      ∙ ap (λ y. o.plus (tilde o (list_at V l) (point_a o s l)) (o.times (layer_at o s l).alpha y)) (begins_b l (omega (arith, h)))
      ∙ sym (weighted l h)
  true_claim l (suc m) h b =
      let i = sent_at c l + 2 * m in
      let j = pads_at c l + 2 * m in
      let x = challenge_at o s l m in
      let bound = first_challenges o s l m in
      let few : length bound < 2 * bits_under c l = omega (arith, length-map-range_with_len (challenge_at o s l) 0 m, b) in
      let next : m + 1 ≡ suc m = omega arith in
      let more = map-range_with_len_more (challenge_at o s l) 0 m m (omega arith) in
      ap (λ k. next_claim o e.element k (padded o sent W i j) (padded o sent W (i + 1) (j + 1)) x) (true_claim l m h (omega (arith, b)))
      ∙ ap (λ p. next_claim o e.element (claim o (L l) bound) p (padded o sent W (i + 1) (j + 1)) x) (padded_first l m h (omega (arith, b)))
      ∙ ap (λ p. next_claim o e.element (claim o (L l) bound) (round o (L l) bound (e.element 0)) p x) (padded_second l m h (omega (arith, b)))
      ∙ next_true laws (L l) (identities l) bound x few
      ∙ ap (claim o (L l)) (sym more ∙ ap (first_challenges o s l) next)

  -- the last claim of a layer is what its factors give
  last_claim : (l : ℕ) → l < depth c → claim o (L l) (first_challenges o s l (round_count c l)) ≡ o.times (bound_at o c q s l) (o.times (true_a o s V l) (true_b o s V l))
  unfolding bound_at
  last_claim l h =
      let bound = first_challenges o s l (round_count c l) in
      let ra = (layer_at o s l).ra in
      let rb = (layer_at o s l).rb in
      let below = list_at V (l + 1) in
      let B : ℕ → List A → List A → A = bound_coefficient o (q l) (weights_at o c s l) in
      (identities l).last bound (length-map-range_with_len (challenge_at o s l) 0 (round_count c l))
      ∙ ap (λ xa. o.times (o.times (B (length below) xa (of_b bound)) (tilde o below xa)) (tilde o below (of_b bound))) (all_a o s l (bits_under c l) (has_bits l h))
      ∙ ap (λ xb. o.times (o.times (B (length below) ra xb) (tilde o below ra)) (tilde o below xb)) (all_b o s l (bits_under c l) (has_bits l h))
      ∙ ap (λ k. o.times (o.times (B k ra rb) (tilde o below ra)) (tilde o below rb)) (length_V (l + 1))
      ∙ laws.ring.times_assoc _ _ _

  -- the product of the padded factors
  factors_product : (l : ℕ) → l < depth c → product_at o c sent W l ≡ o.times (true_a o s V l) (true_b o s V l)
  factors_product l h =
      let s0 = entry o sent (factors_sent_at c l) in
      let s1 = entry o sent (factors_sent_at c l + 1) in
      let d0 = entry o W (factors_at c l) in
      let d1 = entry o W (factors_at c l + 1) in
      let first = o.plus (o.plus (o.times s0 s1) (o.times s0 d1)) (o.times s1 d0) in
      ap (o.plus first) (entry_product o e c private word privates l h ∙ ap (λ x. o.times x (pad (factors_sent_at c l + 1))) (sym (pad_a l h)) ∙ ap (o.times d0) (sym (pad_b l h)))
      ∙ solve o laws.ring (s0 ∷ s1 ∷ d0 ∷ d1 ∷ []) (((var 0 ⊠ var 1 ⊞ var 0 ⊠ var 3) ⊞ var 1 ⊠ var 2) ⊞ var 2 ⊠ var 3) ((var 0 ⊞ var 2) ⊠ (var 1 ⊞ var 3)) refl
      ∙ ap (λ x. o.times x (o.plus s1 d1)) (padded_a l h) ∙ ap (o.times (true_a o s V l)) (padded_b l h)

  -- the extension of the inputs is that of the last values
  inputs_true : (xs : List A) → inputs_at o c public W xs ≡ tilde o (list_at V (depth c)) xs
  inputs_true xs =
      ap (λ ps. tilde o (inputs_of o public ps) xs) (privates_first o e c private word privates)
      ∙ ap (λ vs. tilde o vs xs) (sym (last-values o c.layers (inputs_of o public private)))

  pub residual_is_zero : (i : ℕ) → i ≤ depth c → residual o e.element c q public s sent W i ≡ o.zero
  unfolding residual
  residual_is_zero i h = go (nat_lt i (depth c)) refl
    where
      go : (b : Bool) → nat_lt i (depth c) ≡ b
          → cond b (minus o (claim_after o e.element c s sent W i (round_count c i)) (o.times (bound_at o c q s i) (product_at o c sent W i)))
          (minus o (minus o (o.plus (inputs_at o c public W (point_a o s i)) (o.times s.gamma (inputs_at o c public W (point_b o s i)))) (claim_a o c sent W i)) (o.times s.gamma (claim_b o c sent W i))) ≡ o.zero
      go true is =
          let l : i < depth c = ltb-true i (depth c) is in
          let B = bound_at o c q s i in
          let P = o.times (true_a o s V i) (true_b o s V i) in
          ap (λ x. minus o x (o.times B (product_at o c sent W i))) (true_claim i (round_count c i) l (omega arith) ∙ last_claim i l)
          ∙ ap (λ y. minus o (o.times B P) (o.times B y)) (factors_product i l) ∙ laws.ring.plus_neg (o.times B P)
      go false is =
          let last : i ≡ depth c = omega (arith, h, not_less is) in
          let ca = claim_a o c sent W i in
          let cb = claim_b o c sent W i in
          let here : (xs : List A) → inputs_at o c public W xs ≡ tilde o (list_at V i) xs = λ xs. inputs_true xs ∙ ap (λ k. tilde o (list_at V k) xs) (sym last) in
          ap (λ x. minus o (minus o (o.plus x (o.times s.gamma (inputs_at o c public W (point_b o s i)))) ca) (o.times s.gamma cb)) (here (point_a o s i) ∙ sym (begins_a i h))
          ∙ ap (λ x. minus o (minus o (o.plus ca (o.times s.gamma x)) ca) (o.times s.gamma cb)) (here (point_b o s i) ∙ sym (begins_b i h))
          ∙ solve o laws.ring (ca ∷ o.times s.gamma cb ∷ []) (((var 0 ⊞ var 1) ⊟ var 0) ⊟ var 1) null refl
        where
          not_less : nat_lt i (depth c) ≡ false → depth c ≤ i
          not_less f = elim (dec_lt i (depth c)) [ yes k ↦ absurd (false≢true (sym f ∙ lt-ltb i (depth c) k)) | no k ↦ omega arith ]

pub vanish : {A : Type 0} (o : Ops A) (e : Coding A) → Laws o e.size e.number e.element e.bytes → ResidualsVanish o e
vanish o e laws = λ c session public private word t sent i valid counts satisfied h are.
    residual_is_zero o e laws c public private word (script o e sent c t) (script_shape o e sent c t) sent counts.0 counts.1
    valid satisfied are.layers i h
