-- Residuals as forms that are kept.
use Rattle.std.specs.Prelude.{◌≡◌, ℕ, ◌+◌, ◌-◌, ◌*◌, ◌<◌, ◌≤◌, ◌==◌, ◌&&◌, Bool, true, false, cond, nat_lt, nat_le, List, [], ◌∷◌, ◌++◌, length, take, slice_set}
use Rattle.std.proofs.Common.{zero, suc, refl, sym, ap, ◌∙◌, arith, subst}
use Rattle.std.proofs.lemmas.Bool.{lt-ltb, le-ltb}
use Rattle.std.proofs.lemmas.List.{get_or-set_same, get_or-set_other, get_or_append_left, get_or-append_right, get_or-take, length-append, length-take-le}
use native.Mathlib.Decide.{dec_lt}
use Rattle.lzk_field.specs.Ring.{Ops, RingLaws}
use Rattle.lzk_field.specs.Sums.{sum_below, minus, entry}
use Rattle.lzk_field.proofs.RingBasics.{zero_times, zero_plus, one_times}
use Rattle.lzk_field.proofs.Solve.{var, null, unit as solo, opp, ◌⊞◌, ◌⊟◌, ◌⊠◌, solve}
use Rattle.lzk_field.proofs.SumLaws.{sum-ext, sum-zero, sum-plus, sum-times, sum-single, sum-split, sum-tail}
use Rattle.lzk_mle.specs.Multilinear.{eq}
use Rattle.lzk_circuit.specs.Valid.{Wiring}
use Rattle.lzk_layout.specs.Sizes.{committed_count}
use Rattle.lzk_layout.specs.Places.{depth, round_count, sent_at, pads_at, factors_sent_at, factors_at}
use Rattle.lzk_layout.proofs.PlaceLaws.{pads_within}
use Rattle.lzk_sumcheck.specs.declared.script.Script.{Script}
use Rattle.lzk_sumcheck.specs.Script.{layer_at, point_a, point_b, challenge_at}
use Rattle.lzk_accept.specs.declared.forms.Form.{Form}
use Rattle.lzk_sumcheck.specs.Coefficients.{bound_at}
use Rattle.lzk_accept.specs.declared.linear.Factors.{Factors}
use Rattle.lzk_accept.specs.declared.rounds.Claim.{Claim}
use Rattle.lzk_accept.specs.Forms.{IsForm}
use Rattle.lzk_accept.specs.Kept.{coefficient_in, IsConstraint, form_at, own_start, own_end, above_a, above_b, below_top, IsPlacedAt, IsLastForm}
use Rattle.lzk_accept.specs.Residuals.{next_claim, padded, claim_a, claim_b, claim_after, product_at, inputs_at, residual}
use Rattle.lzk_accept.specs.Walks.{through_rounds, challenge_of}
use Rattle.lzk_accept.proofs.FormLaws.{constant-is, coefficient-is}

module _ {A : Type 0} (o : Ops A) (r : RingLaws o) where
  open o use {plus, times, neg}

  -- ---- sums of kept coefficients

  cond-times : (b : Bool) (x y : A) → times (cond b x o.zero) y ≡ cond b (times x y) o.zero
  cond-times true x y = refl
  cond-times false x y = zero_times o r y

  -- over a range
  pub range_sum : (n start end : ℕ) (f : ℕ → A) → start ≤ end → end ≤ n
      → sum_below o n (λ j. cond (nat_le start j && nat_lt j end) (f j) o.zero) ≡ sum_below o (end - start) (λ k. f (start + k))
  range_sum n start end f h l =
      let m = end - start in
      let g : ℕ → A = λ j. cond (nat_le start j && nat_lt j end) (f j) o.zero in
      let whole : end ≡ start + m = omega arith in
      sum-tail o r end n g l (λ i a b. outside i a)
      ∙ ap (λ k. sum_below o k g) whole ∙ sum-split o r start m g
      ∙ ap (λ x. plus x (sum_below o m (λ k. g (start + k)))) (sum-ext o r start g (λ j. o.zero) (λ j a. before j a) ∙ sum-zero o r start)
      ∙ zero_plus o r (sum_below o m (λ k. g (start + k)))
      ∙ sum-ext o r m (λ k. g (start + k)) (λ k. f (start + k)) (λ k a. inside (start + k) (omega arith) (omega arith))
    where
      before : (j : ℕ) → j < start → cond (nat_le start j && nat_lt j end) (f j) o.zero ≡ o.zero
      before j a = let e : nat_le start j ≡ false = grind arith in ap (λ b. cond (b && nat_lt j end) (f j) o.zero) e

      outside : (j : ℕ) → end ≤ j → cond (nat_le start j && nat_lt j end) (f j) o.zero ≡ o.zero
      outside j a = let e : (nat_le start j && nat_lt j end) ≡ false = grind arith in ap (λ b. cond b (f j) o.zero) e

      inside : (j : ℕ) → start ≤ j → j < end → cond (nat_le start j && nat_lt j end) (f j) o.zero ≡ f j
      inside j a b = let e : (nat_le start j && nat_lt j end) ≡ true = grind arith in ap (λ b. cond b (f j) o.zero) e

  -- over all entries, a form's coefficients times them
  pub kept_sum : (n : ℕ) (own w : List A) (form : Form A) → form.start ≤ form.end → form.end ≤ n → form.above + 1 < n
      → sum_below o n (λ j. times (coefficient_in o own form j) (entry o w j))
      ≡ plus (sum_below o (form.end - form.start) (λ k. times (entry o own (form.start + k)) (entry o w (form.start + k))))
      (plus (times form.first (entry o w form.above)) (times form.second (entry o w (form.above + 1))))
  kept_sum n own w form h l a =
      let x : ℕ → Bool = λ j. nat_le form.start j && nat_lt j form.end in
      let u : ℕ → A = λ j. cond (x j) (entry o own j) o.zero in
      let v : ℕ → A = λ j. cond (j == form.above) form.first o.zero in
      let v' : ℕ → A = λ j. cond (j == form.above + 1) form.second o.zero in
      sum-ext o r n (λ j. times (coefficient_in o own form j) (entry o w j)) (λ j. plus (times (u j) (entry o w j)) (plus (times (v j) (entry o w j)) (times (v' j) (entry o w j))))
      (λ j k. solve o r (u j ∷ v j ∷ v' j ∷ entry o w j ∷ []) ((var 0 ⊞ (var 1 ⊞ var 2)) ⊠ var 3) (var 0 ⊠ var 3 ⊞ (var 1 ⊠ var 3 ⊞ var 2 ⊠ var 3)) refl)
      ∙ sum-plus o r n (λ j. times (u j) (entry o w j)) (λ j. plus (times (v j) (entry o w j)) (times (v' j) (entry o w j)))
      ∙ ap (plus (sum_below o n (λ j. times (u j) (entry o w j)))) (sum-plus o r n (λ j. times (v j) (entry o w j)) (λ j. times (v' j) (entry o w j)))
      ∙ ap (λ z. plus z (plus (sum_below o n (λ j. times (v j) (entry o w j))) (sum_below o n (λ j. times (v' j) (entry o w j)))))
      (sum-ext o r n (λ j. times (u j) (entry o w j)) (λ j. cond (x j) (times (entry o own j) (entry o w j)) o.zero) (λ j k. cond-times (x j) (entry o own j) (entry o w j))
      ∙ range_sum n form.start form.end (λ j. times (entry o own j) (entry o w j)) h l)
      ∙ ap (plus (sum_below o (form.end - form.start) (λ k. times (entry o own (form.start + k)) (entry o w (form.start + k)))))
      (ap (λ z. plus z (sum_below o n (λ j. times (v' j) (entry o w j)))) (one_sum form.above form.first (omega arith))
      ∙ ap (plus (times form.first (entry o w form.above))) (one_sum (form.above + 1) form.second a))
    where
      one_sum : (i : ℕ) (x : A) → i < n → sum_below o n (λ j. times (cond (j == i) x o.zero) (entry o w j)) ≡ times x (entry o w i)
      one_sum i x b =
          sum-ext o r n (λ j. times (cond (j == i) x o.zero) (entry o w j)) (λ j. cond (j == i) (times x (entry o w j)) o.zero) (λ j k. cond-times (j == i) x (entry o w j))
          ∙ sum-single o r n i (λ j. times x (entry o w j)) b

module _ {A : Type 0} (o : Ops A) (r : RingLaws o) (point : ℕ → A) (c : Wiring A) (q : ℕ → ℕ → ℕ → ℕ → A) (public : List A) (s : Script A) (messages : List A) where
  open o use {plus, times, neg}

  -- a form of a residual is a constraint's
  pub constraint_from : (i : ℕ) (own : List A) (form : Form A) (constant : A)
      → IsForm o (committed_count c) (λ w. residual o point c q public s messages w i) constant (coefficient_in o own form) → form.right ≡ neg constant
      → IsConstraint o point c q public s messages i own form
  constraint_from i own form constant h e =
      let n = committed_count c in
      let f : List A → A = λ w. residual o point c q public s messages w i in
      record {
        coefficient = λ j k. coefficient-is o r n f constant (coefficient_in o own form) j k h;
        right = e ∙ ap neg (constant-is o r n f constant (coefficient_in o own form) h);
      }

  abbrev ends : List A → ℕ → A
  ends w i =
      minus o (minus o (plus (inputs_at o c public w (point_a o s i)) (times s.gamma (inputs_at o c public w (point_b o s i)))) (claim_a o c messages w i))
      (times s.gamma (claim_b o c messages w i))

  abbrev goes_on : List A → ℕ → A
  goes_on w i = minus o (claim_after o point c s messages w i (round_count c i)) (times (bound_at o c q s i) (product_at o c messages w i))

  -- a layer's residual, and the inputs'
  layer_residual : (w : List A) (i : ℕ) → i < depth c → residual o point c q public s messages w i ≡ goes_on w i
  unfolding residual
  layer_residual w i h = ap (λ b. cond b (goes_on w i) (ends w i)) (lt-ltb i (depth c) h)

  last_residual : (w : List A) (i : ℕ) → depth c ≤ i → residual o point c q public s messages w i ≡ ends w i
  unfolding residual
  last_residual w i h = ap (λ b. cond b (goes_on w i) (ends w i)) (le-ltb i (depth c) h)

  -- a layer's claim goes through its rounds
  pub claim_through : (w : List A) (l n : ℕ) → claim_after o point c s messages w l n
      ≡ through_rounds o point (challenge_of o (layer_at o s l)) (λ k. entry o messages (sent_at c l + k)) (λ k. entry o w (pads_at c l + k)) (claim_after o point c s messages w l 0) n
  unfolding claim_after
  claim_through w l zero = refl
  claim_through w l (suc n) =
      let i = sent_at c l + 2 * n in
      let j = pads_at c l + 2 * n in
      let ei : i + 1 ≡ sent_at c l + (2 * n + 1) = omega arith in
      let ej : j + 1 ≡ pads_at c l + (2 * n + 1) = omega arith in
      let t = challenge_at o s l n in
      ap (λ x. next_claim o point x (padded o messages w i j) (padded o messages w (i + 1) (j + 1)) t) (claim_through w l n)
      ∙ ap (λ k. next_claim o point (through w l n) (padded o messages w i j) (padded o messages w k (j + 1)) t) ei
      ∙ ap (λ k. next_claim o point (through w l n) (padded o messages w i j) (padded o messages w (sent_at c l + (2 * n + 1)) k) t) ej
    where
      through : List A → ℕ → ℕ → A
      through w l n = through_rounds o point (challenge_of o (layer_at o s l)) (λ k. entry o messages (sent_at c l + k)) (λ k. entry o w (pads_at c l + k)) (o.plus (claim_a o c messages w l) (o.times (layer_at o s l).alpha (claim_b o c messages w l))) n

  -- the claims by the factors above
  claim_a_is : (w : List A) (l : ℕ) → claim_a o c messages w l ≡ plus (above_a o c messages l) (times (below_top o o.one l) (entry o w (factors_at c (l - 1))))
  claim_a_is w zero = solve o r (entry o w (factors_at c 0) ∷ []) null (null ⊞ null ⊠ var 0) refl
  claim_a_is w (suc l) =
      let e : l ≡ suc l - 1 = omega arith in
      ap (plus (entry o messages (factors_sent_at c l))) (sym (one_times o r (entry o w (factors_at c l))) ∙ ap (λ k. times o.one (entry o w (factors_at c k))) e)

  claim_b_is : (w : List A) (l : ℕ) → claim_b o c messages w l ≡ plus (above_b o c messages l) (times (below_top o o.one l) (entry o w (factors_at c (l - 1) + 1)))
  claim_b_is w zero = solve o r (entry o w (factors_at c 0 + 1) ∷ []) null (null ⊞ null ⊠ var 0) refl
  claim_b_is w (suc l) =
      let e : l ≡ suc l - 1 = omega arith in
      ap (plus (entry o messages (factors_sent_at c l + 1))) (sym (one_times o r (entry o w (factors_at c l + 1))) ∙ ap (λ k. times o.one (entry o w (factors_at c k + 1))) e)

  top_times : (x : A) (l : ℕ) → below_top o x l ≡ times x (below_top o o.one l)
  top_times x zero = solve o r (x ∷ []) null (var 0 ⊠ null) refl
  top_times x (suc l) = sym (r.times_one x)

  -- what is written for a layer
  pub record IsLayerForm (l : ℕ) (claim : Claim A) (bound : A) (own : List A) (form : Form A) : Type 0 where
    pub start : form.start ≡ pads_at c l
    pub end : form.end ≡ factors_at c l + 3
    pub above : form.above ≡ factors_at c (l - 1)
    pub rounds : (pad : ℕ → A) (x : A) → through_rounds o point (challenge_of o (layer_at o s l)) (λ k. entry o messages (sent_at c l + k)) pad x (round_count c l)
        ≡ plus (plus claim.constant (times claim.weight x)) (sum_below o (2 * round_count c l) (λ k. times (entry o own (pads_at c l + k)) (pad k)))
    pub d0 : entry o own (factors_at c l) ≡ neg (times bound (entry o messages (factors_sent_at c l + 1)))
    pub d1 : entry o own (factors_at c l + 1) ≡ neg (times bound (entry o messages (factors_sent_at c l)))
    pub e : entry o own (factors_at c l + 2) ≡ neg bound
    pub first : form.first ≡ below_top o claim.weight l
    pub second : form.second ≡ times form.first (layer_at o s l).alpha
    pub right : form.right ≡ neg (minus o (plus claim.constant (times claim.weight (plus (above_a o c messages l) (times (layer_at o s l).alpha (above_b o c messages l)))))
        (times bound (times (entry o messages (factors_sent_at c l)) (entry o messages (factors_sent_at c l + 1)))))

  pub layer_is : (l : ℕ) (claim : Claim A) (bound : A) (own : List A) (form : Form A) → l < depth c → bound ≡ bound_at o c q s l → IsLayerForm l claim bound own form → IsConstraint o point c q public s messages l own form
  unfolding claim_after
  layer_is l claim bound own form h eb f =
      constraint_from l own form constant (record { is = λ w size. sums w size }) f.right
    where
      s0 : A
      s0 = entry o messages (factors_sent_at c l)

      s1 : A
      s1 = entry o messages (factors_sent_at c l + 1)

      alpha : A
      alpha = (layer_at o s l).alpha

      a0 : A
      a0 = above_a o c messages l

      b0 : A
      b0 = above_b o c messages l

      K : A
      K = claim.constant

      W : A
      W = claim.weight

      T : A
      T = below_top o o.one l

      constant : A
      constant = minus o (plus K (times W (plus a0 (times alpha b0)))) (times bound (times s0 s1))

      m : ℕ
      m = 2 * round_count c l

      above_place : form.above + 1 < committed_count c
      above_place =
          elim (dec_lt 0 l) [
            | yes some ↦ omega (arith, f.above, pads_within c (l - 1) (omega arith))
            | no none ↦ let z : l - 1 ≡ l = omega arith in omega (arith, f.above, ap (factors_at c) z, pads_within c l h)
          ]

      -- the three entries behind the pads
      tail : (w : List A) → sum_below o (form.end - form.start) (λ k. times (entry o own (form.start + k)) (entry o w (form.start + k)))
          ≡ plus (plus (plus (sum_below o m (λ k. times (entry o own (pads_at c l + k)) (entry o w (pads_at c l + k))))
          (times (neg (times bound s1)) (entry o w (factors_at c l)))) (times (neg (times bound s0)) (entry o w (factors_at c l + 1)))) (times (neg bound) (entry o w (factors_at c l + 2)))
      tail w =
          let g : ℕ → ℕ → A = λ p k. times (entry o own (p + k)) (entry o w (p + k)) in
          let P = pads_at c l in
          let count : form.end - form.start ≡ suc (suc (suc m)) = omega (arith, f.start, f.end) in
          let p1 : P + suc m ≡ factors_at c l + 1 = omega arith in
          let p2 : P + suc (suc m) ≡ factors_at c l + 2 = omega arith in
          let sum = sum_below o m (g P) in
          ap (λ n. sum_below o n (g form.start)) count ∙ ap (λ p. sum_below o (suc (suc (suc m))) (g p)) f.start
          ∙ ap (λ x. plus (plus (plus sum (times x (entry o w (factors_at c l)))) (g P (suc m))) (g P (suc (suc m)))) f.d0
          ∙ ap (λ k. plus (plus (plus sum (times (neg (times bound s1)) (entry o w (factors_at c l)))) (times (entry o own k) (entry o w k))) (g P (suc (suc m)))) p1
          ∙ ap (λ x. plus (plus (plus sum (times (neg (times bound s1)) (entry o w (factors_at c l)))) (times x (entry o w (factors_at c l + 1)))) (g P (suc (suc m)))) f.d1
          ∙ ap (λ k. plus (plus (plus sum (times (neg (times bound s1)) (entry o w (factors_at c l)))) (times (neg (times bound s0)) (entry o w (factors_at c l + 1)))) (times (entry o own k) (entry o w k))) p2
          ∙ ap (λ x. plus (plus (plus sum (times (neg (times bound s1)) (entry o w (factors_at c l)))) (times (neg (times bound s0)) (entry o w (factors_at c l + 1)))) (times x (entry o w (factors_at c l + 2)))) f.e

      first_is : form.first ≡ times W T
      first_is = f.first ∙ top_times W l

      second_is : form.second ≡ times (times W T) alpha
      second_is = f.second ∙ ap (λ x. times x alpha) first_is

      claims : (w : List A) → claim_after o point c s messages w l (round_count c l)
          ≡ plus (plus K (times W (plus (plus a0 (times T (entry o w (factors_at c (l - 1))))) (times alpha (plus b0 (times T (entry o w (factors_at c (l - 1) + 1))))))))
          (sum_below o m (λ k. times (entry o own (pads_at c l + k)) (entry o w (pads_at c l + k))))
      claims w =
          let sum = sum_below o m (λ k. times (entry o own (pads_at c l + k)) (entry o w (pads_at c l + k))) in
          claim_through w l (round_count c l) ∙ f.rounds (λ k. entry o w (pads_at c l + k)) (claim_after o point c s messages w l 0)
          ∙ ap (λ x. plus (plus K (times W (plus x (times alpha (claim_b o c messages w l))))) sum) (claim_a_is w l)
          ∙ ap (λ x. plus (plus K (times W (plus (plus a0 (times T (entry o w (factors_at c (l - 1))))) (times alpha x)))) sum) (claim_b_is w l)

      sums : (w : List A) → length w ≡ committed_count c → residual o point c q public s messages w l ≡ plus constant (sum_below o (committed_count c) (λ j. times (coefficient_in o own form j) (entry o w j)))
      sums w size =
          let sum = sum_below o m (λ k. times (entry o own (pads_at c l + k)) (entry o w (pads_at c l + k))) in
          let u = entry o w (factors_at c (l - 1)) in
          let v = entry o w (factors_at c (l - 1) + 1) in
          let x0 = entry o w (factors_at c l) in
          let x1 = entry o w (factors_at c l + 1) in
          let x2 = entry o w (factors_at c l + 2) in
          let product = product_at o c messages w l in
          let whole = sum_below o (form.end - form.start) (λ k. times (entry o own (form.start + k)) (entry o w (form.start + k))) in
          let ordered : form.start ≤ form.end = omega (arith, f.start, f.end) in
          let inside : form.end ≤ committed_count c = omega (arith, f.end, pads_within c l h) in
          layer_residual w l h
          ∙ ap (λ x. minus o x (times (bound_at o c q s l) product)) (claims w)
          ∙ ap (λ x. minus o (plus (plus K (times W (plus (plus a0 (times T u)) (times alpha (plus b0 (times T v)))))) sum) (times x product)) (sym eb)
          ∙ solve o r (K ∷ W ∷ a0 ∷ b0 ∷ T ∷ u ∷ v ∷ alpha ∷ sum ∷ bound ∷ s0 ∷ s1 ∷ x0 ∷ x1 ∷ x2 ∷ [])
          (((var 0 ⊞ var 1 ⊠ ((var 2 ⊞ var 4 ⊠ var 5) ⊞ var 7 ⊠ (var 3 ⊞ var 4 ⊠ var 6))) ⊞ var 8) ⊟ var 9 ⊠ (((var 10 ⊠ var 11 ⊞ var 10 ⊠ var 13) ⊞ var 11 ⊠ var 12) ⊞ var 14))
          (((var 0 ⊞ var 1 ⊠ (var 2 ⊞ var 7 ⊠ var 3)) ⊟ var 9 ⊠ (var 10 ⊠ var 11))
          ⊞ ((((var 8 ⊞ opp (var 9 ⊠ var 11) ⊠ var 12) ⊞ opp (var 9 ⊠ var 10) ⊠ var 13) ⊞ opp (var 9) ⊠ var 14) ⊞ ((var 1 ⊠ var 4) ⊠ var 5 ⊞ ((var 1 ⊠ var 4) ⊠ var 7) ⊠ var 6))) refl
          ∙ ap (λ x. plus constant (plus x (plus (times (times W T) u) (times (times (times W T) alpha) v)))) (sym (tail w))
          ∙ ap (λ x. plus constant (plus whole (plus (times x u) (times (times (times W T) alpha) v)))) (sym first_is)
          ∙ ap (λ x. plus constant (plus whole (plus (times form.first u) (times x v)))) (sym second_is)
          ∙ ap (λ k. plus constant (plus whole (plus (times form.first (entry o w k)) (times form.second (entry o w (k + 1)))))) (sym f.above)
          ∙ ap (plus constant) (sym (kept_sum o r (committed_count c) own w form ordered inside above_place))

  -- the extensions of the inputs at both points, by tables
  inputs_sum : (w xs table : List A) → length w ≡ committed_count c → length public ≡ c.publics → ((k : ℕ) → k < 1 + c.publics + c.privates → entry o table k ≡ eq o k xs)
      → inputs_at o c public w xs ≡ plus (sum_below o (1 + length public) (λ k. times (entry o table k) (entry o (o.one ∷ public) k)))
      (sum_below o c.privates (λ k. times (entry o table (1 + c.publics + k)) (entry o w k)))
  inputs_sum w xs table size count is =
      let front : List A = o.one ∷ public in
      let all = front ++ take c.privates w in
      let fits : c.privates ≤ length w = omega (arith, size) in
      let n : length all ≡ length front + c.privates = length-append front (take c.privates w) ∙ ap (λ k. length front + k) (length-take-le c.privates w fits) in
      let long : length front ≡ 1 + c.publics = omega (arith, count) in
      let short : length front ≡ 1 + length public = omega arith in
      let f : ℕ → A = λ i. times (eq o i xs) (entry o all i) in
      ap (λ k. sum_below o k f) n ∙ sum-split o r (length front) c.privates f
      ∙ ap (λ x. plus x (sum_below o c.privates (λ k. f (length front + k))))
      (sum-ext o r (length front) f (λ k. times (entry o table k) (entry o front k))
      (λ k h. ap (λ x. times x (entry o all k)) (sym (is k (omega arith))) ∙ ap (times (entry o table k)) (get_or_append_left front (take c.privates w) o.zero k h))
      ∙ ap (λ k. sum_below o k (λ i. times (entry o table i) (entry o front i))) short)
      ∙ ap (plus (sum_below o (1 + length public) (λ k. times (entry o table k) (entry o front k))))
      (sum-ext o r c.privates (λ k. f (length front + k)) (λ k. times (entry o table (1 + c.publics + k)) (entry o w k))
      (λ k h.
      let back : length front + k - length front ≡ k = omega arith in
      ap (λ x. times x (entry o all (length front + k))) (sym (is (length front + k) (omega arith)))
      ∙ ap (λ m. times (entry o table (m + k)) (entry o all (length front + k))) long
      ∙ ap (times (entry o table (1 + c.publics + k)))
      (get_or-append_right front (take c.privates w) (length front) (length front + k) o.zero refl (omega arith)
      ∙ ap (entry o (take c.privates w)) back ∙ get_or-take c.privates w k o.zero h)))

  combine_sums : (n : ℕ) (g : A) (u v y : ℕ → A)
      → plus (sum_below o n (λ k. times (u k) (y k))) (times g (sum_below o n (λ k. times (v k) (y k)))) ≡ sum_below o n (λ k. times (plus (u k) (times g (v k))) (y k))
  combine_sums n g u v y =
      ap (plus (sum_below o n (λ k. times (u k) (y k)))) (sym (sum-times o r n g (λ k. times (v k) (y k))))
      ∙ sym (sum-plus o r n (λ k. times (u k) (y k)) (λ k. times g (times (v k) (y k))))
      ∙ sum-ext o r n (λ k. plus (times (u k) (y k)) (times g (times (v k) (y k)))) (λ k. times (plus (u k) (times g (v k))) (y k))
      (λ k h. solve o r (u k ∷ v k ∷ y k ∷ g ∷ []) (var 0 ⊠ var 2 ⊞ var 3 ⊠ (var 1 ⊠ var 2)) ((var 0 ⊞ var 3 ⊠ var 1) ⊠ var 2) refl)

  below_one : (l : ℕ) → 0 < l → below_top o o.one l ≡ o.one
  below_one zero h = absurd (omega arith)
  below_one (suc l) h = refl

  pub last_is : (above : Factors A) (first second own : List A) (form : Form A) → 0 < depth c → length public ≡ c.publics
      → above.first ≡ above_a o c messages (depth c) → above.second ≡ above_b o c messages (depth c)
      → ((k : ℕ) → k < 1 + c.publics + c.privates → entry o first k ≡ eq o k (point_a o s (depth c))) → ((k : ℕ) → k < 1 + c.publics + c.privates → entry o second k ≡ eq o k (point_b o s (depth c)))
      → form.start ≡ 0 → form.end ≡ c.privates → form.above ≡ factors_at c (depth c - 1)
      → IsLastForm o c public s.gamma above first second 0 own form → IsConstraint o point c q public s messages (depth c) own form
  last_is above first second own form some count ea eb fa fb starts ends_at stands f =
      constraint_from (depth c) own form constant (record { is = λ w size. sums w size }) right_is
    where
      L : ℕ
      L = depth c

      a0 : A
      a0 = above_a o c messages L

      b0 : A
      b0 = above_b o c messages L

      G : A
      G = s.gamma

      known : A
      known = sum_below o (1 + length public) (λ k. times (plus (entry o first k) (times G (entry o second k))) (entry o (o.one ∷ public) k))

      constant : A
      constant = minus o (minus o known a0) (times G b0)

      right_is : form.right ≡ neg constant
      right_is = f.right ∙ ap (λ x. neg (minus o (minus o known x) (times G above.second))) ea ∙ ap (λ x. neg (minus o (minus o known a0) (times G x))) eb

      above_place : form.above + 1 < committed_count c
      above_place = omega (arith, stands, pads_within c (L - 1) (omega arith))

      T : A
      T = below_top o o.one L

      one_is : T ≡ o.one
      one_is = below_one L some

      privates : (w : List A) → sum_below o (form.end - form.start) (λ k. times (entry o own (form.start + k)) (entry o w (form.start + k)))
          ≡ plus (sum_below o c.privates (λ k. times (entry o first (1 + c.publics + k)) (entry o w k))) (times G (sum_below o c.privates (λ k. times (entry o second (1 + c.publics + k)) (entry o w k))))
      privates w =
          let size : form.end - form.start ≡ c.privates = omega (arith, starts, ends_at) in
          let g : ℕ → ℕ → A = λ p k. times (entry o own (p + k)) (entry o w (p + k)) in
          ap (λ n. sum_below o n (g form.start)) size ∙ ap (λ p. sum_below o c.privates (g p)) starts
          ∙ sum-ext o r c.privates (g 0) (λ k. times (plus (entry o first (1 + c.publics + k)) (times G (entry o second (1 + c.publics + k)))) (entry o w k))
          (λ k h. let z : 0 + k ≡ k = omega arith in ap (λ i. times (entry o own i) (entry o w i)) z ∙ ap (λ x. times x (entry o w k)) (f.privates k (omega arith) h))
          ∙ sym (combine_sums c.privates G (λ k. entry o first (1 + c.publics + k)) (λ k. entry o second (1 + c.publics + k)) (entry o w))

      sums : (w : List A) → length w ≡ committed_count c → residual o point c q public s messages w L ≡ plus constant (sum_below o (committed_count c) (λ j. times (coefficient_in o own form j) (entry o w j)))
      sums w size =
          let u = entry o w (factors_at c (L - 1)) in
          let v = entry o w (factors_at c (L - 1) + 1) in
          let p1 = sum_below o (1 + length public) (λ k. times (entry o first k) (entry o (o.one ∷ public) k)) in
          let p2 = sum_below o (1 + length public) (λ k. times (entry o second k) (entry o (o.one ∷ public) k)) in
          let w1 = sum_below o c.privates (λ k. times (entry o first (1 + c.publics + k)) (entry o w k)) in
          let w2 = sum_below o c.privates (λ k. times (entry o second (1 + c.publics + k)) (entry o w k)) in
          let ca = claim_a o c messages w L in
          let cb = claim_b o c messages w L in
          let whole = sum_below o (form.end - form.start) (λ k. times (entry o own (form.start + k)) (entry o w (form.start + k))) in
          let known_is : plus p1 (times G p2) ≡ known = combine_sums (1 + length public) G (entry o first) (entry o second) (entry o (o.one ∷ public)) in
          let ordered : form.start ≤ form.end = omega (arith, starts) in
          let inside : form.end ≤ committed_count c = omega (arith, ends_at) in
          last_residual w L (omega arith)
          ∙ ap (λ x. minus o (minus o (plus x (times G (inputs_at o c public w (point_b o s L)))) ca) (times G cb)) (inputs_sum w (point_a o s L) first size count fa)
          ∙ ap (λ x. minus o (minus o (plus (plus p1 w1) (times G x)) ca) (times G cb)) (inputs_sum w (point_b o s L) second size count fb)
          ∙ ap (λ x. minus o (minus o (plus (plus p1 w1) (times G (plus p2 w2))) x) (times G cb)) (claim_a_is w L ∙ ap (λ x. plus a0 (times x u)) one_is)
          ∙ ap (λ x. minus o (minus o (plus (plus p1 w1) (times G (plus p2 w2))) (plus a0 (times o.one u))) (times G x)) (claim_b_is w L ∙ ap (λ x. plus b0 (times x v)) one_is)
          ∙ solve o r (p1 ∷ p2 ∷ w1 ∷ w2 ∷ a0 ∷ b0 ∷ u ∷ v ∷ G ∷ [])
          ((((var 0 ⊞ var 2) ⊞ var 8 ⊠ (var 1 ⊞ var 3)) ⊟ (var 4 ⊞ solo ⊠ var 6)) ⊟ var 8 ⊠ (var 5 ⊞ solo ⊠ var 7))
          ((((var 0 ⊞ var 8 ⊠ var 1) ⊟ var 4) ⊟ var 8 ⊠ var 5) ⊞ ((var 2 ⊞ var 8 ⊠ var 3) ⊞ (opp solo ⊠ var 6 ⊞ opp (var 8) ⊠ var 7))) refl
          ∙ ap (λ x. plus (minus o (minus o x a0) (times G b0)) (plus (plus w1 (times G w2)) (plus (times (neg o.one) u) (times (neg G) v)))) known_is
          ∙ ap (λ x. plus constant (plus x (plus (times (neg o.one) u) (times (neg G) v)))) (sym (privates w))
          ∙ ap (λ x. plus constant (plus whole (plus (times x u) (times (neg G) v)))) (sym f.left)
          ∙ ap (λ x. plus constant (plus whole (plus (times form.first u) (times x v)))) (sym f.other)
          ∙ ap (λ k. plus constant (plus whole (plus (times form.first (entry o w k)) (times form.second (entry o w (k + 1)))))) (sym stands)
          ∙ ap (plus constant) (sym (kept_sum o r (committed_count c) own w form ordered inside above_place))

  -- what is written elsewhere leaves a constraint
  pub constraint_moved : (i : ℕ) (old new : List A) (form : Form A) → ((j : ℕ) → form.start ≤ j → j < form.end → entry o new j ≡ entry o old j)
      → IsConstraint o point c q public s messages i old form → IsConstraint o point c q public s messages i new form
  constraint_moved i old new form same h = record {
    coefficient = λ j k. ap (λ x. plus x (plus (cond (j == form.above) form.first o.zero) (cond (j == form.above + 1) form.second o.zero))) (kept j (nat_le form.start j && nat_lt j form.end) refl) ∙ h.coefficient j k;
    right = h.right;
  }
    where
      kept : (j : ℕ) (b : Bool) → (nat_le form.start j && nat_lt j form.end) ≡ b → cond (nat_le form.start j && nat_lt j form.end) (entry o new j) o.zero ≡ cond (nat_le form.start j && nat_lt j form.end) (entry o old j) o.zero
      kept j true e =
          let low : form.start ≤ j = grind arith in
          let high : j < form.end = grind arith in
          ap (λ x. cond (nat_le form.start j && nat_lt j form.end) x o.zero) (same j low high)
      kept j false e = ap (λ b. cond b (entry o new j) o.zero) e ∙ sym (ap (λ b. cond b (entry o old j) o.zero) e)

  pub constraints_more : (l : ℕ) (old new : List A) (forms : List (Form A)) (form : Form A) → l < length forms → l ≤ depth c
      → ((i : ℕ) → i < l → IsPlacedAt c i (form_at o forms i))
      → ((i : ℕ) → i < l → (j : ℕ) → own_start c i ≤ j → j < own_end c i → entry o new j ≡ entry o old j)
      → IsConstraint o point c q public s messages l new form → ((i : ℕ) → i < l → IsConstraint o point c q public s messages i old (form_at o forms i))
      → (i : ℕ) → i < l + 1 → IsConstraint o point c q public s messages i new (form_at o (slice_set forms l form) i)
  constraints_more l old new forms form within few placed same here each i h =
      let d : Form A = record { start = 0; end = 0; above = 0; first = o.zero; second = o.zero; right = o.zero } in
      elim (dec_lt i l) [
        | yes m ↦
            subst (λ x. IsConstraint o point c q public s messages i new x) (sym (get_or-set_other forms l i form d (omega arith)))
            (constraint_moved i old new (form_at o forms i) (λ j a b. same i m j (omega (arith, (placed i m).start)) (omega (arith, (placed i m).end))) (each i m))
        | no m ↦
            let e : i ≡ l = omega arith in
            let put : form ≡ form_at o (slice_set forms l form) i = sym (ap (form_at o (slice_set forms l form)) e ∙ get_or-set_same forms l form d within) in
            subst (λ k. IsConstraint o point c q public s messages k new (form_at o (slice_set forms l form) i)) (sym e) (subst (IsConstraint o point c q public s messages l new) put here)
      ]

module _ {A : Type 0} (o : Ops A) (r : RingLaws o) (public : List A) (weight : ℕ → A) where
  pub public_starts : (x : A) → x ≡ weight 0 → x ≡ sum_below o (1 + 0) (λ k. o.times (weight k) (entry o (o.one ∷ public) k))
  public_starts x e = e ∙ solve o r (weight 0 ∷ []) (var 0) (null ⊞ var 0 ⊠ solo) refl

  pub public_more : (i : ℕ) (total x y : A) → total ≡ sum_below o (1 + i) (λ k. o.times (weight k) (entry o (o.one ∷ public) k)) → x ≡ weight (i + 1) → y ≡ entry o public i
      → o.plus total (o.times x y) ≡ sum_below o (1 + (i + 1)) (λ k. o.times (weight k) (entry o (o.one ∷ public) k))
  public_more i total x y et ex ey =
      let f : ℕ → A = λ k. o.times (weight k) (entry o (o.one ∷ public) k) in
      let n : suc (suc i) ≡ 1 + (i + 1) = omega arith in
      let m : 1 + i ≡ suc i = omega arith in
      let p : i + 1 ≡ suc i = omega arith in
      ap (λ z. o.plus z (o.times x y)) (et ∙ ap (λ k. sum_below o k f) m) ∙ ap (λ z. o.plus (sum_below o (suc i) f) (o.times z y)) (ex ∙ ap weight p)
      ∙ ap (λ z. o.plus (sum_below o (suc i) f) (o.times (weight (suc i)) z)) ey
      ∙ ap (λ k. sum_below o k f) n
