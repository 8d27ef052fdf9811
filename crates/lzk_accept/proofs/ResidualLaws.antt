-- Each residual is affine in the list of pads and private inputs, and what its form is.
use Rattle.std.specs.Prelude.{◌≡◌, ℕ, ◌<◌, ◌≤◌, ◌+◌, ◌*◌, ◌-◌, Bool, true, false, cond, nat_lt, List, [], ◌∷◌, ◌++◌, length, take}
use Rattle.std.proofs.Common.{zero, suc, refl, ap, ◌∙◌, arith}
use Rattle.std.proofs.lemmas.Bool.{ltb-true}
use Rattle.std.proofs.lemmas.List.{get_or_append_left, get_or-append_right, get_or-take, length-append, length-take-le}
use native.Mathlib.Decide.{dec_lt}
use Rattle.lzk_field.specs.Ring.{Ops, RingLaws}
use Rattle.lzk_field.specs.Sums.{sum_below, minus, entry}
use Rattle.lzk_field.proofs.SumLaws.{sum-ext}
use Rattle.lzk_field.proofs.Solve.{var, opp, ◌⊞◌, solve}
use Rattle.lzk_poly.specs.Extension.{lagrange}
use Rattle.lzk_circuit.specs.Valid.{Wiring}
use Rattle.lzk_layout.specs.Sizes.{committed_count}
use Rattle.lzk_layout.proofs.PlaceLaws.{pads_within}
use Rattle.lzk_sumcheck.specs.declared.script.Script.{Script}
use Rattle.lzk_mle.specs.Multilinear.{eq, tilde}
use Rattle.lzk_sumcheck.specs.Script.{layer_at, point_a, point_b, challenge_at}
use Rattle.lzk_layout.specs.Places.{depth, round_count, sent_at, pads_at, factors_sent_at, factors_at}
use Rattle.lzk_sumcheck.specs.Coefficients.{bound_at}
use Rattle.lzk_accept.specs.Forms.{IsForm, IsAffine}
use Rattle.lzk_accept.specs.Residuals.{next_claim, padded, claim_a, claim_b, claim_after, product_at, inputs_at, residual, zeros, linear_coefficient, right_side}
use Rattle.lzk_accept.proofs.FormLaws.{affine-constant, affine-entry, affine-plus, affine-times, affine-same, affine-minus, constant-is, coefficient-is}

module _ {A : Type 0} (o : Ops A) (r : RingLaws o) (point : ℕ → A) (c : Wiring A) (q : ℕ → ℕ → ℕ → ℕ → A) (public : List A) (s : Script A) (messages : List A) where
  open o use {plus, times}

  affine-sum : (m : ℕ) (f : ℕ → List A → A) → ((i : ℕ) → i < m → IsAffine o (committed_count c) (f i)) → IsAffine o (committed_count c) (λ w. sum_below o m (λ i. f i w))
  affine-sum zero f h = affine-constant o r (committed_count c) o.zero
  affine-sum (suc m) f h = affine-plus o r (committed_count c) (λ w. sum_below o m (λ i. f i w)) (f m) (affine-sum m f (λ i l. h i (omega arith))) (h m (omega arith))

  affine-by : (k : A) (f : List A → A) → IsAffine o (committed_count c) f → IsAffine o (committed_count c) (λ w. times (f w) k)
  affine-by k f h = affine-same o r (committed_count c) (λ w. times k (f w)) (λ w. times (f w) k) (λ w e. r.times_comm _ _) (affine-times o r (committed_count c) k f h)

  affine-next : (claim p0 p2 : List A → A) (t : A) → IsAffine o (committed_count c) claim → IsAffine o (committed_count c) p0 → IsAffine o (committed_count c) p2 → IsAffine o (committed_count c) (λ w. next_claim o point (claim w) (p0 w) (p2 w) t)
  unfolding next_claim
  affine-next claim p0 p2 t h h0 h2 =
      let N = committed_count c in
      let k : ℕ → A = λ i. lagrange o point 3 i t in
      let p1 : List A → A = λ w. minus o (claim w) (p0 w) in
      affine-plus o r N (λ w. plus (plus o.zero (times (p0 w) (k 0))) (times (p1 w) (k 1))) (λ w. times (p2 w) (k 2))
      (affine-plus o r N (λ w. plus o.zero (times (p0 w) (k 0))) (λ w. times (p1 w) (k 1))
      (affine-plus o r N (λ w. o.zero) (λ w. times (p0 w) (k 0)) (affine-constant o r N o.zero) (affine-by (k 0) p0 h0))
      (affine-by (k 1) p1 (affine-minus o r N claim p0 h h0)))
      (affine-by (k 2) p2 h2)

  affine-padded : (i j : ℕ) → j < committed_count c → IsAffine o (committed_count c) (λ w. padded o messages w i j)
  affine-padded i j h = affine-plus o r (committed_count c) (λ w. entry o messages i) (λ w. entry o w j) (affine-constant o r (committed_count c) (entry o messages i)) (affine-entry o r (committed_count c) j h)

  affine-claim_a : (l : ℕ) → l ≤ depth c → IsAffine o (committed_count c) (λ w. claim_a o c messages w l)
  affine-claim_a zero h = affine-constant o r (committed_count c) o.zero
  affine-claim_a (suc l) h = affine-padded (factors_sent_at c l) (factors_at c l) (omega (arith, pads_within c l h))

  affine-claim_b : (l : ℕ) → l ≤ depth c → IsAffine o (committed_count c) (λ w. claim_b o c messages w l)
  affine-claim_b zero h = affine-constant o r (committed_count c) o.zero
  affine-claim_b (suc l) h = affine-padded (factors_sent_at c l + 1) (factors_at c l + 1) (omega (arith, pads_within c l h))

  affine-claim : (l m : ℕ) → l < depth c → m ≤ round_count c l → IsAffine o (committed_count c) (λ w. claim_after o point c s messages w l m)
  unfolding claim_after
  affine-claim l zero h b =
      let N = committed_count c in
      affine-plus o r N (λ w. claim_a o c messages w l) (λ w. times (layer_at o s l).alpha (claim_b o c messages w l)) (affine-claim_a l (omega arith))
      (affine-times o r N (layer_at o s l).alpha (λ w. claim_b o c messages w l) (affine-claim_b l (omega arith)))
  affine-claim l (suc m) h b =
      let i = sent_at c l + 2 * m in
      let j = pads_at c l + 2 * m in
      affine-next (λ w. claim_after o point c s messages w l m) (λ w. padded o messages w i j) (λ w. padded o messages w (i + 1) (j + 1)) (challenge_at o s l m) (affine-claim l m h (omega arith))
      (affine-padded i j (omega (arith, pads_within c l h))) (affine-padded (i + 1) (j + 1) (omega (arith, pads_within c l h)))

  affine-product : (l : ℕ) → l < depth c → IsAffine o (committed_count c) (λ w. product_at o c messages w l)
  affine-product l h =
      let N = committed_count c in
      let s0 = entry o messages (factors_sent_at c l) in
      let s1 = entry o messages (factors_sent_at c l + 1) in
      let d0 : List A → A = λ w. entry o w (factors_at c l) in
      let d1 : List A → A = λ w. entry o w (factors_at c l + 1) in
      let d2 : List A → A = λ w. entry o w (factors_at c l + 2) in
      let x : List A → A = λ w. times s0 s1 in
      let y : List A → A = λ w. times s0 (d1 w) in
      let z : List A → A = λ w. times s1 (d0 w) in
      affine-plus o r N (λ w. plus (plus (x w) (y w)) (z w)) d2
      (affine-plus o r N (λ w. plus (x w) (y w)) z
      (affine-plus o r N x y (affine-constant o r N (times s0 s1)) (affine-times o r N s0 d1 (affine-entry o r N (factors_at c l + 1) (omega (arith, pads_within c l h)))))
      (affine-times o r N s1 d0 (affine-entry o r N (factors_at c l) (omega (arith, pads_within c l h)))))
      (affine-entry o r N (factors_at c l + 2) (omega (arith, pads_within c l h)))

  privates_fit : c.privates ≤ committed_count c
  privates_fit = omega arith

  affine-inputs : (xs : List A) → IsAffine o (committed_count c) (λ w. inputs_at o c public w xs)
  affine-inputs xs =
      let N = committed_count c in
      let front : List A = o.one ∷ public in
      let m = length front + c.privates in
      let all : List A → List A = λ w. front ++ take c.privates w in
      affine-same o r N (λ w. sum_below o m (λ i. times (eq o i xs) (entry o (all w) i))) (λ w. tilde o (all w) xs)
      (λ w e. ap (λ k. sum_below o k (λ i. times (eq o i xs) (entry o (all w) i))) (length-append front (take c.privates w) ∙ ap (λ k. length front + k) (length-take-le c.privates w (omega (arith, privates_fit)))))
      (affine-sum m (λ i w. times (eq o i xs) (entry o (all w) i)) (λ i k. affine-times o r N (eq o i xs) (λ w. entry o (all w) i) (one i k (dec_lt i (length front)))))
    where
      one : (i : ℕ) → i < length (o.one ∷ public) + c.privates → Dec (i < length (o.one ∷ public)) → IsAffine o (committed_count c) (λ w. entry o ((o.one ∷ public) ++ take c.privates w) i)
      one i k (yes p) =
          affine-same o r (committed_count c) (λ w. entry o (o.one ∷ public) i) (λ w. entry o ((o.one ∷ public) ++ take c.privates w) i) (λ w e. get_or_append_left (o.one ∷ public) (take c.privates w) o.zero i p) (affine-constant o r (committed_count c) (entry o (o.one ∷ public) i))
      one i k (no p) =
          let j = i - length (o.one ∷ public) in
          affine-same o r (committed_count c) (λ w. entry o w j) (λ w. entry o ((o.one ∷ public) ++ take c.privates w) i)
          (λ w e. get_or-append_right (o.one ∷ public) (take c.privates w) (length (o.one ∷ public)) i o.zero refl (omega arith) ∙ get_or-take c.privates w j o.zero (omega arith)) (affine-entry o r (committed_count c) j (omega (arith, privates_fit)))

  pub affine-residual : (i : ℕ) → i ≤ depth c → IsAffine o (committed_count c) (λ w. residual o point c q public s messages w i)
  unfolding residual
  affine-residual i h = go (nat_lt i (depth c)) refl
    where
      go : (b : Bool) → nat_lt i (depth c) ≡ b → IsAffine o (committed_count c) (λ w. cond b (minus o (claim_after o point c s messages w i (round_count c i)) (times (bound_at o c q s i) (product_at o c messages w i))) (minus o (minus o (plus (inputs_at o c public w (point_a o s i)) (times s.gamma (inputs_at o c public w (point_b o s i)))) (claim_a o c messages w i)) (times s.gamma (claim_b o c messages w i))))
      go true e =
          let N = committed_count c in
          let l : i < depth c = ltb-true i (depth c) e in
          affine-minus o r N (λ w. claim_after o point c s messages w i (round_count c i)) (λ w. times (bound_at o c q s i) (product_at o c messages w i)) (affine-claim i (round_count c i) l (omega arith))
          (affine-times o r N (bound_at o c q s i) (λ w. product_at o c messages w i) (affine-product i l))
      go false e =
          let N = committed_count c in
          let T : List A → List A → A = λ xs w. inputs_at o c public w xs in
          let ca : List A → A = λ w. claim_a o c messages w i in
          let cb : List A → A = λ w. claim_b o c messages w i in
          affine-minus o r N (λ w. minus o (plus (T (point_a o s i) w) (times s.gamma (T (point_b o s i) w))) (ca w)) (λ w. times s.gamma (cb w))
          (affine-minus o r N (λ w. plus (T (point_a o s i) w) (times s.gamma (T (point_b o s i) w))) ca
          (affine-plus o r N (T (point_a o s i)) (λ w. times s.gamma (T (point_b o s i) w)) (affine-inputs (point_a o s i)) (affine-times o r N s.gamma (T (point_b o s i)) (affine-inputs (point_b o s i))))
          (affine-claim_a i h))
          (affine-times o r N s.gamma cb (affine-claim_b i h))

  -- the form of a residual: its constant is the right side's negative, and its coefficients are the linear constraint's
  pub residual-form : (i : ℕ) → i ≤ depth c
      → IsForm o (committed_count c) (λ v. residual o point c q public s messages v i) (o.neg (right_side o point c q public s messages i)) (linear_coefficient o point c q public s messages i)
  residual-form i h =
      let N = committed_count c in
      let a = affine-residual i h in
      let f : List A → A = λ v. residual o point c q public s messages v i in
      record {
        is = λ w e.
            let sum = sum_below o N (λ j. times (linear_coefficient o point c q public s messages i j) (entry o w j)) in
            a.form.is w e
            ∙ ap (plus a.constant) (sum-ext o r N (λ j. times (a.coefficient j) (entry o w j)) (λ j. times (linear_coefficient o point c q public s messages i j) (entry o w j)) (λ j l. ap (λ x. times x (entry o w j)) (coefficient-is o r N f a.constant a.coefficient j l a.form)))
            ∙ ap (λ x. plus x sum) (constant-is o r N f a.constant a.coefficient a.form)
            ∙ solve o r (f (zeros o N) ∷ sum ∷ []) (var 0 ⊞ var 1) (opp (opp (var 0)) ⊞ var 1) refl;
      }
