-- Where the residuals are 0, the products hold and no draw is bad, the claims are true from the inputs up to the outputs.
use Rattle.std.specs.Prelude.{◌≡◌, ℕ, ◌<◌, ◌≤◌, ◌+◌, ◌-◌, ◌^◌, cond, List, [], ◌∷◌, ◌++◌, length, take}
use Rattle.std.proofs.Common.{zero, suc, refl, sym, ap, ◌∙◌, arith, subst}
use Rattle.std.proofs.lemmas.Bool.{lt-ltb, le-ltb}
use Rattle.std.proofs.lemmas.List.FromFn.{length-map-range_with_len, map-range_with_len_more}
use Rattle.lzk_field.specs.Coding.{Coding}
use Rattle.lzk_field.specs.Ring.{Ops, Laws}
use Rattle.lzk_field.specs.Sums.{entry, minus}
use Rattle.lzk_field.proofs.RingBasics.{same_from_difference, times_zero}
use Rattle.lzk_field.proofs.Solve.{var, null, ◌⊞◌, ◌⊟◌, ◌⊠◌, solve}
use Rattle.lzk_mle.specs.Multilinear.{tilde}
use Rattle.lzk_circuit.specs.Valid.{Wiring}
use Rattle.lzk_circuit.specs.Wires.{inputs_of}
use Rattle.lzk_circuit.specs.Checks.{asserted}
use Rattle.lzk_circuit.proofs.BitLaws.{bits_enough}
use Rattle.lzk_circuit.proofs.DepthLaws.{last-values}
use Rattle.lzk_layout.specs.Places.{depth, width_at, round_count, factors_sent_at, factors_at}
use Rattle.lzk_sumcheck.specs.declared.script.Script.{Script}
use Rattle.lzk_sumcheck.specs.Coefficients.{coefficients, terms_at, bound_at}
use Rattle.lzk_sumcheck.specs.Messages.{true_a, true_b}
use Rattle.lzk_sumcheck.specs.Rounds.{claim}
use Rattle.lzk_sumcheck.specs.Script.{layer_at, point_a, point_b, challenge_at, first_challenges}
use Rattle.lzk_accept.specs.Residuals.{claim_a, claim_b, claim_after, product_at, inputs_at, residual}
use Rattle.lzk_accept.proofs.ShapeLaws.{point_b_length}
use Rattle.lzk_soundness.specs.Sumchecks.Bad.{AreZero, IsBadJoin}
use Rattle.lzk_soundness.specs.Sumchecks.Claims.{values_in, values_at, asserted_at, with_alpha, OutputsShow, AssertedShow}
use Rattle.lzk_soundness.specs.Sumchecks.Laws.{PassesWell, ShownUnlessBad, SatisfiedUnlessBad}
use Rattle.lzk_soundness.proofs.SumchecksLaws.Bindings.{stable, shown}
use Rattle.lzk_soundness.proofs.SumchecksLaws.Layers.{L, length_at, last_sum, first_sum}
use Rattle.lzk_soundness.proofs.SumchecksLaws.Satisfied.{satisfied_by}

module _ {A : Type 0} (o : Ops A) (e : Coding A) (laws : Laws o e.size e.number e.element e.bytes) (c : Wiring A) (public w : List A) (s : Script A) (messages : List A) (p : PassesWell o e c public w s messages) where
  abbrev V : ℕ → List A
  V = values_at o c public w

  abbrev Z : ℕ → List A
  Z = asserted_at o c public w

  abbrev joined : ℕ → A → A → A
  joined = with_alpha o c public w e.element s messages

  abbrev S : ℕ → ℕ → A
  S l n = claim o (L o e laws c public w s messages p.publics p.count p.shape l) (first_challenges o s l n)

  -- claims whose join is true are true, where the join is not bad
  join_true : (a b d g x : A) → (IsBadJoin o a b d g x → ⊥) → o.plus a (o.times x b) ≡ o.plus d (o.times x g) → (a ≡ d) × (b ≡ g)
  join_true a b d g x fine is = (
    stable laws.numbers a d (λ n. fine ((λ q u. n q), is)),
    stable laws.numbers b g (λ n. fine ((λ q u. n u), is)),
  )

  -- both claims on layer l are true
  abbrev AreTrue : ℕ → Type 0
  AreTrue l = (claim_a o c messages w l ≡ tilde o (V l) (point_a o s l)) × (claim_b o c messages w l ≡ tilde o (V l) (point_b o s l))

  -- ---- the inputs

  inputs_true : (xs : List A) → inputs_at o c public w xs ≡ tilde o (V (depth c)) xs
  inputs_true xs = ap (λ vs. tilde o vs xs) (sym (last-values o c.layers (inputs_of o public (take c.privates w))))

  last_true : AreTrue (depth c)
  unfolding residual
  last_true =
      let d = depth c in
      let ca = claim_a o c messages w d in
      let cb = claim_b o c messages w d in
      let ta = inputs_at o c public w (point_a o s d) in
      let tb = inputs_at o c public w (point_b o s d) in
      let R = minus o (minus o (o.plus ta (o.times s.gamma tb)) ca) (o.times s.gamma cb) in
      let layer = minus o (claim_after o e.element c s messages w d (round_count c d)) (o.times (bound_at o c (coefficients o c s) s d) (product_at o c messages w d)) in
      let rest : R ≡ o.zero = sym (ap (λ b. cond b layer R) (le-ltb d d (omega arith))) ∙ p.vanish d (omega arith) in
      let same : o.plus ta (o.times s.gamma tb) ≡ o.plus ca (o.times s.gamma cb) =
      same_from_difference o laws.ring _ _ (solve o laws.ring (o.plus ta (o.times s.gamma tb) ∷ ca ∷ o.times s.gamma cb ∷ []) (var 0 ⊟ (var 1 ⊞ var 2)) ((var 0 ⊟ var 1) ⊟ var 2) refl ∙ rest) in
      join_true ca cb (tilde o (V d) (point_a o s d)) (tilde o (V d) (point_b o s d)) s.gamma p.none_bad.gamma
      (sym same ∙ ap (λ y. o.plus y (o.times s.gamma tb)) (inputs_true (point_a o s d)) ∙ ap (λ y. o.plus (tilde o (V d) (point_a o s d)) (o.times s.gamma y)) (inputs_true (point_b o s d)))

  -- ---- a layer, where the claims on the layer below are true

  module _ (l : ℕ) (h : l < depth c) where
    abbrev B : A
    B = bound_at o c (coefficients o c s) s l

    abbrev K : ℕ → A
    K = claim_after o e.element c s messages w l

    last_claim : AreTrue (suc l) → K (round_count c l) ≡ S l (round_count c l)
    unfolding residual
    last_claim below =
        let s0 = entry o messages (factors_sent_at c l) in
        let s1 = entry o messages (factors_sent_at c l + 1) in
        let d0 = entry o w (factors_at c l) in
        let d1 = entry o w (factors_at c l + 1) in
        let P = product_at o c messages w l in
        let ta = true_a o s (values_in o c public w) l in
        let tb = true_b o s (values_in o c public w) l in
        let next : suc l ≡ l + 1 = omega arith in
        let ea : o.plus s0 d0 ≡ ta = below.0 ∙ ap (λ i. tilde o (V i) (layer_at o s l).ra) next in
        let eb : o.plus s1 d1 ≡ tb = below.1 ∙ ap (λ i. tilde o (V i) (layer_at o s l).rb) next in
        let inputs = minus o (minus o (o.plus (inputs_at o c public w (point_a o s l)) (o.times s.gamma (inputs_at o c public w (point_b o s l)))) (claim_a o c messages w l)) (o.times s.gamma (claim_b o c messages w l)) in
        let R = minus o (K (round_count c l)) (o.times B P) in
        let rest : R ≡ o.zero = sym (ap (λ b. cond b R inputs) (lt-ltb l (depth c) h)) ∙ p.vanish l (omega (arith, h)) in
        let product : P ≡ o.times ta tb =
        ap (o.plus (o.plus (o.plus (o.times s0 s1) (o.times s0 d1)) (o.times s1 d0))) (sym (p.products l h))
        ∙ solve o laws.ring (s0 ∷ s1 ∷ d0 ∷ d1 ∷ []) (((var 0 ⊠ var 1 ⊞ var 0 ⊠ var 3) ⊞ var 1 ⊠ var 2) ⊞ var 2 ⊠ var 3) ((var 0 ⊞ var 2) ⊠ (var 1 ⊞ var 3)) refl
        ∙ ap (λ x. o.times x (o.plus s1 d1)) ea ∙ ap (o.times ta) eb in
        same_from_difference o laws.ring (K (round_count c l)) (o.times B P) rest ∙ ap (o.times B) product
        ∙ sym (last_sum o e laws c public w s messages p.publics p.count p.shape l h)

    -- back through the rounds
    rounds_back : AreTrue (suc l) → (d n : ℕ) → n + d ≡ round_count c l → K n ≡ S l n
    unfolding claim_after
    rounds_back below zero n is = let last : n ≡ round_count c l = omega (arith, is) in ap K last ∙ last_claim below ∙ ap (S l) (sym last)
    rounds_back below (suc d) n is =
        let next : n + 1 ≡ suc n = omega arith in
        let true_next : K (suc n) ≡ S l (suc n) = rounds_back below d (suc n) (omega (arith, is)) in
        let more = map-range_with_len_more (challenge_at o s l) 0 n n (omega arith) in
        let wide : S l (suc n) ≡ claim o (L o e laws c public w s messages p.publics p.count p.shape l) (first_challenges o s l n ++ challenge_at o s l n ∷ []) =
        ap (claim o (L o e laws c public w s messages p.publics p.count p.shape l)) (sym (ap (first_challenges o s l) next) ∙ more) in
        stable laws.numbers (K n) (S l n) (λ differ. p.none_bad.challenges l n h (omega (arith, is)) (differ, true_next ∙ wide))

    -- the claims on the layer are true, and what its assertion terms count adds up to 0
    layer_true : AreTrue (suc l) → AreTrue l × (joined l (tilde o (Z l) (point_a o s l)) (tilde o (Z l) (point_b o s l)) ≡ o.zero)
    unfolding claim_after
    layer_true below =
        let ca = claim_a o c messages w l in
        let cb = claim_b o c messages w l in
        let ta = tilde o (V l) (point_a o s l) in
        let tb = tilde o (V l) (point_b o s l) in
        let z = joined l (tilde o (Z l) (point_a o s l)) (tilde o (Z l) (point_b o s l)) in
        let beta = (layer_at o s l).beta in
        let begins : joined l ca cb ≡ o.plus (joined l ta tb) (o.times beta z) =
        rounds_back below (round_count c l) 0 (omega arith) ∙ first_sum o e laws c public w s messages p.publics p.count p.shape l h in
        let none : z ≡ o.zero = stable laws.numbers z o.zero (λ some. p.none_bad.betas l h (some, begins)) in
        let join : joined l ca cb ≡ joined l ta tb = begins ∙ ap (λ y. o.plus (joined l ta tb) (o.times beta y)) none ∙ ap (o.plus (joined l ta tb)) (times_zero o laws.ring beta) ∙ laws.ring.plus_zero _ in
        (join_true ca cb ta tb (layer_at o s l).alpha (p.none_bad.alphas l h) join, none)

  -- all claims are true
  all_true : (d l : ℕ) → l + d ≡ depth c → AreTrue l
  all_true zero l is = let last : l ≡ depth c = omega (arith, is) in subst AreTrue (sym last) last_true
  all_true (suc d) l is = (layer_true l (omega (arith, is)) (all_true d (suc l) (omega (arith, is)))).0

  claims_true : (l : ℕ) → l ≤ depth c → AreTrue l
  claims_true l h = all_true (depth c - l) l (omega (arith, h))

  -- ---- what is shown

  narrow : (l : ℕ) (values : List A) → l ≤ depth c → length values ≡ width_at c l → length values ≤ 2 ^ length (point_b o s l)
  narrow l values h is = omega (arith, is, bits_enough (width_at c l), ap (λ (k : ℕ). 2 ^ k) (point_b_length o c s p.shape l h))

  pub outputs_shown : OutputsShow o c public w e.element s messages → AreZero o (entry o (V 0))
  outputs_shown shows =
      let first = claims_true 0 (omega arith) in
      shown o laws.ring laws.numbers (V 0) (point_b o s 0) shows (narrow 0 (V 0) (omega arith) (length_at o e laws c public w s messages p.publics p.count p.shape 0)) (sym first.1)

  pub asserted_shown : (l : ℕ) → l < depth c → AssertedShow o c public w e.element s messages l → AreZero o (entry o (Z l))
  asserted_shown l h shows =
      let alpha = (layer_at o s l).alpha in
      let za = tilde o (Z l) (point_a o s l) in
      let zb = tilde o (Z l) (point_b o s l) in
      let sum = (layer_true l h (claims_true (suc l) (omega (arith, h)))).1 in
      let both = join_true za zb o.zero o.zero alpha shows.alpha (sum ∙ solve o laws.ring (alpha ∷ []) null (null ⊞ var 0 ⊠ null) refl) in
      shown o laws.ring laws.numbers (Z l) (point_b o s l) shows.points
      (narrow l (Z l) (omega (arith, h)) (length-map-range_with_len (asserted o (terms_at c l) (V (l + 1))) 0 (width_at c l))) both.1

pub shown_unless_bad : {A : Type 0} (o : Ops A) (e : Coding A) → Laws o e.size e.number e.element e.bytes → ShownUnlessBad o e
shown_unless_bad o e laws = λ c public w s messages p. (outputs_shown o e laws c public w s messages p, asserted_shown o e laws c public w s messages p)

pub satisfied_unless_bad : {A : Type 0} (o : Ops A) (e : Coding A) → Laws o e.size e.number e.element e.bytes → SatisfiedUnlessBad o e
satisfied_unless_bad o e laws = λ c public w s messages p outputs asserts.
    satisfied_by o laws.ring e.number c public (take c.privates w) p.valid
    (outputs_shown o e laws c public w s messages p outputs) (λ l h. asserted_shown o e laws c public w s messages p l h (asserts l h))
