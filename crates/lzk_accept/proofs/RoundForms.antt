-- The claim after rounds as a form of the claim before and of the rounds' pads.
use Rattle.std.specs.Prelude.{◌≡◌, ℕ, ◌<◌, ◌+◌, ◌*◌, List, [], ◌∷◌}
use Rattle.std.proofs.Common.{suc, refl, sym, ap, ◌∙◌, arith, subst}
use Rattle.lzk_field.specs.Ring.{Ops, RingLaws}
use Rattle.lzk_field.specs.Sums.{sum_below, minus, entry}
use Rattle.lzk_field.proofs.Solve.{var, null, ◌⊞◌, ◌⊟◌, ◌⊠◌, solve, unit}
use Rattle.lzk_field.proofs.SumLaws.{sum-ext, sum-first}
use Rattle.lzk_poly.specs.Extension.{lagrange}
use Rattle.lzk_accept.specs.Residuals.{next_claim}
use Rattle.lzk_sumcheck.specs.declared.script.LayerScript.{LayerScript}
use Rattle.lzk_accept.specs.declared.points.Shares.{Shares}
use Rattle.lzk_accept.specs.declared.rounds.Claim.{Claim}
use Rattle.lzk_accept.specs.Points.{AreShares}
use Rattle.lzk_accept.specs.Walks.{through_rounds, challenge_of}

module _ {A : Type 0} (o : Ops A) (r : RingLaws o) (point : ℕ → A) where
  open o use {plus, times}

  pub next_is : (claim p0 p2 t a b c : A) → a ≡ lagrange o point 3 0 t → b ≡ lagrange o point 3 1 t → c ≡ lagrange o point 3 2 t
      → next_claim o point claim p0 p2 t ≡ plus (plus (times b claim) (times (minus o a b) p0)) (times c p2)
  unfolding next_claim
  next_is claim p0 p2 t a b c ea eb ec =
      let x = lagrange o point 3 0 t in
      let y = lagrange o point 3 1 t in
      let z = lagrange o point 3 2 t in
      solve o r (claim ∷ p0 ∷ p2 ∷ x ∷ y ∷ z ∷ []) (((null ⊞ var 1 ⊠ var 3) ⊞ (var 0 ⊟ var 1) ⊠ var 4) ⊞ var 2 ⊠ var 5) ((var 4 ⊠ var 0 ⊞ (var 3 ⊟ var 4) ⊠ var 1) ⊞ var 5 ⊠ var 2) refl
      ∙ ap (λ u. plus (plus (times y claim) (times (minus o u y) p0)) (times z p2)) (sym ea)
      ∙ ap (λ u. plus (plus (times u claim) (times (minus o a u) p0)) (times z p2)) (sym eb)
      ∙ ap (λ u. plus (plus (times b claim) (times (minus o a b) p0)) (times u p2)) (sym ec)

  module _ (challenge sent : ℕ → A) where
    -- what n pads from 2m on add, by coefficients that stand from at on
    abbrev pub pad_sum : List A → ℕ → ℕ → ℕ → (ℕ → A) → A
    pad_sum own at m n pad = sum_below o n (λ k. times (entry o own (at + (2 * m + k))) (pad (2 * m + k)))

    -- The claim after all rounds, by the one after the first m, and the pads of the others.
    pub record IsBack (own : List A) (at total m n : ℕ) (constant weight : A) : Type 0 where
      pub count : 2 * m + n ≡ 2 * total
      pub form : (pad : ℕ → A) (x : A) → through_rounds o point challenge sent pad x total
          ≡ plus (plus constant (times weight (through_rounds o point challenge sent pad x m))) (pad_sum own at m n pad)

    pub back_first : (own : List A) (at total : ℕ) → IsBack own at total total 0 o.zero o.one
    back_first own at total = record {
      count = omega arith;
      form = λ pad x. sym (let y = through_rounds o point challenge sent pad x total in solve o r (y ∷ []) ((null ⊞ unit ⊠ var 0) ⊞ null) (var 0) refl);
    }

    -- one more round, whose coefficients are written before those of the later rounds
    pub back_more : (old new : List A) (at total m n : ℕ) (constant weight next_constant next_weight a b c : A)
        → a ≡ lagrange o point 3 0 (challenge m) → b ≡ lagrange o point 3 1 (challenge m) → c ≡ lagrange o point 3 2 (challenge m)
        → IsBack old at total (suc m) n constant weight
        → entry o new (at + 2 * m) ≡ times weight (minus o a b) → entry o new (at + 2 * m + 1) ≡ times weight c
        → ((j : ℕ) → at + 2 * m + 1 < j → entry o new j ≡ entry o old j)
        → next_constant ≡ plus constant (times weight (plus (times (minus o a b) (sent (2 * m))) (times c (sent (2 * m + 1))))) → next_weight ≡ times weight b
        → IsBack new at total m (suc (suc n)) next_constant next_weight
    back_more old new at total m n constant weight next_constant next_weight a b c ea eb ec h first second rest ek ew = record {
      count = omega (arith, h.count);
      form = λ pad x.
          let y = through_rounds o point challenge sent pad x m in
          let s = sent (2 * m) in
          let s' = sent (2 * m + 1) in
          let p = pad (2 * m) in
          let p' = pad (2 * m + 1) in
          let tail = pad_sum old at (suc m) n pad in
          h.form pad x
          ∙ ap (λ u. plus (plus constant (times weight u)) tail) (next_is y (plus s p) (plus s' p') (challenge m) a b c ea eb ec)
          ∙ solve o r (constant ∷ weight ∷ y ∷ s ∷ p ∷ s' ∷ p' ∷ a ∷ b ∷ c ∷ tail ∷ [])
          ((var 0 ⊞ var 1 ⊠ ((var 8 ⊠ var 2 ⊞ (var 7 ⊟ var 8) ⊠ (var 3 ⊞ var 4)) ⊞ var 9 ⊠ (var 5 ⊞ var 6))) ⊞ var 10)
          (((var 0 ⊞ var 1 ⊠ ((var 7 ⊟ var 8) ⊠ var 3 ⊞ var 9 ⊠ var 5)) ⊞ (var 1 ⊠ var 8) ⊠ var 2) ⊞ ((var 1 ⊠ (var 7 ⊟ var 8)) ⊠ var 4 ⊞ ((var 1 ⊠ var 9) ⊠ var 6 ⊞ var 10))) refl
          ∙ ap (λ u. plus (plus u (times (times weight b) y)) (plus (times (times weight (minus o a b)) p) (plus (times (times weight c) p') tail))) (sym ek)
          ∙ ap (λ u. plus (plus next_constant (times u y)) (plus (times (times weight (minus o a b)) p) (plus (times (times weight c) p') tail))) (sym ew)
          ∙ ap (plus (plus next_constant (times next_weight y))) (sym (sums pad));
    }
      where
        sums : (pad : ℕ → A) → pad_sum new at m (suc (suc n)) pad
            ≡ plus (times (times weight (minus o a b)) (pad (2 * m))) (plus (times (times weight c) (pad (2 * m + 1))) (pad_sum old at (suc m) n pad))
        sums pad =
            let f : ℕ → A = λ k. times (entry o new (at + (2 * m + k))) (pad (2 * m + k)) in
            let e0 : at + (2 * m + 0) ≡ at + 2 * m = omega arith in
            let p0 : 2 * m + 0 ≡ 2 * m = omega arith in
            let e1 : at + (2 * m + 1) ≡ at + 2 * m + 1 = omega arith in
            sum-first o r (suc n) f
            ∙ ap (λ u. plus u (sum_below o (suc n) (λ k. f (suc k)))) (ap (λ k. times (entry o new k) (pad (2 * m + 0))) e0 ∙ ap (λ k. times (entry o new (at + 2 * m)) (pad k)) p0 ∙ ap (λ u. times u (pad (2 * m))) first)
            ∙ ap (plus (times (times weight (minus o a b)) (pad (2 * m))))
            (sum-first o r n (λ k. f (suc k))
            ∙ ap (λ u. plus u (sum_below o n (λ k. f (suc (suc k))))) (ap (λ k. times (entry o new k) (pad (2 * m + 1))) e1 ∙ ap (λ u. times u (pad (2 * m + 1))) second)
            ∙ ap (plus (times (times weight c) (pad (2 * m + 1))))
            (sum-ext o r n (λ k. f (suc (suc k))) (λ k. times (entry o old (at + (2 * suc m + k))) (pad (2 * suc m + k)))
            (λ k l.
            let same : 2 * m + suc (suc k) ≡ 2 * suc m + k = omega arith in
            ap (λ i. times (entry o new (at + i)) (pad i)) same
            ∙ ap (λ u. times u (pad (2 * suc m + k))) (rest (at + (2 * suc m + k)) (omega arith)))))

module _ {A : Type 0} (o : Ops A) (r : RingLaws o) (point : ℕ → A) where
  open o use {plus, times}

  -- the step of one round, by its shares and two sent elements
  pub record IsStep (s : Shares A) (p0 p2 : A) (old : List A) (k : ℕ) (before : Claim A) (new : List A) (after : Claim A) : Type 0 where
    pub first : entry o new k ≡ times before.weight (minus o s.first s.second)
    pub second : entry o new (k + 1) ≡ times before.weight s.third
    pub rest : (j : ℕ) → k + 1 < j → entry o new j ≡ entry o old j
    pub constant : after.constant ≡ plus before.constant (times before.weight (plus (times (minus o s.first s.second) p0) (times s.third p2)))
    pub weight : after.weight ≡ times before.weight s.second

  module _ (layer : LayerScript A) (messages : List A) (start at total : ℕ) where
    abbrev pub Back : List A → ℕ → ℕ → Claim A → Type 0
    Back own m n claim = IsBack o r point (challenge_of o layer) (λ k. entry o messages (start + k)) own at total m n claim.constant claim.weight

    pub back_step : (old new : List A) (m n k i : ℕ) (t : A) (s : Shares A) (before after : Claim A) → k ≡ at + 2 * m → i ≡ start + 2 * m → challenge_of o layer m ≡ t → AreShares o point t s
        → Back old (suc m) n before → IsStep s (entry o messages i) (entry o messages (i + 1)) old k before new after → Back new m (suc (suc n)) after
    back_step old new m n k i t s before after ek ei et shares h step =
        let after_place : i + 1 ≡ start + (2 * m + 1) = omega arith in
        let next : k + 1 ≡ at + 2 * m + 1 = omega arith in
        back_more o r point (challenge_of o layer) (λ j. entry o messages (start + j)) old new at total m n before.constant before.weight after.constant after.weight s.first s.second s.third
        (shares.first ∙ ap (lagrange o point 3 0) (sym et)) (shares.second ∙ ap (lagrange o point 3 1) (sym et)) (shares.third ∙ ap (lagrange o point 3 2) (sym et)) h
        (ap (entry o new) (sym ek) ∙ step.first) (ap (entry o new) (sym next) ∙ step.second) (λ j l. step.rest j (omega arith))
        (step.constant ∙ ap (λ x. plus before.constant (times before.weight (plus (times (minus o s.first s.second) (entry o messages x)) (times s.third (entry o messages (i + 1)))))) ei
        ∙ ap (λ x. plus before.constant (times before.weight (plus (times (minus o s.first s.second) (entry o messages (start + 2 * m))) (times s.third (entry o messages x))))) after_place)
        step.weight

    -- all rounds
    pub back_whole : (own : List A) (m n : ℕ) (claim : Claim A) → m ≡ 0 → n ≡ 2 * total → Back own m n claim → (pad : ℕ → A) (x : A)
        → through_rounds o point (challenge_of o layer) (λ k. entry o messages (start + k)) pad x total
        ≡ plus (plus claim.constant (times claim.weight x)) (sum_below o (2 * total) (λ k. times (entry o own (at + k)) (pad k)))
    back_whole own m n claim em en h pad x =
        let h0 : Back own 0 n claim = subst (λ k. Back own k n claim) em h in
        h0.form pad x
        ∙ ap (plus (plus claim.constant (times claim.weight x))) (sum-ext o r n (λ k. times (entry o own (at + (2 * 0 + k))) (pad (2 * 0 + k))) (λ k. times (entry o own (at + k)) (pad k)) (λ k l. let z : 2 * 0 + k ≡ k = omega arith in ap (λ i. times (entry o own (at + i)) (pad i)) z))
        ∙ ap (λ k. plus (plus claim.constant (times claim.weight x)) (sum_below o k (λ i. times (entry o own (at + i)) (pad i)))) en
