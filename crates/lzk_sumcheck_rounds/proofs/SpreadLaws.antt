-- Coefficients that are kept as a list of pairs.
use Rattle.std.specs.Prelude.{◌≡◌, ◌≢◌, ℕ, ◌<◌, ◌≤◌, ◌+◌, ◌*◌, ◌/◌, ◌%◌, ◌==◌, List, [], ◌∷◌, map, drop, true, false, Bool, cond}
use Rattle.std.proofs.Common.{zero, suc, refl, sym, ap, ◌∙◌, arith, inl, inr, subst}
use Rattle.std.proofs.lemmas.Bool.{cases_eq, eq-eqb, ne_eqb}
use Rattle.lzk_field.specs.Ring.{Ops, RingLaws}
use Rattle.lzk_field.specs.Sums.{minus}
use Rattle.lzk_field.proofs.RingBasics.{zero_times}
use Rattle.lzk_field.proofs.Solve.{var, null, unit, ◌⊞◌, ◌⊟◌, ◌⊠◌, solve}
use Rattle.lzk_mle.specs.Multilinear.{low_bit, agree}
use Rattle.lzk_mle.proofs.TableLaws.{bound}
use Rattle.lzk_sumcheck_rounds.specs.declared.pairs.Pair.{Pair}
use Rattle.lzk_sumcheck_rounds.specs.Pairs.{spread, bind_pair, ArePairs}

module _ {A : Type 0} (o : Ops A) (r : RingLaws o) where
  open o use {plus, times, neg}

  pick : (i k : ℕ) (x : A) → i ≡ k → cond (i == k) x o.zero ≡ x
  pick i k x e = ap (λ b. cond b x o.zero) (eq-eqb i k e)

  miss : (i k : ℕ) (x : A) → i ≢ k → cond (i == k) x o.zero ≡ o.zero
  miss i k x e = ap (λ b. cond b x o.zero) (ne_eqb i k e)

  -- one pair
  one-bind : (x y : A) (a i : ℕ) → plus (times (minus o o.one x) (cond (2 * i == a) y o.zero)) (times x (cond (2 * i + 1 == a) y o.zero)) ≡ cond (i == a / 2) (times y (agree o (low_bit o a) x)) o.zero
  one-bind x y a i =
      let left : A → A → A = λ u v. plus (times (minus o o.one x) u) (times x v) in
      elim (cases_eq i (a / 2)) [
        | inl same ↦ elim (cases_eq (a % 2) 0) [
          | inl even ↦
              let n : 2 * i + 1 ≢ a = omega arith in
              ap (λ u. left u (cond (2 * i + 1 == a) y o.zero)) (pick (2 * i) a y (omega arith)) ∙ ap (left y) (miss (2 * i + 1) a y n)
              ∙ solve o r (x ∷ y ∷ []) ((unit ⊟ var 0) ⊠ var 1 ⊞ var 0 ⊠ null) (var 1 ⊠ (null ⊠ var 0 ⊞ (unit ⊟ null) ⊠ (unit ⊟ var 0))) refl
              ∙ sym (pick i (a / 2) (times y (agree o (low_bit o a) x)) same ∙ ap (λ b. times y (agree o (cond b o.zero o.one) x)) (eq-eqb (a % 2) 0 even))
          | inr odd ↦
              let n : 2 * i ≢ a = omega arith in
              ap (λ u. left u (cond (2 * i + 1 == a) y o.zero)) (miss (2 * i) a y n) ∙ ap (left o.zero) (pick (2 * i + 1) a y (omega arith))
              ∙ solve o r (x ∷ y ∷ []) ((unit ⊟ var 0) ⊠ null ⊞ var 0 ⊠ var 1) (var 1 ⊠ (unit ⊠ var 0 ⊞ (unit ⊟ unit) ⊠ (unit ⊟ var 0))) refl
              ∙ sym (pick i (a / 2) (times y (agree o (low_bit o a) x)) same ∙ ap (λ b. times y (agree o (cond b o.zero o.one) x)) (ne_eqb (a % 2) 0 odd))
        ]
        | inr other ↦
            let n : 2 * i ≢ a = omega arith in
            let n1 : 2 * i + 1 ≢ a = omega arith in
            ap (λ u. left u (cond (2 * i + 1 == a) y o.zero)) (miss (2 * i) a y n) ∙ ap (left o.zero) (miss (2 * i + 1) a y n1)
            ∙ solve o r (x ∷ []) ((unit ⊟ var 0) ⊠ null ⊞ var 0 ⊠ null) null refl
            ∙ sym (miss i (a / 2) (times y (agree o (low_bit o a) x)) other)
      ]

  nest : (p q : Bool) (y : A) → cond p (cond q y o.zero) o.zero ≡ cond q (cond p y o.zero) o.zero
  nest true q y = refl
  nest false true y = refl
  nest false false y = refl

  pull : (q : Bool) (y z : A) → times (cond q y o.zero) z ≡ cond q (times y z) o.zero
  pull true y z = refl
  pull false y z = zero_times o r z

  -- the bound coefficients are those of the bound pairs
  pub spread-bind : (x : A) (ps : List (Pair A)) (i j : ℕ) → bound o x (λ a. spread o ps a j) i ≡ spread o (map (bind_pair o x) ps) j i
  spread-bind x [] i j = solve o r (x ∷ []) ((unit ⊟ var 0) ⊠ null ⊞ var 0 ⊠ null) null refl
  spread-bind x (p ∷ ps) i j =
      let y = cond (j == p.b) p.coef o.zero in
      let u = cond (2 * i == p.a) y o.zero in
      let v = cond (2 * i + 1 == p.a) y o.zero in
      let c = agree o (low_bit o p.a) x in
      solve o r (x ∷ u ∷ v ∷ spread o ps (2 * i) j ∷ spread o ps (2 * i + 1) j ∷ [])
      ((unit ⊟ var 0) ⊠ (var 1 ⊞ var 3) ⊞ var 0 ⊠ (var 2 ⊞ var 4)) (((unit ⊟ var 0) ⊠ var 1 ⊞ var 0 ⊠ var 2) ⊞ ((unit ⊟ var 0) ⊠ var 3 ⊞ var 0 ⊠ var 4)) refl
      ∙ ap (λ w. plus w (bound o x (λ a. spread o ps a j) i)) (one-bind x y p.a i ∙ ap (λ w. cond (i == p.a / 2) w o.zero) (pull (j == p.b) p.coef c) ∙ nest (i == p.a / 2) (j == p.b) (times p.coef c))
      ∙ ap (plus (cond (j == p.b) (cond (i == p.a / 2) (times p.coef c) o.zero) o.zero)) (spread-bind x ps i j)

  pub pairs-bound : (n half m : ℕ) (x : A) (ps : List (Pair A)) → n ≤ 2 * half → ArePairs n m ps → ArePairs m half (map (bind_pair o x) ps)
  pairs-bound n half m x [] fits h = tt
  pairs-bound n half m x (p ∷ ps) fits h = (h.1, let l = h.0 in omega arith, pairs-bound n half m x ps fits h.2)

  pub pairs_at : (n m i : ℕ) (ps rest : List (Pair A)) (p : Pair A) → drop i ps ≡ p ∷ rest → ArePairs n m ps → (p.a < n) × (p.b < m)
  pairs_at n m zero (q ∷ ps) rest p e h = let e' : q ≡ p = cc in subst (λ x. (x.a < n) × (x.b < m)) e' (h.0, h.1)
  pairs_at n m zero [] rest p e h = cc
  pairs_at n m (suc i) [] rest p e h = cc
  pairs_at n m (suc i) (q ∷ ps) rest p e h = pairs_at n m i ps rest p e h.2

  -- numbers below a bound are below a greater one
  pub pairs-wider : (n m k : ℕ) (ps : List (Pair A)) → m ≤ k → ArePairs n m ps → ArePairs n k ps
  pairs-wider n m k [] fits h = tt
  pairs-wider n m k (p ∷ ps) fits h = (h.0, let l = h.1 in omega arith, pairs-wider n m k ps fits h.2)
