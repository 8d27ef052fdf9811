-- What is left of a layer's coefficients when all variables are bound.
use Rattle.std.specs.Prelude.{◌≡◌, ℕ, ◌<◌, ◌+◌, ◌==◌, cond, Bool, true, false, List, ◌∷◌, drop}
use Rattle.std.proofs.Common.{refl, sym, ap, ◌∙◌, arith}
use Rattle.std.proofs.lemmas.Bool.{eq-eqb}
use Rattle.lzk_field.specs.Ring.{Ops, RingLaws}
use Rattle.lzk_field.specs.Sums.{entry}
use Rattle.lzk_sumcheck_rounds.specs.declared.pairs.Pair.{Pair}
use Rattle.lzk_sumcheck_rounds.specs.Pairs.{spread, ArePairs}
use Rattle.lzk_sumcheck_rounds.specs.Rows.{linear_at}
use Rattle.lzk_sumcheck.proofs.PointLaws.{list-step}
use Rattle.lzk_sumcheck_rounds.proofs.SpreadLaws.{pairs_at}

module _ {A : Type 0} (o : Ops A) (r : RingLaws o) where
  -- the coefficients of wire 0 at zeros
  pub linear-first : (of_a : Bool) (scale : A) (linear : List A) → linear_at o of_a scale linear 0 0 ≡ o.times scale (entry o linear 0)
  linear-first true scale linear = refl
  linear-first false scale linear = refl

  -- what a pair counts for at zeros
  abbrev at_zeros : Pair A → A
  at_zeros p = cond (0 == p.a) (cond (0 == p.b) p.coef o.zero) o.zero

  pair-first : (p : Pair A) → p.a < 1 → p.b < 1 → p.coef ≡ at_zeros p
  pair-first p la lb =
      sym (ap (λ b. cond b (cond (0 == p.b) p.coef o.zero) o.zero) (eq-eqb 0 p.a (omega (arith, la))) ∙ ap (λ b. cond b p.coef o.zero) (eq-eqb 0 p.b (omega (arith, lb))))

  -- one more pair of zeros
  pub last-step : (ps : List (Pair A)) (i : ℕ) (p : Pair A) (total after all : A) → ArePairs 1 1 ps → drop i ps ≡ p ∷ drop (i + 1) ps → after ≡ o.plus total p.coef
      → o.plus total (spread o (drop i ps) 0 0) ≡ all → o.plus after (spread o (drop (i + 1) ps) 0 0) ≡ all
  last-step ps i p total after all zeros front is so =
      let here = pairs_at o r 1 1 i ps (drop (i + 1) ps) p front zeros in
      list-step o r ps (drop (i + 1) ps) p i at_zeros total after p.coef all front (pair-first p here.0 here.1) is so
