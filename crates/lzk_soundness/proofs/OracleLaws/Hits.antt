-- Few oracles give an answer that was named before.
use Rattle.std.specs.Prelude.{◌≡◌, ℕ, ◌*◌, ◌^◌, ◌≤◌, Bool, List, [], ◌∷◌, length, flat_map}
use Rattle.std.proofs.Common.{suc, inl, inr, sym, arith, subst, mul-le-mul_right, mul-suc, mul-zero, length-append}
use Rattle.lzk_soundness.specs.Chance.Draws.{count, draws_from, total_from}
use Rattle.lzk_soundness.specs.Chance.Few.{AreDistinct, IsIn}
use Rattle.lzk_soundness.proofs.ChanceLaws.FewLaws.{counts_few}
use Rattle.lzk_soundness.specs.Oracle.Laws.{IsWrongRarely, IsAsker, IsHit}
use Rattle.lzk_soundness.proofs.OracleLaws.Parts.{in_left, in_right, answer-put}
use Rattle.lzk_soundness.proofs.OracleLaws.Queries.{in_few, tries_add}

pub in_flat : {X : Type 0} (names : ℕ → List X) (x : X) (m : ℕ) (ms : List ℕ) → IsIn m ms → IsIn x (names m) → IsIn x (flat_map names ms)
in_flat names x m [] is there = absurd is
in_flat names x m (k ∷ ks) (inl e) there = in_left x (names k) (flat_map names ks) (subst (λ j. IsIn x (names j)) (sym e) there)
in_flat names x m (k ∷ ks) (inr i) there = in_right x (names k) (flat_map names ks) (in_flat names x m ks i there)

length-flat : {X : Type 0} (names : ℕ → List X) (most : ℕ) → ((n : ℕ) → length (names n) ≤ most) → (ms : List ℕ) → length (flat_map names ms) ≤ most * length ms
length-flat names most few [] = omega (arith, mul-zero most)
length-flat names most few (m ∷ ms) = omega (arith, length-append (names m) (flat_map names ms), few m, length-flat names most few ms, mul-suc most (length ms))

module _ {X : Type 0} (same : (x y : X) → Dec (x ≡ y)) (none : X) (ds : List X) (questions most : ℕ) (names : ℕ → List X) (distinct : AreDistinct ds) (few : (n : ℕ) → length (names n) ≤ most) where
  hit_few : IsWrongRarely ds questions (length ds) (λ k. most * suc k) (IsHit none names)
  hit_few es f n test long h new wrong =
      let ys = flat_map names (n ∷ es) in
      let some : count test ds ≤ length ys =
      counts_few (length ys) (λ x. IsIn x ys) test ds (in_few same ys)
      (λ x won.
      let hit = wrong x won in
      in_flat names x hit.0 (n ∷ es) hit.1.0 (subst (λ y. IsIn y (names hit.0)) (answer-put none n x f (omega (arith, h, long))) hit.1.1)) distinct in
      mul-le-mul_right (length ds) (omega (arith, some, length-flat names most few (n ∷ es)))

  pub hits_few : (tries : ℕ) (ask : List X → ℕ) (wins : List X → Bool) → IsAsker none ds questions tries (IsHit none names) ask wins
      → count wins (draws_from ds questions) * length ds ≤ total_from (λ k. most * suc k) 0 tries * length ds ^ questions
  hits_few tries ask wins asker = tries_add same none ds questions (length ds) (λ k. most * suc k) (IsHit none names) hit_few tries ask wins asker
