-- Two leaves at one place of one root are two questions with one answer.
use Rattle.std.specs.Prelude.{◌≡◌, ◌⊎◌, ℕ, ◌*◌, ◌^◌, ◌<◌, ◌≤◌, Bool, true, false, cond, List, [], ◌∷◌, length, map}
use Rattle.std.specs.List.{AllByRecursion}
use Rattle.std.proofs.Common.{inl, inr, sym, ap, ◌∙◌}
use native.Mathlib.Decide.{ℕ_discrete}
use Rattle.lzk_soundness.specs.Chance.Draws.{count, draws_from, total_from}
use Rattle.lzk_soundness.specs.Chance.Few.{AreDistinct, IsIn}
use Rattle.lzk_soundness.specs.Oracle.Oracle.{IsOracle, answer, asked}
use Rattle.lzk_soundness.specs.Oracle.Laws.{Collide}
use Rattle.lzk_soundness.proofs.OracleLaws.Queries.{collisions_few}
use Rattle.lzk_soundness.specs.Trees.Trees.{Hashing, Level, parent, climb, way, IsTwice}

module _ {L X : Type 0} (h : Hashing L X) (none : X) (oracle : List X) (numbers : List ℕ) where
  -- two questions with one answer are the same, or collide
  meet : (m n : ℕ) → IsIn m numbers → IsIn n numbers → answer none oracle m ≡ answer none oracle n → Collide none oracle numbers ⊎ (m ≡ n)
  meet m n i j alike = elim (ℕ_discrete m n) [
    | yes e ↦ inr e
    | no d ↦ inl (record { first = m; second = n; first_asked = i; second_asked = j; differ = d; alike = alike })
  ]

  -- parents of one side that are the same have the same child
  child : (side : Bool) (a b : X) (s t : X) → cond side (h.join s a) (h.join a s) ≡ cond side (h.join t b) (h.join b t) → a ≡ b
  child true a b s t e = (h.joins s a t b e).1
  child false a b s t e = (h.joins a s b t e).0

  down : (p q : List (Level X)) (a b : X) → map (λ level. level.right) p ≡ map (λ level. level.right) q
      → AllByRecursion (λ n. IsIn n numbers) (way h none oracle a p) → AllByRecursion (λ n. IsIn n numbers) (way h none oracle b q)
      → climb h none oracle a p ≡ climb h none oracle b q → Collide none oracle numbers ⊎ (a ≡ b)
  down [] [] a b sides i j same = inr same
  down [] (y ∷ q) a b sides i j same = absurd (cc)
  down (x ∷ p) [] a b sides i j same = absurd (cc)
  down (x ∷ p) (y ∷ q) a b sides i j same =
      above (down p q (answer none oracle (parent h none oracle x a)) (answer none oracle (parent h none oracle y b)) (cc) i.1 j.1 same)
    where
      side : x.right ≡ y.right
      side = cc

      here : Collide none oracle numbers ⊎ (parent h none oracle x a ≡ parent h none oracle y b) → Collide none oracle numbers ⊎ (a ≡ b)
      here (inl two) = inl two
      here (inr e) = inr (child y.right a b x.sibling y.sibling (ap (λ s. cond s (h.join x.sibling a) (h.join a x.sibling)) (sym side) ∙ e))

      above : Collide none oracle numbers ⊎ (answer none oracle (parent h none oracle x a) ≡ answer none oracle (parent h none oracle y b)) → Collide none oracle numbers ⊎ (a ≡ b)
      above (inl two) = inl two
      above (inr alike) = here (meet (parent h none oracle x a) (parent h none oracle y b) i.0 j.0 alike)

  twice_collides : IsTwice h none oracle numbers → Collide none oracle numbers
  twice_collides two =
      leaves (down two.first_opened.path two.second_opened.path (answer none oracle (h.leaf two.first)) (answer none oracle (h.leaf two.second))
      (two.first_opened.sides ∙ sym two.second_opened.sides) two.first_opened.asked two.second_opened.asked (two.first_opened.leads ∙ sym two.second_opened.leads))
    where
      last : Collide none oracle numbers ⊎ (h.leaf two.first ≡ h.leaf two.second) → Collide none oracle numbers
      last (inl c) = c
      last (inr e) = absurd (two.differ (h.leaves two.first two.second e))

      leaves : Collide none oracle numbers ⊎ (answer none oracle (h.leaf two.first) ≡ answer none oracle (h.leaf two.second)) → Collide none oracle numbers
      leaves (inl c) = c
      leaves (inr alike) = last (meet (h.leaf two.first) (h.leaf two.second) two.first_opened.leaf_asked two.second_opened.leaf_asked alike)

pub openings_bind : {L X : Type 0} (same : (x y : X) → Dec (x ≡ y)) (h : Hashing L X) (none : X) (answers : List X) (questions tries : ℕ) (ask : List X → ℕ) (wins : List X → Bool)
    → AreDistinct answers → ((before : List X) → ask before < questions)
    → ((oracle : List X) → IsOracle answers questions oracle → wins oracle ≡ true → IsTwice h none oracle (asked none ask oracle tries))
    → count wins (draws_from answers questions) * length answers ≤ total_from (λ k. k) 0 tries * length answers ^ questions
openings_bind same h none answers questions tries ask wins distinct inside only =
    collisions_few same none answers questions distinct tries ask wins inside (λ oracle is won. twice_collides h none oracle (asked none ask oracle tries) (only oracle is won))
