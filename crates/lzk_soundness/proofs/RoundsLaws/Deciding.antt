-- Whether an answer is bad can be decided.
use Rattle.std.specs.Prelude.{◌≡◌, ℕ, ◌<◌, List, take}
use Rattle.std.proofs.Common.{zero, suc, arith, subst}
use native.Mathlib.Decide.{dec_lt}
use Rattle.lzk_field.specs.Coding.{Coding}
use Rattle.lzk_field.specs.Ring.{Ops, Laws}
use Rattle.lzk_field.specs.Sums.{entry}
use Rattle.lzk_circuit.specs.Valid.{Wiring}
use Rattle.lzk_soundness.specs.Draws.Schedule.{draw_count, draw_at, script_of}
use Rattle.lzk_soundness.specs.Draws.Game.{Target}
use Rattle.lzk_soundness.proofs.DrawsLaws.Deciding.{dec_bad}
use Rattle.lzk_soundness.specs.Rounds.Steps.{Step, sent_before, step_of, IsBadAt, IsBadAnswer}
use Rattle.lzk_soundness.proofs.RoundsLaws.Steps.{dec_step}

dec_both : {P Q : Type 0} → Dec P → Dec Q → Dec (P × Q)
dec_both (yes p) (yes q) = yes (p, q)
dec_both (yes p) (no n) = no (λ b. n b.1)
dec_both (no n) q = no (λ b. n b.0)

module _ {A : Type 0} (o : Ops A) (e : Coding A) (laws : Laws o e.size e.number e.element e.bytes) (c : Wiring A) (public w : List A) (target : Target) (draws messages : List A) (step : Step) where
  abbrev At : ℕ → Type 0
  At k = (step_of c (draw_at c k) ≡ step) × IsBadAt o c public w target e.element draws messages k

  dec_at : (k : ℕ) → Dec (At k)
  dec_at k =
      dec_both (dec_step (step_of c (draw_at c k)) step)
      (dec_bad laws.numbers laws.ring c public w (script_of o c (take k draws)) (take (sent_before c (step_of c (draw_at c k))) messages) target (draw_at c k) (entry o draws k))

  abbrev Below : ℕ → Type 0
  Below n = (k : ℕ) × ((k < n) × At k)

  dec_below : (n : ℕ) → Dec (Below n)
  dec_below zero = no (λ b. omega (arith, b.1.0))
  dec_below (suc n) = next (dec_at n) (dec_below n)
    where
      next : Dec (At n) → Dec (Below n) → Dec (Below (suc n))
      next (yes p) d = yes (n, (omega arith, p))
      next (no m) (yes b) = yes (b.0, ((omega (arith, b.1.0)), b.1.1))
      next (no m) (no l) = no (λ b. elim (dec_lt b.0 n) [ yes h ↦ l (b.0, (h, b.1.1)) | no h ↦ let same : b.0 ≡ n = omega (arith, b.1.0, h) in m (subst At same b.1.1) ])

  pub dec_answer : Dec (IsBadAnswer o c public w target e.element draws messages step)
  dec_answer = go (dec_below (draw_count c))
    where
      go : Dec (Below (draw_count c)) → Dec (IsBadAnswer o c public w target e.element draws messages step)
      go (yes b) = yes (record { place = b.0; inside = b.1.0; there = b.1.1.0; bad = b.1.1.1 })
      go (no n) = no (λ b. n (b.place, (b.inside, (b.there, b.bad))))
