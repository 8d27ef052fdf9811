-- What is bad of a run is bad of what was sent of it before.
use Rattle.std.specs.Prelude.{◌≡◌, ℕ, ◌<◌, ◌≤◌, List, [], ◌∷◌, length, take}
use Rattle.std.proofs.Common.{zero, suc, refl, sym, ap, ◌∙◌, arith, subst}
use Rattle.std.proofs.lemmas.List.{length-take-le, get_or-take, ext_get_or}
use Rattle.lzk_field.specs.Ring.{Ops}
use Rattle.lzk_field.specs.Sums.{entry}
use Rattle.lzk_circuit.specs.Valid.{Wiring}
use Rattle.lzk_soundness.specs.Draws.Schedule.{Draw, draw_at, script_of}
use Rattle.lzk_soundness.specs.Draws.Game.{Target, IsBadDraw}
use Rattle.lzk_soundness.specs.Rounds.Steps.{Step, sent_before, step_of, place_in, draws_of, IsBadAnswer}
use Rattle.lzk_soundness.proofs.RoundsLaws.Few.{entry_of_draws, length_of_draws}
use Rattle.lzk_soundness.proofs.RoundsLaws.Steps.{sent_rises}

pub take_less : {X : Type 0} (s t : ℕ) (xs : List X) → s ≤ t → take s (take t xs) ≡ take s xs
take_less zero t xs h = refl
take_less (suc s) zero xs h = absurd (omega (arith, h))
take_less (suc s) (suc t) [] h = refl
take_less (suc s) (suc t) (x ∷ xs) h = ap (λ ys. x ∷ ys) (take_less s t xs (omega (arith, h)))

module _ {A : Type 0} (o : Ops A) (c : Wiring A) (public w : List A) (target : Target) (point : ℕ → A) (reply : Step → List A → List A) (messages : List A) (step : Step) where
  abbrev draws : List A → List A
  draws m = draws_of o c (λ s. reply s (take (sent_before c s) m))

  abbrev S : ℕ
  S = sent_before c step

  abbrev m : List A
  m = take S messages

  module _ (b : IsBadAnswer o c public w target point (draws messages) messages step) where
    abbrev k : ℕ
    k = b.place

    abbrev d : Draw
    d = draw_at c k

    entry_same : (i : ℕ) → i ≤ k → entry o (draws messages) i ≡ entry o (draws m) i
    entry_same i h =
        let s = step_of c (draw_at c i) in
        let le : sent_before c s ≤ S = omega (arith, sent_rises c i k h, ap (sent_before c) b.there) in
        entry_of_draws o c (λ s. reply s (take (sent_before c s) messages)) i (omega (arith, h, b.inside))
        ∙ ap (λ ys. entry o (reply s ys) (place_in c (draw_at c i))) (sym (take_less (sent_before c s) S messages le))
        ∙ sym (entry_of_draws o c (λ s. reply s (take (sent_before c s) m)) i (omega (arith, h, b.inside)))

    front_same : take k (draws messages) ≡ take k (draws m)
    front_same =
        let l : length (take k (draws messages)) ≡ k = length-take-le k (draws messages) (omega (arith, b.inside, length_of_draws o c (λ s. reply s (take (sent_before c s) messages)))) in
        let r : length (take k (draws m)) ≡ k = length-take-le k (draws m) (omega (arith, b.inside, length_of_draws o c (λ s. reply s (take (sent_before c s) m)))) in
        ext_get_or o.zero (take k (draws messages)) (take k (draws m)) (l ∙ sym r)
        (λ i h.
        let less : i < k = omega (arith, h, l) in
        get_or-take k (draws messages) i o.zero less ∙ entry_same i (omega (arith, less)) ∙ sym (get_or-take k (draws m) i o.zero less))

    pub bad_front : IsBadAnswer o c public w target point (draws m) m step
    bad_front = record {
      place = k;
      inside = b.inside;
      there = b.there;
      bad =
          let s = sent_before c (step_of c d) in
          let le : s ≤ S = omega (arith, ap (sent_before c) b.there) in
          subst (λ x. IsBadDraw o c public w point (script_of o c (take k (draws m))) (take s m) target d x) (entry_same k (omega arith))
          (subst (λ ys. IsBadDraw o c public w point (script_of o c (take k (draws m))) ys target d (entry o (draws messages) k)) (sym (take_less s S messages le))
          (subst (λ xs. IsBadDraw o c public w point (script_of o c xs) (take s messages) target d (entry o (draws messages) k)) front_same b.bad));
    }
