-- What is bad for some sent elements is bad for others that are the same before the draw.
use Rattle.std.specs.Prelude.{ℕ, List, take}
use Rattle.std.proofs.Common.{zero, suc, inl, inr, refl, sym, arith}
use Rattle.std.proofs.lemmas.List.{get_or-take}
use Rattle.lzk_field.specs.Ring.{Ops}
use Rattle.lzk_circuit.specs.Valid.{Wiring}
use Rattle.lzk_layout.specs.Places.{depth}
use Rattle.lzk_sumcheck.specs.declared.script.Script.{Script}
use Rattle.lzk_soundness.specs.Draws.Schedule.{Draw, script_of}
use Rattle.lzk_soundness.specs.Draws.Schedule.Draw.{coordinate, alpha, beta, challenge, gamma, other}
use Rattle.lzk_soundness.specs.Draws.Game.{AgreeBelow, Target, HidesAtOutputs, HidesAtAlpha, HidesAtRound, IsBadDraw}
use Rattle.lzk_soundness.specs.Draws.Game.Target.{outputs, assertions}
use Rattle.lzk_soundness.proofs.DrawsLaws.Alike.{alpha_alike, beta_alike, challenge_alike}
use Rattle.lzk_soundness.proofs.DrawsLaws.Places.{some_firsts}
use Rattle.lzk_soundness.specs.Rounds.Steps.{sent_before, step_of}
use Rattle.lzk_soundness.proofs.RoundsLaws.Steps.{IsDrawn}

module _ {A : Type 0} (o : Ops A) (c : Wiring A) (public w : List A) (point : ℕ → A) (xs m n : List A) where
  abbrev s : Script A
  s = script_of o c xs

  at_outputs : (target : Target) (j : ℕ) (x : A) → HidesAtOutputs o c public w point s m target j x → HidesAtOutputs o c public w point s n target j x
  at_outputs outputs j x b = b
  at_outputs (assertions zero) j x b = b
  at_outputs (assertions (suc l)) j x b = b

  at_alpha : (target : Target) (l : ℕ) (x : A) → HidesAtAlpha o c public w point s m target l x → HidesAtAlpha o c public w point s n target l x
  at_alpha outputs l x b = b
  at_alpha (assertions i) l x b = b

  at_round : (target : Target) (l k : ℕ) (x : A) → HidesAtRound o c public w point s m target l k x → HidesAtRound o c public w point s n target l k x
  at_round outputs l k x b = b
  at_round (assertions zero) l k x b = b
  at_round (assertions (suc i)) l k x b = b

  pub bad_alike : (target : Target) (d : Draw) (x : A) → IsDrawn c d → AgreeBelow o (sent_before c (step_of c d)) m n → IsBadDraw o c public w point s m target d x → IsBadDraw o c public w point s n target d x
  bad_alike target (coordinate j) x is agree b = at_outputs target j x b
  bad_alike target (alpha l) x is agree (inl b) = inl (alpha_alike o c public w point xs xs m n l x (omega (arith, is)) (λ j h. refl) agree b)
  bad_alike target (alpha l) x is agree (inr b) = inr (at_alpha target l x b)
  bad_alike target (beta l) x is agree b = beta_alike o c public w point xs xs m n l x is.0 (λ j h. refl) agree b
  bad_alike target (challenge l k) x is agree (inl b) = inl (challenge_alike o c public w point xs xs m n l k x is.0 is.1 (some_firsts c) (λ j h. refl) agree b)
  bad_alike target (challenge l k) x is agree (inr b) = inr (at_round target l k x b)
  bad_alike target gamma x is agree b = alpha_alike o c public w point xs xs m n (depth c) x (omega arith) (λ j h. refl) agree b
  bad_alike target other x is agree b = b

-- the first elements are the same
pub agree_front : {A : Type 0} (o : Ops A) (k : ℕ) (xs : List A) → AgreeBelow o k xs (take k xs)
agree_front o k xs j h = sym (get_or-take k xs j o.zero h)
