-- As each draw few elements are bad, whatever was drawn and sent before.
use Rattle.std.specs.Prelude.{◌≡◌, ◌⊎◌, ℕ, ◌+◌, ◌/◌, ◌%◌, ◌<◌, ◌≤◌, ◌==◌, ◌&&◌, cond, Bool, true, false, List, length, take}
use Rattle.std.proofs.Common.{zero, suc, refl, sym, ap, ◌∙◌, arith}
use Rattle.std.proofs.lemmas.Bool.{eq-eqb, false≢true}
use Rattle.std.proofs.lemmas.List.FromFn.{length-map-range_with_len}
use Rattle.lzk_field.specs.Coding.{Coding}
use Rattle.lzk_field.specs.Ring.{Ops, Laws}
use Rattle.lzk_soundness.specs.Chance.Few.{HasAtMost}
use Rattle.lzk_soundness.proofs.ChanceLaws.FewLaws.{fewer, none_at_all}
use Rattle.lzk_circuit.specs.Valid.{Wiring}
use Rattle.lzk_layout.specs.Sizes.{committed_count}
use Rattle.lzk_layout.specs.Places.{depth, round_count}
use Rattle.lzk_sumcheck.specs.declared.script.Script.{Script}
use Rattle.lzk_sumcheck.specs.Script.{HasShape, layer_at, challenge_at, first_challenges}
use Rattle.lzk_soundness.specs.Sumchecks.Claims.{values_at, asserted_at, IsBadAlpha, IsBadChallenge, IsHidingAlpha}
use Rattle.lzk_soundness.specs.Sumchecks.Bad.{IsBadBinding}
use Rattle.lzk_soundness.proofs.SumchecksLaws.BadLaws.{joins_few, betas_few, rounds_few, bindings_few}
use Rattle.lzk_soundness.proofs.SumchecksLaws.Layers.{L, fits}
use Rattle.lzk_soundness.specs.Draws.Schedule.{Draw}
use Rattle.lzk_soundness.specs.Draws.Schedule.Draw.{coordinate, alpha, beta, challenge, gamma, other}
use Rattle.lzk_soundness.specs.Draws.Game.{Target, HidesAtOutputs, HidesAtAlpha, HidesAtRound, IsBadDraw, degree}
use Rattle.lzk_soundness.specs.Draws.Game.Target.{outputs, assertions}
use Rattle.lzk_soundness.proofs.DrawsLaws.Places.{IsInside}
use Rattle.lzk_soundness.proofs.DrawsLaws.Unions.{few_either}

-- one more member at most, where a fact holds, and none where it does not
either_if : {X : Type 0} (P Q : X → Type 0) (n : ℕ) (b : Bool) → HasAtMost n P → HasAtMost 1 Q → (b ≡ false → (x : X) → Q x → ⊥) → HasAtMost (cond b (n + 1) n) (λ x. P x ⊎ Q x)
either_if P Q n true few one never = few_either P Q n 1 few one
either_if P Q n false few one never =
    let more = few_either P Q n 0 few (none_at_all 0 Q (never refl)) in
    λ xs distinct all. let short : length xs ≤ n + 0 = more xs distinct all in omega (arith, short)

and_same : (a b : Bool) → a ≡ true → b ≡ true → (a && b) ≡ true
and_same true true p q = refl
and_same true false p q = absurd (false≢true q)
and_same false b p q = absurd (false≢true p)

module _ {A : Type 0} (o : Ops A) (e : Coding A) (laws : Laws o e.size e.number e.element e.bytes) (c : Wiring A) (public w : List A) (s : Script A) (messages : List A) (publics : length public ≡ c.publics) (count : length w ≡ committed_count c) (shape : HasShape c s) where
  abbrev Bind : List A → List A → A → Type 0
  Bind = IsBadBinding o

  one_binding : (values before : List A) → HasAtMost 1 (Bind values before)
  one_binding = bindings_few o laws.ring laws.field

  few_outputs : (target : Target) (j : ℕ) → HasAtMost (degree target (coordinate j)) (HidesAtOutputs o c public w e.element s messages target j)
  few_outputs outputs j = one_binding (values_at o c public w 0) (take j s.out_point)
  few_outputs (assertions zero) j = one_binding (asserted_at o c public w 0) (take j s.out_point)
  few_outputs (assertions (suc l)) j = none_at_all 0 (λ x. ⊥) (λ x b. b)

  abbrev Alpha : ℕ → A → Type 0
  Alpha = IsBadAlpha o c public w e.element s messages

  abbrev Challenge : ℕ → ℕ → A → Type 0
  Challenge = IsBadChallenge o c public w e.element s messages

  one_alpha : (k : ℕ) → HasAtMost 1 (Alpha k)
  one_alpha k = joins_few o laws.ring laws.field _ _ _ _

  two_challenges : (k n : ℕ) → n < round_count c k → HasAtMost 2 (Challenge k n)
  two_challenges k n h =
      rounds_few laws (L o e laws c public w s messages publics count shape k) (first_challenges o s k n) _ _ _ (fits o e laws c public w s messages publics count shape k)
      (omega (arith, h, length-map-range_with_len (challenge_at o s k) 0 n))

  few_alphas : (target : Target) (k : ℕ) → HasAtMost (degree target (alpha k)) (λ x. Alpha k x ⊎ HidesAtAlpha o c public w e.element s messages target k x)
  few_alphas outputs k = few_either (Alpha k) (λ x. ⊥) 1 0 (one_alpha k) (none_at_all 0 (λ x. ⊥) (λ x b. b))
  few_alphas (assertions l) k =
      let Hiding : A → Type 0 = λ x. (l ≡ k) × IsHidingAlpha o c public w e.element s messages k x in
      either_if (Alpha k) Hiding 1 (l == k) (one_alpha k)
      (fewer 1 1 (IsHidingAlpha o c public w e.element s messages k) Hiding (omega arith) (λ x p. p.1) (joins_few o laws.ring laws.field _ _ _ _))
      (λ differ x p. false≢true (sym differ ∙ eq-eqb l k p.0))

  few_challenges : (target : Target) (k n : ℕ) → n < round_count c k → HasAtMost (degree target (challenge k n)) (λ x. Challenge k n x ⊎ HidesAtRound o c public w e.element s messages target k n x)
  few_challenges outputs k n h = few_either (Challenge k n) (λ x. ⊥) 2 0 (two_challenges k n h) (none_at_all 0 (λ x. ⊥) (λ x b. b))
  few_challenges (assertions zero) k n h =
      either_if (Challenge k n) (λ x. ⊥) 2 ((zero == suc k) && (n % 2 == 1)) (two_challenges k n h) (none_at_all 1 (λ x. ⊥) (λ x b. b)) (λ differ x b. b)
  few_challenges (assertions (suc l)) k n h =
      let values = asserted_at o c public w (suc k) in
      let before = take (n / 2) (layer_at o s k).rb in
      let Hides : A → Type 0 = λ x. (l ≡ k) × (n % 2 ≡ 1) × Bind values before x in
      either_if (Challenge k n) Hides 2 ((suc l == suc k) && (n % 2 == 1)) (two_challenges k n h)
      (fewer 1 1 (Bind values before) Hides (omega arith) (λ x p. p.2) (one_binding values before))
      (λ differ x p. false≢true (sym differ ∙ and_same (suc l == suc k) (n % 2 == 1) (eq-eqb (suc l) (suc k) (ap suc p.0)) (eq-eqb (n % 2) 1 p.1)))

  pub few_draws : (target : Target) (d : Draw) → IsInside c d → HasAtMost (degree target d) (IsBadDraw o c public w e.element s messages target d)
  few_draws target (coordinate j) h = few_outputs target j
  few_draws target (alpha l) h = few_alphas target l
  few_draws target (beta l) h = betas_few o laws.ring laws.field _ _ _
  few_draws target (challenge l n) h = few_challenges target l n h
  few_draws target gamma h = one_alpha (depth c)
  few_draws target other h = none_at_all 0 (λ x. ⊥) (λ x b. b)
