-- Whether a draw is bad can be decided.
use Rattle.std.specs.Prelude.{◌≡◌, ◌⊎◌, ℕ, ◌+◌, ◌*◌, ◌/◌, ◌%◌, ◌<◌, ◌≤◌, Bool, true, false, List, [], ◌∷◌, ◌++◌, length, take}
use Rattle.std.proofs.Common.{zero, suc, inl, inr, refl, sym, ap, ◌∙◌, arith}
use Rattle.std.proofs.lemmas.Bool.{false≢true}
use Rattle.std.proofs.lemmas.List.{get_or_past}
use native.Mathlib.Decide.{ℕ_discrete, dec_lt}
use Rattle.lzk_field.specs.Ring.{Ops, RingLaws, NumberLaws}
use Rattle.lzk_field.specs.Sums.{entry, minus}
use Rattle.lzk_field.proofs.Solve.{var, null, unit, ◌⊞◌, ◌⊟◌, ◌⊠◌, solve}
use Rattle.lzk_circuit.specs.Valid.{Wiring}
use Rattle.lzk_sumcheck.specs.declared.script.Script.{Script}
use Rattle.lzk_sumcheck.specs.Script.{layer_at}
use Rattle.lzk_sumcheck.specs.States.{bound}
use Rattle.lzk_soundness.specs.Sumchecks.Bad.{bound_by, AreZero, IsBadJoin, IsBadBinding}
use Rattle.lzk_soundness.specs.Sumchecks.Claims.{values_at, asserted_at}
use Rattle.lzk_soundness.specs.Draws.Schedule.{Draw}
use Rattle.lzk_soundness.specs.Draws.Schedule.Draw.{coordinate, alpha, beta, challenge, gamma, other}
use Rattle.lzk_soundness.specs.Draws.Game.{Target, HidesAtOutputs, HidesAtAlpha, HidesAtRound, IsBadDraw}
use Rattle.lzk_soundness.specs.Draws.Game.Target.{outputs, assertions}

abbrev pub is_yes : {P : Type 0} → Dec P → Bool
is_yes (yes p) = true
is_yes (no n) = false

pub from_yes : {P : Type 0} (d : Dec P) → is_yes d ≡ true → P
from_yes (yes p) e = p
from_yes (no n) e = absurd (false≢true e)

pub from_no : {P : Type 0} (d : Dec P) → is_yes d ≡ false → P → ⊥
from_no (yes p) e q = false≢true (sym e)
from_no (no n) e q = n q

dec_not : {P : Type 0} → Dec P → Dec (P → ⊥)
dec_not (yes p) = no (λ n. n p)
dec_not (no n) = yes n

dec_both : {P Q : Type 0} → Dec P → Dec Q → Dec (P × Q)
dec_both (yes p) (yes q) = yes (p, q)
dec_both (yes p) (no n) = no (λ b. n b.1)
dec_both (no n) q = no (λ b. n b.0)

dec_either : {P Q : Type 0} → Dec P → Dec Q → Dec (P ⊎ Q)
dec_either (yes p) q = yes (inl p)
dec_either {P} {Q} (no n) (yes q) = yes (inr q)
dec_either {P} {Q} (no n) (no m) = no neither
  where
    neither : P ⊎ Q → ⊥
    neither (inl p) = n p
    neither (inr q) = m q

bound_zero : {A : Type 0} (o : Ops A) (r : RingLaws o) (x a b : A) → a ≡ o.zero → b ≡ o.zero → o.plus (o.times (minus o o.one x) a) (o.times x b) ≡ o.zero
bound_zero o r x a b p q =
    ap (λ w. o.plus (o.times (minus o o.one x) w) (o.times x b)) p ∙ ap (λ w. o.plus (o.times (minus o o.one x) o.zero) (o.times x w)) q
    ∙ solve o r (x ∷ []) ((unit ⊟ var 0) ⊠ null ⊞ var 0 ⊠ null) null refl

module _ {A : Type 0} {o : Ops A} {size : ℕ} {number_of : A → ℕ} {element : ℕ → A} {bytes : ℕ} (laws : NumberLaws o size number_of element bytes) where
  pub dec_same : (x y : A) → Dec (x ≡ y)
  dec_same x y = elim (ℕ_discrete (number_of x) (number_of y)) [
    | yes e ↦ yes (sym (laws.element_number x) ∙ ap element e ∙ laws.element_number y)
    | no n ↦ no (λ e. n (ap number_of e))
  ]

  dec_join : (a b d g x : A) → Dec (IsBadJoin o a b d g x)
  dec_join a b d g x = dec_both (differ (dec_same a d) (dec_same b g)) (dec_same _ _)
    where
      differ : Dec (a ≡ d) → Dec (b ≡ g) → Dec (a ≡ d → b ≡ g → ⊥)
      differ (yes p) (yes q) = no (λ n. n p q)
      differ (yes p) (no n) = yes (λ p q. n q)
      differ (no n) q = yes (λ p q. n p)

  dec_below : (n : ℕ) (f : ℕ → A) → Dec ((i : ℕ) → i < n → f i ≡ o.zero)
  dec_below zero f = yes (λ i h. absurd (omega (arith, h)))
  dec_below (suc n) f = both (dec_below n f) (dec_same (f n) o.zero)
    where
      both : Dec ((i : ℕ) → i < n → f i ≡ o.zero) → Dec (f n ≡ o.zero) → Dec ((i : ℕ) → i < suc n → f i ≡ o.zero)
      both (yes p) (yes q) = yes (λ i h. elim (dec_lt i n) [ yes l ↦ p i l | no l ↦ let same : i ≡ n = omega (arith, h, l) in ap f same ∙ q ])
      both (yes p) (no m) = no (λ all. m (all n (omega arith)))
      both (no m) q = no (λ all. m (λ i h. all i (omega (arith, h))))

  dec_zero : (n : ℕ) (f : ℕ → A) → ((i : ℕ) → n ≤ i → f i ≡ o.zero) → Dec (AreZero o f)
  dec_zero n f past = whole (dec_below n f)
    where
      whole : Dec ((i : ℕ) → i < n → f i ≡ o.zero) → Dec (AreZero o f)
      whole (yes p) = yes (λ i. elim (dec_lt i n) [ yes l ↦ p i l | no l ↦ past i (omega (arith, l)) ])
      whole (no m) = no (λ all. m (λ i h. all i))

  module _ (r : RingLaws o) where
    past_bound : (xs : List A) (f : ℕ → A) (n : ℕ) → ((i : ℕ) → n ≤ i → f i ≡ o.zero) → (i : ℕ) → n ≤ i → bound_by o xs f i ≡ o.zero
    past_bound [] f n past i h = past i h
    past_bound (x ∷ xs) f n past i h =
        past_bound xs (bound o x f) n (λ j l. bound_zero o r x (f (2 * j)) (f (2 * j + 1)) (past (2 * j) (omega (arith, l))) (past (2 * j + 1) (omega (arith, l)))) i h

    dec_table : (values xs : List A) → Dec (AreZero o (bound_by o xs (entry o values)))
    dec_table values xs = dec_zero (length values) (bound_by o xs (entry o values)) (past_bound xs (entry o values) (length values) (λ i h. get_or_past values i o.zero h))

    dec_binding : (values before : List A) (x : A) → Dec (IsBadBinding o values before x)
    dec_binding values before x = dec_both (dec_not (dec_table values before)) (dec_table values (before ++ x ∷ []))

    module _ (c : Wiring A) (public w : List A) (s : Script A) (messages : List A) where
      dec_outputs : (target : Target) (j : ℕ) (x : A) → Dec (HidesAtOutputs o c public w element s messages target j x)
      dec_outputs outputs j x = dec_binding (values_at o c public w 0) (take j s.out_point) x
      dec_outputs (assertions zero) j x = dec_binding (asserted_at o c public w 0) (take j s.out_point) x
      dec_outputs (assertions (suc l)) j x = no (λ b. b)

      dec_alpha : (target : Target) (k : ℕ) (x : A) → Dec (HidesAtAlpha o c public w element s messages target k x)
      dec_alpha outputs k x = no (λ b. b)
      dec_alpha (assertions l) k x = dec_both (ℕ_discrete l k) (dec_join _ _ _ _ x)

      dec_round : (target : Target) (k n : ℕ) (x : A) → Dec (HidesAtRound o c public w element s messages target k n x)
      dec_round outputs k n x = no (λ b. b)
      dec_round (assertions zero) k n x = no (λ b. b)
      dec_round (assertions (suc l)) k n x = three (ℕ_discrete l k) (ℕ_discrete (n % 2) 1) (dec_binding (asserted_at o c public w (suc k)) (take (n / 2) (layer_at o s k).rb) x)
        where
          three : {P Q R : Type 0} → Dec P → Dec Q → Dec R → Dec (P × Q × R)
          three (yes p) (yes q) (yes t) = yes (p, q, t)
          three (yes p) (yes q) (no n) = no (λ b. n b.2)
          three (yes p) (no n) t = no (λ b. n b.1)
          three (no n) q t = no (λ b. n b.0)

      pub dec_bad : (target : Target) (d : Draw) (x : A) → Dec (IsBadDraw o c public w element s messages target d x)
      dec_bad target (coordinate j) x = dec_outputs target j x
      dec_bad target (alpha l) x = dec_either (dec_join _ _ _ _ x) (dec_alpha target l x)
      dec_bad target (beta l) x = dec_both (dec_not (dec_same _ _)) (dec_same _ _)
      dec_bad target (challenge l n) x = dec_either (dec_both (dec_not (dec_same _ _)) (dec_same _ _)) (dec_round target l n x)
      dec_bad target gamma x = dec_join _ _ _ _ x
      dec_bad target other x = no (λ b. b)
