-- What is so at a place.
use Rattle.std.proofs.Common.{◌≡◌, ℕ, ◌+◌, ◌<◌, List, length, sym, subst, arith, Option, Some, None, inl, inr}
use Rattle.std.specs.Prelude.{MatchOption, slice_get}
use Rattle.std.proofs.lemmas.Bool.{cases_lt}
use Rattle.lzk_policy.specs.declared.policy.RecordField.{RecordField}
use Rattle.lzk_policy.specs.declared.policy.Claim.{Claim}
use Rattle.lzk_policy.specs.declared.policy.Show.{Show}
use Rattle.lzk_policy.specs.Policies.{Contents}
use Rattle.lzk_policy_inputs.specs.declared.value.Value.{Value}
use Rattle.lzk_policy_inputs.specs.Refused.{AtPlace, IsKindAt, IsTrueAt, IsRightBefore}

at_option : {A : Type 0} (o : Option A) (x : A) (P : A → Type 0) → o ≡ Some x → MatchOption o ⊥ P → P x
at_option o x P e h = subst (λ y. MatchOption y ⊥ P) e h

put_option : {A : Type 0} (o : Option A) (x : A) (P : A → Type 0) → o ≡ Some x → P x → MatchOption o ⊥ P
put_option o x P e h = subst (λ y. MatchOption y ⊥ P) (sym e) h

module _ (P : RecordField → Claim → Value → Type 0) (fields : List RecordField) (ss : List Show) (vs : List Value) (k : ℕ) (s : Show) (v : Value) (es : slice_get ss k ≡ Some s) (ev : slice_get vs k ≡ Some v) where
  pub put_place : (f : RecordField) → slice_get fields s.field ≡ Some f → P f s.claim v → AtPlace P fields ss vs k
  put_place f ef h =
      put_option (slice_get ss k) s (λ s. MatchOption (slice_get fields s.field) ⊥ (λ f. MatchOption (slice_get vs k) ⊥ (λ v. P f s.claim v))) es
      (put_option (slice_get fields s.field) f (λ f. MatchOption (slice_get vs k) ⊥ (λ v. P f s.claim v)) ef
      (put_option (slice_get vs k) v (λ v. P f s.claim v) ev h))

  pub take_place : (f : RecordField) → slice_get fields s.field ≡ Some f → AtPlace P fields ss vs k → P f s.claim v
  take_place f ef h =
      at_option (slice_get vs k) v (λ v. P f s.claim v) ev
      (at_option (slice_get fields s.field) f (λ f. MatchOption (slice_get vs k) ⊥ (λ v. P f s.claim v)) ef
      (at_option (slice_get ss k) s (λ s. MatchOption (slice_get fields s.field) ⊥ (λ f. MatchOption (slice_get vs k) ⊥ (λ v. P f s.claim v))) es h))

  -- where it is so of no field, it is not so
  pub no_place : ((f : RecordField) → P f s.claim v → ⊥) → AtPlace P fields ss vs k → ⊥
  no_place n h =
      none (slice_get fields s.field) (at_option (slice_get ss k) s (λ s. MatchOption (slice_get fields s.field) ⊥ (λ f. MatchOption (slice_get vs k) ⊥ (λ v. P f s.claim v))) es h) where
        none : (o : Option RecordField) → MatchOption o ⊥ (λ f. MatchOption (slice_get vs k) ⊥ (λ v. P f s.claim v)) → ⊥
        none None h = h
        none (Some f) h = n f (at_option (slice_get vs k) v (λ v. P f s.claim v) ev h)

below_more : (P : ℕ → Type 0) (k : ℕ) → ((j : ℕ) → j < k → P j) → P k → (j : ℕ) → j < k + 1 → P j
below_more P k h x j l = elim (cases_lt j k) [
  | inl less ↦ h j less
  | inr more ↦ let e : j ≡ k = omega (arith, l, more) in subst P (sym e) x
]

-- one place more
pub right_more : (p : Contents) (m : List ℕ) (vs : List Value) (k : ℕ) → IsRightBefore p m vs k → IsKindAt p vs k → IsTrueAt p m vs k → IsRightBefore p m vs (k + 1)
right_more p m vs k h a b = record {
  size = h.size;
  count = h.count;
  kinds = below_more (λ j. IsKindAt p vs j) k h.kinds a;
  truths = below_more (λ j. IsTrueAt p m vs j) k h.truths b;
}

pub right_none : (p : Contents) (m : List ℕ) (vs : List Value) → length m ≡ p.size → length vs ≡ length p.shows → IsRightBefore p m vs 0
right_none p m vs a b = record { size = a; count = b; kinds = λ j l. absurd (omega (arith, l)); truths = λ j l. absurd (omega (arith, l)) }
