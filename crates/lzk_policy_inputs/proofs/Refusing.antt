-- Refusals of a policy that shows a digest.
use Rattle.std.proofs.Common.{◌≡◌, ℕ, List, arith}
use Rattle.lzk_policy.specs.Policies.{Contents}
use Rattle.lzk_policy_inputs.specs.declared.value.Value.{Value}
use Rattle.lzk_policy_inputs.specs.Placed.{IsCredentialRefusal, IsDigestRefusal}
use Rattle.lzk_policy_inputs.specs.declared.refusal.RootedInputsError.{RootedInputsError}
use Rattle.lzk_policy_inputs.specs.declared.refusal.RootedInputsError.TheVariants as refusals

module _ (p : Contents) (m : List ℕ) (vs : List Value) (index depth : ℕ) (same : depth ≡ p.depth) where
  pub refused_alone : (e : RootedInputsError) → depth ≡ 0 → IsDigestRefusal p m vs e → IsCredentialRefusal p m vs index depth e
  refused_alone (refusals.Policy e) none h = (same, (λ s. absurd (omega (arith, none, s))), h)
  refused_alone (refusals.Path e) none h = absurd h
  refused_alone refusals.Depth none h = absurd h
  refused_alone refusals.Index none h = absurd h
  refused_alone refusals.OutOfMemory none h = tt
