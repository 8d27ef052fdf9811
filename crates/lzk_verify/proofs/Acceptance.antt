-- Bytes are accepted exactly where all checks hold.
use Rattle.std.specs.Prelude.{◌≡◌, refl, ℕ, List}
use Rattle.std.proofs.Common.{inl, inr}
use Rattle.lzk_field.specs.Coding.{Coding}
use Rattle.lzk_field.specs.Ring.{Ops}
use Rattle.lzk_circuit.specs.Valid.{Wiring}
use Rattle.lzk_accept.specs.Checks.{AtEach}
use Rattle.lzk_verify.specs.declared.verdict.Verdict.TheVariants.{Accepted, Format}
use Rattle.lzk_verify.specs.Verdict.{Unless, UnlessAt, IsJudged, IsVerdict, AllHold, AcceptsExactly}

-- a check that did not fail holds
holds : (C F N : Type 0) → ¬ F → Unless C F N → C × N
holds C F N not_f (inl (fails, f)) = absurd (not_f f)
holds C F N not_f (inr (check, n)) = (check, n)

holds_at : (columns : List ℕ) (P F : ℕ → Type 0) (N : Type 0) → ((i : ℕ) → ¬ F i) → UnlessAt columns P F N → AtEach columns P × N
holds_at columns P F N not_f (inl (i, (g, f))) = absurd (not_f i f)
holds_at columns P F N not_f (inr (each, n)) = (each, n)

module _ {A : Type 0} (o : Ops A) (e : Coding A) (c : Wiring A) (session : List ℕ) (public : List A) (bytes : List ℕ) where
  all_accepted : AllHold o e c session public bytes → IsVerdict o e c session public bytes Accepted
  unfolding IsVerdict IsJudged
  all_accepted a = inr (record {
    proof = a.proof;
    read = a.opens.format;
    judged = inr (a.opens.circuit_id, inr (a.opens.path_count, inr (a.opens.root, inr (a.columns.low_degree, inr (a.sum, inr (a.columns.linear, inr (a.columns.quadratic, refl)))))));
  })

  accepted_all : IsVerdict o e c session public bytes Accepted → AllHold o e c session public bytes
  unfolding IsVerdict IsJudged
  accepted_all (inl f) = absurd (let h : Accepted ≡ Format f.fault = f.is in cc)
  accepted_all (inr p) =
      let r2 = holds _ _ _ (λ h. cc) p.judged in
      let r3 = holds _ _ _ (λ h. cc) r2.1 in
      let r4 = holds _ _ _ (λ h. cc) r3.1 in
      let r5 = holds_at _ _ _ _ (λ i h. cc) r4.1 in
      let r6 = holds _ _ _ (λ h. cc) r5.1 in
      let r7 = holds_at _ _ _ _ (λ i h. cc) r6.1 in
      let r8 = holds_at _ _ _ _ (λ i h. cc) r7.1 in
      record {
        proof = p.proof;
        opens = record { format = p.read; circuit_id = r2.0; path_count = r3.0; root = r4.0 };
        sum = r6.0;
        columns = record { low_degree = r5.0; linear = r7.0; quadratic = r8.0 };
      }

  pub accepts_exactly : AcceptsExactly o e c session public bytes
  accepts_exactly = (accepted_all, all_accepted)
