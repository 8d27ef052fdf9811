-- Bytes have a verdict: they have a fault, or are a proof's file, and each check of a proof can be decided.
use Rattle.std.specs.Prelude.{◌≡◌, refl, ℕ, ◌-◌, ◌<◌, List, length, slice_index, Result, Ok, Err}
use Rattle.std.proofs.Common.{zero, suc, sym, ◌∙◌, ap, inl, inr, arith, below_more}
use mathlib.Core.List.{List-discrete}
use native.Mathlib.Decide.{map_dec, ℕ_discrete}
use Rattle.lzk_field.specs.Coding.{Coding}
use Rattle.lzk_field.specs.Ring.{Ops, Laws}
use Rattle.lzk_circuit.specs.Valid.{Wiring}
use Rattle.lzk_layout.specs.declared.fault.ProofFault.{ProofFault}
use Rattle.lzk_layout.specs.declared.fault.ProofKind.{ProofKind}
use Rattle.lzk_layout.specs.declared.params.Params.{Params}
use Rattle.lzk_layout.specs.declared.proof.Proof.{Proof}
use Rattle.lzk_layout.specs.Fields.{Shape, shape, proof_at, ProofFaultAt}
use Rattle.lzk_layout.specs.Files.{AreBytes}
use Rattle.lzk_layout.specs.Sizes.{params_of}
use Rattle.lzk_layout.proofs.Faults.{fault_found}
use Rattle.lzk_layout.proofs.ReadProof.{some_proof}
use Rattle.lzk_accept.specs.Challenges.{Transcript}
use Rattle.lzk_verify.specs.declared.verdict.Verdict.{Verdict}
use Rattle.lzk_verify.specs.declared.verdict.Verdict.TheVariants.{Accepted, Format, CircuitId, PathCount, Root, LowDegree, LinearSum, Linear, Quadratic}
use Rattle.lzk_verify.specs.Verdict.{given, Unless, UnlessAt, IsJudged, IsVerdict}

-- each of the first places passes, or one is the first that fails
data Scanned (P : ℕ → Type 0) (n : ℕ) : Type 0 where
  all : ((k : ℕ) → k < n → P k) → Scanned P n
  first : (k : ℕ) → k < n → ¬ P k → ((m : ℕ) → m < k → P m) → Scanned P n

not_below_zero : (k : ℕ) → ¬ (k < 0)
not_below_zero k h = omega (arith, h)

one_more : (P : ℕ → Type 0) (n : ℕ) → Scanned P n → Dec (P n) → Scanned P (suc n)
one_more P n (first k h fails before) d = first k (omega arith) fails before
one_more P n (all each) (no fails) = first n (omega arith) fails each
one_more P n (all each) (yes at) = all (λ k h. below_more P n each at k (omega (arith, h)))

scan : (P : ℕ → Type 0) → ((k : ℕ) → Dec (P k)) → (n : ℕ) → Scanned P n
scan P decide zero = all (λ k h. absurd (not_below_zero k h))
scan P decide (suc n) = one_more P n (scan P decide n) (decide n)

module _ {A : Type 0} (o : Ops A) (e : Coding A) (c : Wiring A) (laws : Laws o e.size e.number e.element e.bytes) where
  -- elements can be compared by their numbers
  elements_differ : (x y : A) → Dec (x ≡ y)
  elements_differ x y =
      map_dec (λ h. sym (laws.numbers.element_number x) ∙ ap e.element h ∙ laws.numbers.element_number y) (λ h. ap e.number h) (ℕ_discrete (e.number x) (e.number y))

  bytes_differ : (xs ys : List ℕ) → Dec (xs ≡ ys)
  bytes_differ = List-discrete ℕ_discrete

  -- a verdict where each check is decided
  some_unless : (C : Type 0) (F N : Verdict A → Type 0) → Dec C → (v : Verdict A) × F v → (v : Verdict A) × N v → (v : Verdict A) × Unless C (F v) (N v)
  some_unless C F N (yes d) (v, f) (w, n) = (w, inr (d, n))
  some_unless C F N (no d) (v, f) (w, n) = (v, inl (d, f))

  some_unless_at : (columns : List ℕ) (P : ℕ → Type 0) (F : ℕ → Verdict A → Type 0) (N : Verdict A → Type 0) → Scanned P (length columns) → ((i : ℕ) → (v : Verdict A) × F i v) → (v : Verdict A) × N v
      → (v : Verdict A) × UnlessAt columns P (λ i. F i v) (N v)
  some_unless_at columns P F N (all each) f (w, n) = (w, inr (each, n))
  some_unless_at columns P F N (first k inside fails before) f (w, n) =
      let i = slice_index columns k in
      ((f i).0, inl (i, (record { place = k; inside = inside; is = refl; fails = fails; before = before }, (f i).1)))

  -- a proof has a verdict, for what the tape gives to it
  some_judged : (p : Params) (public : List A) (proof : Proof A) (t : Transcript A) → (v : Verdict A) × IsJudged o e c p public proof t v
  unfolding IsJudged
  some_judged p public proof t =
      some_unless _ _ _ (bytes_differ _ _) (CircuitId _, refl)
      (some_unless _ _ _ (ℕ_discrete _ _) (PathCount _ _, refl)
      (some_unless _ _ _ (bytes_differ _ _) (Root _, refl)
      (some_unless_at _ _ _ _ (scan _ (λ k. elements_differ _ _) _) (λ i. (LowDegree i, refl))
      (some_unless _ _ _ (elements_differ _ _) (LinearSum _ _, refl)
      (some_unless_at _ _ _ _ (scan _ (λ k. elements_differ _ _) _) (λ i. (Linear i, refl))
      (some_unless_at _ _ _ _ (scan _ (λ k. elements_differ _ _) _) (λ i. (Quadratic i, refl))
      (Accepted, refl)))))))

  -- bytes have a verdict
  pub some_verdict : (session : List ℕ) (public : List A) (bytes : List ℕ) → AreBytes bytes → (v : Verdict A) × IsVerdict o e c session public bytes v
  unfolding IsVerdict
  some_verdict session public bytes are = go (proof_at s p bytes) refl
    where
      s : Shape
      s = shape e.bytes e.size

      p : Params
      p = params_of c

      no_fault : (fs : List (List ℕ)) (offset : ℕ) (kind : ProofKind) → proof_at s p bytes ≡ Ok fs → ¬ ProofFaultAt s p bytes offset kind
      no_fault fs offset kind is fault = absurd (let both = sym is ∙ fault.0 in cc)

      go : (r : Result (List (List ℕ)) _) → proof_at s p bytes ≡ r → (v : Verdict A) × IsVerdict o e c session public bytes v
      go (Err d) is =
          let fault : ProofFault = record { offset = length bytes - d.left; kind = d.kind } in
          (Format fault, inl (record { fault = fault; first = fault_found s p bytes d.left d.kind is; is = refl }))
      go (Ok fs) is =
          let found = some_proof o e.size e.number e.element e.bytes laws p bytes are (λ offset kind. no_fault fs offset kind is) in
          let judged = some_judged p public found.proof (given o e c session public found.proof) in
          (judged.0, inr (record { proof = found.proof; read = found.is; judged = judged.1 }))
