-- Bytes have one verdict.
use Rattle.std.specs.Prelude.{◌≡◌, ℕ, List, slice_index}
use Rattle.std.proofs.Common.{sym, ◌∙◌, ap, subst, inl, inr, arith}
use native.Mathlib.Decide.{dec_lt}
use Rattle.lzk_field.specs.Coding.{Coding}
use Rattle.lzk_field.specs.Ring.{Ops}
use Rattle.lzk_circuit.specs.Valid.{Wiring}
use Rattle.lzk_layout.specs.declared.params.Params.{Params}
use Rattle.lzk_layout.specs.declared.proof.Proof.{Proof}
use Rattle.lzk_layout.specs.Sizes.{params_of}
use Rattle.lzk_layout.specs.Fields.{shape}
use Rattle.lzk_layout.specs.Files.{IsSameProof, OneProof, OneFault, NoFault}
use Rattle.lzk_accept.specs.Challenges.{Transcript, transcript}
use Rattle.lzk_accept.specs.Checks.{AtEach, FailsFirst}
use Rattle.lzk_verify.specs.declared.verdict.Verdict.{Verdict}
use Rattle.lzk_verify.specs.declared.verdict.Verdict.TheVariants.{Format}
use Rattle.lzk_verify.specs.Verdict.{given, Unless, UnlessAt, IsJudged, IsVerdict}

-- two that are the same where each check fails and where it holds are the same
one_unless : {X : Type 0} (C F F' N N' : Type 0) (v w : X) → (F → F' → v ≡ w) → (N → N' → v ≡ w) → Unless C F N → Unless C F' N' → v ≡ w
one_unless C F F' N N' v w f n (inl (not_c, x)) (inl (d, y)) = f x y
one_unless C F F' N N' v w f n (inl (not_c, x)) (inr (d, y)) = absurd (not_c d)
one_unless C F F' N N' v w f n (inr (c, x)) (inl (not_d, y)) = absurd (not_d c)
one_unless C F F' N N' v w f n (inr (c, x)) (inr (d, y)) = n x y

-- a check fails first at one place
one_place : (columns : List ℕ) (P : ℕ → Type 0) (i j : ℕ) (f : FailsFirst columns P i) (g : FailsFirst columns P j) → f.place ≡ g.place
one_place columns P i j f g =
    elim (dec_lt f.place g.place) [
      | yes h ↦ absurd (f.fails (g.before f.place h))
      | no h ↦ elim (dec_lt g.place f.place) [ yes k ↦ absurd (g.fails (f.before g.place k)) | no k ↦ omega arith ]
    ]

one_first : (columns : List ℕ) (P : ℕ → Type 0) (i j : ℕ) → FailsFirst columns P i → FailsFirst columns P j → i ≡ j
one_first columns P i j f g = sym f.is ∙ ap (slice_index columns) (one_place columns P i j f g) ∙ g.is

-- a check that holds at each place fails at none
not_both : (columns : List ℕ) (P : ℕ → Type 0) (i : ℕ) → AtEach columns P → FailsFirst columns P i → ⊥
not_both columns P i each f = f.fails (each f.place f.inside)

one_unless_at : {X : Type 0} (columns : List ℕ) (P : ℕ → Type 0) (F F' : ℕ → Type 0) (N N' : Type 0) (v w : X) → ((i : ℕ) → F i → F' i → v ≡ w) → (N → N' → v ≡ w) → UnlessAt columns P F N → UnlessAt columns P F' N' → v ≡ w
one_unless_at columns P F F' N N' v w f n (inl (i, (g, x))) (inl (j, (h, y))) = f j (subst F (one_first columns P i j g h) x) y
one_unless_at columns P F F' N N' v w f n (inl (i, (g, x))) (inr (each, y)) = absurd (not_both columns P i each g)
one_unless_at columns P F F' N N' v w f n (inr (each, x)) (inl (j, (h, y))) = absurd (not_both columns P j each h)
one_unless_at columns P F F' N N' v w f n (inr (each, x)) (inr (each', y)) = n x y

joined : {X : Type 0} {v w x : X} → v ≡ x → w ≡ x → v ≡ w
joined p q = p ∙ sym q

module _ {A : Type 0} (o : Ops A) (e : Coding A) (c : Wiring A) where
  -- a proof has one verdict, for what the tape gives to it
  one_judged : (p : Params) (public : List A) (proof : Proof A) (t : Transcript A) (v w : Verdict A) → IsJudged o e c p public proof t v → IsJudged o e c p public proof t w → v ≡ w
  unfolding IsJudged
  one_judged p public proof t v w =
      one_unless _ _ _ _ _ v w joined
      (one_unless _ _ _ _ _ v w joined
      (one_unless _ _ _ _ _ v w joined
      (one_unless_at _ _ _ _ _ _ v w (λ i. joined)
      (one_unless _ _ _ _ _ v w joined
      (one_unless_at _ _ _ _ _ _ v w (λ i. joined)
      (one_unless_at _ _ _ _ _ _ v w (λ i. joined)
      joined))))))

  -- the same proof with no room
  abbrev roomless : Proof A → Proof A
  roomless q = record q { path = record { digests = q.path.digests; room = 0 } }

  module _ (session : List ℕ) (public : List A) where
    -- the room of a proof's path has no part in its verdict
    to_roomless : (q : Proof A) (v : Verdict A) → IsJudged o e c (params_of c) public q (given o e c session public q) v → IsJudged o e c (params_of c) public (roomless q) (given o e c session public (roomless q)) v
    unfolding IsJudged transcript
    to_roomless q v j = j

    same_roomless : (q r : Proof A) → IsSameProof q r → roomless q ≡ roomless r
    same_roomless q r s = λ i. record {
      id = s.id i;
      root = s.root i;
      messages = s.messages i;
      ldt = s.ldt i;
      dot = s.dot i;
      quad_head = s.quad_head i;
      quad_tail = s.quad_tail i;
      nonces = s.nonces i;
      columns = s.columns i;
      path = record { digests = s.path i; room = 0 };
    }

    judged_same : (q r : Proof A) (v : Verdict A) → IsSameProof q r → IsJudged o e c (params_of c) public q (given o e c session public q) v → IsJudged o e c (params_of c) public (roomless r) (given o e c session public (roomless r)) v
    judged_same q r v s j =
        let P : Proof A → Type 0 = λ x. IsJudged o e c (params_of c) public x (given o e c session public x) v in
        subst P (same_roomless q r s) (to_roomless q v j)

    module _ (one_proof : OneProof e.bytes e.number (params_of c)) (one_fault : OneFault (shape e.bytes e.size) (params_of c)) (no_fault : NoFault e.bytes e.size e.number (params_of c)) (bytes : List ℕ) where
      -- bytes have one verdict, since they are one proof's file, or have one fault, and not both
      pub one_verdict : (v w : Verdict A) → IsVerdict o e c session public bytes v → IsVerdict o e c session public bytes w → v ≡ w
      unfolding IsVerdict
      one_verdict v w (inl f) (inl g) =
          let m = one_fault bytes f.fault.offset g.fault.offset f.fault.kind g.fault.kind f.first g.first in
          f.is ∙ (λ i. Format (record { offset = m.0 i; kind = m.1 i })) ∙ sym g.is
      one_verdict v w (inl f) (inr q) = absurd (no_fault q.proof bytes f.fault.offset f.fault.kind q.read f.first)
      one_verdict v w (inr p) (inl g) = absurd (no_fault p.proof bytes g.fault.offset g.fault.kind p.read g.first)
      one_verdict v w (inr p) (inr q) =
          let same = one_proof bytes p.proof q.proof p.read q.read in
          one_judged (params_of c) public (roomless q.proof) (given o e c session public (roomless q.proof)) v w (judged_same p.proof q.proof v same p.judged) (to_roomless q.proof w q.judged)
