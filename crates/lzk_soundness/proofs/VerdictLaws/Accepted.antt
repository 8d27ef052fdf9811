-- Acceptance is passing by the draws of the proof's own tape.
use Rattle.lzk_profile.specs.Profile.{opened_count}
use Rattle.std.specs.Prelude.{ℕ, ◌*◌, ◌≤◌, List}
use Rattle.std.proofs.Common.{sym, ap, ◌∙◌, arith}
use Rattle.lzk_field.specs.Coding.{Coding}
use Rattle.lzk_field.specs.Ring.{Ops}
use Rattle.lzk_circuit.specs.Valid.{Wiring}
use Rattle.lzk_layout.specs.declared.proof.Proof.{Proof}
use Rattle.lzk_layout.specs.Sizes.{AreBounded, params_of}
use Rattle.lzk_layout.proofs.SizeLaws.{params_bounded}
use Rattle.lzk_transcript.proofs.Opened.{length-opened, opened-ascends, opened-below}
use Rattle.lzk_accept.specs.Challenges.{transcript}
use Rattle.lzk_verify.specs.Verdict.{AllHold}
use Rattle.lzk_verify.proofs.Acceptance.{accepts_exactly}
use Rattle.lzk_soundness.specs.Verdict.Sound.{AreDrawn, PassesByTape, AcceptedPasses}

module _ {A : Type 0} (o : Ops A) (e : Coding A) (c : Wiring A) (session : List ℕ) (public : List A) (b : AreBounded (params_of c)) where
  enough : opened_count ≤ (params_of c).mcol
  enough = omega (arith, b.mcol, b.block)

  pub are_drawn : (proof : Proof A) → AreDrawn o e c session public proof
  unfolding transcript
  are_drawn proof = record {
    count = length-opened (params_of c).mcol opened_count _ enough;
    below = λ k h. opened-below (params_of c).mcol opened_count _ k h;
    ascending = λ i j l h. opened-ascends (params_of c).mcol opened_count _ i j l h;
  }

  passing : (bytes : List ℕ) → AllHold o e c session public bytes → PassesByTape o e c session public bytes
  passing bytes all =
      let drawn = are_drawn all.proof in
      record {
        proof = all.proof;
        opens = all.opens;
        columns = drawn;
        passes = record {
          messages = all.opens.format.lengths.messages;
          ldt = all.opens.format.lengths.ldt;
          dot = all.opens.format.lengths.dot;
          quad_head = all.opens.format.lengths.quad_head;
          quad_tail = all.opens.format.lengths.quad_tail;
          opened = all.opens.format.lengths.columns ∙ ap (λ (k : ℕ). k * (params_of c).nrow) (sym drawn.count);
          low_degree = all.columns.low_degree;
          linear_sum = all.sum;
          linear = all.columns.linear;
          quadratic = all.columns.quadratic;
        };
      }

  holding : (bytes : List ℕ) → PassesByTape o e c session public bytes → AllHold o e c session public bytes
  holding bytes is = record {
    proof = is.proof;
    opens = is.opens;
    sum = is.passes.linear_sum;
    columns = record { low_degree = is.passes.low_degree; linear = is.passes.linear; quadratic = is.passes.quadratic };
  }

pub accepted_passes : {A : Type 0} (o : Ops A) (e : Coding A) → AcceptedPasses o e
accepted_passes o e = λ c session public bytes valid.
    let exactly = accepts_exactly o e c session public bytes in
    let b = params_bounded o c valid in
    (λ accepted. passing o e c session public b bytes (exactly.0 accepted), λ passes. exactly.1 (holding o e c session public b bytes passes))
