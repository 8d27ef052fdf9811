-- What the tape gave step by step is a proof's transcript.
use Rattle.std.specs.Prelude.{◌≡◌, ℕ, List}
use Rattle.std.proofs.Common.{sym, ◌∙◌}
use Rattle.lzk_field.specs.Coding.{Coding}
use Rattle.lzk_field.specs.Ring.{Ops}
use Rattle.lzk_transcript.specs.Tape.{TapeState}
use Rattle.lzk_transcript.specs.Columns.{after_draws}
use Rattle.lzk_circuit.specs.Valid.{Wiring}
use Rattle.lzk_layout.specs.declared.params.Params.{Params}
use Rattle.lzk_layout.specs.declared.proof.Proof.{Proof}
use Rattle.lzk_layout.specs.Sizes.{params_of}
use Rattle.lzk_sumcheck.specs.declared.script.Script.{Script}
use Rattle.lzk_sumcheck.specs.Opening.{opening}
use Rattle.lzk_sumcheck.specs.Script.{script, after_script}
use Rattle.lzk_accept.specs.declared.challenges.Challenges.{Challenges}
use Rattle.lzk_accept.specs.Challenges.{challenge_count, challenges, columns, transcript}

module _ {A : Type 0} (o : Ops A) (e : Coding A) (c : Wiring A) (session : List ℕ) (public : List A) where
  -- The sent elements are the proof's, and the tape began with its id and root.
  pub drawn_is : (p : Params) (proof : Proof A) (sent : List A) (s : Script A) (ch : Challenges A) (opened : List ℕ) (start behind : TapeState)
      → p ≡ params_of c
      → start ≡ opening e session proof.id public proof.root
      → proof.messages ≡ sent
      → s ≡ script o e sent c start
      → ch ≡ challenges e p (after_script o e sent c start)
      → behind ≡ after_draws (challenge_count p) (after_script o e sent c start)
      → opened ≡ columns e p proof behind
      → record { script = s; challenges = ch; columns = opened } ≡ transcript o e c session proof.id public proof
  unfolding transcript
  drawn_is p proof sent s ch opened start behind is starts messages scripts drawn after columns_are =
      let script_is : s ≡ script o e proof.messages c (opening e session proof.id public proof.root) =
      scripts ∙ (λ i. script o e (sym messages i) c (starts i)) in
      let challenges_are : ch ≡ challenges e (params_of c) (after_script o e proof.messages c (opening e session proof.id public proof.root)) =
      drawn ∙ (λ i. challenges e (is i) (after_script o e (sym messages i) c (starts i))) in
      let behind_is : behind ≡ after_draws (challenge_count (params_of c)) (after_script o e proof.messages c (opening e session proof.id public proof.root)) =
      after ∙ (λ i. after_draws (challenge_count (is i)) (after_script o e (sym messages i) c (starts i))) in
      let opened_are : opened ≡ columns e (params_of c) proof (after_draws (challenge_count (params_of c)) (after_script o e proof.messages c (opening e session proof.id public proof.root))) =
      columns_are ∙ (λ i. columns e (is i) proof (behind_is i)) in
      λ i. record { script = script_is i; challenges = challenges_are i; columns = opened_are i }
