-- What is drawn from the tape behind the sumchecks' draws, and all that the tape gives to a proof.
use Rattle.lzk_profile.specs.Profile.{opened_count}
use Rattle.std.specs.Prelude.{◌≡◌, ℕ, ◌+◌, ◌-◌, ◌*◌, List, length, replicate}
use Rattle.lzk_field.specs.Coding.{Coding}
use Rattle.lzk_field.specs.Ring.{Ops}
use Rattle.lzk_transcript.specs.Tape.{TapeState}
use Rattle.lzk_transcript.specs.Columns.{after_draws, opened}
use Rattle.lzk_circuit.specs.Valid.{Wiring}
use Rattle.lzk_layout.specs.declared.params.Params.{Params}
use Rattle.lzk_layout.specs.declared.proof.Proof.{Proof}
use Rattle.lzk_layout.specs.Sizes.{params_of}
use Rattle.lzk_sumcheck.specs.declared.script.Script.{Script}
use Rattle.lzk_sumcheck.specs.Draws.{draws, with_array}
use Rattle.lzk_sumcheck.specs.Opening.{opening}
use Rattle.lzk_sumcheck.specs.Script.{script, after_script}
use Rattle.lzk_accept.specs.declared.challenges.Challenges.{Challenges}

-- how many elements are drawn behind gamma
abbrev pub challenge_count : Params → ℕ
challenge_count p = p.nrow - 3 + (p.layers + 1) + 3 * p.layers + p.ntriple

-- what is drawn behind gamma: u, lambda, mu and v
unfoldable pub challenges : {A : Type 0} → Coding A → Params → TapeState → Challenges A
challenges e p t =
    let rows = p.nrow - 3 in
    let lines = p.layers + 1 in
    let squares = 3 * p.layers in
    record {
      u = draws e 0 rows t;
      lambda = draws e rows lines t;
      mu = draws e (rows + lines) squares t;
      v = draws e (rows + lines + squares) p.ntriple t;
    }

-- the lengths are those of the parameters
pub record HasShape {A : Type 0} (p : Params) (ch : Challenges A) : Type 0 where
  pub u : length ch.u ≡ p.nrow - 3
  pub lambda : length ch.lambda ≡ p.layers + 1
  pub mu : length ch.mu ≡ 3 * p.layers
  pub v : length ch.v ≡ p.ntriple

-- challenges of zeros
abbrev pub zero_challenges : {A : Type 0} → Ops A → Params → Challenges A
zero_challenges o p = record {
  u = replicate (p.nrow - 3) o.zero;
  lambda = replicate (p.layers + 1) o.zero;
  mu = replicate (3 * p.layers) o.zero;
  v = replicate p.ntriple o.zero;
}

-- the tape with a proof's four lists of answers written
abbrev pub with_answers : {A : Type 0} → Coding A → Proof A → TapeState → TapeState
with_answers e proof t =
    with_array e proof.quad_tail (with_array e proof.quad_head (with_array e proof.dot (with_array e proof.ldt t)))

-- the columns that are opened, drawn behind the answers
abbrev pub columns : {A : Type 0} → Coding A → Params → Proof A → TapeState → List ℕ
columns e p proof t = opened p.mcol opened_count (with_answers e proof t)

-- all that the tape gives to a proof
pub record Transcript (A : Type 0) : Type 0 where
  pub script : Script A
  pub challenges : Challenges A
  pub columns : List ℕ

-- the same, of a session, a circuit's id, the public inputs, and a proof's root, sent elements and answers
unfoldable pub transcript : {A : Type 0} → Ops A → Coding A → Wiring A → List ℕ → List ℕ → List A → Proof A
    → Transcript A
transcript o e c session id public proof =
    let start = opening e session id public proof.root in
    let after = after_script o e proof.messages c start in
    let behind = after_draws (challenge_count (params_of c)) after in
    record {
      script = script o e proof.messages c start;
      challenges = challenges e (params_of c) after;
      columns = columns e (params_of c) proof behind;
    }
