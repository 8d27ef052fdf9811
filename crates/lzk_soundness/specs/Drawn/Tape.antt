-- The draws that a tape makes, as one list in the order of which the count speaks.
use Rattle.std.specs.Prelude.{◌≡◌, ℕ, ◌==◌, cond, List, [], ◌∷◌, ◌++◌, length, map}
use Rattle.std.specs.List.{range_with_len}
use Rattle.std.proofs.Common.{zero, suc}
use Rattle.lzk_field.specs.Coding.{Coding}
use Rattle.lzk_field.specs.Ring.{Ops}
use Rattle.lzk_transcript.specs.Tape.{TapeState, drawn, after_draw}
use Rattle.lzk_transcript.specs.Columns.{after_draws}
use Rattle.lzk_circuit.specs.Valid.{Wiring}
use Rattle.lzk_layout.specs.declared.proof.Proof.{Proof}
use Rattle.lzk_layout.specs.Places.{depth, round_count, output_bits, sent_at}
use Rattle.lzk_sumcheck.specs.Draws.{draws}
use Rattle.lzk_sumcheck.specs.Opening.{opening}
use Rattle.lzk_sumcheck.specs.Script.{after_first, round_challenge, after_layers}
use Rattle.lzk_accept.specs.declared.challenges.Challenges.{Challenges}
use Rattle.lzk_accept.specs.Challenges.{Transcript, transcript}
use Rattle.lzk_layout.specs.Sizes.{params_of}
use Rattle.lzk_soundness.specs.Sumchecks.Passing.{Passes}
use Rattle.lzk_soundness.specs.Draws.Schedule.{script_of}
use Rattle.lzk_soundness.specs.Tables.Table.{AreOpenedIn}
use Rattle.lzk_soundness.specs.Count.Game.{Strategy, whole_count, script_draws, weights_in, IsPassed}

module _ {A : Type 0} (o : Ops A) (e : Coding A) (messages : List A) (c : Wiring A) where
  -- what layer l draws, from the tape behind the layers before it: alpha, in version 2 beta, and each round's challenge
  abbrev pub drawn_in : ℕ → TapeState → List A
  drawn_in l t =
      e.element (drawn t) ∷ (cond (c.version == 2) (e.element (drawn (after_draw t)) ∷ []) []
      ++ map (round_challenge o e messages (sent_at c l) (after_first c.version t))
      (range_with_len 0 (round_count c l)))

  -- the outputs' point, and what the first layers draw
  abbrev pub drawn_before : TapeState → ℕ → List A
  drawn_before t zero = draws e 0 (output_bits c) t
  drawn_before t (suc l) =
      drawn_before t l ++ drawn_in l (after_layers o e messages c l (after_draws (output_bits c) t))

  -- all that the sumchecks draw, gamma being the last
  abbrev pub drawn_script : TapeState → List A
  drawn_script t = drawn_before t (depth c)
      ++ e.element (drawn (after_layers o e messages c (depth c) (after_draws (output_bits c) t))) ∷ []

  -- and behind it the weights: lambda and mu, and u and v
  abbrev pub drawn_whole : TapeState → Challenges A → List A
  drawn_whole t ch = (drawn_script t ++ (ch.lambda ++ ch.mu)) ++ (ch.u ++ ch.v)

-- a list of draws by which all that a tape gives before the columns is what the count takes from it
pub record AreCounted {A : Type 0} (o : Ops A) (c : Wiring A) (t : Transcript A) (whole : List A) : Type 0 where
  pub count : length whole ≡ whole_count c
  pub script : script_of o c (script_draws c whole) ≡ t.script
  pub weights : weights_in c whole ≡ t.challenges

-- The draws of a proof's own tape are so, in the order in which it makes them (but that u comes before lambda there,
-- with no write between them).
abbrev pub DrawsAreCounted : {A : Type 0} → Ops A → Coding A → Type 0
DrawsAreCounted {A} o e =
    (c : Wiring A) (session id : List ℕ) (public : List A) (proof : Proof A)
    → (let t = transcript o e c session id public proof in
    AreCounted o c t (drawn_whole o e proof.messages c (opening e session id public proof.root) t.challenges))

-- who sends what a proof has, whatever is drawn, and committed to a table
abbrev pub who_sends : {A : Type 0} → Proof A → (ℕ → ℕ → A) → Strategy A
who_sends proof table = record {
  table = table;
  messages = λ draws. proof.messages;
  ldt = λ draws. proof.ldt;
  dot = λ draws. proof.dot;
  quad_head = λ draws. proof.quad_head;
  quad_tail = λ draws. proof.quad_tail;
}

-- A proof that passes by the draws and at the columns of its own tape, whose opened columns are those of a table, is
-- one of the pairs that the count counts: that of the list of these draws, and of these columns.
abbrev pub PassingIsCounted : {A : Type 0} → Ops A → Coding A → Type 0
PassingIsCounted {A} o e =
    (c : Wiring A) (session id : List ℕ) (public : List A) (proof : Proof A) (table : ℕ → ℕ → A)
    → (let t = transcript o e c session id public proof in
    AreOpenedIn o e.element (params_of c) table proof t.columns
    → Passes o e c public t.script t.challenges t.columns proof
    → IsPassed o e c public (who_sends proof table)
    (drawn_whole o e proof.messages c (opening e session id public proof.root) t.challenges) t.columns)
