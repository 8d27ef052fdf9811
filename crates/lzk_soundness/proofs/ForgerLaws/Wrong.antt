-- The questions of a run, and answers that are put in the place of others.
use Rattle.std.specs.Prelude.{◌≡◌, ◌⊎◌, ℕ, ◌<◌, ◌≤◌, cond, nat_lt, List, [], ◌++◌, length, take, drop}
use Rattle.std.proofs.Common.{inl, inr, sym, ap, ◌∙◌, arith}
use Rattle.std.proofs.lemmas.List.{length-take-le, take_all}
use Rattle.lzk_field.specs.Coding.{Coding}
use Rattle.lzk_field.specs.Ring.{Ops}
use Rattle.lzk_field.specs.Sums.{entry}
use Rattle.lzk_circuit.specs.Valid.{Wiring}
use Rattle.lzk_layout.specs.Sizes.{params_of}
use Rattle.lzk_layout.specs.Places.{depth}
use Rattle.lzk_layout.proofs.PlaceLaws.{sent_last}
use Rattle.lzk_sumcheck.proofs.Prefixes.{map-same}
use Rattle.lzk_soundness.specs.Sumchecks.Claims.{Vanish}
use Rattle.lzk_soundness.specs.Draws.Schedule.{draw_count, draw_at, script_of}
use Rattle.lzk_soundness.specs.Count.Game.{IsPassed}
use Rattle.lzk_soundness.specs.Count.Laws.{Encodes}
use Rattle.lzk_soundness.specs.Oracle.Oracle.{answer, put}
use Rattle.lzk_soundness.proofs.OracleLaws.Parts.{answer-put, answer-other}
use Rattle.lzk_soundness.specs.Rounds.Steps.{Step, IsStep, sent_before, step_of, place_in, draws_of, IsBadAnswer}
use Rattle.lzk_soundness.specs.Rounds.Steps.Step.{head}
use Rattle.lzk_soundness.proofs.RoundsLaws.Steps.{draw_is, step_is}
use Rattle.lzk_soundness.specs.Ligero.States.{sends, all_weights, IsPassedOften, IsOpen}
use Rattle.lzk_soundness.specs.Ligero.Laws.{Held}
use Rattle.lzk_soundness.specs.Ligero.Laws.Held.{nothing, list}
use Rattle.lzk_soundness.specs.Forger.Questions.{Start, Question, Reply, IsFormed, TellsApart, no_reply, rows_of, reply, asked_at, drawn_by, script_draws, weights, all_draws, columns_for}
use Rattle.lzk_soundness.specs.Forger.Questions.Question.{sent, answered}

-- ---- an answer that is put in the place of another

module _ {A : Type 0} (o : Ops A) (c : Wiring A) (code : Question A → ℕ) (some : 1 ≤ depth c) (apart : TellsApart c code) (oracle : List (Reply A)) (n : ℕ) (inside : n < length oracle) (x : Reply A) where
  pub own_reply : (q : Question A) → code q ≡ n → reply o c code (put n x oracle) q ≡ x
  own_reply q is = ap (answer no_reply (put n x oracle)) is ∙ answer-put no_reply n x oracle inside

  pub other_reply : (q : Question A) → (code q ≡ n → ⊥) → reply o c code (put n x oracle) q ≡ reply o c code oracle q
  other_reply q differ = answer-other no_reply n (code q) x oracle (λ e. differ (sym e))

  -- draws by the answers to the steps that there are
  pub draws_same : (F G : Step → List A) → ((k : ℕ) → k < draw_count c → entry o (F (step_of c (draw_at c k))) (place_in c (draw_at c k)) ≡ entry o (G (step_of c (draw_at c k))) (place_in c (draw_at c k)))
      → draws_of o c F ≡ draws_of o c G
  draws_same F G same =
      map-same (λ k. entry o (F (step_of c (draw_at c k))) (place_in c (draw_at c k))) (λ k. entry o (G (step_of c (draw_at c k))) (place_in c (draw_at c k))) 0 (draw_count c)
      (λ k h. same k (omega (arith, h)))

  module _ (start : Start A) (messages : List A) where
    abbrev at : Step → Question A
    at = asked_at o c code oracle start messages

    -- a question that was not asked at a step has nothing to say of the draws
    pub all_same : ((step : Step) → IsStep c step → code (at step) ≡ n → ⊥) → all_draws o c code (put n x oracle) start messages ≡ all_draws o c code oracle start messages
    all_same never =
        let scripts : script_draws o c code (put n x oracle) start messages ≡ script_draws o c code oracle start messages =
        draws_same (λ step. drawn_by o c code (put n x oracle) start messages step (take (sent_before c step) messages)) (λ step. drawn_by o c code oracle start messages step (take (sent_before c step) messages))
        (λ k h.
        let step = step_of c (draw_at c k) in
        ap (λ (r : Reply A). entry o (cond (nat_lt (length (take (sent_before c step) messages)) (sent_before c step)) [] r.elements) (place_in c (draw_at c k))) (other_reply (at step) (never step (step_is c (draw_at c k) (draw_is c k some h).0)))) in
        let rest : weights o c code (put n x oracle) start messages ≡ weights o c code oracle start messages =
        ap (λ (r : Reply A). take (all_weights c) (drop 1 r.elements)) (other_reply (at (head (depth c))) (never (head (depth c)) (omega arith))) in
        ap (λ xs. xs ++ weights o c code (put n x oracle) start messages) scripts ∙ ap (λ ys. script_draws o c code oracle start messages ++ ys) rest

-- what is asked at a step has its form
pub asked_formed : {A : Type 0} (o : Ops A) (c : Wiring A) (code : Question A → ℕ) (oracle : List (Reply A)) (start : Start A) (messages : List A) (step : Step) → IsStep c step → sent_before c step ≤ length messages
    → IsFormed c (asked_at o c code oracle start messages step)
asked_formed o c code oracle start messages step is enough = (is, length-take-le (sent_before c step) messages enough)

-- the last step has all
pub all_sent : {A : Type 0} (c : Wiring A) → sent_before c (head (depth c)) ≡ (params_of c).nsum
all_sent c = sent_last c

pub taken_all : {A : Type 0} (c : Wiring A) (k : ℕ) (messages : List A) → length messages ≡ k → take k messages ≡ messages
taken_all c k messages is = take_all k messages (omega (arith, is))
