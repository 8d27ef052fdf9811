-- The file of the proof of satisfying inputs is refused where one value of an answer was changed before the columns were drawn.
use Rattle.lzk_profile.specs.Profile.{opened_count}
use Rattle.std.specs.Prelude.{◌≡◌, ◌≢◌, ◌⊎◌, ℕ, ◌<◌, ◌≤◌, cond, nat_lt, List, length, slice_index}
use Rattle.std.proofs.Common.{refl, sym, ap, ◌∙◌, arith, inl, inr}
use Rattle.std.proofs.lemmas.Bool.{lt-ltb, le-ltb}
use native.Mathlib.Decide.{dec_lt}
use Rattle.lzk_field.specs.Coding.{Coding}
use Rattle.lzk_field.specs.Ring.{Ops, RingLaws}
use Rattle.lzk_field.proofs.RingBasics.{plus_cancel}
use Rattle.lzk_poly.proofs.Through.{length-values_of}
use Rattle.lzk_circuit.specs.Valid.{Wiring}
use Rattle.lzk_layout.specs.declared.params.Params.{Params}
use Rattle.lzk_layout.specs.declared.proof.Proof.{Proof}
use Rattle.lzk_layout.specs.Sizes.{AreBounded, params_of}
use Rattle.lzk_layout.specs.Proofs.{ProofBytes}
use Rattle.lzk_layout.proofs.SizeLaws.{params_bounded}
use Rattle.lzk_merkle.specs.Nodes.{AreOpened}
use Rattle.lzk_accept.specs.Challenges.{Transcript, transcript}
use Rattle.lzk_accept.specs.Checks.{AtEach, FailsFirst, combined_row_of, found_sum}
use Rattle.lzk_ligero_answers.specs.Answers.{linear_answer}
use Rattle.lzk_ligero_answers.specs.Laws.{LowDegreeFails, LinearFails, QuadraticFails, SumsChange}
use Rattle.lzk_ligero_tableau.specs.Tableau.{tableau}
use Rattle.lzk_ligero_proof.specs.declared.answer.Answer.{Answer}
use Rattle.lzk_ligero_proof.specs.declared.answer.Answer.TheVariants as answer
use Rattle.lzk_ligero_proof.specs.Answered.{Answers, AreSent}
use Rattle.lzk_ligero_proof.specs.Changed.{with_added, IsSentPlace}
use Rattle.lzk_circbytes.specs.Files.{id_of}
use Rattle.lzk_ligero_proof.specs.Proving.{own_answers}
use Rattle.lzk_verify.specs.declared.verdict.Verdict.{Verdict}
use Rattle.lzk_verify.specs.declared.verdict.Verdict.TheVariants.{LinearSum, Linear}
use Rattle.lzk_verify.specs.Checks.{HasCircuitId, HasPathCount, HasRoot}
use Rattle.lzk_verify.specs.Verdict.{AreAnswersJudged, IsJudged, IsVerdict, wanted_sum}
use Rattle.lzk_ligero_proof.specs.Refused.{AnswerAt, refusal, ChangedRefused}
use Rattle.lzk_ligero_proof.specs.Residuals.{ResidualsVanish}
use Rattle.lzk_ligero_proof.proofs.Checked.{AnswersPass, AreRight, are_right}
use Rattle.lzk_ligero_proof.proofs.OpenedColumns.{length_drawn, drawn_opened, path_count, root_found}

-- what holds of changed answers
pub record AnswersFail {A : Type 0} (o : Ops A) (point : ℕ → A) : Type 0 where
  pub low_degree : LowDegreeFails o point
  pub linear : LinearFails o point
  pub quadratic : QuadraticFails o point
  pub sums : SumsChange o point

-- what fails at each column fails at the first
fails_first : (columns : List ℕ) (P : ℕ → Type 0) → 1 ≤ length columns → AtEach columns (λ k. ¬ P k) → FailsFirst columns P (slice_index columns 0)
fails_first columns P some fails = record { place = 0; inside = omega (arith, some); is = refl; fails = fails 0 (omega (arith, some)); before = λ k h. absurd (omega (arith, h)) }

-- something that is not zero changes a sum
adds : {A : Type 0} (o : Ops A) → RingLaws o → (x by : A) → by ≢ o.zero → o.plus x by ≢ x
adds o r x by some e = some (plus_cancel o r x by o.zero (e ∙ sym (r.plus_zero x)))

-- a value below a third, between them, or behind both
module _ {X : Type 0} (a b : X) (n low high : ℕ) where
  abbrev chosen : X
  chosen = cond (nat_lt n low) a (cond (nat_lt n high) b a)

  chosen_between : low ≤ n → n < high → chosen ≡ b
  chosen_between l h = ap (λ x. cond x a (cond (nat_lt n high) b a)) (le-ltb n low l) ∙ ap (λ x. cond x b a) (lt-ltb n high h)

  chosen_outside : (n < low) ⊎ (high ≤ n) → low ≤ high → chosen ≡ a
  chosen_outside (inl l) _ = ap (λ x. cond x a (cond (nat_lt n high) b a)) (lt-ltb n low l)
  chosen_outside (inr h) between = ap (λ x. cond x a (cond (nat_lt n high) b a)) (le-ltb n low (omega (arith, h, between))) ∙ ap (λ x. cond x b a) (le-ltb n high h)

module _ {A : Type 0} (o : Ops A) (e : Coding A) (r : RingLaws o) (c : Wiring A) (session : List ℕ) (public private : List A) (word : ℕ → ℕ) (q : Proof A) (n : ℕ) (by : A) (some : by ≢ o.zero) (b : AreBounded (params_of c)) (right : AreRight o e c session public private word q) (fail : AnswersFail o e.element) where
  abbrev p : Params
  p = params_of c

  abbrev t : Transcript A
  t = transcript o e c session (id_of e c) public q

  abbrev rows : List (List A)
  rows = tableau o e c private word

  abbrev honest : Answers A
  honest = own_answers o e c session public private word q

  drawn : AreOpened p.mcol t.columns
  drawn = drawn_opened o e c b session (id_of e c) public q

  one : 1 ≤ length t.columns
  one = omega (arith, length_drawn o e c b session (id_of e c) public q)

  abbrev first : ℕ
  first = slice_index t.columns 0

  -- the verdict on its answers where one of them is changed, and that it is wrong at each column
  record Judged (which : Answer) : Type 0 where
    verdict : AreAnswersJudged o e c p public q t (refusal o e c public q t which n by)
    everywhere : AtEach t.columns (λ k. ¬ AnswerAt o e c public q t which k)

  low_degree_judged : n < p.block → AreSent p (with_added o answer.LowDegree n by honest) q → Judged answer.LowDegree
  unfolding refusal
  low_degree_judged place is =
      let fails = fail.low_degree p rows q t.columns t.challenges.u n by b right.long right.columns drawn.below some place is.low_degree in
      record { verdict = inl (first, (fails_first t.columns (AnswerAt o e c public q t answer.LowDegree) one fails, refl)); everywhere = fails }

  quadratic_judged : IsSentPlace p answer.Quad n → AreSent p (with_added o answer.Quad n by honest) q → Judged answer.Quad
  unfolding refusal
  quadratic_judged place is =
      let fails = fail.quadratic p rows q t.columns t.challenges.v n by b right.long right.columns drawn.below right.zeros some place.1 place.0 (record { head = is.quad_head; tail = is.quad_tail }) in
      record {
        verdict = inr (right.low_degree is.low_degree, inr (right.linear_sum q is.linear, inr (right.linear is.linear, inl (first, (fails_first t.columns (AnswerAt o e c public q t answer.Quad) one fails, refl)))));
        everywhere = fails;
      }

  -- ---- the linear answer

  module _ (place : n < p.dblock) (is : AreSent p (with_added o answer.Dot n by honest) q) where
    abbrev wanted : A
    wanted = wanted_sum o e c p public q t

    abbrev before : Proof A
    before = record q { dot = honest.linear }

    long : n < length before.dot
    long = omega (arith, place, length-values_of o e.element p.dblock (linear_answer o e.element p rows (combined_row_of o e.element c public t.script q.messages t.challenges)))

    sum_rises : opened_count ≤ n → n < p.block → found_sum o p q ≡ o.plus wanted by
    sum_rises low high = (fail.sums p before q n by long is.linear).0 low high ∙ ap (λ x. o.plus x by) (right.linear_sum before refl)

    sum_stays : (n < opened_count) ⊎ (p.block ≤ n) → found_sum o p q ≡ wanted
    sum_stays outside = (fail.sums p before q n by long is.linear).1 outside ∙ right.linear_sum before refl

    linear_fails : AtEach t.columns (λ k. ¬ AnswerAt o e c public q t answer.Dot k)
    linear_fails = fail.linear p rows q t.columns (combined_row_of o e.element c public t.script q.messages t.challenges) n by b right.long right.columns drawn.below right.lengths some place is.linear

    verdict_between : opened_count ≤ n → n < p.block → AreAnswersJudged o e c p public q t (refusal o e c public q t answer.Dot n by)
    unfolding refusal
    verdict_between low high =
        let found = sum_rises low high in
        inr (
          right.low_degree is.low_degree,
          inl (
            (λ h. adds o r wanted by some (sym found ∙ h)),
            chosen_between (Linear first) (LinearSum (o.plus wanted by) wanted) n opened_count p.block low high ∙ ap (λ x. LinearSum x wanted) (sym found),
          ),
        )

    verdict_outside : (n < opened_count) ⊎ (p.block ≤ n) → AreAnswersJudged o e c p public q t (refusal o e c public q t answer.Dot n by)
    unfolding refusal
    verdict_outside outside =
        inr (
          right.low_degree is.low_degree,
          inr (
            sum_stays outside,
            inl (
              first,
              (
                fails_first t.columns (AnswerAt o e c public q t answer.Dot) one linear_fails,
                chosen_outside (Linear first) (LinearSum (o.plus wanted by) wanted) n opened_count p.block outside (omega (arith, b.block)),
              ),
            ),
          ),
        )

    linear_judged : Judged answer.Dot
    linear_judged = record {
      verdict = elim (dec_lt n opened_count) [
        | yes l ↦ verdict_outside (inl l)
        | no l ↦ elim (dec_lt n p.block) [
          | yes h ↦ verdict_between (omega (arith, l)) h
          | no h ↦ verdict_outside (inr (omega (arith, h)))
        ]
      ];
      everywhere = linear_fails;
    }

  judged : (which : Answer) → IsSentPlace p which n → AreSent p (with_added o which n by honest) q → Judged which
  judged answer.LowDegree place is = low_degree_judged place is
  judged answer.Dot place is = linear_judged place is
  judged answer.Quad place is = quadratic_judged place is

-- the verdict on a proof with the circuit's id that leads to its root is that on its answers
on_answers : {A : Type 0} (o : Ops A) (e : Coding A) (c : Wiring A) (session : List ℕ) (public : List A) (bytes : List ℕ) (q : Proof A) (v : Verdict A)
    → (let t = transcript o e c session (id_of e c) public q in ProofBytes e.bytes e.number (params_of c) q bytes → HasCircuitId e c q → HasPathCount (params_of c) q t.columns
    → HasRoot o e (params_of c) q t.columns → AreAnswersJudged o e c (params_of c) public q t v → IsVerdict o e c session public bytes v)
unfolding IsVerdict IsJudged
on_answers o e c session public bytes q v read id count root judged = inr (record { proof = q; read = read; judged = inr (id, inr (count, inr (root, judged))) })

pub changed_refused : {A : Type 0} (o : Ops A) (e : Coding A) → RingLaws o → ResidualsVanish o e → AnswersPass o e.element → AnswersFail o e.element → ChangedRefused o e
changed_refused o e r vanish pass fail = λ c session public private word which n by bytes valid counts satisfied place some f.
    let q = f.proof in
    let b = params_bounded o c valid in
    let id = id_of e c in
    let many = length_drawn o e c b session id public q in
    let drawn = drawn_opened o e c b session id public q in
    let js = (transcript o e c session id public q).columns in
    let opened = f.is.opened in
    let right = are_right o e c session public private word q r valid counts (with_added o which n by) f.is vanish satisfied pass in
    let j = judged o e r c session public private word q n by some b right fail which place f.is.answers in
    record {
      proof = q;
      read = f.written;
      verdict = on_answers o e c session public bytes q _ f.written f.is.id
          (path_count o e c private word b js q many drawn opened.nonces opened.columns opened.path)
          (root_found o e c private word b js q many drawn opened.nonces opened.columns opened.path f.is.root)
          j.verdict;
      everywhere = j.everywhere;
    }
