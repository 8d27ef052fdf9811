-- A forger names a run that passes by few oracles alone.
use Rattle.lzk_shares.specs.Shares.{prime_size, column_share, least_size}
use Rattle.std.specs.Prelude.{◌≡◌, ◌⊎◌, ℕ, ◌*◌, ◌^◌, ◌<◌, ◌≤◌, Bool, List, [], ◌∷◌, length, take}
use Rattle.std.specs.List.{AllByRecursion, range_with_len}
use Rattle.std.proofs.Common.{zero, suc, inl, inr, refl, sym, ap, ◌∙◌, arith, subst}
use Rattle.std.proofs.lemmas.Bool.{leb-true}
use Rattle.lzk_field.specs.Coding.{Coding}
use Rattle.lzk_field.specs.Ring.{Ops, Laws}
use Rattle.lzk_soundness.specs.Chance.Draws.{count, draws_from}
use Rattle.lzk_soundness.specs.Chance.Few.{IsIn}
use Rattle.lzk_circuit.specs.Valid.{Wiring, IsValid}
use Rattle.lzk_layout.specs.Sizes.{params_of}
use Rattle.lzk_layout.specs.Places.{depth}
use Rattle.lzk_soundness.specs.Sumchecks.Claims.{Vanish}
use Rattle.lzk_soundness.specs.Draws.Schedule.{draw_at, script_of}
use Rattle.lzk_soundness.proofs.NearLaws.Alls.{same_elements}
use Rattle.lzk_soundness.specs.Oracle.Oracle.{asked, answer}
use Rattle.lzk_soundness.proofs.OracleLaws.Parts.{one_in}
use Rattle.lzk_soundness.proofs.OracleLaws.Queries.{stable_at_most, decide_all, queries_few}
use Rattle.lzk_soundness.specs.Rounds.Steps.{Step, IsStep, sent_before, IsBadAnswer}
use Rattle.lzk_soundness.specs.Rounds.Steps.Step.{head}
use Rattle.lzk_soundness.proofs.RoundsLaws.Caught.{caught_without}
use Rattle.lzk_soundness.proofs.RoundsLaws.Few.{length_of_draws}
use Rattle.lzk_soundness.proofs.RoundsLaws.Fronts.{bad_front}
use Rattle.lzk_soundness.proofs.RoundsLaws.Steps.{draw_is, step_is, sent_most_before}
use Rattle.lzk_soundness.specs.Ligero.States.{sends, IsPassedOften}
use Rattle.lzk_soundness.specs.Ligero.Laws.{Held}
use Rattle.lzk_soundness.specs.Ligero.Laws.Held.{nothing, list}
use Rattle.lzk_soundness.proofs.LigeroLaws.Weights.{weights_few}
use Rattle.lzk_soundness.specs.Forger.Questions.{Start, Question, Reply, IsFormed, TellsApart, all_replies, no_reply, rows_of, asked_at, drawn_by, script_draws, all_draws, Run, IsForged}
use Rattle.lzk_soundness.specs.Forger.Questions.Question.{sent, answered}
use Rattle.lzk_soundness.specs.Forger.Laws.{IsForger, AreShares, AreDoomed}
use Rattle.lzk_soundness.proofs.ForgerLaws.Chosen.{choose_all, in_range, found_in, is_found}
use Rattle.lzk_soundness.proofs.ForgerLaws.Few.{few_wrong}
use Rattle.lzk_soundness.proofs.ForgerLaws.Replies.{same_reply, same_start}
use Rattle.lzk_soundness.proofs.ForgerLaws.Shares.{shares_small}
use Rattle.lzk_soundness.specs.Forger.Wrong.{IsUnknowing, Case, IsLeftOpen, ByHeld, ByChoice, WrongQ, IsWrong}
use Rattle.lzk_soundness.proofs.ForgerLaws.Wrong.{asked_formed, all_sent, taken_all}

asked_inside : {X : Type 0} (none : X) (questions : ℕ) (ask : List X → ℕ) (oracle : List X) → ((before : List X) → ask before < questions) → (k : ℕ) → AllByRecursion (λ n. n < questions) (asked none ask oracle k)
asked_inside none questions ask oracle inside zero = tt
asked_inside none questions ask oracle inside (suc k) = (inside [], asked_inside none questions (λ before. ask (answer none oracle (ask []) ∷ before)) oracle (λ before. inside (answer none oracle (ask []) ∷ before)) k)

abbrev start_of : {A : Type 0} → Question A → Start A
start_of (sent start step elements) = start
start_of (answered start messages answers) = start

module _ {A : Type 0} (o : Ops A) (e : Coding A) (laws : Laws o e.size e.number e.element e.bytes) (c : Wiring A) (code : Question A → ℕ) (questions by : ℕ) (valid : IsValid o c) (apart : TellsApart c code) (shares : AreShares e c by) (large : least_size ≤ e.size) where
  abbrev Sought : ℕ → Type 0
  Sought n = (q : Question A) × (IsFormed c q × (code q ≡ n))

  case_there : (start : Start A) → (Case o e c code start → ⊥) → ⊥
  case_there start not =
      let never : IsUnknowing o e c code start → ⊥ =
      λ f. weights_few o e laws c start.public (rows_of o c start) valid f.0 f.1 large (λ held. not (inl (f.0, held))) in
      not (inr never)

  module _ (D : AllByRecursion (λ n. Dec (Sought n)) (range_with_len 0 questions)) where
    starts : List (Start A)
    starts = found_in Sought (λ n p. start_of p.0) (range_with_len 0 questions) D

    abbrev E : Start A → Type 0
    E start = IsIn start starts → ⊥

    there : (q : Question A) → IsFormed c q → code q < questions → IsIn (start_of q) starts
    unfolding starts
    there q formed h =
        is_found Sought (λ n p. start_of p.0) (start_of q) (range_with_len 0 questions) D (code q) (in_range (code q) 0 questions (omega arith) (omega (arith, h))) (q, (formed, refl))
        (λ p. ap start_of (apart p.0 q p.1.0 formed p.1.1))

    module _ (chosen : (start : Start A) → Case o e c code start ⊎ E start) where
      abbrev Wrong : List (Reply A) → ℕ → Type 0
      Wrong = IsWrong o e c code E chosen

      module _ (oracle : List (Reply A)) (numbers : List ℕ) (run : Run A) (low : AllByRecursion (λ n. n < questions) numbers) (f : IsForged o e c code oracle numbers run)
          (good : AllByRecursion (λ n. Wrong oracle n → ⊥) numbers) where
        abbrev start : Start A
        start = run.start

        abbrev m : List A
        m = run.messages

        long : length m ≡ (params_of c).nsum
        long = f.passes.messages

        right : (q : Question A) → IsFormed c q → IsIn (code q) numbers → WrongQ o e c code E chosen q oracle → ⊥
        right q formed at wrong = one_in (λ n. Wrong oracle n → ⊥) (code q) numbers good at (record { question = q; formed = formed; number = refl; wrong = wrong })

        formed_at : (step : Step) → IsStep c step → IsFormed c (asked_at o c code oracle start m step)
        formed_at step is = asked_formed o c code oracle start m step is (omega (arith, sent_most_before c step is, long))

        abbrev Often : Type 0
        Often = IsPassedOften o e c start.public (sends (rows_of o c start) m run.answers) (all_draws o c code oracle start m)

        not_not_often : (Often → ⊥) → ⊥
        not_not_often not = right (answered start m run.answers) long f.columns (f.passes, not)

        last : take (sent_before c (head (depth c))) m ≡ m
        last = taken_all c (sent_before c (head (depth c))) m (long ∙ sym (all_sent c))

        abbrev Open : List A → Type 0
        Open elements = IsLeftOpen o e c code start (head (depth c)) elements oracle

        opened : Often → Open (take (sent_before c (head (depth c))) m)
        opened often = subst Open (sym last) (record { answers = run.answers; passed = often })

        by_held : (held : Held o e c start.public (rows_of o c start)) → ((step : Step) → IsStep c step → ByHeld o e c code start step (take (sent_before c step) m) oracle held → ⊥) → ⊥
        by_held (nothing few) steps = not_not_often (λ often. steps (head (depth c)) (omega arith) (refl, opened often))
        by_held (list w target size products is wrong few) steps =
            not_not_often (λ often. steps (head (depth c)) (omega arith) (inr (refl, (subst (λ elements. Vanish o c start.public w e.element (script_of o c (script_draws o c code oracle start elements)) elements → ⊥) (sym last) stays, opened often))))
          where
            none_bad : (step : Step) → IsBadAnswer o c start.public w target e.element (script_draws o c code oracle start m) m step → ⊥
            none_bad step b =
                let there : IsStep c step = subst (IsStep c) b.there (step_is c (draw_at c b.place) (draw_is c b.place valid.some b.inside).0) in
                steps step there (inl (bad_front o c start.public w target e.element (λ s elements. drawn_by o c code oracle start m s elements) m step b))

            stays : Vanish o c start.public w e.element (script_of o c (script_draws o c code oracle start m)) m → ⊥
            stays vanish =
                caught_without o e laws c start.public w target (script_draws o c code oracle start m) m valid f.publics size products is wrong
                (length_of_draws o c (λ step. drawn_by o c code oracle start m step (take (sent_before c step) m))) none_bad vanish

        by_choice : (choice : Case o e c code start ⊎ E start) → ((step : Step) → IsStep c step → ByChoice o e c code start step (take (sent_before c step) m) oracle (E start) choice → ⊥) → ⊥
        by_choice (inl (inl held)) steps = by_held held.1 steps
        by_choice (inl (inr knowing)) steps = knowing (f.publics, f.unknowing)
        by_choice (inr nowhere) steps =
            let inside : code (asked_at o c code oracle start m (head 0)) < questions =
            one_in (λ n. n < questions) (code (asked_at o c code oracle start m (head 0))) numbers low (f.steps (head 0) (omega arith)) in
            nowhere (there (asked_at o c code oracle start m (head 0)) (formed_at (head 0) (omega arith)) inside)

        caught : ⊥
        caught = by_choice (chosen start) (λ step is wrong. right (asked_at o c code oracle start m step) (formed_at step is) (f.steps step is) wrong)

      doomed : AreDoomed o e c code questions by Wrong
      doomed = record {
        few = λ oracle n test size h only. few_wrong o e laws c code valid apart large by shares oracle n (omega (arith, size, h)) test E chosen only;
        caught = λ oracle numbers run low f good. caught oracle numbers run low f good;
      }

  -- there is not none
  pub steps_few : ((starts : List (Start A)) (chosen : (start : Start A) → Case o e c code start ⊎ (IsIn start starts → ⊥)) → AreDoomed o e c code questions by (IsWrong o e c code (λ start. IsIn start starts → ⊥) chosen) → ⊥) → ⊥
  steps_few not =
      decide_all Sought (range_with_len 0 questions)
      (λ D. choose_all (same_start (same_elements laws.numbers)) (Case o e c code) (starts D) case_there (λ chosen. not (starts D) chosen (doomed D chosen)))

pub forgers_rare : {A : Type 0} (o : Ops A) (e : Coding A) (laws : Laws o e.size e.number e.element e.bytes) (c : Wiring A) (code : Question A → ℕ) (questions tries by : ℕ) (ask : List (Reply A) → ℕ) (wins : List (Reply A) → Bool)
    → IsForger o e c code questions tries ask wins → AreShares e c by → least_size ≤ e.size
    → count wins (draws_from (all_replies e c) questions) * by ≤ tries * length (all_replies e c) ^ questions
forgers_rare o e laws c code questions tries by ask wins forger shares large =
    stable_at_most (count wins (draws_from (all_replies e c) questions) * by) (tries * length (all_replies e c) ^ questions)
    (λ not. steps_few o e laws c code questions by forger.valid forger.apart shares large
    (λ starts chosen is. not (queries_few (same_reply (same_elements laws.numbers)) no_reply (all_replies e c) questions by (IsWrong o e c code (λ start. IsIn start starts → ⊥) chosen) is.few tries ask wins forger.inside
    (λ oracle whole won good.
    (let forged = forger.only oracle whole won in is.caught oracle (asked no_reply ask oracle tries) forged.0 (asked_inside no_reply questions ask oracle forger.inside tries) forged.1 good)))))

many_elements : (n size : ℕ) → size ≤ n → least_size ≤ size → least_size ≤ n
many_elements n size h l = omega (arith, h, l)

enough_elements : least_size ≤ prime_size
enough_elements = leb-true least_size prime_size refl

pub forgers_by_tries : {A : Type 0} (o : Ops A) (e : Coding A) (laws : Laws o e.size e.number e.element e.bytes) (c : Wiring A) (code : Question A → ℕ) (questions tries : ℕ) (ask : List (Reply A) → ℕ) (wins : List (Reply A) → Bool)
    → IsForger o e c code questions tries ask wins → prime_size ≤ e.size
    → count wins (draws_from (all_replies e c) questions) * column_share ≤ tries * length (all_replies e c) ^ questions
forgers_by_tries o e laws c code questions tries ask wins forger large =
    forgers_rare o e laws c code questions tries column_share ask wins forger (shares_small o e c forger.valid large) (many_elements e.size prime_size large enough_elements)
