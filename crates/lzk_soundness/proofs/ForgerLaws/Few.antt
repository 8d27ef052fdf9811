-- Of the answers to a question few make it wrong.
use Rattle.lzk_shares.specs.Shares.{least_size}
use Rattle.std.specs.Prelude.{◌≡◌, ◌⊎◌, ℕ, ◌+◌, ◌*◌, ◌^◌, ◌<◌, ◌≤◌, ◌&&◌, cond, nat_lt, Bool, true, false, List, [], ◌∷◌, ◌++◌, length, take, drop}
use Rattle.std.proofs.Common.{inl, inr, refl, sym, ap, ◌∙◌, arith, subst, add-mul, mul_assoc, mul_comm, mul-le-mul_right, le_of_mul-le-mul_right, zero-mul, take_at, length-take}
use Rattle.std.proofs.lemmas.Bool.{ltb-true, ltb-false, le-ltb}
use native.Mathlib.Decide.{dec_lt}
use Rattle.lzk_field.specs.Coding.{Coding}
use Rattle.lzk_field.specs.Ring.{Ops, Laws}
use Rattle.lzk_field.specs.Sums.{entry}
use Rattle.lzk_soundness.specs.Chance.Draws.{count, draws_from}
use Rattle.lzk_soundness.specs.Chance.Few.{AreDistinct}
use Rattle.lzk_soundness.specs.Chance.Sets.{count_pairs}
use Rattle.lzk_soundness.proofs.ChanceLaws.Counting.{length-draws}
use Rattle.lzk_soundness.proofs.ChanceLaws.Lists.{all_long}
use Rattle.lzk_circuit.specs.Valid.{Wiring, IsValid}
use Rattle.lzk_layout.specs.Sizes.{params_of, committed_count}
use Rattle.lzk_layout.specs.Places.{depth}
use Rattle.lzk_soundness.specs.Sumchecks.Claims.{Vanish}
use Rattle.lzk_soundness.specs.Draws.Schedule.{Draw, draw_count, draw_at, script_of}
use Rattle.lzk_soundness.specs.Draws.Schedule.Draw.{coordinate, alpha, beta, challenge, gamma, other}
use Rattle.lzk_soundness.specs.Draws.Game.{Target}
use Rattle.lzk_soundness.proofs.DrawsLaws.Deciding.{is_yes, from_yes, from_no}
use Rattle.lzk_soundness.specs.Count.Game.{column_sets, IsPassed}
use Rattle.lzk_soundness.specs.Extract.Extraction.{all_elements}
use Rattle.lzk_soundness.proofs.CountLaws.Elements.{elements_all}
use Rattle.lzk_soundness.proofs.CountLaws.Fronts.{found, some_pass, front, behind, fronts_few, backs_few}
use Rattle.lzk_soundness.specs.Oracle.Oracle.{put}
use Rattle.lzk_soundness.proofs.OracleLaws.Parts.{each_in}
use Rattle.lzk_soundness.proofs.OracleLaws.Queries.{contrary, contrary_true, left_true, right_true, count-parted}
use Rattle.lzk_soundness.specs.Rounds.Steps.{Step, IsStep, sent_before, step_of, place_in, most_draws, degrees, draws_of, IsBadAnswer}
use Rattle.lzk_soundness.specs.Rounds.Steps.Step.{head}
use Rattle.lzk_soundness.specs.Rounds.Laws.{IsAnsweredBy}
use Rattle.lzk_soundness.proofs.RoundsLaws.Deciding.{dec_answer}
use Rattle.lzk_soundness.proofs.RoundsLaws.Few.{answers_few, degrees_few, length_of_draws}
use Rattle.lzk_soundness.proofs.RoundsLaws.Steps.{IsDrawn, dec_step, draw_is, step_is, sent_most_before}
use Rattle.lzk_soundness.specs.Ligero.States.{Answers, sends, all_weights, IsPassedOften, IsOpen}
use Rattle.lzk_soundness.specs.Ligero.Laws.{IsOpening, IsOpenedBy, Held}
use Rattle.lzk_soundness.specs.Ligero.Laws.Held.{nothing, list}
use Rattle.lzk_soundness.proofs.LigeroLaws.Columns.{columns_by}
use Rattle.lzk_soundness.specs.Forger.Questions.{Start, Question, Reply, IsFormed, TellsApart, reply_size, all_replies, rows_of, reply, asked_at, script_draws, all_draws, columns_for}
use Rattle.lzk_soundness.specs.Forger.Questions.Question.{sent, answered}
use Rattle.lzk_soundness.specs.Forger.Laws.{AreShares}
use Rattle.lzk_soundness.proofs.ForgerLaws.Replies.{both_parts, count-replies, length-replies, pairs_by, pairs_front, some_is, counted_is}
use Rattle.lzk_soundness.specs.Forger.Wrong.{Case, IsLeftOpen, ByHeld, ByChoice, WrongQ, IsWrong}
use Rattle.lzk_soundness.proofs.ForgerLaws.Wrong.{own_reply, other_reply, draws_same, all_same, asked_formed, taken_all}

-- ---- numbers

-- a share of K over N is one of one over by
as_share : (x K by N T : ℕ) → x * N ≤ K * T → K * by ≤ N → 0 < N → x * by ≤ T
as_share x K by N T few share some =
    let up : x * N * by ≤ K * T * by = mul-le-mul_right by few in
    let whole : K * by * T ≤ N * T = mul-le-mul_right T share in
    let left : x * N * by ≡ x * by * N = mul_assoc x N by ∙ ap (λ (j : ℕ). x * j) (mul_comm N by) ∙ sym (mul_assoc x by N) in
    let right : K * T * by ≡ K * by * T = mul_assoc K T by ∙ ap (λ (j : ℕ). K * j) (mul_comm T by) ∙ sym (mul_assoc K by T) in
    le_of_mul-le-mul_right {m = x * by} {n = T} {k = N} (omega (arith, up, whole, left, right, mul_comm N T)) some

positive : (N : ℕ) → least_size ≤ N → 0 < N
positive N h = at_least N least_size (ltb-true 0 least_size refl) h
  where
    at_least : (n k : ℕ) → 0 < k → k ≤ n → 0 < n
    at_least n k some le = omega (arith, some, le)

fewer_shares : (K most by N : ℕ) → K ≤ most → most * by ≤ N → K * by ≤ N
fewer_shares K most by N le few = let up : K * by ≤ most * by = mul-le-mul_right by le in omega (arith, up, few)

-- ---- lists of one entry

one_entry : {X : Type 0} (u : List X) → length u ≡ 1 → (g : X) × (u ≡ g ∷ [])
one_entry [] long = absurd (omega (arith, long))
one_entry (g ∷ []) long = (g, refl)
one_entry (g ∷ h ∷ u) long = absurd (omega (arith, long))

abbrev pick : {P : Type 0} {Y : Type 0} → Dec P → Y → Y → Y
pick (yes p) x y = x
pick (no n) x y = y

pick_yes : {P Y : Type 0} (d : Dec P) (x y : Y) → P → pick d x y ≡ x
pick_yes (yes p) x y is = refl
pick_yes (no n) x y is = absurd (n is)

pick_no : {P Y : Type 0} (d : Dec P) (x y : Y) → (P → ⊥) → pick d x y ≡ y
pick_no (yes p) x y never = absurd (never p)
pick_no (no n) x y never = refl

module _ {A : Type 0} (o : Ops A) (e : Coding A) (laws : Laws o e.size e.number e.element e.bytes) (c : Wiring A) (code : Question A → ℕ) (valid : IsValid o c) (apart : TellsApart c code) (large : least_size ≤ e.size) (by : ℕ) (shares : AreShares e c by) (oracle : List (Reply A)) (n : ℕ) (inside : n < length oracle) (test : Reply A → Bool) where
  abbrev ds : List A
  ds = all_elements e

  abbrev all : List (List A)
  all = draws_from ds (reply_size c)

  abbrev sets : List (List ℕ)
  sets = column_sets c

  size_is : length ds ≡ e.size
  size_is = (elements_all e laws.numbers).count

  distinct : AreDistinct ds
  distinct = (elements_all e laws.numbers).distinct

  some_layers : 1 ≤ depth c
  some_layers = valid.some

  -- ---- behind the answers

  module _ (start : Start A) (messages : List A) (answers : Answers A) (long : length messages ≡ (params_of c).nsum) (is : code (answered start messages answers) ≡ n) where
    abbrev D : List A
    D = all_draws o c code oracle start messages

    never : (step : Step) → IsStep c step → code (asked_at o c code oracle start messages step) ≡ n → ⊥
    never step there same =
        let e : asked_at o c code oracle start messages step ≡ answered start messages answers =
        apart (asked_at o c code oracle start messages step) (answered start messages answers)
        (asked_formed o c code oracle start messages step there (omega (arith, sent_most_before c step there, long))) long (same ∙ sym is) in
        cc

    same_draws : (x : Reply A) → all_draws o c code (put n x oracle) start messages ≡ D
    same_draws x = all_same o c code some_layers apart oracle n inside x start messages never

    same_columns : (x : Reply A) → columns_for o c code (put n x oracle) start messages answers ≡ x.columns
    same_columns x = ap (λ (r : Reply A). r.columns) (own_reply o c code some_layers apart oracle n inside x (answered start messages answers) is)

    abbrev P : List A → List ℕ → Type 0
    P draws columns = IsPassed o e c start.public (sends (rows_of o c start) messages answers) draws columns

    abbrev Often : List A → Type 0
    Often draws = IsPassedOften o e c start.public (sends (rows_of o c start) messages answers) draws

    by_columns : (Often D → ⊥) → ((x : Reply A) → test x ≡ true → P D x.columns) → count test (all_replies e c) * by ≤ length (all_replies e c)
    by_columns not passed =
        let pairs = pairs_by (λ xs s. test (both_parts xs s)) sets by (length sets) all
        (each_in (λ xs. count (λ s. test (both_parts xs s)) sets * by ≤ length sets) all
        (λ xs i. columns_by o e c start.public (sends (rows_of o c start) messages answers) D (λ s. test (both_parts xs s)) by shares.columns not (λ s size won. passed (both_parts xs s) won))) in
        omega (arith, pairs, ap (λ (k : ℕ). k * by) (count-replies test sets all), length-replies sets all)

  -- ---- at a step

  abbrev T : List A → Bool
  T xs = some_pass (λ s. test (both_parts xs s)) sets

  by_front : count T all * by ≤ length all → count test (all_replies e c) * by ≤ length (all_replies e c)
  by_front few =
      let less : count_pairs (λ xs s. test (both_parts xs s)) all sets ≤ count T all * length sets = pairs_front (λ xs s. test (both_parts xs s)) sets all in
      let up : count_pairs (λ xs s. test (both_parts xs s)) all sets * by ≤ count T all * length sets * by = mul-le-mul_right by less in
      let turned : count T all * length sets * by ≡ count T all * by * length sets =
      mul_assoc (count T all) (length sets) by ∙ ap (λ (j : ℕ). count T all * j) (mul_comm (length sets) by) ∙ sym (mul_assoc (count T all) by (length sets)) in
      let whole : count T all * by * length sets ≤ length all * length sets = mul-le-mul_right (length sets) few in
      omega (arith, up, turned, whole, ap (λ (k : ℕ). k * by) (count-replies test sets all), length-replies sets all)

  -- for so many of all elements
  by_share : (K : ℕ) → K * by ≤ e.size → count T all * length ds ≤ K * length ds ^ reply_size c → count T all * by ≤ length all
  by_share K share few =
      let x : count T all * by ≤ length ds ^ reply_size c =
      as_share (count T all) K by (length ds) (length ds ^ reply_size c) few (subst (λ (m : ℕ). K * by ≤ m) (sym size_is) share) (subst (λ (m : ℕ). 0 < m) (sym size_is) (positive e.size large)) in
      subst (λ (m : ℕ). count T all * by ≤ m) (sym (length-draws ds (reply_size c))) x

  module _ (start : Start A) (step : Step) (elements : List A) (formed : IsFormed c (sent start step elements)) (is : code (sent start step elements) ≡ n) where
    abbrev at : Step → Question A
    at = asked_at o c code oracle start elements

    abbrev before : Step → List A
    before s = take (sent_before c s) elements

    -- the elements drawn where this is what the oracle answers
    abbrev given : Step → Reply A → List A
    given s r = cond (nat_lt (length (before s)) (sent_before c s)) [] r.elements

    abbrev others : Step → List A
    others s = given s (reply o c code oracle (at s))

    -- with this answer in its place
    abbrev answers : List A → Step → List A
    answers xs s = cond (nat_lt (length (before s)) (sent_before c s)) [] (pick (dec_step s step) xs (reply o c code oracle (at s)).elements)

    here : at step ≡ sent start step elements
    here = ap (sent start step) (taken_all c (sent_before c step) elements formed.1)

    own : (x : Reply A) → reply o c code (put n x oracle) (at step) ≡ x
    own x = own_reply o c code some_layers apart oracle n inside x (at step) (ap code here ∙ is)

    -- what was asked before is not this
    elsewhere : (x : Reply A) (s : Step) → IsStep c s → sent_before c s ≤ length elements → (s ≡ step → ⊥) → reply o c code (put n x oracle) (at s) ≡ reply o c code oracle (at s)
    elsewhere x s there enough differ =
        other_reply o c code some_layers apart oracle n inside x (at s)
        (λ same.
        let e : at s ≡ sent start step elements = apart (at s) (sent start step elements) (asked_formed o c code oracle start elements s there enough) formed (same ∙ sym is) in
        differ (cc))

    abbrev r : List A → List A
    r xs = draws_of o c (answers xs)

    -- the draws are those of the answer
    draws_are : (x : Reply A) → script_draws o c code (put n x oracle) start elements ≡ r x.elements
    draws_are x =
        draws_same o c code some_layers apart oracle n inside x (λ s. given s (reply o c code (put n x oracle) (at s))) (answers x.elements)
        (λ k h. ap (λ ys. entry o ys (place_in c (draw_at c k))) (each (step_of c (draw_at c k)) (step_is c (draw_at c k) (draw_is c k some_layers h).0)))
      where
        each : (s : Step) → IsStep c s → given s (reply o c code (put n x oracle) (at s)) ≡ answers x.elements s
        each s there = one (nat_lt (length (before s)) (sent_before c s)) refl
          where
            by_step : sent_before c s ≤ length elements → (d : Dec (s ≡ step)) → (reply o c code (put n x oracle) (at s)).elements ≡ pick d x.elements (reply o c code oracle (at s)).elements
            by_step enough (yes same) = ap (λ (q : Reply A). q.elements) (ap (λ t. reply o c code (put n x oracle) (at t)) same ∙ own x)
            by_step enough (no differ) = ap (λ (q : Reply A). q.elements) (elsewhere x s there enough differ)

            one : (v : Bool) → nat_lt (length (before s)) (sent_before c s) ≡ v
                → cond v [] (reply o c code (put n x oracle) (at s)).elements ≡ cond v [] (pick (dec_step s step) x.elements (reply o c code oracle (at s)).elements)
            one true less = refl
            one false not_less = by_step (omega (arith, ltb-false (length (before s)) (sent_before c s) not_less, length-take (sent_before c s) elements)) (dec_step s step)

    own_answer : (xs : List A) → answers xs step ≡ xs
    own_answer xs =
        let long : sent_before c step ≤ length (before step) = omega (arith, ap length (taken_all c (sent_before c step) elements formed.1), formed.1) in
        ap (λ v. cond v [] (pick (dec_step step step) xs (reply o c code oracle (at step)).elements)) (le-ltb (length (before step)) (sent_before c step) long)
        ∙ pick_yes (dec_step step step) xs (reply o c code oracle (at step)).elements refl

    answered_by : IsAnsweredBy c step others answers
    answered_by = record {
      own = own_answer;
      same = λ xs k h differ.
          let s = step_of c (draw_at c k) in
          ap (λ ys. cond (nat_lt (length (before s)) (sent_before c s)) [] ys) (pick_no (dec_step s step) xs (reply o c code oracle (at s)).elements differ);
    }

    abbrev Open : List A → Type 0
    Open draws = IsOpen o e c start.public (rows_of o c start) elements draws

    -- ---- at the last step

    module _ (end : step ≡ head (depth c)) where
      -- the weights are behind the first element
      weights_are : (x : Reply A) → all_draws o c code (put n x oracle) start elements ≡ r x.elements ++ take (all_weights c) (drop 1 x.elements)
      weights_are x =
          ap (λ xs. xs ++ take (all_weights c) (drop 1 (reply o c code (put n x oracle) (at (head (depth c)))).elements)) (draws_are x)
          ∙ ap (λ (q : Reply A). r x.elements ++ take (all_weights c) (drop 1 q.elements)) (ap (λ t. reply o c code (put n x oracle) (at t)) (sym end) ∙ own x)

      last_place : (d : Draw) → IsDrawn c d → step_of c d ≡ head (depth c) → place_in c d ≡ 0
      last_place (coordinate j) drawn same = (let z : 0 ≡ depth c = cc in absurd (omega (arith, z, some_layers)))
      last_place (alpha l) drawn same = (let z : l ≡ depth c = cc in absurd (omega (arith, z, drawn)))
      last_place (beta l) drawn same = (let z : l ≡ depth c = cc in absurd (omega (arith, z, drawn.0)))
      last_place (challenge l m) drawn same = refl
      last_place gamma drawn same = refl
      last_place other drawn same = absurd drawn

      -- the first element alone is drawn
      first_alone : (g : A) (ws v : List A) → r (((g ∷ []) ++ ws) ++ v) ≡ r (g ∷ [])
      first_alone g ws v =
          draws_same o c code some_layers apart oracle n inside (both_parts [] []) (answers (((g ∷ []) ++ ws) ++ v)) (answers (g ∷ []))
          (λ k h. each k h (step_of c (draw_at c k)) refl (dec_step (step_of c (draw_at c k)) step) (nat_lt (length (before (step_of c (draw_at c k)))) (sent_before c (step_of c (draw_at c k)))))
        where
          each : (k : ℕ) → k < draw_count c → (s : Step) → step_of c (draw_at c k) ≡ s → (d : Dec (s ≡ step)) (b : Bool)
              → entry o (cond b [] (pick d (((g ∷ []) ++ ws) ++ v) (reply o c code oracle (at s)).elements)) (place_in c (draw_at c k))
              ≡ entry o (cond b [] (pick d (g ∷ []) (reply o c code oracle (at s)).elements)) (place_in c (draw_at c k))
          each k h s at_s d true = refl
          each k h s at_s (no differ) false = refl
          each k h s at_s (yes same) false =
              let none : place_in c (draw_at c k) ≡ 0 = last_place (draw_at c k) (draw_is c k some_layers h).0 (at_s ∙ same ∙ end) in
              ap (entry o (((g ∷ []) ++ ws) ++ v)) none ∙ sym (ap (entry o (g ∷ [])) none)

      abbrev W : ℕ
      W = all_weights c

      -- where a test says yes only to answers that leave the statement open, few weights behind each first element do
      module _ (K : ℕ) (U : List A → Bool) (opens : (xs : List A) → U xs ≡ true → Open (r xs ++ take (all_weights c) (drop 1 xs)))
          (each : (g : A) (xs : List A) → U xs ≡ true → r xs ≡ r (g ∷ []) → (tst : List A → Bool) → IsOpening o e c start.public (rows_of o c start) (r (g ∷ [])) elements tst → IsOpenedBy o e c start.public (rows_of o c start) K tst) where
        abbrev F : List A → Bool
        F = front ds U (1 + all_weights c) (most_draws c) K

        opening : (g : A) → IsOpening o e c start.public (rows_of o c start) (r (g ∷ [])) elements (λ ws. F ((g ∷ []) ++ ws))
        opening g = record {
          count = length_of_draws o c (answers (g ∷ []));
          only = λ ws long won.
              let rest = behind ds U (1 + all_weights c) (most_draws c) K ((g ∷ []) ++ ws) won in
              let v = rest.0 in
              let opened = opens (((g ∷ []) ++ ws) ++ v) rest.1.1 in
              subst (λ xs. Open (xs ++ ws)) (first_alone g ws v)
              (subst (λ ys. Open (r (((g ∷ []) ++ ws) ++ v) ++ ys)) (take_at ws v (all_weights c) long) opened);
        }

        by_first : (g : A) → count (λ ws. F ((g ∷ []) ++ ws)) (draws_from ds (all_weights c)) * length ds ≤ K * length ds ^ all_weights c
        by_first g = elim (dec_lt 0 (count (λ ws. F ((g ∷ []) ++ ws)) (draws_from ds (all_weights c)))) [
          | no none ↦ (let z : count (λ ws. F ((g ∷ []) ++ ws)) (draws_from ds (all_weights c)) ≡ 0 = omega (arith, none) in omega (arith, ap (λ (m : ℕ). m * length ds) z, zero-mul (length ds)))
          | yes some ↦
              let one = found (λ ws. length ws ≡ all_weights c) (λ ws. F ((g ∷ []) ++ ws)) (draws_from ds (all_weights c)) (all_long ds (all_weights c)) some in
              let rest = behind ds U (1 + all_weights c) (most_draws c) K ((g ∷ []) ++ one.0) one.1.1 in
              let few = each g (((g ∷ []) ++ one.0) ++ rest.0) rest.1.1 (first_alone g one.0 rest.0) (λ ws. F ((g ∷ []) ++ ws)) (opening g) in
              subst (λ (m : ℕ). count (λ ws. F ((g ∷ []) ++ ws)) (draws_from ds (all_weights c)) * m ≤ K * m ^ all_weights c) (sym size_is) few
        ]

        weights_count : count U all * length ds ≤ K * length ds ^ reply_size c
        weights_count =
            fronts_few ds U (1 + all_weights c) (most_draws c) K
            (backs_few ds F 1 (all_weights c) K
            (λ u lu.
            let one = one_entry u lu in
            subst (λ xs. count (λ ws. F (xs ++ ws)) (draws_from ds (all_weights c)) * length ds ≤ K * length ds ^ all_weights c) (sym one.1) (by_first one.0)))

    -- ---- by what the table holds

    -- the test says yes to an answer of these elements
    some_reply : (xs : List A) → T xs ≡ true → (x : Reply A) × ((test x ≡ true) × (x.elements ≡ xs))
    some_reply xs won = (let one = some_is (λ s. test (both_parts xs s)) sets won in (both_parts xs one.0, (one.1, refl)))

    enough : most_draws c ≤ reply_size c
    enough = omega arith

    by_nothing : ((x : Reply A) → test x ≡ true → (step ≡ head (depth c)) × Open (all_draws o c code (put n x oracle) start elements)) → step ≡ head (depth c)
        → ((draws messages : List A) (tst : List A → Bool) → IsOpening o e c start.public (rows_of o c start) draws messages tst → IsOpenedBy o e c start.public (rows_of o c start) ((params_of c).block + 2) tst)
        → count T all * by ≤ length all
    by_nothing wrong end few =
        by_share ((params_of c).block + 2) shares.weights
        (weights_count end ((params_of c).block + 2) T
        (λ xs won.
        let x = some_reply xs won in
        subst (λ ys. Open (r ys ++ take (all_weights c) (drop 1 ys))) x.1.1 (subst Open (weights_are end x.0) (wrong x.0 x.1.0).1))
        (λ g xs won same tst opening. few (r (g ∷ [])) elements tst opening))

    module _ (publics : length start.public ≡ c.publics) (w : List A) (target : Target) (size : length w ≡ committed_count c) where
      abbrev Bad : List A → Type 0
      Bad draws = IsBadAnswer o c start.public w target e.element draws elements step

      abbrev Stays : List A → Type 0
      Stays draws = Vanish o c start.public w e.element (script_of o c draws) elements → ⊥

      -- an answer of which a draw is bad
      bad_few : (U : List A → Bool) → ((xs : List A) → U xs ≡ true → Bad (r xs)) → count U all * length ds ≤ degrees c target step * length ds ^ reply_size c
      bad_few U only =
          answers_few o e laws c start.public w target elements step others answers (reply_size c) U ds valid publics size answered_by enough (λ xs long won. only xs won) distinct

      by_bad : ((x : Reply A) → test x ≡ true → Bad (script_draws o c code (put n x oracle) start elements)) → count T all * by ≤ length all
      by_bad wrong =
          by_share (degrees c target step) (fewer_shares (degrees c target step) (3 * most_draws c) by e.size ((degrees_few c).all target step) shares.draws)
          (bad_few T (λ xs won.
          let x = some_reply xs won in
          subst (λ ys. Bad (r ys)) x.1.1 (subst Bad (draws_are x.0) (wrong x.0 x.1.0))))

      -- at the last step
      module _ (end : step ≡ head (depth c))
          (wrong : (x : Reply A) → test x ≡ true → Bad (script_draws o c code (put n x oracle) start elements)
          ⊎ ((step ≡ head (depth c)) × (Stays (script_draws o c code (put n x oracle) start elements) × Open (all_draws o c code (put n x oracle) start elements))))
          (few : (draws messages : List A) (tst : List A → Bool) → IsOpening o e c start.public (rows_of o c start) draws messages tst
          → (Vanish o c start.public w e.element (script_of o c draws) messages → ⊥) → IsOpenedBy o e c start.public (rows_of o c start) ((params_of c).block + 1) tst) where
        decide : (xs : List A) → Dec (Bad (r xs))
        decide xs = dec_answer o e laws c start.public w target (r xs) elements step

        abbrev B : List A → Bool
        B xs = is_yes (decide xs)

        abbrev U : List A → Bool
        U xs = T xs && contrary (B xs)

        good : (xs : List A) → U xs ≡ true → Stays (r xs) × Open (r xs ++ take (all_weights c) (drop 1 xs))
        good xs won =
            let x = some_reply xs (left_true (T xs) (contrary (B xs)) won) in
            go x.0 x.1.1 (wrong x.0 x.1.0)
          where
            not_bad : Bad (r xs) → ⊥
            not_bad b = from_no (decide xs) (contrary_true (B xs) (right_true (T xs) (contrary (B xs)) won)) b

            go : (x : Reply A) → x.elements ≡ xs → Bad (script_draws o c code (put n x oracle) start elements)
                ⊎ ((step ≡ head (depth c)) × (Stays (script_draws o c code (put n x oracle) start elements) × Open (all_draws o c code (put n x oracle) start elements)))
                → Stays (r xs) × Open (r xs ++ take (all_weights c) (drop 1 xs))
            go x same (inl b) = absurd (not_bad (subst (λ ys. Bad (r ys)) same (subst Bad (draws_are x) b)))
            go x same (inr b) = (
              subst (λ ys. Stays (r ys)) same (subst Stays (draws_are x) b.1.0),
              subst (λ ys. Open (r ys ++ take (all_weights c) (drop 1 ys))) same (subst Open (weights_are end x) b.1.1),
            )

        by_end : count T all * by ≤ length all
        by_end =
            let K = (params_of c).block + 1 in
            let S = length ds ^ reply_size c in
            let parted = count-parted T B all in
            let first : count B all * length ds ≤ degrees c target step * S = bad_few B (λ xs won. from_yes (decide xs) won) in
            let one : degrees c target step ≤ 1 = subst (λ s. degrees c target s ≤ 1) (sym end) ((degrees_few c).last target some_layers) in
            let up : degrees c target step * S ≤ 1 * S = mul-le-mul_right S one in
            let second : count U all * length ds ≤ K * S =
            weights_count end K U (λ xs won. (good xs won).1) (λ g xs won same tst opening. few (r (g ∷ [])) elements tst opening (subst Stays same (good xs won).0)) in
            let whole = mul-le-mul_right (length ds) parted in
            let sum : (K + 1) * S ≡ K * S + 1 * S = add-mul K 1 S in
            let size_two : K + 1 ≡ (params_of c).block + 2 = omega arith in
            by_share ((params_of c).block + 2) shares.weights
            (omega (arith, whole, add-mul (count B all) (count U all) (length ds), first, up, second, sum, ap (λ (k : ℕ). k * S) size_two))

    by_held : (publics : length start.public ≡ c.publics) (held : Held o e c start.public (rows_of o c start)) → ((x : Reply A) → test x ≡ true → ByHeld o e c code start step elements (put n x oracle) held)
        → (x : Reply A) → test x ≡ true → count T all * by ≤ length all
    by_held publics (nothing few) wrong x won = by_nothing wrong (wrong x won).0 few
    by_held publics (list w target size products is_of not_zero few) wrong x won = elim (dec_step step (head (depth c))) [
      | yes end ↦ by_end publics w target size end wrong few
      | no differ ↦ by_bad publics w target size (λ y yes_y. only_bad y (wrong y yes_y) differ)
    ]
      where
        only_bad : (y : Reply A) → IsBadAnswer o c start.public w target e.element (script_draws o c code (put n y oracle) start elements) elements step
            ⊎ ((step ≡ head (depth c)) × ((Vanish o c start.public w e.element (script_of o c (script_draws o c code (put n y oracle) start elements)) elements → ⊥) × IsLeftOpen o e c code start step elements (put n y oracle)))
            → (step ≡ head (depth c) → ⊥) → IsBadAnswer o c start.public w target e.element (script_draws o c code (put n y oracle) start elements) elements step
        only_bad y (inl b) differ = b
        only_bad y (inr b) differ = absurd (differ b.0)

    by_case : (E : Type 0) (choice : Case o e c code start ⊎ E) → ((x : Reply A) → test x ≡ true → ByChoice o e c code start step elements (put n x oracle) E choice) → (x : Reply A) → test x ≡ true → count T all * by ≤ length all
    by_case E (inl (inl held)) wrong x won = by_held held.0 held.1 wrong x won
    by_case E (inl (inr knowing)) wrong x won = absurd (wrong x won)
    by_case E (inr nothing_there) wrong x won = absurd (wrong x won)

  -- ---- any question

  module _ (E : Start A → Type 0) (chosen : (start : Start A) → Case o e c code start ⊎ E start) where
    by_question : (q : Question A) → IsFormed c q → code q ≡ n → ((x : Reply A) → test x ≡ true → WrongQ o e c code E chosen q (put n x oracle)) → (x : Reply A) → test x ≡ true
        → count test (all_replies e c) * by ≤ length (all_replies e c)
    by_question (sent start step elements) formed is wrong x won = by_front (by_case start step elements formed is (E start) (chosen start) wrong x won)
    by_question (answered start messages answers) long is wrong x won =
        by_columns start messages answers long is
        (subst (λ draws. IsPassedOften o e c start.public (sends (rows_of o c start) messages answers) draws → ⊥) (same_draws start messages answers long is x) (wrong x won).1)
        (λ y yes_y.
        subst (λ draws. IsPassed o e c start.public (sends (rows_of o c start) messages answers) draws y.columns) (same_draws start messages answers long is y)
        (subst (λ columns. IsPassed o e c start.public (sends (rows_of o c start) messages answers) (all_draws o c code (put n y oracle) start messages) columns) (same_columns start messages answers long is y) (wrong y yes_y).0))

    pub few_wrong : ((x : Reply A) → test x ≡ true → IsWrong o e c code E chosen (put n x oracle) n) → count test (all_replies e c) * by ≤ length (all_replies e c)
    few_wrong only = elim (dec_lt 0 (count test (all_replies e c))) [
      | no none ↦ (let z : count test (all_replies e c) ≡ 0 = omega (arith, none) in (let y : count test (all_replies e c) * by ≡ 0 * by = ap (λ (k : ℕ). k * by) z in nothing_at_all (count test (all_replies e c) * by) by (length (all_replies e c)) y))
      | yes some ↦
          let one = counted_is test (all_replies e c) some in
          let first = only one.0 one.1 in
          by_question first.question first.formed first.number
          (λ x won.
          let it = only x won in
          subst (λ q. WrongQ o e c code E chosen q (put n x oracle)) (apart it.question first.question it.formed first.formed (it.number ∙ sym first.number)) it.wrong)
          one.0 one.1
    ]
      where
        nothing_at_all : (a k m : ℕ) → a ≡ 0 * k → a ≤ m
        nothing_at_all a k m is = omega (arith, is, zero-mul k)
