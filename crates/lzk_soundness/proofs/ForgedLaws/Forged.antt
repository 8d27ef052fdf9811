-- A forger who asks what a run of zeros asks.
use Rattle.lzk_profile.specs.Profile.{opened_count}
use Rattle.std.specs.Prelude.{◌≡◌, ℕ, ◌+◌, ◌-◌, ◌<◌, ◌≤◌, ◌&&◌, cond, nat_lt, Bool, true, false, List, [], ◌∷◌, ◌++◌, length, map, flat_map, take, drop, replicate}
use Rattle.std.specs.List.{range_with_len}
use Rattle.std.proofs.Common.{zero, suc, inl, refl, sym, ap, ◌∙◌, arith, subst}
use Rattle.std.proofs.lemmas.Bool.{false≢true}
use Rattle.lzk_field.specs.Coding.{Coding}
use Rattle.lzk_field.specs.Ring.{Ops, Laws}
use Rattle.lzk_field.specs.Sums.{entry}
use Rattle.lzk_soundness.specs.Chance.Draws.{count, draws_from}
use Rattle.lzk_soundness.specs.Chance.Few.{IsIn}
use Rattle.lzk_soundness.proofs.ChanceLaws.Alls.{added}
use Rattle.lzk_soundness.proofs.ChanceLaws.Counting.{count-append, count-map}
use Rattle.lzk_circuit.specs.Valid.{Wiring, IsValid}
use Rattle.lzk_layout.specs.Places.{depth, round_count}
use Rattle.lzk_layout.specs.Sizes.{params_of}
use Rattle.lzk_layout.proofs.SizeLaws.{params_bounded}
use Rattle.lzk_soundness.specs.Draws.Schedule.{draw_at, draw_count}
use Rattle.lzk_soundness.specs.Extract.Extraction.{all_elements}
use Rattle.lzk_soundness.specs.Count.Laws.{Encodes}
use Rattle.lzk_soundness.proofs.CountLaws.Count.{false_unknown}
use Rattle.lzk_soundness.specs.Worked.Zeros.{HasZeroMasks, are_zeros}
use Rattle.lzk_soundness.proofs.WorkedLaws.Counts.{zeros_seen, zero_is_in, some_draws, some_sets, pairs_with_zeros}
use Rattle.lzk_soundness.proofs.WorkedLaws.Passing.{zeros_passed}
use Rattle.lzk_soundness.proofs.WorkedLaws.Zeros.{AllZero, zeros_take, zeros_drop, zeros_append, zeros_map}
use Rattle.lzk_soundness.specs.Oracle.Oracle.{answer, asked}
use Rattle.lzk_soundness.proofs.OracleLaws.Hits.{in_flat}
use Rattle.lzk_soundness.proofs.OracleLaws.Parts.{in_left, in_right, in_map}
use Rattle.lzk_soundness.specs.Rounds.Steps.{Step, IsStep, sent_before, step_of, place_in}
use Rattle.lzk_soundness.specs.Rounds.Steps.Step.{head, round}
use Rattle.lzk_soundness.specs.Count.Game.{column_sets}
use Rattle.lzk_soundness.specs.Ligero.States.{Answers, all_weights}
use Rattle.lzk_soundness.specs.Forger.Questions.{Start, Question, Reply, TellsApart, reply_size, all_replies, no_reply, rows_of, reply, asked_at, drawn_by, script_draws, weights, all_draws, columns_for, Run, IsForged}
use Rattle.lzk_soundness.specs.Forger.Questions.Question.{sent, answered}
use Rattle.lzk_soundness.proofs.ForgerLaws.Chosen.{in_range}
use Rattle.lzk_soundness.proofs.ForgerLaws.Replies.{count-replies}
use Rattle.lzk_soundness.specs.Forged.Laws.{SomeWin, ForgersWin}

-- ---- questions of a list, one after the other

abbrev from_list : {X : Type 0} → List ℕ → List X → ℕ
from_list ns before = answer 0 ns (length before)

asked_are : {X : Type 0} (none : X) (oracle : List X) (ns : List ℕ) → asked none (from_list ns) oracle (length ns) ≡ ns
asked_are none oracle [] = refl
asked_are none oracle (n ∷ ns) = ap (λ ms. n ∷ ms) (asked_are none oracle ns)

within : (ns : List ℕ) (k : ℕ) → answer 0 ns k ≤ added (λ n. n) ns
within [] k = omega arith
within (n ∷ ns) zero = omega arith
within (n ∷ ns) (suc k) = omega (arith, within ns k)

both_true : (a b : Bool) → (a && b) ≡ true → (a ≡ true) × (b ≡ true)
both_true true b is = (refl, is)
both_true false b is = absurd (false≢true is)

module _ {A : Type 0} (o : Ops A) (e : Coding A) (laws : Laws o e.size e.number e.element e.bytes) where
  -- all elements of all answers are 0
  abbrev zeros_told : List (Reply A) → Bool
  zeros_told [] = true
  zeros_told (r ∷ rs) = are_zeros e r.elements && zeros_told rs

  told_zero : (oracle : List (Reply A)) → zeros_told oracle ≡ true → (n : ℕ) → AllZero o (answer no_reply oracle n).elements
  told_zero [] is n i = refl
  told_zero (r ∷ rs) is zero i = zeros_seen o e laws r.elements (both_true (are_zeros e r.elements) (zeros_told rs) is).0 i
  told_zero (r ∷ rs) is (suc n) i = told_zero rs (both_true (are_zeros e r.elements) (zeros_told rs) is).1 n i

  abbrev zero_reply : Reply A → Bool
  zero_reply r = are_zeros e r.elements

  some_fronts : (ts : List (List (Reply A))) → 0 < count zeros_told ts → (rs : List (Reply A)) → 0 < count zero_reply rs → 0 < count zeros_told (flat_map (λ d. map (λ rest. d ∷ rest) ts) rs)
  some_fronts ts some [] h = absurd (omega (arith, h))
  some_fronts ts some (r ∷ rs) h = go (zero_reply r) refl h (some_fronts ts some rs)
    where
      go : (b : Bool) → zero_reply r ≡ b → 0 < cond b 1 0 + count zero_reply rs → (0 < count zero_reply rs → 0 < count zeros_told (flat_map (λ d. map (λ rest. d ∷ rest) ts) rs))
          → 0 < count zeros_told (map (λ rest. r ∷ rest) ts ++ flat_map (λ d. map (λ rest. d ∷ rest) ts) rs)
      go true is more rest =
          let here : count zeros_told (map (λ rest. r ∷ rest) ts) ≡ count zeros_told ts =
          count-map (λ rest. r ∷ rest) zeros_told ts ∙ ap (λ (b : Bool). count (λ rest. b && zeros_told rest) ts) is in
          omega (arith, count-append zeros_told (map (λ rest. r ∷ rest) ts) (flat_map (λ d. map (λ rest. d ∷ rest) ts) rs), here, some)
      go false is more rest =
          let behind : 0 < count zeros_told (flat_map (λ d. map (λ rest. d ∷ rest) ts) rs) = rest (omega (arith, more)) in
          omega (arith, count-append zeros_told (map (λ rest. r ∷ rest) ts) (flat_map (λ d. map (λ rest. d ∷ rest) ts) rs), behind)

  some_oracle : (rs : List (Reply A)) (n : ℕ) → 0 < count zero_reply rs → 0 < count zeros_told (draws_from rs n)
  some_oracle rs zero some = omega arith
  some_oracle rs (suc n) some = some_fronts (draws_from rs n) (some_oracle rs n some) rs some

  zero_cond : (b : Bool) (xs : List A) → AllZero o xs → AllZero o (cond b [] xs)
  zero_cond true xs z i = refl
  zero_cond false xs z i = z i

  module _ (c : Wiring A) (start : Start A) (code : Question A → ℕ) (valid : IsValid o c) (publics : length start.public ≡ c.publics) (masks : HasZeroMasks o (rows_of o c start)) (unknowing : Encodes o e c start.public (rows_of o c start) → ⊥) (apart : TellsApart c code) where
    abbrev messages : List A
    messages = replicate (params_of c).nsum o.zero

    abbrev zero_answers : Answers A
    zero_answers = record {
      ldt = replicate (params_of c).block o.zero;
      dot = replicate (params_of c).dblock o.zero;
      quad_head = replicate opened_count o.zero;
      quad_tail = replicate ((params_of c).dblock - (params_of c).block) o.zero;
    }

    abbrev run : Run A
    run = record { start = start; messages = messages; answers = zero_answers }

    abbrev rounds_of : ℕ → List Step
    rounds_of l = map (λ n. round l n) (range_with_len 0 (round_count c l))

    -- all steps of the tape
    abbrev steps : List Step
    steps = map (λ l. head l) (range_with_len 0 (depth c + 1)) ++ flat_map rounds_of (range_with_len 0 (depth c))

    in_steps : (s : Step) → IsStep c s → IsIn s steps
    in_steps (head l) is = in_left (head l) (map (λ l. head l) (range_with_len 0 (depth c + 1))) (flat_map rounds_of (range_with_len 0 (depth c))) (in_map (λ l. head l) l (range_with_len 0 (depth c + 1)) (in_range l 0 (depth c + 1) (omega arith) (omega (arith, is))))
    in_steps (round l n) is =
        in_right (round l n) (map (λ l. head l) (range_with_len 0 (depth c + 1))) (flat_map rounds_of (range_with_len 0 (depth c)))
        (in_flat rounds_of (round l n) l (range_with_len 0 (depth c)) (in_range l 0 (depth c) (omega arith) (omega (arith, is.0)))
        (in_map (λ n. round l n) n (range_with_len 0 (round_count c l)) (in_range n 0 (round_count c l) (omega arith) (omega (arith, is.1)))))

    abbrev number : Step → ℕ
    number s = code (asked_at o c code [] start messages s)

    -- what a tape is asked for the run
    abbrev numbers : List ℕ
    numbers = map number steps ++ code (answered start messages zero_answers) ∷ []

    module _ (oracle : List (Reply A)) (told : zeros_told oracle ≡ true) where
      zero_script : AllZero o (script_draws o c code oracle start messages)
      zero_script =
          zeros_map o (λ k. entry o (drawn_by o c code oracle start messages (step_of c (draw_at c k)) (take (sent_before c (step_of c (draw_at c k))) messages)) (place_in c (draw_at c k))) (range_with_len 0 (draw_count c))
          (λ k.
          let s = step_of c (draw_at c k) in
          let q : Question A = sent start s (take (sent_before c s) messages) in
          zero_cond (nat_lt (length (take (sent_before c s) messages)) (sent_before c s)) (reply o c code oracle q).elements (told_zero oracle told (code q)) (place_in c (draw_at c k)))

      zero_draws : AllZero o (all_draws o c code oracle start messages)
      zero_draws =
          let q : Question A = asked_at o c code oracle start messages (head (depth c)) in
          zeros_append o (script_draws o c code oracle start messages) (weights o c code oracle start messages) zero_script
          (zeros_take o (all_weights c) (drop 1 (reply o c code oracle q).elements) (zeros_drop o 1 (reply o c code oracle q).elements (told_zero oracle told (code q))))

      forged : IsForged o e c code oracle (asked no_reply (from_list numbers) oracle (length numbers)) run
      forged = record {
        publics = publics;
        unknowing = unknowing;
        passes = zeros_passed o e laws c (params_bounded o c valid) start.public (rows_of o c start) masks (all_draws o c code oracle start messages) zero_draws
            (columns_for o c code oracle start messages zero_answers);
        steps = λ step is.
            subst (IsIn (code (asked_at o c code oracle start messages step))) (sym (asked_are no_reply oracle numbers))
            (in_left (number step) (map number steps) (code (answered start messages zero_answers) ∷ []) (in_map number step steps (in_steps step is)));
        columns =
            subst (IsIn (code (answered start messages zero_answers))) (sym (asked_are no_reply oracle numbers))
            (in_right (code (answered start messages zero_answers)) (map number steps) (code (answered start messages zero_answers) ∷ []) (inl refl));
      }

    some_zero : 0 < count zero_reply (all_replies e c)
    some_zero =
        let b = params_bounded o c valid in
        let sets = some_sets opened_count (params_of c).mcol (omega (arith, b.mcol, b.block)) in
        let pairs = pairs_with_zeros o e laws (draws_from (all_elements e) (reply_size c)) (column_sets c) (some_draws o e laws (all_elements e) (reply_size c) (zero_is_in o e laws)) in
        omega (arith, sets, pairs, count-replies zero_reply (column_sets c) (draws_from (all_elements e) (reply_size c)))

    pub forgers_win : SomeWin o e c code
    forgers_win = record {
      questions = 1 + added (λ n. n) numbers;
      tries = length numbers;
      ask = from_list numbers;
      wins = zeros_told;
      forger = record {
        valid = valid;
        apart = apart;
        inside = λ before. omega (arith, within numbers (length before));
        only = λ oracle is told. (run, forged oracle told);
      };
      counted = some_oracle (all_replies e c) (1 + added (λ n. n) numbers) some_zero;
    }

-- so of each false statement, with an empty list in the place of a table
pub false_wins : {A : Type 0} (o : Ops A) (e : Coding A) → Laws o e.size e.number e.element e.bytes → ForgersWin o e
false_wins {A} o e laws = λ c public code valid publics wrong apart.
    let start : Start A = record { session = []; public = public; table = [] } in
    forgers_win o e laws c start code valid publics (λ row column h. refl) (false_unknown o e laws c public (rows_of o c start) wrong) apart
