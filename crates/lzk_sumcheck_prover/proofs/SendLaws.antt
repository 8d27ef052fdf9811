-- Rounds that are sent, one in front of the others.
use Rattle.std.specs.Prelude.{◌≡◌, ℕ, ◌<◌, ◌≤◌, ◌+◌, ◌*◌, ◌-◌, ◌^◌, List, [], ◌∷◌, ◌++◌, length, drop, take, map, None, true}
use Rattle.std.specs.List.{range_with_len}
use Rattle.std.proofs.Common.{zero, suc, sym, ap, ◌∙◌, arith, subst}
use Rattle.std.proofs.lemmas.List.{get_or_append_left, get_or-append_right, get_or-drop, length-drop, take_all}
use Rattle.lzk_field.specs.Coding.{Coding}
use Rattle.lzk_field.specs.Ring.{Ops, RingLaws}
use Rattle.lzk_field.specs.Sums.{entry, minus, sum_below}
use Rattle.lzk_transcript.specs.Tape.{TapeState, drawn, after_draw}
use Rattle.lzk_mle.specs.Multilinear.{tilde}
use Rattle.lzk_mle.proofs.TableLaws.{extension-one}
use Rattle.lzk_circuit.specs.declared.layer.Term.{Term}
use Rattle.lzk_circuit.specs.Valid.{ArePlaced}
use Rattle.lzk_circuit.specs.Wires.{weighed}
use Rattle.lzk_sumcheck_rounds.specs.Pairs.{first_pair, spread}
use Rattle.lzk_sumcheck_rounds.specs.Rows.{IsKept, counted}
use Rattle.lzk_sumcheck_rounds.specs.Tables.{KeptTables, AreKept}
use Rattle.lzk_sumcheck_rounds.proofs.KeptLaws.{first-kept}
use Rattle.lzk_sumcheck_rounds.proofs.LayerSends.{drawn-front}
use Rattle.lzk_sumcheck.specs.Layers.{layer_of_terms}
use Rattle.lzk_sumcheck.specs.Script.{with_pair, round_challenge}
use Rattle.lzk_sumcheck.specs.Sending.{after_sent, drawn_sent, AreSent}
use Rattle.lzk_sumcheck.specs.States.{State, bind_state, after, total}
use Rattle.lzk_sumcheck.proofs.SentLaws.{drawn-is}
use Rattle.lzk_sumcheck.proofs.SumcheckLaws.{state_of}

module _ {A : Type 0} (o : Ops A) (e : Coding A) where
  -- the challenges behind a first pair
  pub drawn-step : (now later : List A) (m n : ℕ) (t s : TapeState) (x : A) → length now ≡ 2 → m ≡ suc n → x ≡ e.element (drawn (with_pair o e now 0 t)) → s ≡ after_draw (with_pair o e now 0 t)
      → drawn_sent o e (now ++ later) m t ≡ x ∷ drawn_sent o e later n s
  drawn-step [] later m n t s x two is ex es = absurd (omega arith)
  drawn-step (a ∷ []) later m n t s x two is ex es = absurd (omega arith)
  drawn-step (a ∷ b ∷ c ∷ now) later m n t s x two is ex es = absurd (omega arith)
  drawn-step (a ∷ b ∷ []) later m n t s x two is ex es =
      ap (λ k. drawn_sent o e (a ∷ b ∷ later) k t) is ∙ ap (λ y. y ∷ drawn_sent o e later n (after_draw (with_pair o e (a ∷ b ∷ []) 0 t))) (sym ex) ∙ ap (λ y. x ∷ drawn_sent o e later n y) (sym es)

  -- the tape behind it
  pub after-step : (now later : List A) (m n : ℕ) (t s : TapeState) → length now ≡ 2 → m ≡ suc n → s ≡ after_draw (with_pair o e now 0 t)
      → after_sent o e (now ++ later) m t ≡ after_sent o e later n s
  after-step [] later m n t s two is es = absurd (omega arith)
  after-step (a ∷ []) later m n t s two is es = absurd (omega arith)
  after-step (a ∷ b ∷ c ∷ now) later m n t s two is es = absurd (omega arith)
  after-step (a ∷ b ∷ []) later m n t s two is es = ap (λ k. after_sent o e (a ∷ b ∷ later) k t) is ∙ ap (after_sent o e later n) (sym es)

  -- the challenges of a layer's rounds, which stand in front of its factors
  pub all-drawn : (rounds factors : List A) (n k : ℕ) (t : TapeState) → n ≡ 2 * k → length rounds ≡ 2 * (2 * k)
      → drawn_sent o e rounds n t ≡ map (round_challenge o e (rounds ++ factors) 0 t) (range_with_len 0 (2 * k))
  all-drawn rounds factors n k t both size =
      ap (λ v. drawn_sent o e rounds v t) both ∙ sym (drawn-front o e rounds factors (2 * k) t size) ∙ drawn-is o e (rounds ++ factors) (2 * k) t

module _ {A : Type 0} (o : Ops A) where
  -- one of the two elements of each round
  sent-places : (f : ℕ → A) (now later pads : List A) (k n : ℕ) → length now ≡ 2 → k < 2 → entry o now k ≡ minus o (f 0) (entry o pads k)
      → ((i : ℕ) → i < n → entry o later (2 * i + k) ≡ minus o (f (suc i)) (entry o (drop 2 pads) (2 * i + k)))
      → (i : ℕ) → i < suc n → entry o (now ++ later) (2 * i + k) ≡ minus o (f i) (entry o pads (2 * i + k))
  sent-places f now later pads k n two lk here rest zero l =
      let z : 0 + k ≡ k = omega arith in
      subst (λ j. entry o (now ++ later) j ≡ minus o (f 0) (entry o pads j)) (sym z) (get_or_append_left now later o.zero k (omega arith) ∙ here)
  sent-places f now later pads k n two lk here rest (suc i) l =
      let z : 2 * suc i + k - 2 ≡ 2 * i + k = omega arith in
      let y : 2 + (2 * i + k) ≡ 2 * suc i + k = omega arith in
      get_or-append_right now later 2 (2 * suc i + k) o.zero two (omega arith) ∙ ap (entry o later) z ∙ rest i (omega arith)
      ∙ ap (minus o (f (suc i))) (get_or-drop 2 pads (2 * i + k) o.zero ∙ ap (entry o pads) y)

  pub sent-step : (point : ℕ → A) (st : State A) (x : A) (cs all pads now later : List A) (m n : ℕ) → length now ≡ 2 → m ≡ suc n → all ≡ x ∷ cs
      → entry o now 0 ≡ minus o (total o (bind_state o (point 0) st)) (entry o pads 0) → entry o now 1 ≡ minus o (total o (bind_state o (point 2) st)) (entry o pads 1)
      → AreSent o point (bind_state o x st) cs (drop 2 pads) later n → AreSent o point st all pads (now ++ later) m
  sent-step point st x cs all pads now later m n two is front here there rest =
      let value : ℕ → ℕ → A = λ p i. total o (bind_state o (point p) (after o (take i (x ∷ cs)) st)) in
      let even : (j : ℕ) → 2 * j + 0 ≡ 2 * j = λ j. omega arith in
      subst (λ ds. AreSent o point st ds pads (now ++ later) m) (sym front)
      (record {
        first = λ i l.
            subst (λ j. entry o (now ++ later) j ≡ minus o (value 0 i) (entry o pads j)) (even i)
            (sent-places (value 0) now later pads 0 n two (omega arith) here
            (λ j q. subst (λ y. entry o later y ≡ minus o (value 0 (suc j)) (entry o (drop 2 pads) y)) (sym (even j)) (rest.first j q)) i (omega arith));
        second = λ i l. sent-places (value 2) now later pads 1 n two (omega arith) there rest.second i (omega arith);
      })

  pub sent-none : (point : ℕ → A) (st : State A) (cs pads sent : List A) (n : ℕ) → n ≡ 0 → AreSent o point st cs pads sent n
  sent-none point st cs pads sent n z = record { first = λ i l. absurd (omega arith); second = λ i l. absurd (omega arith) }

module _ {A : Type 0} (o : Ops A) (r : RingLaws o) where
  -- a table of one entry is its own extension
  pub tilde-one : (table : List A) → length table ≡ 1 → entry o table 0 ≡ tilde o table []
  tilde-one table one = sym (ap (λ n. sum_below o n (λ i. o.times o.one (entry o table i))) one ∙ extension-one o r (entry o table))

  -- so is one that is left of a table with no variables
  pub tilde-last : (table xs : List A) → length xs ≡ 0 → 1 ≤ length table → length table ≤ 2 ^ length xs → entry o table 0 ≡ tilde o table xs
  tilde-last table [] none some fits = tilde-one table (omega (arith, fits))
  tilde-last table (x ∷ xs) none some fits = absurd (omega arith)

  -- the tables that a layer begins with keep its state
  pub begun-kept : (terms : List (Term A)) (beta : A) (weights values : List A) (t : KeptTables A) (k i j : ℕ) → ArePlaced (length weights) (length values) None terms
      → t.of_a ≡ true → t.scale ≡ o.one → ((n : ℕ) → entry o t.first n ≡ entry o values n) → ((n : ℕ) → entry o t.second n ≡ entry o values n)
      → ((a b : ℕ) → counted o t.pairs t.linear a b ≡ spread o (map (first_pair o weights) (weighed o beta terms)) a b)
      → i ≡ k → j ≡ k → AreKept o i j (state_of o (layer_of_terms o terms beta weights values k)) t
  begun-kept terms beta weights values t k i j placed a scale first second sums ei ej =
      let st = state_of o (layer_of_terms o terms beta weights values k) in
      let kept = first-kept o r terms beta weights values t.first t.second t.linear t.pairs k placed first second sums in
      let scaled = subst (λ x. IsKept o k k st true t.pairs x t.linear t.first t.second) (sym scale) kept in
      let begun = subst (λ x. IsKept o k k st x t.pairs t.scale t.linear t.first t.second) (sym a) scaled in
      subst (λ n. AreKept o n j st t) (sym ei) (subst (λ n. AreKept o k n st t) (sym ej) begun)

-- what stands behind the first two, as a slice to the end
pub rest-whole : {X : Type 0} (xs : List X) → take (length xs - 2) (drop 2 xs) ≡ drop 2 xs
rest-whole xs = take_all (length xs - 2) (drop 2 xs) (omega (arith, length-drop 2 xs))
