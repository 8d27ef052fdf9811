-- Rounds by the elements that they send are those of the script.
use Rattle.std.specs.Prelude.{◌≡◌, ℕ, ◌<◌, ◌+◌, ◌*◌, List, ◌∷◌, length, map, drop, true, false}
use Rattle.std.specs.List.{range_with_len}
use Rattle.std.proofs.Common.{zero, suc, refl, sym, ap, ◌∙◌, arith}
use Rattle.std.proofs.lemmas.List.{get_or-drop}
use Rattle.std.proofs.lemmas.List.FromFn.{get_or-map-range_with_len, length-map-range_with_len}
use Rattle.lzk_field.specs.Coding.{Coding}
use Rattle.lzk_field.specs.Ring.{Ops}
use Rattle.lzk_field.specs.Sums.{entry}
use Rattle.lzk_transcript.specs.Tape.{TapeState, drawn, after_draw}
use Rattle.lzk_sumcheck.specs.Draws.{with_element}
use Rattle.lzk_sumcheck.specs.Rounds.{every_other, of_a, of_b}
use Rattle.lzk_sumcheck.specs.Script.{with_pair, after_rounds, round_challenge}
use Rattle.lzk_sumcheck.specs.Sending.{after_sent, drawn_sent}
use Rattle.lzk_sumcheck.proofs.Filled.{filled_whole}
use Rattle.lzk_sumcheck.proofs.PointLaws.{part-at, part-length}

-- the values of a function from the next number on
map-next : {A : Type 0} (f g : ℕ → A) (a n : ℕ) → ((k : ℕ) → g k ≡ f (suc k)) → map g (range_with_len a n) ≡ map f (range_with_len (a + 1) n)
map-next f g a zero e = refl
map-next f g a (suc n) e =
    let z : suc a ≡ a + 1 = omega arith in
    ap (λ x. x ∷ map g (range_with_len (a + 1) n)) (e a ∙ ap f z) ∙ ap (λ ys. f (a + 1) ∷ ys) (map-next f g (a + 1) n e)

module _ {A : Type 0} (o : Ops A) (e : Coding A) (sent : List A) where
  -- the first round, and the others behind it
  rounds-first : (i n : ℕ) (t : TapeState) → after_rounds o e sent i (suc n) t ≡ after_rounds o e sent (i + 2) n (after_draw (with_pair o e sent i t))
  unfolding after_rounds
  rounds-first i zero t = let z : i + 2 * 0 ≡ i = omega arith in ap (λ k. after_draw (with_pair o e sent k t)) z
  rounds-first i (suc n) t =
      let z : i + 2 * suc n ≡ i + 2 + 2 * n = omega arith in
      ap (λ k. after_draw (with_pair o e sent k (after_rounds o e sent i (suc n) t))) z
      ∙ ap (λ s. after_draw (with_pair o e sent (i + 2 + 2 * n) s)) (rounds-first i n t)

  challenge-next : (i n : ℕ) (t : TapeState) → round_challenge o e sent (i + 2) (after_draw (with_pair o e sent i t)) n ≡ round_challenge o e sent i t (suc n)
  unfolding round_challenge
  challenge-next i n t =
      let z : i + 2 * suc n ≡ i + 2 + 2 * n = omega arith in
      sym (ap (λ k. e.element (drawn (with_pair o e sent k (after_rounds o e sent i (suc n) t)))) z
      ∙ ap (λ s. e.element (drawn (with_pair o e sent (i + 2 + 2 * n) s))) (rounds-first i n t))

  rounds-none : (i : ℕ) (t : TapeState) → after_rounds o e sent i 0 t ≡ t
  unfolding after_rounds
  rounds-none i t = refl

  challenge-first : (i : ℕ) (t : TapeState) → e.element (drawn (with_pair o e sent i t)) ≡ round_challenge o e sent i t 0
  unfolding round_challenge
  challenge-first i t =
      let z : i ≡ i + 2 * 0 = omega arith in
      ap (λ k. e.element (drawn (with_pair o e sent k t))) z ∙ ap (λ s. e.element (drawn (with_pair o e sent (i + 2 * 0) s))) (sym (rounds-none i t))

  -- a list has the elements from place i on
  abbrev StandsAt : ℕ → ℕ → List A → Type 0
  StandsAt n i own = (k : ℕ) → k < n → entry o own k ≡ entry o sent (i + k)

  pair-stands : (n i : ℕ) (own : List A) (t : TapeState) → StandsAt (2 * suc n) i own → with_pair o e own 0 t ≡ with_pair o e sent i t
  pair-stands n i own t same =
      let z : i + 0 ≡ i = omega arith in
      ap (λ x. with_element e (entry o own 1) (with_element e x t)) (same 0 (omega arith) ∙ ap (entry o sent) z)
      ∙ ap (λ y. with_element e y (with_element e (entry o sent i) t)) (same 1 (omega arith))

  rest-stands : (n i : ℕ) (own : List A) → StandsAt (2 * suc n) i own → StandsAt (2 * n) (i + 2) (drop 2 own)
  rest-stands n i own same k h =
      let z : i + (2 + k) ≡ i + 2 + k = omega arith in
      get_or-drop 2 own k o.zero ∙ same (2 + k) (omega arith) ∙ ap (entry o sent) z

  after-stands : (n i : ℕ) (own : List A) (t : TapeState) → StandsAt (2 * n) i own → after_sent o e own n t ≡ after_rounds o e sent i n t
  after-stands zero i own t same = sym (rounds-none i t)
  after-stands (suc n) i own t same =
      ap (λ s. after_sent o e (drop 2 own) n (after_draw s)) (pair-stands n i own t same)
      ∙ after-stands n (i + 2) (drop 2 own) (after_draw (with_pair o e sent i t)) (rest-stands n i own same)
      ∙ sym (rounds-first i n t)

  drawn-stands : (n i : ℕ) (own : List A) (t : TapeState) → StandsAt (2 * n) i own → drawn_sent o e own n t ≡ map (round_challenge o e sent i t) (range_with_len 0 n)
  drawn-stands zero i own t same = refl
  drawn-stands (suc n) i own t same =
      let s = after_draw (with_pair o e sent i t) in
      let f = round_challenge o e sent i t in
      let x = e.element (drawn (with_pair o e sent i t)) in
      ap (λ p. e.element (drawn p) ∷ drawn_sent o e (drop 2 own) n (after_draw p)) (pair-stands n i own t same)
      ∙ ap (λ cs. x ∷ cs) (drawn-stands n (i + 2) (drop 2 own) s (rest-stands n i own same) ∙ map-next f (round_challenge o e sent (i + 2) s) 0 n (λ k. challenge-next i k t))
      ∙ ap (λ y. y ∷ map f (range_with_len (0 + 1) n)) (challenge-first i t)

  -- of the list itself
  pub after-is : (n : ℕ) (t : TapeState) → after_sent o e sent n t ≡ after_rounds o e sent 0 n t
  after-is n t = after-stands n 0 sent t (λ k h. let z : k ≡ 0 + k = omega arith in ap (entry o sent) z)

  pub drawn-is : (n : ℕ) (t : TapeState) → drawn_sent o e sent n t ≡ map (round_challenge o e sent 0 t) (range_with_len 0 n)
  drawn-is n t = drawn-stands n 0 sent t (λ k h. let z : k ≡ 0 + k = omega arith in ap (entry o sent) z)

-- as many challenges as rounds
pub length-drawn : {A : Type 0} (o : Ops A) (e : Coding A) (sent : List A) (n : ℕ) (t : TapeState) → length (drawn_sent o e sent n t) ≡ n
length-drawn o e sent zero t = refl
length-drawn o e sent (suc n) t = ap suc (length-drawn o e (drop 2 sent) n (after_draw (with_pair o e sent 0 t)))

module _ {A : Type 0} (o : Ops A) where
  -- every second value of a function
  pub evens : (f : ℕ → A) (k : ℕ) → of_a (map f (range_with_len 0 (2 * k))) ≡ map (λ j. f (2 * j)) (range_with_len 0 k)
  evens f k =
      let xs = map f (range_with_len 0 (2 * k)) in
      filled_whole o.zero (λ j. f (2 * j)) k (every_other true xs) (part-length o true xs k (length-map-range_with_len f 0 (2 * k)))
      (λ j h. part-at o true xs j ∙ get_or-map-range_with_len f 0 (2 * k) (2 * j) (2 * j) o.zero (omega (arith, h)) (omega arith))

  pub odds : (f : ℕ → A) (k : ℕ) → of_b (map f (range_with_len 0 (2 * k))) ≡ map (λ j. f (2 * j + 1)) (range_with_len 0 k)
  odds f k =
      let xs = map f (range_with_len 0 (2 * k)) in
      filled_whole o.zero (λ j. f (2 * j + 1)) k (every_other false xs) (part-length o false xs k (length-map-range_with_len f 0 (2 * k)))
      (λ j h. part-at o false xs j ∙ get_or-map-range_with_len f 0 (2 * k) (2 * j + 1) (2 * j + 1) o.zero (omega (arith, h)) (omega arith))
