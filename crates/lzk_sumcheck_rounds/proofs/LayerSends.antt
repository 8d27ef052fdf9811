-- What a layer sends, by its rounds and its factors.
use Rattle.std.specs.Prelude.{◌≡◌, ℕ, ◌<◌, ◌≤◌, ◌+◌, ◌*◌, ◌-◌, List, [], ◌∷◌, ◌++◌, length, map, take, slice_get, slice_index_or, slice_set, Some}
use Rattle.std.specs.List.{range_with_len}
use Rattle.std.proofs.Common.{zero, suc, refl, sym, ap, ◌∙◌, arith, subst}
use Rattle.std.proofs.lemmas.Option.{slice_get_within}
use Rattle.std.proofs.lemmas.List.{same_lists, get_or_append_left, get_or-append_right, get_or-map, get_or-take, get_or-set_same, get_or-set_other, length-map, length-set}
use Rattle.std.proofs.lemmas.List.FromFn.{get_or-map-range_with_len, length-map-range_with_len}
use Rattle.lzk_field.specs.Coding.{Coding}
use Rattle.lzk_field.specs.Ring.{Ops, RingLaws}
use Rattle.lzk_field.specs.Sums.{entry, minus}
use Rattle.lzk_transcript.specs.Tape.{TapeState, drawn, after_draw}
use Rattle.lzk_mle.specs.Multilinear.{tilde}
use Rattle.lzk_mle.proofs.TableLaws.{extension-same, tilde-is}
use Rattle.lzk_circuit.specs.declared.layer.Term.{Term}
use Rattle.lzk_circuit.specs.Wires.{AreDistinct}
use Rattle.lzk_sumcheck_rounds.specs.declared.pairs.Pair.{Pair}
use Rattle.lzk_sumcheck.specs.Draws.{with_element}
use Rattle.lzk_sumcheck.specs.Rounds.{Layered, round, IsFitting}
use Rattle.lzk_sumcheck.specs.Script.{with_pair}
use Rattle.lzk_sumcheck.specs.Sending.{after_sent, drawn_sent, AreSent, AreRoundsSent}
use Rattle.lzk_sumcheck.proofs.SumcheckLaws.{state_of, round-is}

-- what stands past a list's end
abbrev pub no_pair : {A : Type 0} → Ops A → Pair A
no_pair o = record { a = 0; b = 0; coef = o.zero }

abbrev pub no_term : {A : Type 0} → Ops A → Term A
no_term o = record { g = 0; a = 0; b = 0; coef = o.zero }

-- a list that is mapped place by place
pub mapped : {X Y : Type 0} (f : X → Y) (d : X) (xs : List X) → map (λ k. f (slice_index_or xs k d)) (range_with_len 0 (length xs)) ≡ map f xs
mapped f d xs =
    let n = length xs in
    let g = λ (k : ℕ). f (slice_index_or xs k d) in
    let size = length-map-range_with_len g 0 n in
    same_lists (map g (range_with_len 0 n)) (map f xs) (size ∙ sym (length-map xs f))
    (λ k e h.
    let l : k < n = omega (arith, h, size) in
    get_or-map-range_with_len g 0 n k k e l (omega arith) ∙ sym (get_or-map f xs k d e l))

-- each term's second wire has a value
pub place_below : {A : Type 0} (o : Ops A) (k n : ℕ) (ts : List (Term A)) → AreDistinct o k n ts → (i : ℕ) (t : Term A) → slice_get ts i ≡ Some t → t.b < n
place_below o k n [] h i t e = absurd (let l = slice_get_within [] i t e in omega (arith, l))
place_below o k n (u ∷ ts) h zero t e = subst (λ (x : Term _). x.b < n) (some_is u t e) h.2
  where
    some_is : {X : Type 0} (x y : X) → Some x ≡ Some y → x ≡ y
    some_is x y e = cc
place_below o k n (u ∷ ts) h (suc i) t e = place_below o k n ts h.4 i t e

length_front : {X : Type 0} (i : ℕ) (xs : List X) → length (take i xs) ≤ i
length_front zero xs = omega arith
length_front (suc i) [] = omega arith
length_front (suc i) (x ∷ xs) = omega (arith, length_front i xs)

module _ {A : Type 0} (o : Ops A) (e : Coding A) where
  -- rounds do not read what stands behind their elements
  pub drawn-front : (xs ys : List A) (n : ℕ) (t : TapeState) → length xs ≡ 2 * n → drawn_sent o e (xs ++ ys) n t ≡ drawn_sent o e xs n t
  drawn-front xs ys zero t size = refl
  drawn-front [] ys (suc n) t size = absurd (omega arith)
  drawn-front (a ∷ []) ys (suc n) t size = absurd (omega arith)
  drawn-front (a ∷ b ∷ xs) ys (suc n) t size =
      let s = with_pair o e (a ∷ b ∷ []) 0 t in
      ap (λ cs. e.element (drawn s) ∷ cs) (drawn-front xs ys n (after_draw s) (omega arith))

  pub after-front : (xs ys : List A) (n : ℕ) (t : TapeState) → length xs ≡ 2 * n → after_sent o e (xs ++ ys) n t ≡ after_sent o e xs n t
  after-front xs ys zero t size = refl
  after-front [] ys (suc n) t size = absurd (omega arith)
  after-front (a ∷ []) ys (suc n) t size = absurd (omega arith)
  after-front (a ∷ b ∷ xs) ys (suc n) t size = after-front xs ys n (after_draw (with_pair o e (a ∷ b ∷ []) 0 t)) (omega arith)

  -- a pair that is written behind others
  pub pair-behind : (xs ys : List A) (i : ℕ) (t : TapeState) → length xs ≡ i → with_pair o e (xs ++ ys) i t ≡ with_pair o e ys 0 t
  pair-behind xs ys i t size =
      let none : i - i ≡ 0 = omega arith in
      let one : i + 1 - i ≡ 1 = omega arith in
      let low = get_or-append_right xs ys i i o.zero size (omega arith) ∙ ap (entry o ys) none in
      let high = get_or-append_right xs ys i (i + 1) o.zero size (omega arith) ∙ ap (entry o ys) one in
      ap (λ x. with_element e (entry o (xs ++ ys) (i + 1)) (with_element e x t)) low ∙ ap (λ y. with_element e y (with_element e (entry o ys 0) t)) high

module _ {A : Type 0} (o : Ops A) (r : RingLaws o) where
  -- the rounds' elements by the definition of a round
  pub rounds-sent : (point : ℕ → A) (s : Layered A) (cs pads xs ys : List A) (m n : ℕ) → IsFitting s → n ≡ 2 * s.bits → m ≡ 2 * n → length xs ≡ m
      → AreSent o point (state_of o s) cs (take m pads) xs n → AreRoundsSent o point s cs pads (xs ++ ys)
  rounds-sent point s cs pads xs ys m n fits bits twice size h =
      let value : ℕ → ℕ → A = λ p i. round o s (take i cs) (point p) in
      record {
        first = λ i l.
            get_or_append_left xs ys o.zero (2 * i) (omega (arith, l, bits, twice, size)) ∙ h.first i (omega (arith, l, bits))
            ∙ ap (λ v. minus o v (entry o (take m pads) (2 * i))) (sym (round-is o r s (take i cs) (point 0) fits (omega (arith, l, length_front i cs))))
            ∙ ap (minus o (value 0 i)) (get_or-take m pads (2 * i) o.zero (omega (arith, l, bits, twice)));
        second = λ i l.
            get_or_append_left xs ys o.zero (2 * i + 1) (omega (arith, l, bits, twice, size)) ∙ h.second i (omega (arith, l, bits))
            ∙ ap (λ v. minus o v (entry o (take m pads) (2 * i + 1))) (sym (round-is o r s (take i cs) (point 2) fits (omega (arith, l, length_front i cs))))
            ∙ ap (minus o (value 2 i)) (get_or-take m pads (2 * i + 1) o.zero (omega (arith, l, bits, twice)));
      }

  -- a table with zeros behind the values has their extension
  pub tilde-padded : (table values xs : List A) → length values ≤ length table → ((i : ℕ) → entry o table i ≡ entry o values i) → tilde o table xs ≡ tilde o values xs
  tilde-padded table values xs l same = extension-same o r (length table) (entry o table) (entry o values) xs (λ i h. same i) ∙ sym (tilde-is o r (length table) values xs l)

module _ {A : Type 0} (o : Ops A) where
  -- the two factors behind the rounds
  pub first-behind : (xs fs : List A) (i : ℕ) (a b : A) → length xs ≡ i → length fs ≡ 2 → entry o (xs ++ slice_set (slice_set fs 0 a) 1 b) i ≡ a
  first-behind xs fs i a b size two =
      let none : i - i ≡ 0 = omega arith in
      get_or-append_right xs (slice_set (slice_set fs 0 a) 1 b) i i o.zero size (omega arith) ∙ ap (entry o (slice_set (slice_set fs 0 a) 1 b)) none
      ∙ get_or-set_other (slice_set fs 0 a) 1 0 b o.zero (omega arith) ∙ get_or-set_same fs 0 a o.zero (omega arith)

  pub second-behind : (xs fs : List A) (i : ℕ) (a b : A) → length xs ≡ i → length fs ≡ 2 → entry o (xs ++ slice_set (slice_set fs 0 a) 1 b) (i + 1) ≡ b
  second-behind xs fs i a b size two =
      let one : i + 1 - i ≡ 1 = omega arith in
      get_or-append_right xs (slice_set (slice_set fs 0 a) 1 b) i (i + 1) o.zero size (omega arith) ∙ ap (entry o (slice_set (slice_set fs 0 a) 1 b)) one
      ∙ get_or-set_same (slice_set fs 0 a) 1 b o.zero (omega (arith, length-set fs 0 a))
