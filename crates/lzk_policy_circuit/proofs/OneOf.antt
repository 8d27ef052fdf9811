-- What is asserted of a field that is one of some texts, and what is shown of it.
use Rattle.std.proofs.Common.{◌≡◌, ℕ, ◌+◌, ◌*◌, ◌^◌, ◌<◌, ◌≤◌, List, [], ◌∷◌, ◌++◌, length, take, drop, map, zero, suc, refl, sym, ap, subst, ◌∙◌, arith, inl, inr, ext_get_or, get_or-take, length-drop}
use Rattle.std.specs.Prelude.{IsTrue, Contains, slice_index, slice_index_or, Bool, true, false, nat_le, nat_lt, ◌&&◌}
use Rattle.std.specs.List.{list_all}
use Rattle.std.proofs.lemmas.Bool.{cases_lt, leb-true, ltb-true, lt-ltb}
use Rattle.std.proofs.lemmas.List.{get_or-drop, length-take-le, map-append, take_more}
use Rattle.std.proofs.Math.Nat.{pow-le-pow_right}
use Rattle.lzk_goldilocks.specs.Prime.{p}
use Rattle.lzk_goldilocks.specs.Elements.{of_number}
use Rattle.lzk_goldilocks.specs.declared.element.Gold.{Gold}
use Rattle.lzk_gadgets.specs.Inverses.{IsAmong}
use Rattle.lzk_sha_circuit.specs.Digest.{AreBytes}
use Rattle.lzk_sha_circuit.proofs.Numbered.{gold_numbered}
use Rattle.lzk_policy.specs.Lines.{number_at}
use Rattle.lzk_policy.specs.Policies.{are_texts_of}
use Rattle.lzk_policy_circuit.specs.Squares.{IsAtText}
use Rattle.lzk_policy_circuit.specs.Met.{byte_worth, byte_worths, number_worth, text_element, IsOneOf, IsOneOfBy}
use Rattle.lzk_policy_circuit.proofs.Bytes.{AreBitsOf, byte_is, number_is, number_below}
use Rattle.lzk_policy_circuit.proofs.Squares.{both_true, text_long, text_small, first_text, distance_forward, distance_backward}

-- ---- bytes

bytes_small : (bs : List ℕ) → AreBytes bs → IsTrue (list_all (λ b. nat_lt b 256) bs)
bytes_small [] h = refl
bytes_small (b ∷ bs) h = join (nat_lt b 256) (list_all (λ c. nat_lt c 256) bs) (lt-ltb b 256 (h 0 (omega arith))) (bytes_small bs (λ k l. h (suc k) (omega (arith, l)))) where
  join : (x y : Bool) → x ≡ true → IsTrue y → IsTrue (x && y)
  join true y e h = h
  join false y e h = absurd cc

small_bytes : (bs : List ℕ) → IsTrue (list_all (λ b. nat_lt b 256) bs) → AreBytes bs
small_bytes [] h k l = absurd (omega (arith, l))
small_bytes (b ∷ bs) h zero l = ltb-true b 256 (both_true (nat_lt b 256) (list_all (λ c. nat_lt c 256) bs) h).0
small_bytes (b ∷ bs) h (suc k) l = small_bytes bs (both_true (nat_lt b 256) (list_all (λ c. nat_lt c 256) bs) h).1 k (omega (arith, l))

-- bytes with one number are the same
last_same : (a b x y : ℕ) → x < 256 → y < 256 → 256 * a + x ≡ 256 * b + y → (a ≡ b) × (x ≡ y)
last_same a b x y lx ly e = (omega (arith, lx, ly, e), omega (arith, lx, ly, e))

number_same : (v w : List ℕ) (n : ℕ) → AreBytes v → AreBytes w → n ≤ length v → n ≤ length w → number_at v 0 n ≡ number_at w 0 n → (k : ℕ) → k < n → slice_index v k ≡ slice_index w k
number_same v w zero bv bw lv lw e k l = absurd (omega (arith, l))
number_same v w (suc n) bv bw lv lw e k l =
    let r = last_same (number_at v 0 n) (number_at w 0 n) (slice_index v (0 + n)) (slice_index w (0 + n)) (bv (0 + n) (omega (arith, lv))) (bw (0 + n) (omega (arith, lw))) e in
    elim (cases_lt k n) [
      | inl less ↦ number_same v w n bv bw (omega (arith, lv)) (omega (arith, lw)) r.0 k less
      | inr more ↦ let is : k ≡ 0 + n = omega (arith, l, more) in ap (slice_index v) is ∙ r.1 ∙ ap (slice_index w) (sym is)
    ]

same_number : (v w : List ℕ) (n : ℕ) → AreBytes v → AreBytes w → length v ≡ n → length w ≡ n → number_at v 0 n ≡ number_at w 0 n → v ≡ w
same_number v w n bv bw lv lw e =
    ext_get_or 0 v w (lv ∙ sym lw) (λ k l. number_same v w n bv bw (omega (arith, lv)) (omega (arith, lw)) e k (omega (arith, l, lv)))

small_number : (v : List ℕ) → AreBytes v → length v ≤ 7 → number_at v 0 (length v) < p
small_number v b few =
    let below = number_below v 0 (length v) b (omega arith) in
    let most : 256 ^ length v ≤ 256 ^ 7 = pow-le-pow_right (omega arith) few in
    omega (arith, below, most)

-- ---- short texts

module _ (v : List ℕ) (bytes : AreBytes v) where
  among_forward : (texts : List (List ℕ)) → IsTrue (are_texts_of (length v) texts) → length v ≤ 7 → IsAmong (of_number (number_at v 0 (length v))) (map text_element texts) → Contains texts v
  among_forward [] w few a = absurd a
  among_forward (t ∷ ts) w few a =
      let first = first_text (length v) t ts w in
      let long : length t ≡ length v = text_long (length v) t first.0 in
      let own : AreBytes t = small_bytes t (text_small (length v) t first.0) in
      elim a [
        | inl e ↦
            let number : number_at v 0 (length v) ≡ number_at t 0 (length t) =
            gold_numbered.same (number_at v 0 (length v)) (number_at t 0 (length t)) (small_number v bytes few) (small_number t own (omega (arith, long, few))) e in
            (0, omega arith, same_number t v (length v) own bytes long refl (sym (number ∙ ap (number_at t 0) long)))
        | inr later ↦ let r = among_forward ts first.1 few later in (suc r.0, omega (arith, r.1), r.2)
      ]

  among_at : (texts : List (List ℕ)) (i : ℕ) → i < length texts → slice_index_or texts i v ≡ v → IsAmong (of_number (number_at v 0 (length v))) (map text_element texts)
  among_at [] i l e = absurd (omega (arith, l))
  among_at (t ∷ ts) zero l e = inl (ap text_element (sym e))
  among_at (t ∷ ts) (suc i) l e = inr (among_at ts i (omega (arith, l)) e)

  -- ---- long texts

  at_forward : (texts : List (List ℕ)) → IsTrue (are_texts_of (length v) texts) → length v ≤ 119 → IsAtText (map of_number v) texts → Contains texts v
  at_forward [] w few a = absurd a
  at_forward (t ∷ ts) w few a =
      let first = first_text (length v) t ts w in
      elim a [
        | inl none ↦ (0, omega arith, distance_forward v t (bytes_small v bytes) (text_small (length v) t first.0) (text_long (length v) t first.0) few none)
        | inr later ↦ let r = at_forward ts first.1 few later in (suc r.0, omega (arith, r.1), r.2)
      ]

  at_text : (texts : List (List ℕ)) (i : ℕ) → i < length texts → slice_index_or texts i v ≡ v → IsAtText (map of_number v) texts
  at_text [] i l e = absurd (omega (arith, l))
  at_text (t ∷ ts) zero l e = inl (distance_backward v t e)
  at_text (t ∷ ts) (suc i) l e = inr (at_text ts i (omega (arith, l)) e)

-- ---- a field

module _ (m : List ℕ) (bytes : AreBytes m) (place n : ℕ) (within : place + n ≤ length m) where
  part : List ℕ
  part = take n (drop place m)

  part_long : length part ≡ n
  unfolding part
  part_long = length-take-le n (drop place m) (omega (arith, length-drop place m, within))

  part_at : (k : ℕ) → k < n → slice_index part k ≡ slice_index m (place + k)
  unfolding part
  part_at k l = get_or-take n (drop place m) k 0 l ∙ get_or-drop place m k 0

  part_bytes : AreBytes part
  part_bytes k l =
      let inside : k < n = omega (arith, l, part_long) in
      subst (λ (b : ℕ). b < 256) (sym (part_at k inside)) (bytes (place + k) (omega (arith, inside, within)))

  part_number : (k : ℕ) → k ≤ n → number_at part 0 k ≡ number_at m place k
  part_number zero l = refl
  part_number (suc k) l =
      let there : 0 + k ≡ k = omega arith in
      (λ i. 256 * part_number k (omega (arith, l)) i + (ap (slice_index part) there ∙ part_at k (omega (arith, l))) i)

  module _ (bits : List Gold) (h : AreBitsOf bits 0 m) where
    number_of_part : number_worth bits (8 * place) n ≡ of_number (number_at part 0 (length part))
    number_of_part =
        let zero_at : 8 * place ≡ 0 + 8 * place = omega arith in
        ap (λ a. number_worth bits a n) zero_at ∙ number_is bits 0 m h bytes place n within ∙ ap of_number (sym (part_number n (omega arith)) ∙ ap (number_at part 0) (sym part_long))

    worths_are : (k : ℕ) → k ≤ n → byte_worths bits (8 * place) k ≡ map of_number (take k (drop place m))
    worths_are zero l = refl
    worths_are (suc k) l =
        let at : 8 * place + 8 * k ≡ 0 + 8 * (place + k) = omega arith in
        let more : suc k ≡ k + 1 = omega arith in
        let inside : k < length (drop place m) = omega (arith, length-drop place m, within, l) in
        let last : byte_worth bits (8 * place + 8 * k) ≡ of_number (slice_index (drop place m) k) =
        ap (byte_worth bits) at ∙ byte_is bits 0 m h bytes (place + k) (omega (arith, within, l)) ∙ ap of_number (sym (get_or-drop place m k 0)) in
        (λ i. worths_are k (omega (arith, l)) i ++ last i ∷ [])
        ∙ sym (map-append of_number (take k (drop place m)) (slice_index (drop place m) k ∷ []))
        ∙ ap (map of_number) (sym (ap (λ j. take j (drop place m)) more ∙ take_more (drop place m) k 0 inside))

    bytes_of_part : byte_worths bits (8 * place) n ≡ map of_number part
    unfolding part
    bytes_of_part = worths_are n (omega arith)

    module _ (texts : List (List ℕ)) where
      by_forward : (b : Bool) → nat_le n 7 ≡ b → n ≤ 119 → IsTrue (are_texts_of n texts) → IsOneOfBy b bits (8 * place) n texts → Contains texts part
      by_forward true e few w a =
          among_forward part part_bytes texts (subst (λ (k : ℕ). IsTrue (are_texts_of k texts)) (sym part_long) w) (omega (arith, part_long, leb-true n 7 e))
          (subst (λ (x : Gold). IsAmong x (map text_element texts)) number_of_part a)
      by_forward false e few w a =
          at_forward part part_bytes texts (subst (λ (k : ℕ). IsTrue (are_texts_of k texts)) (sym part_long) w) (omega (arith, part_long, few))
          (subst (λ (xs : List Gold). IsAtText xs texts) bytes_of_part a)

      by_backward : (b : Bool) → Contains texts part → IsOneOfBy b bits (8 * place) n texts
      by_backward true c = subst (λ (x : Gold). IsAmong x (map text_element texts)) (sym number_of_part) (among_at part part_bytes texts c.0 c.1 c.2)
      by_backward false c = subst (λ (xs : List Gold). IsAtText xs texts) (sym bytes_of_part) (at_text part part_bytes texts c.0 c.1 c.2)

      pub one_of_forward : n ≤ 119 → IsTrue (are_texts_of n texts) → IsOneOf bits (8 * place) n texts → Contains texts (take n (drop place m))
      unfolding part
      one_of_forward few w a = by_forward (nat_le n 7) refl few w a

      pub one_of_backward : Contains texts (take n (drop place m)) → IsOneOf bits (8 * place) n texts
      unfolding part
      one_of_backward c = by_backward (nat_le n 7) c
