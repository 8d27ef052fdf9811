-- A word of elements that are the bits of a number holds that number, and the functions on words are the standard's on the numbers that they hold.
use Rattle.std.specs.Prelude.{◌≡◌, ℕ, ◌+◌, ◌-◌, ◌*◌, ◌/◌, ◌%◌, ◌^◌, ◌<◌, ◌≤◌, min, if◌then◌else◌, bit_and, bit_xor}
use Rattle.std.specs.Int.{bit_at, bit_not, w32}
use Rattle.std.proofs.Common.{refl, sym, ap, ◌∙◌, arith, zero, suc, inl, inr, mod-eq_of_lt, lt-ltb, le-ltb}
use Rattle.std.proofs.lemmas.Nat.{xor_lt, and_le_l, and_le_r, shr_le}
use Rattle.std.proofs.lemmas.Nat.Bits.{bit_at-lt, bit_at_and, bit_at_not, bit_at_xor, bit_at_above, same_from_bits_below}
use Rattle.std.proofs.lemmas.Bool.{cases_lt}
use Rattle.lzk_field.specs.Ring.{Ops}
use Rattle.sha2.specs.Sha256 as standard
use Rattle.lzk_sha_circuit.specs.Words.{worth, rotated, shifted, three_or, ch, maj, big_sigma0, big_sigma1, small_sigma0, small_sigma1, constant}
use Rattle.lzk_sha_circuit.proofs.Numbered.{Numbered, IsBit}
use Rattle.lzk_sha_circuit.proofs.Gates.{three_or_is, chosen_is, most_is}
use Rattle.lzk_sha_circuit.proofs.BitLaws.{bit_at_shr, turned, turned-lt, bit_at_turned_low, bit_at_turned_high, number_of, number_of-lt, bit_at-number_of, mod_more}

-- the first k entries of the word are the bits of n, which has no more
pub record Held {A : Type 0} (element : ℕ → A) (k : ℕ) (w : ℕ → A) (n : ℕ) : Type 0 where
  pub below : n < 2 ^ k
  pub bits : (i : ℕ) → i < k → w i ≡ element (bit_at n i)

module _ {A : Type 0} (element : ℕ → A) where
  pub held_from_bits : (k : ℕ) (w : ℕ → A) → ((i : ℕ) → IsBit element (w i)) → (n : ℕ) × Held element k w n
  held_from_bits k w h =
      let b = λ (i : ℕ). (h i).0 in
      let small = λ (i : ℕ). (h i).1 in (
        number_of k b,
        record {
          below = number_of-lt k b small;
          bits = λ i lt. (h i).2 ∙ ap element (sym (bit_at-number_of k b small i lt));
        },
      )

  pub held_constant : (k n : ℕ) → n < 2 ^ k → Held element k (constant element n) n
  held_constant k n lt = record { below = lt; bits = λ i l. refl }

  -- another word with the same entries
  pub held_same : (k : ℕ) (w v : ℕ → A) (n : ℕ) → ((i : ℕ) → i < k → v i ≡ w i) → Held element k w n → Held element k v n
  held_same k w v n e h = record { below = h.below; bits = λ i lt. e i lt ∙ h.bits i lt }

  pub held_rotated : (w : ℕ → A) (n k : ℕ) → k ≤ 32 → Held element 32 w n → Held element 32 (rotated k w) (turned 32 n k)
  held_rotated w n k few h = record {
    below = turned-lt 32 n k h.below;
    bits = λ i lt. elim (cases_lt (i + k) 32) [
      | inl less ↦
          let e : (i + k) % 32 ≡ i + k = omega arith in
          ap w e ∙ h.bits (i + k) less ∙ ap element (sym (bit_at_turned_low 32 n k i h.below less))
      | inr more ↦
          let e : (i + k) % 32 ≡ i + k - 32 = omega arith in
          ap w e ∙ h.bits (i + k - 32) (omega arith) ∙ ap element (sym (bit_at_turned_high 32 n k i h.below lt few more))
    ];
  }

module _ {A : Type 0} (o : Ops A) (element : ℕ → A) (size : ℕ) (h : Numbered o element size) where
  pub held_shifted : (w : ℕ → A) (n k : ℕ) → Held element 32 w n → Held element 32 (shifted o element k w) (n / 2 ^ k)
  held_shifted w n k g = record {
    below = omega (arith, shr_le n k, g.below);
    bits = λ i lt. elim (cases_lt (i + k) 32) [
      | inl less ↦ ap (λ t. if t then w (i + k) else element 0) (lt-ltb (i + k) 32 less) ∙ g.bits (i + k) less ∙ ap element (sym (bit_at_shr n k i))
      | inr more ↦ ap (λ t. if t then w (i + k) else element 0) (le-ltb (i + k) 32 more) ∙ ap element (sym (bit_at_shr n k i ∙ bit_at_above n 32 (i + k) g.below more))
    ];
  }

  pub held_three : (x y z : ℕ → A) (a b c : ℕ) → Held element 32 x a → Held element 32 y b → Held element 32 z c
      → Held element 32 (λ i. three_or o element (x i) (y i) (z i)) (bit_xor (bit_xor a b) c)
  held_three x y z a b c ha hb hc = record {
    below = xor_lt 32 (bit_xor a b) c (xor_lt 32 a b ha.below hb.below) hc.below;
    bits = λ i lt.
        three_or_is o element size h (x i) (y i) (z i) (bit_at a i) (bit_at b i) (bit_at c i) (bit_at-lt a i) (bit_at-lt b i) (bit_at-lt c i) (ha.bits i lt) (hb.bits i lt) (hc.bits i lt)
        ∙ ap element (sym (bit_at_xor (bit_xor a b) c i ∙ ap (λ v. (v + bit_at c i) % 2) (bit_at_xor a b i)));
  }

  pub held_big_sigma0 : (w : ℕ → A) (n : ℕ) → Held element 32 w n → Held element 32 (big_sigma0 o element w) (standard.big_sigma0 n)
  held_big_sigma0 w n g = held_three (rotated 2 w) (rotated 13 w) (rotated 22 w) (turned 32 n 2) (turned 32 n 13) (turned 32 n 22) (held_rotated element w n 2 (omega arith) g) (held_rotated element w n 13 (omega arith) g) (held_rotated element w n 22 (omega arith) g)

  pub held_big_sigma1 : (w : ℕ → A) (n : ℕ) → Held element 32 w n → Held element 32 (big_sigma1 o element w) (standard.big_sigma1 n)
  held_big_sigma1 w n g = held_three (rotated 6 w) (rotated 11 w) (rotated 25 w) (turned 32 n 6) (turned 32 n 11) (turned 32 n 25) (held_rotated element w n 6 (omega arith) g) (held_rotated element w n 11 (omega arith) g) (held_rotated element w n 25 (omega arith) g)

  pub held_small_sigma0 : (w : ℕ → A) (n : ℕ) → Held element 32 w n → Held element 32 (small_sigma0 o element w) (standard.small_sigma0 n)
  held_small_sigma0 w n g = held_three (rotated 7 w) (rotated 18 w) (shifted o element 3 w) (turned 32 n 7) (turned 32 n 18) (n / 2 ^ 3) (held_rotated element w n 7 (omega arith) g) (held_rotated element w n 18 (omega arith) g) (held_shifted w n 3 g)

  pub held_small_sigma1 : (w : ℕ → A) (n : ℕ) → Held element 32 w n → Held element 32 (small_sigma1 o element w) (standard.small_sigma1 n)
  held_small_sigma1 w n g = held_three (rotated 17 w) (rotated 19 w) (shifted o element 10 w) (turned 32 n 17) (turned 32 n 19) (n / 2 ^ 10) (held_rotated element w n 17 (omega arith) g) (held_rotated element w n 19 (omega arith) g) (held_shifted w n 10 g)

  pub held_ch : (x y z : ℕ → A) (e f g : ℕ) → Held element 32 x e → Held element 32 y f → Held element 32 z g
      → Held element 32 (ch o element x y z) (standard.ch e f g)
  held_ch x y z e f g he hf hg = record {
    below = xor_lt 32 (bit_and e f) (bit_and (bit_not w32 e) g) (omega (arith, and_le_l e f, he.below)) (omega (arith, and_le_r (bit_not w32 e) g, hg.below));
    bits = λ i lt.
        chosen_is o element size h (x i) (y i) (z i) (bit_at e i) (bit_at f i) (bit_at g i) (bit_at-lt e i) (bit_at-lt f i) (bit_at-lt g i) (he.bits i lt) (hf.bits i lt) (hg.bits i lt)
        ∙ ap element (sym (bit_at_xor (bit_and e f) (bit_and (bit_not w32 e) g) i ∙ (λ j. (bit_at_and e f i j + bit_at_and (bit_not w32 e) g i j) % 2) ∙ ap (λ v. (min (bit_at e i) (bit_at f i) + min v (bit_at g i)) % 2) (bit_at_not w32 e i he.below lt)));
  }

  pub held_maj : (x y z : ℕ → A) (a b c : ℕ) → Held element 32 x a → Held element 32 y b → Held element 32 z c
      → Held element 32 (maj o element x y z) (standard.maj a b c)
  held_maj x y z a b c ha hb hc = record {
    below = xor_lt 32 (bit_xor (bit_and a b) (bit_and a c)) (bit_and b c) (xor_lt 32 (bit_and a b) (bit_and a c) (omega (arith, and_le_l a b, ha.below)) (omega (arith, and_le_l a c, ha.below))) (omega (arith, and_le_l b c, hb.below));
    bits = λ i lt.
        most_is o element size h (x i) (y i) (z i) (bit_at a i) (bit_at b i) (bit_at c i) (bit_at-lt a i) (bit_at-lt b i) (bit_at-lt c i) (ha.bits i lt) (hb.bits i lt) (hc.bits i lt)
        ∙ ap element (sym (bit_at_xor (bit_xor (bit_and a b) (bit_and a c)) (bit_and b c) i ∙ (λ j. (bit_at_xor (bit_and a b) (bit_and a c) i j + bit_at_and b c i j) % 2) ∙ (λ j. ((bit_at_and a b i j + bit_at_and a c i j) % 2 + min (bit_at b i) (bit_at c i)) % 2)));
  }

  worth_part : (k : ℕ) (w : ℕ → A) (n : ℕ) → Held element k w n → (j : ℕ) → j ≤ k → worth o element j w ≡ element (n % 2 ^ j)
  worth_part k w n g zero le = h.zero_is ∙ ap element (none n) where
    none : (n : ℕ) → 0 ≡ n % 1
    none n = omega arith
  worth_part k w n g (suc j) le =
      (λ i. o.plus (worth_part k w n g j (omega arith) i) (o.times (g.bits j (omega arith) i) (element (2 ^ j))))
      ∙ ap (o.plus (element (n % 2 ^ j))) (h.times_is (bit_at n j) (2 ^ j))
      ∙ h.plus_is (n % 2 ^ j) (bit_at n j * 2 ^ j)
      ∙ ap element (mod_more n j)

  -- what the word is worth is the number that it holds
  pub worth_is : (k : ℕ) (w : ℕ → A) (n : ℕ) → Held element k w n → worth o element k w ≡ element n
  worth_is k w n g = worth_part k w n g k (omega arith) ∙ ap element (mod-eq_of_lt g.below)

  -- a word holds one number
  pub held_one : (k : ℕ) (w : ℕ → A) (m n : ℕ) → 2 ≤ size → Held element k w m → Held element k w n → m ≡ n
  held_one k w m n big hm hn =
      same_from_bits_below k m n hm.below hn.below (λ i lt.
      let lm = bit_at-lt m i in
      let ln = bit_at-lt n i in
      h.same (bit_at m i) (bit_at n i) (omega (arith, lm)) (omega (arith, ln)) (sym (hm.bits i lt) ∙ hn.bits i lt))
