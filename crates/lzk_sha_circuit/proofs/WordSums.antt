-- The sums of the outputs stand for the sums of the words' numbers.
use Rattle.std.specs.Prelude.{◌≡◌, ℕ, ◌+◌, ◌-◌, ◌*◌, ◌^◌, ◌<◌, ◌≤◌, List, [], ◌∷◌, Bool, true, false, ◌&&◌, slice_index, nat_lt}
use Rattle.std.proofs.Common.{refl, arith, zero, suc, one-mul, ltb-true}
use Rattle.lzk_field.specs.Ring.{Ops}
use Rattle.sha2.specs.Sha256 as standard
use Rattle.sha2.specs.Sha256.{round_constants, initial_hash_256}
use Rattle.lzk_sha_circuit.specs.Words.{worth, ch, maj, big_sigma0, big_sigma1, small_sigma0, small_sigma1}
use Rattle.lzk_sha_circuit.specs.Places.{Places, schedule_word, a_word, e_word}
use Rattle.lzk_sha_circuit.specs.Outputs.{next_sum, first_sum, second_sum}
use Rattle.lzk_sha_circuit.proofs.Numbered.{Numbered}
use Rattle.lzk_sha_circuit.proofs.Held.{Held, worth_is, held_big_sigma0, held_big_sigma1, held_small_sigma0, held_small_sigma1, held_ch, held_maj}
use Rattle.lzk_sha_circuit.proofs.Valued.{Valued, valued_plus}

-- ---- the same sums of numbers
abbrev pub next_number : (ℕ → ℕ) → ℕ → ℕ
next_number w t = standard.small_sigma1 (w (t - 2)) + w (t - 7) + standard.small_sigma0 (w (t - 15)) + w (t - 16)

abbrev pub first_number : ℕ → ℕ → (ℕ → ℕ) → ℕ → ℕ
first_number k w e t = e t + standard.big_sigma1 (e (t + 3)) + standard.ch (e (t + 3)) (e (t + 2)) (e (t + 1)) + k + w

abbrev pub second_number : (ℕ → ℕ) → ℕ → ℕ
second_number a t = standard.big_sigma0 (a (t + 3)) + standard.maj (a (t + 3)) (a (t + 2)) (a (t + 1))

-- ---- constants are words
abbrev all_below : ℕ → List ℕ → Bool
all_below m [] = true
all_below m (x ∷ xs) = nat_lt x m && all_below m xs

both : (a b : Bool) → a && b ≡ true → (a ≡ true) × (b ≡ true)
both true true e = (refl, refl)
both true false e = absurd (cc)
both false b e = absurd (cc)

entry_below : (m : ℕ) → 0 < m → (xs : List ℕ) → all_below m xs ≡ true → (i : ℕ) → slice_index xs i < m
entry_below m some [] e i = some
entry_below m some (x ∷ xs) e zero = ltb-true x m (both (nat_lt x m) (all_below m xs) e).0
entry_below m some (x ∷ xs) e (suc i) = entry_below m some xs (both (nat_lt x m) (all_below m xs) e).1 i

pub constant_below : (t : ℕ) → slice_index round_constants t < 2 ^ 32
constant_below = entry_below (2 ^ 32) (omega arith) round_constants refl

pub initial_below : (i : ℕ) → slice_index initial_hash_256 i < 2 ^ 32
initial_below = entry_below (2 ^ 32) (omega arith) initial_hash_256 refl

once : (m n : ℕ) → n < m → n < 1 * m
once m n lt = omega (arith, one-mul m)

module _ {A : Type 0} (o : Ops A) (element : ℕ → A) (size : ℕ) (h : Numbered o element size) where
  pub worth_valued : (w : ℕ → A) (n : ℕ) → Held element 32 w n → Valued element (2 ^ 32) 1 (worth o element 32 w) n
  worth_valued w n g = record { is = worth_is o element size h 32 w n g; below = once (2 ^ 32) n g.below }

  pub constant_valued : (n : ℕ) → n < 2 ^ 32 → Valued element (2 ^ 32) 1 (element n) n
  constant_valued n lt = record { is = refl; below = once (2 ^ 32) n lt }

  abbrev plus_of : (i j : ℕ) (x y : A) (a b : ℕ) → Valued element (2 ^ 32) i x a → Valued element (2 ^ 32) j y b → Valued element (2 ^ 32) (i + j) (o.plus x y) (a + b)
  plus_of = valued_plus o element size h (2 ^ 32)

  module _ (given : Places) (input : ℕ → A) where
    pub next_sum_is : (w : ℕ → ℕ) (t : ℕ) → ((s : ℕ) → s < t → Held element 32 (schedule_word element given input s) (w s)) → 16 ≤ t
        → Valued element (2 ^ 32) 4 (next_sum o element given input t) (next_number w t)
    next_sum_is w t held le =
        let v = schedule_word element given input in
        let s1 = worth_valued (small_sigma1 o element (v (t - 2))) (standard.small_sigma1 (w (t - 2))) (held_small_sigma1 o element size h (v (t - 2)) (w (t - 2)) (held (t - 2) (omega arith))) in
        let s7 = worth_valued (v (t - 7)) (w (t - 7)) (held (t - 7) (omega arith)) in
        let s15 = worth_valued (small_sigma0 o element (v (t - 15))) (standard.small_sigma0 (w (t - 15))) (held_small_sigma0 o element size h (v (t - 15)) (w (t - 15)) (held (t - 15) (omega arith))) in
        let s16 = worth_valued (v (t - 16)) (w (t - 16)) (held (t - 16) (omega arith)) in
        plus_of 3 1 _ _ _ _ (plus_of 2 1 _ _ _ _ (plus_of 1 1 _ _ _ _ s1 s7) s15) s16

    pub first_sum_is : (w : ℕ) (e : ℕ → ℕ) (t : ℕ) → Held element 32 (schedule_word element given input t) w → ((s : ℕ) → s < t + 4 → Held element 32 (e_word element given input s) (e s))
        → Valued element (2 ^ 32) 5 (first_sum o element given input t) (first_number (slice_index round_constants t) w e t)
    first_sum_is w e t held_w held =
        let v = e_word element given input in
        let g1 = held (t + 1) (omega arith) in
        let g2 = held (t + 2) (omega arith) in
        let g3 = held (t + 3) (omega arith) in
        let s0 = worth_valued (v t) (e t) (held t (omega arith)) in
        let s1 = worth_valued (big_sigma1 o element (v (t + 3))) (standard.big_sigma1 (e (t + 3))) (held_big_sigma1 o element size h (v (t + 3)) (e (t + 3)) g3) in
        let s2 = worth_valued (ch o element (v (t + 3)) (v (t + 2)) (v (t + 1))) (standard.ch (e (t + 3)) (e (t + 2)) (e (t + 1))) (held_ch o element size h (v (t + 3)) (v (t + 2)) (v (t + 1)) (e (t + 3)) (e (t + 2)) (e (t + 1)) g3 g2 g1) in
        let s3 = constant_valued (slice_index round_constants t) (constant_below t) in
        let s4 = worth_valued (schedule_word element given input t) w held_w in
        plus_of 4 1 _ _ _ _ (plus_of 3 1 _ _ _ _ (plus_of 2 1 _ _ _ _ (plus_of 1 1 _ _ _ _ s0 s1) s2) s3) s4

    pub second_sum_is : (a : ℕ → ℕ) (t : ℕ) → ((s : ℕ) → s < t + 4 → Held element 32 (a_word element given input s) (a s))
        → Valued element (2 ^ 32) 2 (second_sum o element given input t) (second_number a t)
    second_sum_is a t held =
        let v = a_word element given input in
        let g1 = held (t + 1) (omega arith) in
        let g2 = held (t + 2) (omega arith) in
        let g3 = held (t + 3) (omega arith) in
        let s1 = worth_valued (big_sigma0 o element (v (t + 3))) (standard.big_sigma0 (a (t + 3))) (held_big_sigma0 o element size h (v (t + 3)) (a (t + 3)) g3) in
        let s2 = worth_valued (maj o element (v (t + 3)) (v (t + 2)) (v (t + 1))) (standard.maj (a (t + 3)) (a (t + 2)) (a (t + 1))) (held_maj o element size h (v (t + 3)) (v (t + 2)) (v (t + 1)) (a (t + 3)) (a (t + 2)) (a (t + 1)) g3 g2 g1) in
        plus_of 1 1 _ _ _ _ s1 s2
