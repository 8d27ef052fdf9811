-- The outputs of the circuit of a compression, for all inputs, bits or not. Where all are 0, the private inputs are
-- bits, each word follows from those before it, and the public inputs are the words of the result.
use Rattle.std.specs.Prelude.{ℕ, ◌+◌, ◌-◌, ◌^◌, List, [], ◌∷◌, ◌++◌, map, None, slice_index}
use Rattle.std.specs.List.{range_with_len, flat_map}
use Rattle.sha2.specs.Sha256.{round_constants}
use Rattle.lzk_field.specs.Ring.{Ops}
use Rattle.lzk_field.specs.Sums.{minus, entry}
use Rattle.lzk_circuit.specs.Wires.{IsFirstNonzero}
use Rattle.lzk_sha_circuit.specs.Words.{worth, ch, maj, big_sigma0, big_sigma1, small_sigma0, small_sigma1}
use Rattle.lzk_sha_circuit.specs.Places.{Places, message_places, w_place, a_place, e_place, f_place, bits_from, schedule_word, a_word, e_word, start_word, last_word, final_word}

module _ {A : Type 0} (o : Ops A) (element : ℕ → A) (given : Places) (input : ℕ → A) where
  -- the word that begins at a place, and 2 ^ 32 times the carry of so many bits behind it
  abbrev pub with_carry : ℕ → ℕ → A
  with_carry place bits =
      o.plus (worth o element 32 (bits_from input place 32))
      (o.times (element (2 ^ 32)) (worth o element bits (bits_from input (place + 32) bits)))

  -- σ1(W t-2) + W t-7 + σ0(W t-15) + W t-16
  abbrev pub next_sum : ℕ → A
  next_sum t =
      let w = schedule_word element given input in
      o.plus (o.plus (o.plus (worth o element 32 (small_sigma1 o element (w (t - 2)))) (worth o element 32 (w (t - 7))))
      (worth o element 32 (small_sigma0 o element (w (t - 15))))) (worth o element 32 (w (t - 16)))

  -- E t-4 + Σ1(E t-1) + Ch(E t-1, E t-2, E t-3) + K t + W t
  abbrev pub first_sum : ℕ → A
  first_sum t =
      let e = e_word element given input in
      o.plus (o.plus (o.plus (o.plus (worth o element 32 (e t)) (worth o element 32 (big_sigma1 o element (e (t + 3)))))
      (worth o element 32 (ch o element (e (t + 3)) (e (t + 2)) (e (t + 1)))))
      (element (slice_index round_constants t))) (worth o element 32 (schedule_word element given input t))

  -- Σ0(A t-1) + Maj(A t-1, A t-2, A t-3)
  abbrev pub second_sum : ℕ → A
  second_sum t =
      let a = a_word element given input in
      o.plus (worth o element 32 (big_sigma0 o element (a (t + 3))))
      (worth o element 32 (maj o element (a (t + 3)) (a (t + 2)) (a (t + 1))))

  -- ---- each output is what a word is to be, less what stands there
  unfoldable pub w_output : ℕ → A
  w_output t = minus o (next_sum t) (with_carry (w_place given t) 2)

  unfoldable pub a_output : ℕ → A
  a_output t = minus o (o.plus (first_sum t) (second_sum t)) (with_carry (a_place given t) 3)

  unfoldable pub e_output : ℕ → A
  e_output t =
      minus o (o.plus (worth o element 32 (a_word element given input t)) (first_sum t))
      (with_carry (e_place given t) 3)

  unfoldable pub f_output : ℕ → A
  f_output i =
      minus o (o.plus (worth o element 32 (start_word element given input i))
      (worth o element 32 (last_word element given input i))) (with_carry (f_place given i) 1)

  unfoldable pub digest_output : List A → ℕ → A
  digest_output public i = minus o (worth o element 32 (final_word element given input i)) (entry o public i)

-- 0 where an input is a bit
abbrev pub bit_output : {A : Type 0} → Ops A → A → A
bit_output o b = minus o (o.times b b) b

-- The outputs, in order: one for each private input, those of W 16 to W 63, for each round that of A and that of E,
-- those of the eight words, and those of the public inputs.
unfoldable pub compression_outputs : {A : Type 0} → Ops A → (ℕ → A) → Places → List A → List A → List A
compression_outputs o element given public private =
    let input = entry o private in
    map (bit_output o) private
    ++ (map (w_output o element given input) (range_with_len 16 48)
    ++ (flat_map (λ t. a_output o element given input t ∷ e_output o element given input t ∷ []) (range_with_len 0 64)
    ++ (map (f_output o element given input) (range_with_len 0 8)
    ++ map (digest_output o element given input public) (range_with_len 0 8))))

-- every output is 0
abbrev pub AreCompressing : {A : Type 0} → Ops A → (ℕ → A) → Places → List A → List A → Type 0
AreCompressing o element given public private =
    IsFirstNonzero o (compression_outputs o element given public private) None

-- ---- the same for the one block of a message of so many bytes
abbrev pub sha_outputs : {A : Type 0} → Ops A → (ℕ → A) → ℕ → List A → List A → List A
sha_outputs o element len public private = compression_outputs o element (message_places len) public private

abbrev pub AreSatisfying : {A : Type 0} → Ops A → (ℕ → A) → ℕ → List A → List A → Type 0
AreSatisfying o element len public private = IsFirstNonzero o (sha_outputs o element len public private) None
