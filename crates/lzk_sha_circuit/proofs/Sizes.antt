-- How many products the rows of the two layers have.
use Rattle.std.specs.Prelude.{◌≡◌, ℕ, ◌+◌, ◌-◌, ◌*◌, ◌^◌, List, [], ◌∷◌, ◌++◌, length, map, slice_index}
use Rattle.std.specs.List.{range_with_len, flat_map}
use Rattle.std.proofs.Common.{zero, suc, refl, sym, arith, mul-suc, mul-zero, length-append}
use Rattle.lzk_field.specs.Ring.{Ops}
use Rattle.sha2.specs.Sha256.{round_constants}
use Rattle.lzk_sha_circuit.specs.declared.products.Product.{Product}
use Rattle.lzk_sha_circuit.specs.declared.products.Entry.{Entry}
use Rattle.lzk_sha_circuit.specs.declared.entries.Word.{Word}
use Rattle.lzk_sha_circuit.specs.declared.entries.Word.TheVariants.{State, Schedule, A, E}
use Rattle.lzk_sha_circuit.specs.Places.{Places, w_place, a_place, e_place, f_place}
use Rattle.lzk_sha_circuit.specs.Products.{sizes, linear, or_list, chosen_list, most_list, worth_list, or_word_list, ch_word_list, maj_word_list}
use Rattle.lzk_sha_circuit.specs.Layers.{input_count, bits_entry, word_entry, turned_entry, shifted_entry, wire_entry, or_entry, or_place_w, or_place_round, pass_row, pair_rows, schedule_pairs, round_pairs, inner_rows, carry_list, bit_row, w_row, first_list, a_row, e_row, last_word_of, f_row, digest_row, output_rows}
use Rattle.lzk_sha_circuit.proofs.Chunks.{length-range_chunks}

module _ {X : Type 0} where
  sizes-both : (p q : List (List (Product X))) → sizes (p ++ q) ≡ sizes p + sizes q
  sizes-both [] q = omega arith
  sizes-both (x ∷ p) q = omega (arith, sizes-both p q)

  sizes-each : (c : ℕ) (f : ℕ → List (Product X)) → ((t : ℕ) → length (f t) ≡ c) → (n a : ℕ) → sizes (map f (range_with_len a n)) ≡ c * n
  sizes-each c f each zero a = sym (mul-zero c)
  sizes-each c f each (suc n) a = let e = each a in let rest = sizes-each c f each n (a + 1) in let m = mul-suc c n in omega (arith, e, rest, m)

  sizes-two : (c d : ℕ) (f g : ℕ → List (Product X)) → ((t : ℕ) → length (f t) ≡ c) → ((t : ℕ) → length (g t) ≡ d) → (n a : ℕ) → sizes (flat_map (λ t. f t ∷ g t ∷ []) (range_with_len a n)) ≡ (c + d) * n
  sizes-two c d f g each_f each_g zero a = sym (mul-zero (c + d))
  sizes-two c d f g each_f each_g (suc n) a = let e = each_f a in let h = each_g a in let rest = sizes-two c d f g each_f each_g n (a + 1) in let m = mul-suc (c + d) n in omega (arith, e, h, rest, m)

  sizes-chunks : (c : ℕ) (f : ℕ → List (List (Product X))) → ((t : ℕ) → sizes (f t) ≡ c) → (n a : ℕ) → sizes (flat_map f (range_with_len a n)) ≡ c * n
  sizes-chunks c f each zero a = sym (mul-zero c)
  sizes-chunks c f each (suc n) a =
      let e = each a in
      let both = sizes-both (f a) (flat_map f (range_with_len (a + 1) n)) in
      let rest = sizes-chunks c f each n (a + 1) in
      let m = mul-suc c n in
      omega (arith, e, both, rest, m)

module _ {X : Type 0} (o : Ops X) (element : ℕ → X) (given : Places) where
  length-worth : (s : X) (n : ℕ) (w : ℕ → Entry X) → length (worth_list o element s n w) ≡ 1 * n
  unfolding worth_list
  length-worth s n w = length-range_chunks (λ i. linear o (o.times s (element (2 ^ i))) (w i) ∷ []) 1 (λ i. refl) 0 n

  length-or_word : (u z : ℕ → Entry X) → length (or_word_list o element u z) ≡ 96
  unfolding or_word_list
  length-or_word u z = length-range_chunks (λ i. or_list o element (element (2 ^ i)) (u i) (z i)) 3 (λ i. refl) 0 32

  length-ch_word : (e f g : ℕ → Entry X) → length (ch_word_list o element e f g) ≡ 96
  unfolding ch_word_list
  length-ch_word e f g = length-range_chunks (λ i. chosen_list o (element (2 ^ i)) (e i) (f i) (g i)) 3 (λ i. refl) 0 32

  length-maj_word : (x y z u : ℕ → Entry X) → length (maj_word_list o element x y z u) ≡ 64
  unfolding maj_word_list
  length-maj_word x y z u = length-range_chunks (λ i. most_list o (element (2 ^ i)) (x i) (y i) (z i) (u i)) 2 (λ i. refl) 0 32

  length-carry : (place bits : ℕ) → length (carry_list o element place bits) ≡ 32 + bits
  length-carry place bits =
      let p = worth_list o element (o.neg o.one) 32 (bits_entry o place 32) in
      let q = worth_list o element (o.neg (element (2 ^ 32))) bits (bits_entry o (place + 32) bits) in
      let both = length-append p q in
      let lp = length-worth (o.neg o.one) 32 (bits_entry o place 32) in
      let lq = length-worth (o.neg (element (2 ^ 32))) bits (bits_entry o (place + 32) bits) in
      omega (arith, both, lp, lq)

  length-w_row : (t : ℕ) → length (w_row o element given t) ≡ 290
  unfolding w_row
  length-w_row t =
      let l1 = or_word_list o element (or_entry o element given (or_place_w o element t)) (shifted_entry o element given (Schedule (t - 2)) 10) in
      let l7 = worth_list o element o.one 32 (word_entry o element given (Schedule (t - 7))) in
      let l0 = or_word_list o element (or_entry o element given (or_place_w o element t + 32)) (shifted_entry o element given (Schedule (t - 15)) 3) in
      let l16 = worth_list o element o.one 32 (word_entry o element given (Schedule (t - 16))) in
      let lc = carry_list o element (w_place given t) 2 in
      let e1 = length-append l1 (l7 ++ (l0 ++ (l16 ++ lc))) in
      let e2 = length-append l7 (l0 ++ (l16 ++ lc)) in
      let e3 = length-append l0 (l16 ++ lc) in
      let e4 = length-append l16 lc in
      let n1 = length-or_word (or_entry o element given (or_place_w o element t)) (shifted_entry o element given (Schedule (t - 2)) 10) in
      let n7 = length-worth o.one 32 (word_entry o element given (Schedule (t - 7))) in
      let n0 = length-or_word (or_entry o element given (or_place_w o element t + 32)) (shifted_entry o element given (Schedule (t - 15)) 3) in
      let n16 = length-worth o.one 32 (word_entry o element given (Schedule (t - 16))) in
      let nc = length-carry (w_place given t) 2 in
      omega (arith, e1, e2, e3, e4, n1, n7, n0, n16, nc)

  length-first : (t : ℕ) → length (first_list o element given t) ≡ 257
  unfolding first_list
  length-first t =
      let l0 = worth_list o element o.one 32 (word_entry o element given (E t)) in
      let l1 = or_word_list o element (or_entry o element given (or_place_round o element t)) (turned_entry o element given (E (t + 3)) 25) in
      let l2 = ch_word_list o element (word_entry o element given (E (t + 3))) (word_entry o element given (E (t + 2))) (word_entry o element given (E (t + 1))) in
      let l4 = worth_list o element o.one 32 (word_entry o element given (Schedule t)) in
      let p3 : Product X = record { coef = element (slice_index round_constants t); a = 0; b = 0 } in
      let e1 = length-append l0 (l1 ++ (l2 ++ (p3 ∷ l4))) in
      let e2 = length-append l1 (l2 ++ (p3 ∷ l4)) in
      let e3 = length-append l2 (p3 ∷ l4) in
      let n0 = length-worth o.one 32 (word_entry o element given (E t)) in
      let n1 = length-or_word (or_entry o element given (or_place_round o element t)) (turned_entry o element given (E (t + 3)) 25) in
      let n2 = length-ch_word (word_entry o element given (E (t + 3))) (word_entry o element given (E (t + 2))) (word_entry o element given (E (t + 1))) in
      let n4 = length-worth o.one 32 (word_entry o element given (Schedule t)) in
      omega (arith, e1, e2, e3, n0, n1, n2, n4)

  length-a_row : (t : ℕ) → length (a_row o element given t) ≡ 452
  unfolding a_row
  length-a_row t =
      let l0 = first_list o element given t in
      let l1 = or_word_list o element (or_entry o element given (or_place_round o element t + 32)) (turned_entry o element given (A (t + 3)) 22) in
      let l2 = maj_word_list o element (word_entry o element given (A (t + 3))) (word_entry o element given (A (t + 2))) (word_entry o element given (A (t + 1))) (or_entry o element given (or_place_round o element t + 64)) in
      let lc = carry_list o element (a_place given t) 3 in
      let e1 = length-append l0 (l1 ++ (l2 ++ lc)) in
      let e2 = length-append l1 (l2 ++ lc) in
      let e3 = length-append l2 lc in
      let n0 = length-first t in
      let n1 = length-or_word (or_entry o element given (or_place_round o element t + 32)) (turned_entry o element given (A (t + 3)) 22) in
      let n2 = length-maj_word (word_entry o element given (A (t + 3))) (word_entry o element given (A (t + 2))) (word_entry o element given (A (t + 1))) (or_entry o element given (or_place_round o element t + 64)) in
      let nc = length-carry (a_place given t) 3 in
      omega (arith, e1, e2, e3, n0, n1, n2, nc)

  length-e_row : (t : ℕ) → length (e_row o element given t) ≡ 324
  unfolding e_row
  length-e_row t =
      let l0 = worth_list o element o.one 32 (word_entry o element given (A t)) in
      let l1 = first_list o element given t in
      let lc = carry_list o element (e_place given t) 3 in
      let e1 = length-append l0 (l1 ++ lc) in
      let e2 = length-append l1 lc in
      let n0 = length-worth o.one 32 (word_entry o element given (A t)) in
      let n1 = length-first t in
      let nc = length-carry (e_place given t) 3 in
      omega (arith, e1, e2, n0, n1, nc)

  length-f_row : (i : ℕ) → length (f_row o element given i) ≡ 97
  unfolding f_row
  length-f_row i =
      let l0 = worth_list o element o.one 32 (word_entry o element given (State i)) in
      let l1 = worth_list o element o.one 32 (word_entry o element given (last_word_of o element i)) in
      let lc = carry_list o element (f_place given i) 1 in
      let e0 = length-append l0 (l1 ++ lc) in
      let e1 = length-append l1 lc in
      let n0 = length-worth o.one 32 (word_entry o element given (State i)) in
      let n1 = length-worth o.one 32 (word_entry o element given (last_word_of o element i)) in
      let nc = length-carry (f_place given i) 1 in
      omega (arith, e0, e1, n0, n1, nc)

  length-digest_row : (i : ℕ) → length (digest_row o element given i) ≡ 33
  unfolding digest_row
  length-digest_row i =
      let l1 = worth_list o element o.one 32 (bits_entry o (f_place given i) 32) in
      let e1 = length-append l1 (linear o (o.neg o.one) (wire_entry o (1 + i)) ∷ []) in
      let n1 = length-worth o.one 32 (bits_entry o (f_place given i) 32) in
      omega (arith, e1, n1)

  length-bit_row : (j : ℕ) → length (bit_row o j) ≡ 2
  unfolding bit_row
  length-bit_row j = refl

  pub size-output_rows : sizes (output_rows o element given) ≡ 2 * (given.inputs + 6376) + (290 * 48 + (776 * 64 + (97 * 8 + 33 * 8)))
  unfolding output_rows
  size-output_rows =
      let p0 = map (bit_row o) (range_with_len 0 (given.inputs + 6376)) in
      let p1 = map (w_row o element given) (range_with_len 16 48) in
      let p2 = flat_map (λ t. a_row o element given t ∷ e_row o element given t ∷ []) (range_with_len 0 64) in
      let p3 = map (f_row o element given) (range_with_len 0 8) in
      let p4 = map (digest_row o element given) (range_with_len 0 8) in
      let e0 = sizes-both p0 (p1 ++ (p2 ++ (p3 ++ p4))) in
      let e1 = sizes-both p1 (p2 ++ (p3 ++ p4)) in
      let e2 = sizes-both p2 (p3 ++ p4) in
      let e3 = sizes-both p3 p4 in
      let s0 = sizes-each 2 (bit_row o) length-bit_row (given.inputs + 6376) 0 in
      let s1 = sizes-each 290 (w_row o element given) length-w_row 48 16 in
      let s2 = sizes-two 452 324 (a_row o element given) (e_row o element given) length-a_row length-e_row 64 0 in
      let s3 = sizes-each 97 (f_row o element given) length-f_row 8 0 in
      let s4 = sizes-each 33 (digest_row o element given) length-digest_row 8 0 in
      omega (arith, e0, e1, e2, e3, s0, s1, s2, s3, s4)

  size-pairs : (x : Word) (j : ℕ) (y : Word) (k : ℕ) → sizes (pair_rows o element given x j y k) ≡ 96
  unfolding pair_rows
  size-pairs x j y k = sizes-each 3 (λ i. or_list o element o.one (turned_entry o element given x j i) (turned_entry o element given y k i)) (λ i. refl) 32 0

  size-schedule_pairs : (t : ℕ) → sizes (schedule_pairs o element given t) ≡ 192
  unfolding schedule_pairs
  size-schedule_pairs t =
      let p = pair_rows o element given (Schedule (t - 2)) 17 (Schedule (t - 2)) 19 in
      let q = pair_rows o element given (Schedule (t - 15)) 7 (Schedule (t - 15)) 18 in
      let e = sizes-both p q in
      let sp = size-pairs (Schedule (t - 2)) 17 (Schedule (t - 2)) 19 in
      let sq = size-pairs (Schedule (t - 15)) 7 (Schedule (t - 15)) 18 in
      omega (arith, e, sp, sq)

  size-round_pairs : (t : ℕ) → sizes (round_pairs o element given t) ≡ 288
  unfolding round_pairs
  size-round_pairs t =
      let p = pair_rows o element given (E (t + 3)) 6 (E (t + 3)) 11 in
      let q = pair_rows o element given (A (t + 3)) 2 (A (t + 3)) 13 in
      let r = pair_rows o element given (A (t + 3)) 0 (A (t + 2)) 0 in
      let e1 = sizes-both p (q ++ r) in
      let e2 = sizes-both q r in
      let sp = size-pairs (E (t + 3)) 6 (E (t + 3)) 11 in
      let sq = size-pairs (A (t + 3)) 2 (A (t + 3)) 13 in
      let sr = size-pairs (A (t + 3)) 0 (A (t + 2)) 0 in
      omega (arith, e1, e2, sp, sq, sr)

  pub size-inner_rows : sizes (inner_rows o element given) ≡ 1 * input_count given + (192 * 48 + 288 * 64)
  unfolding inner_rows
  size-inner_rows =
      let p = map (pass_row o) (range_with_len 0 (input_count given)) in
      let q = flat_map (schedule_pairs o element given) (range_with_len 16 48) in
      let r = flat_map (round_pairs o element given) (range_with_len 0 64) in
      let e1 = sizes-both p (q ++ r) in
      let e2 = sizes-both q r in
      let s1 = sizes-each 1 (pass_row o) (λ t. refl) (input_count given) 0 in
      let s2 = sizes-chunks 192 (schedule_pairs o element given) size-schedule_pairs 48 16 in
      let s3 = sizes-chunks 288 (round_pairs o element given) size-round_pairs 64 0 in
      omega (arith, e1, e2, s1, s2, s3)
