-- What parts of the circuit see of the whole's inputs.
use Rattle.std.proofs.Common.{◌≡◌, ℕ, ◌+◌, ◌<◌, ◌≤◌, List, [], ◌∷◌, ◌++◌, length, take, drop, map, zero, suc, refl, sym, ap, ◌∙◌, arith, ext_get_or, get_or-take, get_or-append-add, append_assoc, length-append, length-drop, None}
use Rattle.std.specs.List.{range_with_len}
use Rattle.std.proofs.lemmas.List.{get_or_append_left, length-take-le, get_or-drop, map-append}
use Rattle.std.proofs.lemmas.List.FromFn.{length-map-range_with_len, get_or-map-range_with_len, length-range_with_len}
use Rattle.std.proofs.Math.Seq.{take-append-add, drop-append-add}
use Rattle.lzk_field.specs.Ring.{Ops, Laws}
use Rattle.lzk_field.specs.Sums.{entry}
use Rattle.lzk_circuit.specs.Checks.{checks_of}
use Rattle.lzk_circuit.specs.Valid.{Wiring, input_width, IsValid}
use Rattle.lzk_circuit.specs.Wires.{wires_of, inputs_of, IsFirstNonzero}
use Rattle.lzk_circuit.proofs.CheckLaws.{one-checks}
use Rattle.lzk_circuit.proofs.VersionLaws.{valid-one}
use Rattle.lzk_gadgets.specs.Claims.{AreAllZero}
use Rattle.lzk_circuit_reduce.specs.Renumbering.{AreNumbersBelow}
use Rattle.lzk_circuit_beside.specs.Chosen.{chosen}
use Rattle.lzk_circuit_beside.proofs.PlaceLaws.{row_below, both_below}
use Rattle.lzk_policy_circuit.specs.Places.{hash_places}

-- ---- places

pub hash_places_below : (width words bits count rest others : ℕ) → words + 8 ≤ width → bits + count ≤ width → rest + others ≤ width → AreNumbersBelow width (hash_places words bits count rest others)
hash_places_below width words bits count rest others a b c =
    both_below width (range_with_len words 8 ++ range_with_len bits count) (range_with_len rest others)
    (both_below width (range_with_len words 8) (range_with_len bits count) (row_below width words 8 a) (row_below width bits count b)) (row_below width rest others c)

pub hash_places_count : (words bits count rest others : ℕ) → length (hash_places words bits count rest others) ≡ 8 + (count + others)
hash_places_count words bits count rest others =
    omega (
      arith,
      length-append (range_with_len words 8 ++ range_with_len bits count) (range_with_len rest others),
      length-append (range_with_len words 8) (range_with_len bits count),
      length-range_with_len words 8,
      length-range_with_len bits count,
      length-range_with_len rest others,
    )

module _ {A : Type 0} (o : Ops A) where
  pub row_is : (f : ℕ → A) (xs : List A) (a b n : ℕ) → b + n ≤ length xs → ((i : ℕ) → i < n → f (a + i) ≡ entry o xs (b + i)) → map f (range_with_len a n) ≡ take n (drop b xs)
  row_is f xs a b n le h =
      let right : length (take n (drop b xs)) ≡ n = length-take-le n (drop b xs) (omega (arith, length-drop b xs, le)) in
      let left : length (map f (range_with_len a n)) ≡ n = length-map-range_with_len f a n in
      ext_get_or o.zero (map f (range_with_len a n)) (take n (drop b xs)) (left ∙ sym right) (λ i l.
      let inside : i < n = omega (arith, left, l) in
      get_or-map-range_with_len f a n i (a + i) o.zero inside refl ∙ h i inside ∙ sym (get_or-take n (drop b xs) i o.zero inside ∙ get_or-drop b xs i o.zero))

  module _ (public private : List A) where
    private_entry : (i : ℕ) → entry o (inputs_of o public private) (1 + length public + i) ≡ entry o private i
    private_entry i =
        let one : 1 + length public + i ≡ suc (length public + i) = omega arith in
        ap (entry o (inputs_of o public private)) one ∙ get_or-append-add public private i o.zero

    -- the first inputs
    pub chosen_front : (stated : ℕ) → stated ≤ length private → chosen o (range_with_len 1 (length public + stated)) (inputs_of o public private) ≡ inputs_of o public (take stated private)
    chosen_front stated le =
        let n = length public + stated in
        let xs = inputs_of o public private in
        let room : 1 + n ≤ length xs = omega (arith, length-append public private, le) in
        ap (λ (l : List A). o.one ∷ l) (row_is (entry o xs) xs 1 1 n room (λ i l. refl) ∙ take-append-add public private stated)

    -- words among the public inputs, and among the private ones
    pub words_public : (words : ℕ) → words + 8 ≤ length public → take 8 (drop words (public ++ private)) ≡ take 8 (drop words public)
    words_public words le =
        let all = public ++ private in
        let a : length (take 8 (drop words all)) ≡ 8 = length-take-le 8 (drop words all) (omega (arith, length-drop words all, length-append public private, le)) in
        let b : length (take 8 (drop words public)) ≡ 8 = length-take-le 8 (drop words public) (omega (arith, length-drop words public, le)) in
        ext_get_or o.zero (take 8 (drop words all)) (take 8 (drop words public)) (a ∙ sym b) (λ i l.
        let inside : i < 8 = omega (arith, a, l) in
        get_or-take 8 (drop words all) i o.zero inside ∙ get_or-drop words all i o.zero
        ∙ get_or_append_left public private o.zero (words + i) (omega (arith, le, inside))
        ∙ sym (get_or-take 8 (drop words public) i o.zero inside ∙ get_or-drop words public i o.zero))

    pub words_private : (k : ℕ) → take 8 (drop (length public + k) (public ++ private)) ≡ take 8 (drop k private)
    words_private k = ap (take 8) (drop-append-add public private k)

    -- the inputs of a hash
    pub chosen_hash : (words bits count rest others : ℕ) → words + 8 ≤ length public + length private → bits + count ≤ length private → rest + others ≤ length private
        → chosen o (hash_places (1 + words) (1 + length public + bits) count (1 + length public + rest) others) (inputs_of o public private)
        ≡ inputs_of o (take 8 (drop words (public ++ private))) (take count (drop bits private) ++ take others (drop rest private))
    chosen_hash words bits count rest others lw lb lr =
        let xs = inputs_of o public private in
        let f = entry o xs in
        let r1 = range_with_len (1 + words) 8 in
        let r2 = range_with_len (1 + length public + bits) count in
        let r3 = range_with_len (1 + length public + rest) others in
        let a = take 8 (drop words (public ++ private)) in
        let b = take count (drop bits private) in
        let c = take others (drop rest private) in
        let e1 : map f r1 ≡ a = row_is f (public ++ private) (1 + words) words 8 (omega (arith, length-append public private, lw)) (λ i l.
        let there : 1 + words + i ≡ suc (words + i) = omega arith in ap f there) in
        let e2 : map f r2 ≡ b = row_is f private (1 + length public + bits) bits count lb (λ i l.
        let there : 1 + length public + bits + i ≡ 1 + length public + (bits + i) = omega arith in ap f there ∙ private_entry (bits + i)) in
        let e3 : map f r3 ≡ c = row_is f private (1 + length public + rest) rest others lr (λ i l.
        let there : 1 + length public + rest + i ≡ 1 + length public + (rest + i) = omega arith in ap f there ∙ private_entry (rest + i)) in
        ap (λ (l : List A). o.one ∷ l)
        (map-append f (r1 ++ r2) r3 ∙ ap (λ l. l ++ map f r3) (map-append f r1 r2) ∙ (λ i. (e1 i ++ e2 i) ++ e3 i) ∙ append_assoc a b c)

  -- ---- checks that are all 0

  pub all_zero_forward : (xs : List A) → IsFirstNonzero o xs None → AreAllZero o xs
  all_zero_forward [] h = tt
  all_zero_forward (x ∷ xs) h = (h 0 (omega arith), all_zero_forward xs (λ g l. h (suc g) (omega (arith, l))))

  pub all_zero_backward : (xs : List A) → AreAllZero o xs → IsFirstNonzero o xs None
  all_zero_backward [] h g l = absurd (omega (arith, l))
  all_zero_backward (x ∷ xs) h zero l = h.0
  all_zero_backward (x ∷ xs) h (suc g) l = all_zero_backward xs h.1 g (omega (arith, l))

module _ {A : Type 0} (o : Ops A) (size : ℕ) (number : A → ℕ) (element : ℕ → A) (bytes : ℕ) (laws : Laws o size number element bytes) where
  pub own_checks : (c : Wiring A) (inputs : List A) → IsValid o c → c.version ≡ 1 → length inputs ≡ input_width c → checks_of o number c.layers inputs ≡ wires_of o c.layers inputs
  own_checks c inputs valid one n = one-checks o size number element bytes laws (input_width c) c.layers inputs n valid.some (valid-one o c one valid)
