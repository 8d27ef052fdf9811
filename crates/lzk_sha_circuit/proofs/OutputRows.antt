-- The rows of the outputs' layer, each by its number.
use Rattle.std.specs.Prelude.{◌≡◌, ℕ, ◌+◌, ◌-◌, ◌*◌, ◌<◌, ◌≤◌, nat_lt, if◌then◌else◌, List, [], ◌∷◌, ◌++◌, length, map, take}
use Rattle.std.specs.List.{range_with_len, flat_map}
use Rattle.std.proofs.Common.{zero, suc, refl, sym, ap, ◌∙◌, arith, subst, get_or-append-add, inl, inr, lt-ltb, le-ltb}
use Rattle.std.proofs.lemmas.Bool.{cases_lt}
use Rattle.std.proofs.lemmas.List.{get_or_append_left, take_more, length-take-le}
use Rattle.std.proofs.lemmas.List.FromFn.{length-map-range_with_len, get_or-map-range_with_len}
use Rattle.lzk_field.specs.Ring.{Ops}
use Rattle.lzk_circuit.specs.declared.layer.Term.{Term}
use Rattle.lzk_sha_circuit.specs.declared.products.Product.{Product}
use Rattle.lzk_sha_circuit.specs.Places.{Places, IsPlaced}
use Rattle.lzk_sha_circuit.specs.Products.{AreWithin}
use Rattle.lzk_sha_circuit.specs.Layers.{row_at, Grows, inner_count, bit_row, w_row, a_row, e_row, f_row, digest_row, output_rows}
use Rattle.lzk_sha_circuit.proofs.Chunks.{range_entry, length-range_chunks}
use Rattle.lzk_sha_circuit.proofs.Growth.{grows_two}
use Rattle.lzk_sha_circuit.proofs.Within.{bit_row_within, w_row_within, a_row_within, e_row_within, f_row_within, digest_row_within}

-- ---- rows whose products name wires of so many
module _ {X : Type 0} (width : ℕ) where
  abbrev pub AreAllWithin : List (List (Product X)) → Type 0
  AreAllWithin [] = Unit {0}
  AreAllWithin (ps ∷ rows) = AreWithin width ps × AreAllWithin rows

  pub all-append : (rows more : List (List (Product X))) → AreAllWithin rows → AreAllWithin more → AreAllWithin (rows ++ more)
  all-append [] more h k = k
  all-append (ps ∷ rows) more h k = (h.0, all-append rows more h.1 k)

  pub all-each : (f : ℕ → List (Product X)) (n a : ℕ) → ((i : ℕ) → a ≤ i → i < a + n → AreWithin width (f i)) → AreAllWithin (map f (range_with_len a n))
  all-each f zero a h = tt
  all-each f (suc n) a h = (h a (omega arith) (omega arith), all-each f n (a + 1) (λ i le lt. h i (omega (arith, le)) (omega (arith, lt))))

  pub all-chunks : (f : ℕ → List (List (Product X))) (n a : ℕ) → ((i : ℕ) → a ≤ i → i < a + n → AreAllWithin (f i)) → AreAllWithin (flat_map f (range_with_len a n))
  all-chunks f zero a h = tt
  all-chunks f (suc n) a h = all-append (f a) (flat_map f (range_with_len (a + 1) n)) (h a (omega arith) (omega arith)) (all-chunks f n (a + 1) (λ i le lt. h i (omega (arith, le)) (omega (arith, lt))))

  -- each of them
  pub row_within : (rows : List (List (Product X))) (k : ℕ) → AreAllWithin rows → AreWithin width (row_at rows k)
  row_within [] k h = tt
  row_within (ps ∷ rows) zero h = h.0
  row_within (ps ∷ rows) (suc k) h = row_within rows k h.1

module _ {X : Type 0} (xs ys : List (List (Product X))) (n : ℕ) (long : length xs ≡ n) where
  first_rows : (k : ℕ) → k < n → row_at (xs ++ ys) k ≡ row_at xs k
  first_rows k lt = get_or_append_left xs ys [] k (omega (arith, long, lt))

  second_rows : (k i : ℕ) → k ≡ n + i → row_at (xs ++ ys) k ≡ row_at ys i
  second_rows k i e =
      let there : k ≡ length xs + i = omega (arith, long, e) in
      ap (row_at (xs ++ ys)) there ∙ get_or-append-add xs ys i []

module _ {X : Type 0} (o : Ops X) (element : ℕ → X) (given : Places) where
  abbrev words : List (List (Product X))
  words = map (w_row o element given) (range_with_len 16 48)

  abbrev pair : ℕ → List (List (Product X))
  pair t = a_row o element given t ∷ e_row o element given t ∷ []

  abbrev pairs : List (List (Product X))
  pairs = flat_map pair (range_with_len 0 64)

  abbrev finals : List (List (Product X))
  finals = map (f_row o element given) (range_with_len 0 8)

  abbrev digests : List (List (Product X))
  digests = map (digest_row o element given) (range_with_len 0 8)

  module _ (k p : ℕ) (count : p ≡ given.inputs + 6376) where
    long_bits : length (map (bit_row o) (range_with_len 0 (given.inputs + 6376))) ≡ p
    long_bits = length-map-range_with_len (bit_row o) 0 (given.inputs + 6376) ∙ sym count

    pub bit_at : k < p → row_at (output_rows o element given) k ≡ bit_row o k
    unfolding output_rows
    bit_at lt =
        first_rows (map (bit_row o) (range_with_len 0 (given.inputs + 6376))) (words ++ (pairs ++ (finals ++ digests))) p long_bits k lt
        ∙ get_or-map-range_with_len (bit_row o) 0 (given.inputs + 6376) k k [] (omega (arith, lt, count)) (omega arith)

    behind_bits : (i : ℕ) → k ≡ p + i → row_at (output_rows o element given) k ≡ row_at (words ++ (pairs ++ (finals ++ digests))) i
    unfolding output_rows
    behind_bits i e = second_rows (map (bit_row o) (range_with_len 0 (given.inputs + 6376))) (words ++ (pairs ++ (finals ++ digests))) p long_bits k i e

    behind_words : (i : ℕ) → k ≡ p + (48 + i) → row_at (output_rows o element given) k ≡ row_at (pairs ++ (finals ++ digests)) i
    behind_words i e =
        behind_bits (48 + i) e ∙ second_rows words (pairs ++ (finals ++ digests)) 48 (length-map-range_with_len (w_row o element given) 16 48) (48 + i) i refl

    behind_pairs : (i : ℕ) → k ≡ p + (176 + i) → row_at (output_rows o element given) k ≡ row_at (finals ++ digests) i
    behind_pairs i e =
        behind_words (128 + i) (omega (arith, e)) ∙ second_rows pairs (finals ++ digests) 128 (length-range_chunks pair 2 (λ t. refl) 0 64) (128 + i) i refl

    pub w_at : (i : ℕ) → k ≡ p + i → i < 48 → row_at (output_rows o element given) k ≡ w_row o element given (16 + i)
    w_at i e lt =
        behind_bits i e ∙ first_rows words (pairs ++ (finals ++ digests)) 48 (length-map-range_with_len (w_row o element given) 16 48) i lt
        ∙ get_or-map-range_with_len (w_row o element given) 16 48 i (16 + i) [] lt refl

    pub pair_at : (t j : ℕ) → k ≡ p + (48 + (2 * t + j)) → t < 64 → j < 2 → row_at (output_rows o element given) k ≡ row_at (a_row o element given t ∷ e_row o element given t ∷ []) j
    pair_at t j e lt few =
        let there : 2 * t + j ≡ 2 * (t - 0) + j = omega arith in
        behind_words (2 * t + j) e ∙ first_rows pairs (finals ++ digests) 128 (length-range_chunks pair 2 (λ t. refl) 0 64) (2 * t + j) (omega (arith, lt, few))
        ∙ ap (row_at pairs) there ∙ range_entry pair 2 (λ t. refl) 0 64 t j [] (omega arith) (omega (arith, lt)) few

    f_at : (i : ℕ) → k ≡ p + (176 + i) → i < 8 → row_at (output_rows o element given) k ≡ f_row o element given i
    f_at i e lt =
        behind_pairs i e ∙ first_rows finals digests 8 (length-map-range_with_len (f_row o element given) 0 8) i lt
        ∙ get_or-map-range_with_len (f_row o element given) 0 8 i i [] lt (omega arith)

    digest_at : (i : ℕ) → k ≡ p + (184 + i) → i < 8 → row_at (output_rows o element given) k ≡ digest_row o element given i
    digest_at i e lt =
        behind_pairs (8 + i) (omega (arith, e)) ∙ second_rows finals digests 8 (length-map-range_with_len (f_row o element given) 0 8) (8 + i) i refl
        ∙ get_or-map-range_with_len (digest_row o element given) 0 8 i i [] lt (omega arith)

    -- those of the digest
    pub last_at : (i : ℕ) → k ≡ p + (176 + i) → i < 16 → row_at (output_rows o element given) k ≡ (if nat_lt i 8 then f_row o element given i else digest_row o element given (i - 8))
    last_at i e lt = elim (cases_lt i 8) [
      | inl l ↦ rw (lt-ltb i 8 l) (f_at i e l)
      | inr l ↦ rw (le-ltb i 8 l) (digest_at (i - 8) (omega (arith, e, l)) (omega (arith, lt, l)))
    ]

  pub output_within : IsPlaced given → AreAllWithin (inner_count given) (output_rows o element given)
  unfolding output_rows
  output_within ok =
      let w = inner_count given in
      let bits = map (bit_row o) (range_with_len 0 (given.inputs + 6376)) in
      all-append w bits (words ++ (pairs ++ (finals ++ digests))) (all-each w (bit_row o) (given.inputs + 6376) 0 (λ j le lt. bit_row_within o element given ok j (omega (arith, lt))))
      (all-append w words (pairs ++ (finals ++ digests)) (all-each w (w_row o element given) 48 16 (λ t le lt. w_row_within o element given ok t le (omega (arith, lt))))
      (all-append w pairs (finals ++ digests) (all-chunks w pair 64 0 (λ t le lt. (a_row_within o element given ok t (omega (arith, lt)), (e_row_within o element given ok t (omega (arith, lt)), tt))))
      (all-append w finals digests (all-each w (f_row o element given) 8 0 (λ i le lt. f_row_within o element given ok i (omega (arith, lt)))) (all-each w (digest_row o element given) 8 0 (λ i le lt. digest_row_within o element given ok i (omega (arith, lt)))))))

-- one row more of all of them
pub taken_more : {X : Type 0} (o : Ops X) (width k : ℕ) (rows : List (List (Product X))) (old mid new : List (Term X)) → k < length rows
    → Grows o width 0 old (take k rows) mid → Grows o width k mid (row_at rows k ∷ []) new → Grows o width 0 old (take (k + 1) rows) new
taken_more o width k rows old mid new lt g h =
    let long : length (take k rows) ≡ k = length-take-le k rows (omega (arith, lt)) in
    subst (λ l. Grows o width 0 old l new) (sym (take_more rows k [] lt)) (grows_two o width 0 k old mid new (take k rows) (row_at rows k ∷ []) (omega (arith, long)) g h)
