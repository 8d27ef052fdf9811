-- What the products of formulas and of words count.
use Rattle.std.specs.Prelude.{◌≡◌, ℕ, ◌+◌, ◌^◌, ◌<◌, List, [], ◌∷◌, ◌++◌}
use Rattle.std.specs.List.{range_with_len, flat_map}
use Rattle.std.proofs.Common.{zero, suc, refl, sym, ap, ◌∙◌, arith, append-nil}
use Rattle.std.proofs.lemmas.List.Concat.{flat_map-append}
use Rattle.lzk_field.specs.Ring.{Ops, RingLaws}
use Rattle.lzk_field.specs.Sums.{entry, sum_below}
use Rattle.lzk_field.proofs.RingBasics.{one_times, times_swap, times_zero}
use Rattle.lzk_field.proofs.Solve.{var, null, ◌⊞◌, ◌⊟◌, ◌⊠◌, opp, solve}
use Rattle.lzk_sha_circuit.specs.declared.products.Product.{Product}
use Rattle.lzk_sha_circuit.specs.declared.products.Entry.{Entry}
use Rattle.lzk_sha_circuit.specs.Words.{worth, exclusive_or, chosen, most}
use Rattle.lzk_sha_circuit.specs.Products.{product_value, products_value, entry_value, linear, bilinear, or_list, chosen_list, most_list, worth_list, or_word_list, ch_word_list, maj_word_list}
use Rattle.lzk_sha_circuit.proofs.RowLaws.{value-append}
use Rattle.lzk_sha_circuit.proofs.Written.{range_more}

module _ {A : Type 0} (o : Ops A) (r : RingLaws o) (element : ℕ → A) (below : List A) (one : entry o below 0 ≡ o.one) where
  linear_value : (s : A) (x : Entry A) → product_value o below (linear o s x) ≡ o.times s (entry_value o below x)
  linear_value s x =
      ap (λ w. o.times (o.times s x.factor) (o.times w (entry o below x.wire))) one
      ∙ ap (o.times (o.times s x.factor)) (one_times o r (entry o below x.wire)) ∙ r.times_assoc s x.factor (entry o below x.wire)

  bilinear_value : (s : A) (x y : Entry A) → product_value o below (bilinear o s x y) ≡ o.times s (o.times (entry_value o below x) (entry_value o below y))
  bilinear_value s x y =
      r.times_assoc s (o.times x.factor y.factor) (o.times (entry o below x.wire) (entry o below y.wire))
      ∙ ap (o.times s) (times_swap o r x.factor y.factor (entry o below x.wire) (entry o below y.wire))

  pub or_value : (s : A) (x y : Entry A) → products_value o below (or_list o element s x y) ≡ o.times s (exclusive_or o element (entry_value o below x) (entry_value o below y))
  or_value s x y =
      let t = element 2 in
      let a = entry_value o below x in
      let b = entry_value o below y in
      (λ i. o.plus (linear_value s x i) (o.plus (linear_value s y i) (o.plus (bilinear_value (o.neg (o.times t s)) x y i) o.zero)))
      ∙ solve o r (s ∷ t ∷ a ∷ b ∷ []) (var 0 ⊠ var 2 ⊞ (var 0 ⊠ var 3 ⊞ (opp (var 1 ⊠ var 0) ⊠ (var 2 ⊠ var 3) ⊞ null))) (var 0 ⊠ ((var 2 ⊞ var 3) ⊟ (var 1 ⊠ var 2) ⊠ var 3)) refl

  pub chosen_value : (s : A) (e f g : Entry A) → products_value o below (chosen_list o s e f g) ≡ o.times s (chosen o element (entry_value o below e) (entry_value o below f) (entry_value o below g))
  chosen_value s e f g =
      let a = entry_value o below e in
      let b = entry_value o below f in
      let c = entry_value o below g in
      (λ i. o.plus (bilinear_value s e f i) (o.plus (bilinear_value (o.neg s) e g i) (o.plus (linear_value s g i) o.zero)))
      ∙ solve o r (s ∷ a ∷ b ∷ c ∷ []) (var 0 ⊠ (var 1 ⊠ var 2) ⊞ (opp (var 0) ⊠ (var 1 ⊠ var 3) ⊞ (var 0 ⊠ var 3 ⊞ null))) (var 0 ⊠ ((var 1 ⊠ var 2 ⊟ var 1 ⊠ var 3) ⊞ var 3)) refl

  pub most_value : (s : A) (x y z u : Entry A) → entry_value o below u ≡ exclusive_or o element (entry_value o below x) (entry_value o below y)
      → products_value o below (most_list o s x y z u) ≡ o.times s (most o element (entry_value o below x) (entry_value o below y) (entry_value o below z))
  most_value s x y z u eu =
      let a = entry_value o below x in
      let b = entry_value o below y in
      let c = entry_value o below z in
      let d = exclusive_or o element a b in
      (λ i. o.plus (bilinear_value s x y i) (o.plus ((bilinear_value s z u ∙ ap (λ w. o.times s (o.times c w)) eu) i) o.zero))
      ∙ solve o r (s ∷ a ∷ b ∷ c ∷ d ∷ []) (var 0 ⊠ (var 1 ⊠ var 2) ⊞ (var 0 ⊠ (var 3 ⊠ var 4) ⊞ null)) (var 0 ⊠ (var 1 ⊠ var 2 ⊞ var 3 ⊠ var 4)) refl

  -- ---- sums over places
  flat_value : (f : ℕ → List (Product A)) (g : ℕ → A) (n : ℕ) → ((i : ℕ) → i < n → products_value o below (f i) ≡ g i) → products_value o below (flat_map f (range_with_len 0 n)) ≡ sum_below o n g
  flat_value f g zero h = refl
  flat_value f g (suc n) h =
      let next : n + 1 ≡ suc n = omega arith in
      let split : flat_map f (range_with_len 0 (suc n)) ≡ flat_map f (range_with_len 0 n) ++ f n =
      ap (λ m. flat_map f (range_with_len 0 m)) (sym next) ∙ ap (flat_map f) (range_more 0 n n (omega arith)) ∙ flat_map-append f (range_with_len 0 n) (n ∷ [])
      ∙ ap (λ l. flat_map f (range_with_len 0 n) ++ l) (append-nil (f n)) in
      ap (products_value o below) split ∙ value-append o r below (flat_map f (range_with_len 0 n)) (f n)
      ∙ (λ i. o.plus (flat_value f g n (λ j lt. h j (omega arith)) i) (h n (omega arith) i))

  scaled_sum : (s : A) (g : ℕ → A) (n : ℕ) → sum_below o n (λ i. o.times s (g i)) ≡ o.times s (sum_below o n g)
  scaled_sum s g zero = sym (times_zero o r s)
  scaled_sum s g (suc n) = ap (λ w. o.plus w (o.times s (g n))) (scaled_sum s g n) ∙ sym (r.times_plus s (sum_below o n g) (g n))

  pub worth_value : (s : A) (n : ℕ) (w : ℕ → Entry A) (v : ℕ → A) → ((i : ℕ) → i < n → entry_value o below (w i) ≡ v i) → products_value o below (worth_list o element s n w) ≡ o.times s (worth o element n v)
  unfolding worth_list
  worth_value s n w v h =
      let g = λ (i : ℕ). o.times (v i) (element (2 ^ i)) in
      flat_value (λ i. linear o (o.times s (element (2 ^ i))) (w i) ∷ []) (λ i. o.times s (g i)) n (λ i lt.
      r.plus_zero (product_value o below (linear o (o.times s (element (2 ^ i))) (w i))) ∙ linear_value (o.times s (element (2 ^ i))) (w i) ∙ r.times_assoc s (element (2 ^ i)) (entry_value o below (w i))
      ∙ ap (o.times s) (r.times_comm (element (2 ^ i)) (entry_value o below (w i)) ∙ ap (λ x. o.times x (element (2 ^ i))) (h i lt)))
      ∙ scaled_sum s g n

  word_value : (f : ℕ → List (Product A)) (v : ℕ → A) → ((i : ℕ) → i < 32 → products_value o below (f i) ≡ o.times (element (2 ^ i)) (v i)) → products_value o below (flat_map f (range_with_len 0 32)) ≡ worth o element 32 v
  word_value f v h = flat_value f (λ i. o.times (v i) (element (2 ^ i))) 32 (λ i lt. h i lt ∙ r.times_comm (element (2 ^ i)) (v i))

  pub or_word_value : (u z : ℕ → Entry A) (a b : ℕ → A) → ((i : ℕ) → i < 32 → entry_value o below (u i) ≡ a i) → ((i : ℕ) → i < 32 → entry_value o below (z i) ≡ b i)
      → products_value o below (or_word_list o element u z) ≡ worth o element 32 (λ i. exclusive_or o element (a i) (b i))
  unfolding or_word_list
  or_word_value u z a b hu hz =
      word_value (λ i. or_list o element (element (2 ^ i)) (u i) (z i)) (λ i. exclusive_or o element (a i) (b i)) (λ i lt.
      or_value (element (2 ^ i)) (u i) (z i) ∙ (λ j. o.times (element (2 ^ i)) (exclusive_or o element (hu i lt j) (hz i lt j))))

  pub ch_word_value : (e f g : ℕ → Entry A) (a b c : ℕ → A) → ((i : ℕ) → i < 32 → entry_value o below (e i) ≡ a i) → ((i : ℕ) → i < 32 → entry_value o below (f i) ≡ b i) → ((i : ℕ) → i < 32 → entry_value o below (g i) ≡ c i)
      → products_value o below (ch_word_list o element e f g) ≡ worth o element 32 (λ i. chosen o element (a i) (b i) (c i))
  unfolding ch_word_list
  ch_word_value e f g a b c he hf hg =
      word_value (λ i. chosen_list o (element (2 ^ i)) (e i) (f i) (g i)) (λ i. chosen o element (a i) (b i) (c i)) (λ i lt.
      chosen_value (element (2 ^ i)) (e i) (f i) (g i) ∙ (λ j. o.times (element (2 ^ i)) (chosen o element (he i lt j) (hf i lt j) (hg i lt j))))

  pub maj_word_value : (x y z u : ℕ → Entry A) (a b c : ℕ → A) → ((i : ℕ) → i < 32 → entry_value o below (x i) ≡ a i) → ((i : ℕ) → i < 32 → entry_value o below (y i) ≡ b i) → ((i : ℕ) → i < 32 → entry_value o below (z i) ≡ c i)
      → ((i : ℕ) → i < 32 → entry_value o below (u i) ≡ exclusive_or o element (a i) (b i))
      → products_value o below (maj_word_list o element x y z u) ≡ worth o element 32 (λ i. most o element (a i) (b i) (c i))
  unfolding maj_word_list
  maj_word_value x y z u a b c hx hy hz hu =
      word_value (λ i. most_list o (element (2 ^ i)) (x i) (y i) (z i) (u i)) (λ i. most o element (a i) (b i) (c i)) (λ i lt.
      most_value (element (2 ^ i)) (x i) (y i) (z i) (u i) (hu i lt ∙ (λ j. exclusive_or o element (sym (hx i lt) j) (sym (hy i lt) j)))
      ∙ (λ j. o.times (element (2 ^ i)) (most o element (hx i lt j) (hy i lt j) (hz i lt j))))
