-- Lists of zeros, and what comes of them.
use Rattle.lzk_profile.specs.Profile.{opened_count}
use Rattle.std.specs.Prelude.{◌≡◌, ℕ, ◌+◌, ◌*◌, Bool, true, false, cond, List, [], ◌∷◌, ◌++◌, length, map, take, drop, replicate}
use Rattle.std.specs.List.{range_with_len}
use Rattle.std.proofs.Common.{zero, suc, refl, ap, ◌∙◌}
use Rattle.lzk_field.specs.Ring.{Ops, RingLaws}
use Rattle.lzk_field.specs.Sums.{sum_below, minus, entry}
use Rattle.lzk_field.proofs.RingBasics.{zero_times}
use Rattle.lzk_field.proofs.Solve.{null, ◌⊟◌, solve}
use Rattle.lzk_field.proofs.SumLaws.{sum-ext, sum-zero}
use Rattle.lzk_poly.specs.Extension.{extension, lagrange}
use Rattle.lzk_circuit.specs.Valid.{Wiring}
use Rattle.lzk_layout.specs.Sizes.{committed_count, params_of, place_of}
use Rattle.lzk_layout.specs.Places.{depth, constrained_at, copy_place_of}
use Rattle.lzk_accept.specs.declared.challenges.Challenges.{Challenges}
use Rattle.lzk_accept.specs.Combination.{is_place, from_constraints, from_copies, from_entries, combined, combined_row, wanted}

module _ {A : Type 0} (o : Ops A) where
  -- each entry is 0
  abbrev pub AllZero : List A → Type 0
  AllZero xs = (i : ℕ) → entry o xs i ≡ o.zero

  pub zeros_replicate : (n : ℕ) → AllZero (replicate n o.zero)
  zeros_replicate zero i = refl
  zeros_replicate (suc n) zero = refl
  zeros_replicate (suc n) (suc i) = zeros_replicate n i

  pub zeros_take : (n : ℕ) (xs : List A) → AllZero xs → AllZero (take n xs)
  zeros_take zero xs z i = refl
  zeros_take (suc n) [] z i = refl
  zeros_take (suc n) (x ∷ xs) z zero = z 0
  zeros_take (suc n) (x ∷ xs) z (suc i) = zeros_take n xs (λ k. z (suc k)) i

  pub zeros_drop : (n : ℕ) (xs : List A) → AllZero xs → AllZero (drop n xs)
  zeros_drop zero xs z i = z i
  zeros_drop (suc n) [] z i = refl
  zeros_drop (suc n) (x ∷ xs) z i = zeros_drop n xs (λ k. z (suc k)) i

  pub zeros_append : (xs ys : List A) → AllZero xs → AllZero ys → AllZero (xs ++ ys)
  zeros_append [] ys z w i = w i
  zeros_append (x ∷ xs) ys z w zero = z 0
  zeros_append (x ∷ xs) ys z w (suc i) = zeros_append xs ys (λ k. z (suc k)) w i

  pub zeros_map : (f : ℕ → A) (js : List ℕ) → ((j : ℕ) → f j ≡ o.zero) → AllZero (map f js)
  zeros_map f [] each i = refl
  zeros_map f (j ∷ js) each zero = each j
  zeros_map f (j ∷ js) each (suc i) = zeros_map f js each i

  pub zero_where : (b : Bool) (x : A) → x ≡ o.zero → cond b x o.zero ≡ o.zero
  zero_where true x is = is
  zero_where false x is = refl

module _ {A : Type 0} (o : Ops A) (r : RingLaws o) where
  pub zero_sum : (n : ℕ) (f : ℕ → A) → ((i : ℕ) → f i ≡ o.zero) → sum_below o n f ≡ o.zero
  zero_sum n f each = sum-ext o r n f (λ i. o.zero) (λ i h. each i) ∙ sum-zero o r n

  pub zero_product : (x y : A) → x ≡ o.zero → o.times x y ≡ o.zero
  zero_product x y is = ap (λ w. o.times w y) is ∙ zero_times o r y

  pub zero_both : (x y : A) → x ≡ o.zero → y ≡ o.zero → o.plus x y ≡ o.zero
  zero_both x y is also = ap (λ w. o.plus w y) is ∙ ap (o.plus o.zero) also ∙ r.plus_zero o.zero

  zero_rest : (x y z : A) → x ≡ o.zero → y ≡ o.zero → z ≡ o.zero → minus o (o.plus x y) z ≡ o.zero
  zero_rest x y z is also too =
      ap (λ w. minus o w z) (zero_both x y is also) ∙ ap (minus o o.zero) too ∙ solve o r [] (null ⊟ null) null refl

  -- zeros extend to zeros
  pub zero_extension : (point : ℕ → A) (xs : List A) (j : ℕ) → AllZero o xs → extension o point xs j ≡ o.zero
  zero_extension point xs j z =
      zero_sum (length xs) (λ i. o.times (entry o xs i) (lagrange o point (length xs) i (point j)))
      (λ i. zero_product (entry o xs i) (lagrange o point (length xs) i (point j)) (z i))

  -- by weights that are 0 nothing is combined, and 0 is wanted
  module _ (c : Wiring A) (coefficient : ℕ → ℕ → A) (ch : Challenges A) (lambda : AllZero o ch.lambda) (mu : AllZero o ch.mu) where
    zero_combined : (row s : ℕ) → combined o c coefficient ch row s ≡ o.zero
    unfolding combined
    zero_combined row s =
        let at : ℕ → Bool = λ j. is_place row s (place_of (params_of c) j) in
        let copy_at : ℕ → Bool = λ m. is_place row s (copy_place_of (params_of c) m) in
        let entry_at : ℕ → Bool = λ m. is_place row s (place_of (params_of c) (constrained_at c m)) in
        zero_rest (from_constraints o c coefficient ch row s) (from_copies o c coefficient ch row s) (from_entries o c coefficient ch row s)
        (zero_sum (depth c + 1) (λ i. sum_below o (committed_count c) (λ j. cond (at j) (o.times (entry o ch.lambda i) (coefficient i j)) o.zero))
        (λ i. zero_sum (committed_count c) (λ j. cond (at j) (o.times (entry o ch.lambda i) (coefficient i j)) o.zero)
        (λ j. zero_where o (at j) (o.times (entry o ch.lambda i) (coefficient i j)) (zero_product (entry o ch.lambda i) (coefficient i j) (lambda i)))))
        (zero_sum (3 * depth c) (λ m. cond (copy_at m) (entry o ch.mu m) o.zero) (λ m. zero_where o (copy_at m) (entry o ch.mu m) (mu m)))
        (zero_sum (3 * depth c) (λ m. cond (entry_at m) (entry o ch.mu m) o.zero) (λ m. zero_where o (entry_at m) (entry o ch.mu m) (mu m)))

    pub zero_row : (row : ℕ) → AllZero o (combined_row o c coefficient ch row)
    unfolding combined_row
    zero_row row =
        zeros_append o (replicate opened_count o.zero) (map (combined o c coefficient ch row) (range_with_len 0 (params_of c).wr)) (zeros_replicate o opened_count)
        (zeros_map o (combined o c coefficient ch row) (range_with_len 0 (params_of c).wr) (zero_combined row))

    pub zero_wanted : (right : ℕ → A) → wanted o c right ch ≡ o.zero
    unfolding wanted
    zero_wanted right = zero_sum (depth c + 1) (λ i. o.times (entry o ch.lambda i) (right i)) (λ i. zero_product (entry o ch.lambda i) (right i) (lambda i))
