-- The draws of zeros are among those that are counted.
use Rattle.std.specs.Prelude.{◌≡◌, ℕ, ◌+◌, ◌<◌, ◌≤◌, ◌==◌, ◌&&◌, Bool, true, false, cond, List, [], ◌∷◌, length, map, flat_map}
use Rattle.std.specs.List.{range_with_len}
use Rattle.std.proofs.Common.{zero, suc, inl, inr, refl, ap, ◌∙◌, arith}
use Rattle.std.proofs.lemmas.Bool.{false≢true, eqb-true, eq-eqb}
use Rattle.std.proofs.lemmas.List.FromFn.{length-range_with_len}
use Rattle.lzk_field.specs.Coding.{Coding}
use Rattle.lzk_field.specs.Ring.{Ops, Laws}
use Rattle.lzk_field.proofs.Numbering.{zero_element, zero_by_number}
use Rattle.lzk_soundness.specs.Chance.Draws.{count, draws_from}
use Rattle.lzk_soundness.specs.Chance.Few.{IsIn}
use Rattle.lzk_soundness.specs.Chance.Sets.{sets_of, choose, count_pairs}
use Rattle.lzk_soundness.proofs.ChanceLaws.Counting.{count-append, count-map}
use Rattle.lzk_soundness.proofs.ChanceLaws.Sets.{sets_counted}
use Rattle.lzk_soundness.specs.Extract.Extraction.{all_elements}
use Rattle.lzk_soundness.specs.Worked.Zeros.{are_zeros, sees_zeros}
use Rattle.lzk_soundness.proofs.WorkedLaws.Zeros.{AllZero}

choose-some : (n k : ℕ) → k ≤ n → 1 ≤ choose n k
choose-some n zero h = omega arith
choose-some zero (suc k) h = absurd (omega (arith, h))
choose-some (suc n) (suc k) h = omega (arith, choose-some n k (omega (arith, h)))

pub some_sets : (k n : ℕ) → k ≤ n → 0 < length (sets_of k (range_with_len 0 n))
some_sets k n h = omega (arith, sets_counted k (range_with_len 0 n), choose-some n k h, ap (λ (m : ℕ). choose m k) (length-range_with_len 0 n))

and_left : (a b : Bool) → (a && b) ≡ true → a ≡ true
and_left true b e = refl
and_left false b e = absurd (false≢true e)

and_right : (a b : Bool) → (a && b) ≡ true → b ≡ true
and_right true b e = e
and_right false b e = absurd (false≢true e)

module _ {A : Type 0} (o : Ops A) (e : Coding A) (laws : Laws o e.size e.number e.element e.bytes) where
  pub zeros_seen : (draws : List A) → are_zeros e draws ≡ true → AllZero o draws
  zeros_seen [] is i = refl
  zeros_seen (x ∷ xs) is zero = zero_by_number laws.numbers x (eqb-true (e.number x) 0 (and_left (e.number x == 0) (are_zeros e xs) is))
  zeros_seen (x ∷ xs) is (suc i) = zeros_seen xs (and_right (e.number x == 0) (are_zeros e xs) is) i

  -- behind a zero as many are zeros as there are of the rest
  some_fronts : (ts : List (List A)) (ds : List A) → 0 < count (are_zeros e) ts → IsIn o.zero ds → 0 < count (are_zeros e) (flat_map (λ d. map (λ rest. d ∷ rest) ts) ds)
  some_fronts ts [] some is = absurd is
  some_fronts ts (d ∷ ds) some (inl same) =
      let behind = flat_map (λ d. map (λ rest. d ∷ rest) ts) ds in
      let first : (e.number d == 0) ≡ true = eq-eqb (e.number d) 0 (ap e.number same ∙ laws.numbers.zero_number) in
      let here : count (are_zeros e) (map (λ rest. d ∷ rest) ts) ≡ count (are_zeros e) ts =
      count-map (λ rest. d ∷ rest) (are_zeros e) ts ∙ ap (λ (b : Bool). count (λ rest. b && are_zeros e rest) ts) first in
      omega (arith, count-append (are_zeros e) (map (λ rest. d ∷ rest) ts) behind, here, some)
  some_fronts ts (d ∷ ds) some (inr there) =
      let behind = flat_map (λ d. map (λ rest. d ∷ rest) ts) ds in
      omega (arith, count-append (are_zeros e) (map (λ rest. d ∷ rest) ts) behind, some_fronts ts ds some there)

  pub some_draws : (ds : List A) (n : ℕ) → IsIn o.zero ds → 0 < count (are_zeros e) (draws_from ds n)
  some_draws ds zero is = omega arith
  some_draws ds (suc n) is = some_fronts (draws_from ds n) ds (some_draws ds n is) is

  all_counted : {Y : Type 0} (b : Bool) (ys : List Y) → b ≡ true → count (λ (y : Y). b) ys ≡ length ys
  all_counted b [] is = refl
  all_counted b (y ∷ ys) is = let one : ◌≡◌ {A = ℕ} (cond b 1 0) 1 = ap {B = ℕ} (λ (x : Bool). cond x 1 0) is in omega (arith, all_counted b ys is, one)

  pub pairs_with_zeros : (xs : List (List A)) (ys : List (List ℕ)) → 0 < count (are_zeros e) xs → length ys ≤ count_pairs (sees_zeros e) xs ys
  pairs_with_zeros [] ys some = absurd (omega (arith, some))
  pairs_with_zeros (x ∷ xs) ys some = go (are_zeros e x) refl some (pairs_with_zeros xs ys)
    where
      go : (b : Bool) → are_zeros e x ≡ b → 0 < cond b 1 0 + count (are_zeros e) xs → (0 < count (are_zeros e) xs → length ys ≤ count_pairs (sees_zeros e) xs ys)
          → length ys ≤ count (λ y. are_zeros e x) ys + count_pairs (sees_zeros e) xs ys
      go true is some rest = omega (arith, all_counted (are_zeros e x) ys is)
      go false is some rest = omega (arith, rest (omega (arith, some)))

  zero_from : (n : ℕ) → 0 < n → IsIn o.zero (map e.element (range_with_len 0 n))
  zero_from zero h = absurd (omega (arith, h))
  zero_from (suc n) h = inl (zero_element laws.numbers)

  pub zero_is_in : IsIn o.zero (all_elements e)
  zero_is_in = zero_from e.size (omega (arith, laws.numbers.points))
